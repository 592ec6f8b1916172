-- A slice into which a plan is being laid out. Assumes nothing.
use Rattle.std.specs.Prelude.{ℕ, ◌≤◌, ◌≡◌, List, ◌++◌, length, take}
use Rattle.profile.specs.Elements.{start, table, file_length}
use Rattle.profile.specs.Plan.{Plan, kind}
use Rattle.profile.specs.Layout.{blank_header}
use Rattle.profile.specs.Shape.{shape, slots_of}

-- its header, with the intent and the id still zero, and its tag table are in front of l and end at `at`; the whole will have n bytes
pub record Begun (p : Plan) (l : List ℕ) (at n : ℕ) : Type 0 where
  pub place : at ≡ start (slots_of (shape p))
  pub size : n ≡ file_length (slots_of (shape p))
  pub room : n ≤ length l
  pub front : take at l ≡ blank_header (kind p) n p.maker p.model ++ table (slots_of (shape p))
