-- Which plans there are, as to the mark "id not computed" (02, order 7). Assumes nothing.
use Rattle.std.specs.Prelude.{◌≡◌, true}
use Rattle.buffer.specs.Bytes.{zeros}
use Rattle.profile.specs.Plan.{Plan, Valid}
use Rattle.profile.specs.Layout.{id_size, computed_id}

-- a plan with the mark exists only where the computed id is not itself zero
pub record Exists (p : Plan) : Type 0 where
  pub valid : Valid p
  pub mark : p.id_not_computed ≡ true → ¬ (computed_id p ≡ zeros id_size)
