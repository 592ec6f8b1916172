-- What stands at a place of a text, for scanners that go by places. Assumes nothing.
use Rattle.std.specs.Prelude.{ℕ, cond, List, [], ◌∷◌, length, drop, Option, Some, None}
use Rattle.std.specs.Borrow.{Bor}
use Rattle.scanner.specs.Scan.{Found, nothing, found, or_else, starts_with, after}

-- the text behind the letters that it starts with
abbrev pub behind : List ℕ → List ℕ → Option (List ℕ)
behind letters l = cond (starts_with letters l) (Some (drop (length letters) l)) None

-- what a scanner by places answers: what it found, and the place after it
abbrev pub found_at : {A : Type 0} → List ℕ → Option (A × ℕ) → Found A
found_at text None = nothing
found_at text (Some (a, next)) = found a (drop next text)

-- the value of the first of some names that stands in front
abbrev pub first_named : {A : Type 0} → List (Bor (List ℕ) × A) → List ℕ → Found A
first_named [] l = nothing
first_named ((name, a) ∷ rest) l = or_else (after name.now (found a) l) (first_named rest l)
