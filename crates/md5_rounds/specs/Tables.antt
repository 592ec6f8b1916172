-- Which numbers the operations of a round may have. Assumes nothing.
use Rattle.std.specs.Prelude.{ℕ, Bool, true, ◌&&◌, List, [], ◌∷◌, leb}

-- the word is one of sixteen, the shift one of 1 to 31, the sine part one of 64
abbrev pub is_operation : ℕ × ℕ × ℕ → Bool
is_operation o = leb o.0 15 && (leb 1 o.1 && (leb o.1 31 && (leb 1 o.2 && leb o.2 64)))

abbrev pub are_operations : List (ℕ × ℕ × ℕ) → Bool
are_operations [] = true
are_operations (o ∷ os) = is_operation o && are_operations os
