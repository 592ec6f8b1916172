-- The inverse of a matrix by its cofactors, as util/linalg.rs computes it. Assumes nothing.
use Rattle.std.specs.Prelude.{ℕ, ◌+◌, ◌%◌, Bool, cond, List, eqb, Float}
use Rattle.std.specs.Float.{binary64}
use Rattle.std.specs.Float.Ieee.{of_bits, neg, lt}
use Rattle.floats.specs.Abs.{abs}
use Rattle.floats.specs.Binary64.{◌⊖◌, ◌⊗◌, ◌⊘◌, one}
use Rattle.linalg.specs.Linalg.{matrix, row, entry, transpose, dot}

-- the determinant of the matrix whose rows are a, b and c, d
abbrev pub det2x2 : Float → Float → Float → Float → Float
det2x2 a b c d = a ⊗ d ⊖ b ⊗ c

-- the lower and the upper of the two indices that are not r
abbrev pub lower : ℕ → ℕ
lower r = cond (eqb r 0) 1 0

abbrev pub upper : ℕ → ℕ
upper r = cond (eqb r 2) 1 2

-- the determinant of what is left of m without its row r and its column c
unfoldable pub minor : List (List Float) → ℕ → ℕ → Float
minor m r c =
    det2x2 (entry m (lower r) (lower c)) (entry m (lower r) (upper c)) (entry m (upper r) (lower c)) (entry m (upper r) (upper c))

unfoldable pub cofactor : List (List Float) → ℕ → ℕ → Float
cofactor m r c = cond (eqb ((r + c) % 2) 0) (minor m r c) (neg (minor m r c))

unfoldable pub cofactors : List (List Float) → List (List Float)
cofactors m = matrix (cofactor m)

-- expanded along the first row
unfoldable pub determinant : List (List Float) → Float
determinant m = dot (row m 0) (row (cofactors m) 0)

unfoldable pub adjugate : List (List Float) → List (List Float)
adjugate m = transpose (cofactors m)

-- 1e-12
abbrev pub epsilon : Float
epsilon = of_bits binary64 0x3d71_9799_812d_ea11

-- the magnitude of the determinant is below epsilon; that of a NaN is not
unfoldable pub singular : List (List Float) → Bool
singular m = lt (abs (determinant m)) epsilon

-- the adjugate, each entry multiplied by the reciprocal of the determinant
unfoldable pub inverse : List (List Float) → List (List Float)
inverse m = matrix (λ r c. entry (adjugate m) r c ⊗ (one ⊘ determinant m))
