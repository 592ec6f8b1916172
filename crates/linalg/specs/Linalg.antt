-- Matrices of three rows and three columns and vectors of three components, and their products, as util/linalg.rs computes them. A vector
-- is the list of its components, a matrix the list of its rows; indices count from 0.
-- The Rust's `sum` starts from a zero, a sum here from its first term. That can change only the sign of a sum that is zero, which reaches no
-- byte of a profile. Assumes nothing.
use Rattle.std.specs.Prelude.{ℕ, List, [], ◌∷◌, ◌++◌, get_or, Float}
use Rattle.std.specs.Float.{nan}
use Rattle.floats.specs.Binary64.{◌⊕◌, ◌⊗◌}

-- Rust's `from_fn`, at three elements
abbrev pub three : {A : Type 0} → (ℕ → A) → List A
three f = f 0 ∷ f 1 ∷ f 2 ∷ []

-- the matrix whose entry at row i and column j is f i j
abbrev pub matrix : (ℕ → ℕ → Float) → List (List Float)
matrix f = three (λ i. three (f i))

-- of entries of any type; d stands for the entries outside
abbrev pub row : {A : Type 0} → List (List A) → ℕ → List A
row m i = get_or m i []

abbrev pub entry_or : {A : Type 0} → A → List (List A) → ℕ → ℕ → A
entry_or d m i j = get_or (row m i) j d

abbrev pub component : List Float → ℕ → Float
component v i = get_or v i nan

abbrev pub entry : List (List Float) → ℕ → ℕ → Float
entry m i j = component (row m i) j

abbrev pub column : List (List Float) → ℕ → List Float
column m j = three (λ i. entry m i j)

abbrev pub transpose : List (List Float) → List (List Float)
transpose m = three (column m)

-- the nine entries, row by row and column by column
abbrev pub rows : List (List Float) → List Float
rows m = three (entry m 0) ++ three (entry m 1) ++ three (entry m 2)

abbrev pub columns : List (List Float) → List Float
columns m = column m 0 ++ column m 1 ++ column m 2

-- the sum of the products of like components, taken left to right
unfoldable pub dot : List Float → List Float → Float
dot x y = component x 0 ⊗ component y 0 ⊕ component x 1 ⊗ component y 1 ⊕ component x 2 ⊗ component y 2

-- the matrix m applied to the vector v
unfoldable pub applied : List (List Float) → List Float → List Float
applied m v = three (λ i. dot (row m i) v)

unfoldable pub product : List (List Float) → List (List Float) → List (List Float)
product a b = matrix (λ i j. dot (row a i) (column b j))
