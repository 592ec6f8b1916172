-- What writing into a lent slice does to the list of its bytes.
-- Assumes nothing.
use Rattle.std.specs.Prelude.{ℕ, ◌+◌, List, ◌++◌, length, take, drop}

-- the list l with the bytes q from place i on, in place of as many
unfoldable pub put : List ℕ → ℕ → List ℕ → List ℕ
put l i q = take i l ++ (q ++ drop (i + length q) l)
