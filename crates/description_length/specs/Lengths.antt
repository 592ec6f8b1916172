-- What the functions that count the bytes of a description's parts ensure. Assumes nothing.
use Rattle.std.specs.Prelude.{ℕ, ◌≤◌, ◌≡◌, List, length}

-- r is the length of a part that has at most n bytes
pub record LengthOf (n : ℕ) (part : List ℕ) (r : ℕ) : Type 0 where
  pub is : r ≡ length part
  pub most : r ≤ n
