-- What the functions are told and what they do. Assumes nothing.
use Rattle.std.specs.Prelude.{ℕ, ◌^◌, ◌≤◌, ◌<◌, ◌≡◌, List, length}
use Rattle.buffer.specs.Checked.{Checked, is, refused}
use Rattle.writer.specs.declared.Written.{Written}

-- how many bytes there are, at most n
pub record Measures (bytes : List ℕ) (n r : ℕ) : Type 0 where
  pub count : r ≡ length bytes
  pub most : r ≤ n

-- a number of up to four digits
abbrev pub Small : Checked Written → Type 0
Small (is w) = w.length < 10 ^ 4
Small (refused k) = k < 10 ^ 4
