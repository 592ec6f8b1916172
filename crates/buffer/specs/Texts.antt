-- A text in fixed memory. Assumes nothing.
use Rattle.std.specs.Prelude.{ℕ, ◌-◌, ◌≤◌, ◌≡◌, List, ◌++◌, length}
use Rattle.buffer.specs.Bytes.{zeros}
use Rattle.buffer.specs.declared.Text.{Text}

-- r holds the letters of a text, and zeros behind them
pub record IsText {N : ℕ} (text : List ℕ) (r : Text N) : Type 0 where
  pub len : r.len ≡ length text
  pub short : r.len ≤ N
  pub bytes : r.bytes ≡ text ++ zeros (N - length text)
