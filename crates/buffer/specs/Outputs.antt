-- What a call that puts a value into a lent output promises. Assumes nothing.
use Rattle.std.specs.Prelude.{◌≡◌}
use Rattle.buffer.specs.Checked.{Checked, value_or}

-- `answered` is what the answer and the output at exit say, `expected` what the call's definition gives; on a refusal the output is as it was
pub record Outputs {A : Type 0} (expected answered : Checked A) (before after : A) : Type 0 where
  pub answer : answered ≡ expected
  pub output : after ≡ value_or before expected
