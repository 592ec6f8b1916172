-- The numbers of the refusal list (01), with those that the orders of 02 add; and an answer of code as a value or such a number. Assumes nothing.
use Rattle.std.specs.Prelude.{ℕ, Result, Ok, Err}
use Rattle.buffer.specs.Checked.{Checked, is, refused}
use Rattle.refusals.specs.declared.Refusal.{Refusal}
use Rattle.refusals.specs.declared.Refusal.TheVariants as R

-- 2 is free: XYB is written with every intent (02, order 8)
abbrev pub number : Refusal → ℕ
number R.UnsupportedTransferFunction = 1
number R.InvalidWhitePointY = 3
number R.InvalidWhitePoint = 4
number R.ChadOutOfRange = 5
number R.MatrixInversionFailed = 6
number R.ValueOutOfRange = 7
number R.GammaOutOfRange = 8
number R.TooShort = 9
number R.FileTooShort = 21
number R.WrongSize = 22
number R.WrongHeader = 23
number R.WrongIntent = 24
number R.WrongTable = 25
number R.WrongElements = 26
number R.OutOfRange = 27
number R.WrongId = 28
number R.EndsEarly = 41
number R.BytesLeft = 42
number R.Unknown = 43
number R.NotInLanguage = 51
number R.GammaIsZero = 52
number R.WrongDataSize = 53
number R.WrongSegments = 54
number R.SegmentsTooShort = 55

-- what an answer of code stands for
abbrev pub checked : {A : Type 0} → Result A Refusal → Checked A
checked (Ok a) = is a
checked (Err r) = refused (number r)
