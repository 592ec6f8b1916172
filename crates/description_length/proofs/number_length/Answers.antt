-- Above 0 and up to 1 by the law `length-positive_unit`, else by the text; that the float is a binary32 value is what owning it tells.
-- Assumes nothing.
use mathlib.Core.Path.{sym}
use lib.Dec.{lit≤}
use Rattle.decimal.specs.SevenLaws.{length-positive_unit}
use Rattle.description_length.proofs.number_length.Goals as goal

pub returns-then-x-2 : goal.returns-then-x-2
returns-then-x-2 c = record { is = sym (length-positive_unit _ c.if-x.true c.if-x-2.true); most = lit≤ tt }
