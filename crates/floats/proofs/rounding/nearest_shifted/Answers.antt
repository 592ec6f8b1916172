-- By how twice the rest compares with the divisor: a law of `Quotients` for each answer.
-- Assumes nothing.
use Rattle.floats.proofs.Quotients.{far_closest}
use Rattle.floats.proofs.rounding.nearest_shifted.Goals as goal

pub returns-then-d-gt63 : goal.returns-then-d-gt63
returns-then-d-gt63 c = far_closest c.args.n c.args.d c.requires c.if-d-gt63.true
