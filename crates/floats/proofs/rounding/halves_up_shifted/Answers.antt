-- By what `rounds_up` ensures: a law of `Quotients` for each answer.
-- Assumes nothing.
use mathlib.Core.Path.{sym, ◌∙◌}
use Rattle.floats.proofs.Quotients.{far_halves, half_above}
use Rattle.floats.proofs.rounding.halves_up_shifted.Goals as goal

pub returns-then-d-gt63 : goal.returns-then-d-gt63
returns-then-d-gt63 c = far_halves c.args.n c.args.d c.requires c.if-d-gt63.true

pub returns-then-rounds_up : goal.returns-then-rounds_up
returns-then-rounds_up c =
    half_above c.args.n c.args.d c.shifted-q.ensures (sym c.rounds_up.ensures ∙ c.if-rounds_up.true)
