-- The two cases of `minus`.
-- Assumes nothing.
use mathlib.Core.Path.{ap}
use mathlib.Core.Bool.{Bool, not}
use lib.Dec.{eqb}
use borrow.Author.Tests.{eq-eqb, ne_eqb}
use Rattle.decimal.specs.Seven.{minus}
use Rattle.buffer.specs.PutsLaws.{same, none, store}
use Rattle.decimal.proofs.put_minus.Goals as goal

pub returns-then-sign-eq0 : goal.returns-then-sign-eq0
returns-then-sign-eq0 c =
    same (minus (not (eqb c.args.sign 0))) (none c.args.out.now c.args.at) (ap (λ (t : Bool). minus (not t)) (eq-eqb c.args.sign 0 c.if-sign-eq0.true))

pub returns : goal.returns
returns c =
    same (minus (not (eqb c.args.sign 0))) (store c.args.out.now c.args.at 45 c.requires) (ap (λ (t : Bool). minus (not t)) (ne_eqb c.args.sign 0 c.if-sign-eq0.false))
