-- The three cases of `part`: a digit above is written; none is, and the part is 0; none is, and it is not.
-- Assumes nothing.
use mathlib.Core.Path.{◌∙◌}
use native.Mathlib.Omega.{arith}
use borrow.Author.Tests.{lt-ltb, le-ltb}
use Rattle.decimal.specs.Parts.{part}
use Rattle.decimal.specs.PartsLaws.{part_first, part_next, shown_none, shown_some}
use Rattle.buffer.specs.PutsLaws.{same, none}
use Rattle.decimal.proofs.put_part.Goals as goal

pub returns-then-start-at : goal.returns-then-start-at
returns-then-start-at c =
    same (part _ c.args.n) c.put_eight.ensures (part_next c.args.n (lt-ltb c.args.start c.args.at c.if-start-at.true))

pub returns-then-n-eq0 : goal.returns-then-n-eq0
returns-then-n-eq0 c =
    same (part _ c.args.n) (none c.args.out.now c.args.at)
    (part_first c.args.n (le-ltb c.args.start c.args.at c.if-start-at.false) ∙ shown_none c.args.n c.if-n-eq0.true)

pub returns : goal.returns
returns c =
    same (part _ c.args.n) c.put_up_to_eight.ensures
    (part_first c.args.n (le-ltb c.args.start c.args.at c.if-start-at.false) ∙ shown_some c.args.n (omega arith))
