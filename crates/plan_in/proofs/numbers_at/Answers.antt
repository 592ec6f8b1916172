-- With i numbers behind it, the loop has the first i in place: the law `numbers_snoc`.
use mathlib.Core.Path.{◌≡◌, refl, sym, ◌∙◌}
use native.Mathlib.Omega.{arith}
use native.Mathlib.Numerals.{add-one}
use lib.IntN.{pos}
use lib.ListN.{length-set}
use lib.Seq.{take_all, take-suc-set, drop-drop}
use Rattle.std.proofs.lemmas.List.{length-replicate}
use Rattle.reader_spec.specs.PlanIn.{numbers_from}
use Rattle.plan_in.proofs.Numbers.{held, numbers_snoc}
use Rattle.plan_in.proofs.numbers_at.Goals as goal

pub loop-i-init : goal.loop-i-init
unfolding numbers_from
loop-i-init g c = (length-replicate g.row.N (pos 0), refl)

pub loop-i-preserved : goal.loop-i-preserved
loop-i-preserved g c =
    let at = c.loop-i in (
      simp length-set at.invariant.0,
      rw (
        add-one at.i,
        take-suc-set at.numbers at.i _ (omega arith),
        held c.number_at.type_inv c.number_at.ensures,
        numbers_snoc,
        drop-drop,
        at.invariant.1,
      ),
    )

pub returns : goal.returns
returns g c =
    let all : c.loop-i.i ≡ g.row.N = omega arith in
    sym (take_all g.row.N _ (omega arith)) ∙ (rw all at c.loop-i.invariant.1) ∙ simp (drop-drop, c.offset_at.ensures)
