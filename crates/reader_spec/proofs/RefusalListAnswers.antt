-- A plan that exists passes every check of the reader's list, and a file has one answer at most. Assumes nothing.
use Rattle.std.specs.Prelude.{ℕ, ◌≡◌}
use Rattle.std.proofs.Math.Path.{ap, sym, subst}
use Rattle.std.proofs.Common.{◌∙◌}
use mathlib.Core.List.{List}
use Rattle.buffer.specs.All.{none, more}
use Rattle.buffer.specs.AllLaws.{All-append}
use Rattle.buffer.specs.FirstLaws.{first_unique, first_not_all}
use Rattle.profile.specs.Plan.{Plan}
use Rattle.profile.specs.Layout.{id_for, layout}
use Rattle.profile.specs.LayoutLaws.{length-id_for}
use Rattle.reader_spec.specs.Exists.{Exists}
use Rattle.reader_spec.specs.FileLaws.{valid_wide, layout_injective}
use Rattle.reader_spec.specs.RefusalList
use Rattle.reader_spec.specs.RefusalListLaws.{AllPassed, before_id, passes_before, passes_id}

passes : (p : Plan) → Exists p → AllPassed (layout p) RefusalList.checks
passes p v =
    let before : AllPassed (layout p) before_id = unfold layout in passes_before p v.valid (id_for p) (length-id_for p) in
    All-append before (more (passes_id p (valid_wide p v.valid)) none)

-- ---- there is one answer at most

not-both : {f : List ℕ} {c : RefusalList.Check} (p : Plan) → Exists p → layout p ≡ f → RefusalList.FirstFailing f RefusalList.checks c → ⊥
not-both p v e s = first_not_all s (subst (λ f. AllPassed f RefusalList.checks) e (passes p v))

pub answer_unique : (f : List ℕ) (a b : RefusalList.Answer) → RefusalList.Answers f a → RefusalList.Answers f b → a ≡ b
answer_unique f a b (RefusalList.refuses s) (RefusalList.refuses t) = ap RefusalList.refused (first_unique s t)
answer_unique f a b (RefusalList.refuses s) (RefusalList.accepts q w e) = absurd (not-both q w e s)
answer_unique f a b (RefusalList.accepts p v d) (RefusalList.refuses t) = absurd (not-both p v d t)
answer_unique f a b (RefusalList.accepts p v d) (RefusalList.accepts q w e) = ap RefusalList.accepted (layout_injective p q v w (d ∙ sym e))
