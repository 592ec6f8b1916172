-- Three numbers, and three, and three.
use mathlib.Core.Path.{refl, ap, ◌∙◌}
use mathlib.Core.List.{[], ◌++◌, append-nil}
use borrow.Author.Rules.{rules}
use Rattle.reader_spec.specs.PlanIn.{numbers_from}
use Rattle.plan_in.proofs.Numbers.{read_three}
use Rattle.plan_in.proofs.columns_in.Goals as goal

pub returns : goal.returns
unfolding numbers_from
returns c =
    let red = c.numbers_at.result in
    let green = c.numbers_at-2.result in
    let blue = c.numbers_at-3.result in
    read_three red _ (rw c.numbers_at.ensures refl) (λ i. search rules)
    ∙ ap (λ l. red ++ l) (read_three green _ (rw c.numbers_at-2.ensures refl) (λ i. search rules))
    ∙ ap (λ l. red ++ (green ++ l)) (read_three blue [] (rw c.numbers_at-3.ensures refl) (λ i. search rules) ∙ append-nil blue)
    ∙ (λ j. c.numbers_at.ensures j ++ (c.numbers_at-2.ensures j ++ c.numbers_at-3.ensures j))
