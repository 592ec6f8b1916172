-- Each answer is the number of the check that its test makes, or the mark of the plan (`ComparedLaws`).
use mathlib.Core.Path.{◌≡◌, refl, sym, ◌∙◌}
use mathlib.Core.Bool.{Bool, true}
use lib.ListN.{drop}
use borrow.Author.Tests.{not-true, not-false}
use Rattle.buffer.specs.Bytes.{same}
use Rattle.profile.specs.Elements.{start}
use Rattle.profile.specs.Numbers.{plan_of}
use Rattle.profile.specs.Layout.{layout}
use Rattle.profile.specs.Shape.{shape, slots_of}
use Rattle.reader_spec.specs.FitsLaws.{Bytes}
use Rattle.reader_spec.specs.PlanIn.{plan_in}
use Rattle.reader_spec.specs.Read.{by_id, from_body}
use Rattle.reader_spec.specs.Tests.{letters_and_cicp_good, numbers_in_range}
use Rattle.reader_spec.specs.ComparedLaws.{by_letters, by_elements, by_range, by_id_lem}
use Rattle.reader_checks.proofs.plan_answer.Goals.{Else-not-letters_and_cicp_good, Else-not-found, After-id_is_zeros-zeros}
use Rattle.reader_checks.proofs.plan_answer.Goals as goal

module _ (c : Else-not-letters_and_cicp_good) where
  good : letters_and_cicp_good c.args.plan c.args.text.now ≡ true
  good = sym c.letters_and_cicp_good.ensures ∙ c.if-not-letters_and_cicp_good.false

  bytes : Bytes c.args.file.now
  bytes = λ i. (c.type_inv.file i).fits

same_elements : (c : Else-not-found) →
    let p = plan_of c.args.plan c.args.text.now in
    let at = start (slots_of (shape p)) in
    same (drop at c.args.file.now) (drop at (layout p)) ≡ true
same_elements c = sym c.compared-found.ensures.elements_value ∙ not-false _ c.if-not-found.false

-- the id, where elements and numbers are a plan's
module _ (c : After-id_is_zeros-zeros) where
  numbers : numbers_in_range c.args.plan ≡ true
  numbers = sym c.numbers_in_range.ensures ∙ c.if-not-numbers_in_range.false

  by_both : {correct zero : Bool} → c.compared-found.result.id ≡ correct → c.id_is_zeros-zeros.result ≡ zero
      → from_body c.args.file.now ≡ by_id correct zero (plan_in c.args.file.now)
  by_both e z =
      let l = (goal.at.After-id_is_zeros-zeros c).Else-not-letters_and_cicp_good in
      by_id_lem c.args.file.now c.args.plan c.args.text.now c.requires (bytes l) (good l) (same_elements (goal.at.After-id_is_zeros-zeros c).Else-not-found) numbers
      (sym c.compared-found.ensures.id_value ∙ e) (sym c.id_is_zeros-zeros.ensures ∙ z)

pub returns-then-not-letters_and_cicp_good : goal.returns-then-not-letters_and_cicp_good
returns-then-not-letters_and_cicp_good c =
    rw (by_letters c.args.file.now c.args.plan c.args.text.now c.requires (sym c.letters_and_cicp_good.ensures ∙ c.if-not-letters_and_cicp_good.true))

pub compared-found-requires : goal.compared-found-requires
compared-found-requires c = (c.requires, good (goal.at.compared-found-requires c).Else-not-letters_and_cicp_good)

pub returns-then-not-found : goal.returns-then-not-found
returns-then-not-found c =
    let l = (goal.at.returns-then-not-found c).Else-not-letters_and_cicp_good in
    rw (by_elements c.args.file.now c.args.plan c.args.text.now c.requires (bytes l) (good l) (sym c.compared-found.ensures.elements_value ∙ not-true _ c.if-not-found.true))

pub returns-then-not-numbers_in_range : goal.returns-then-not-numbers_in_range
returns-then-not-numbers_in_range c =
    let l = (goal.at.returns-then-not-numbers_in_range c).Else-not-letters_and_cicp_good in
    let elements = same_elements (goal.at.returns-then-not-numbers_in_range c).Else-not-found in
    let range = sym c.numbers_in_range.ensures ∙ c.if-not-numbers_in_range.true in
    rw (by_range c.args.file.now c.args.plan c.args.text.now c.requires (bytes l) (good l) elements range)

pub returns-then-found : goal.returns-then-found
returns-then-found c = rw (by_both (goal.at.returns-then-found c).After-id_is_zeros-zeros c.if-found.true refl)

pub returns-then-zeros : goal.returns-then-zeros
returns-then-zeros c = rw (by_both (goal.at.returns-then-zeros c).After-id_is_zeros-zeros c.if-found.false c.if-zeros.true)

pub returns : goal.returns
returns c = rw (by_both (goal.at.returns c).After-id_is_zeros-zeros c.if-found.false c.if-zeros.false)
