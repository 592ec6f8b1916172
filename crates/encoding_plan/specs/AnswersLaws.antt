-- What is due where a plan is refused, and where it is not. Assumes nothing.
use Rattle.std.specs.Prelude.{ℕ, ◌≡◌, Bool, List, Float}
use Rattle.std.proofs.Common.{sym, ap, ◌∙◌}
use Rattle.buffer.specs.Checked.{Checked, is, refused, then}
use Rattle.color_encoding.specs.declared.JxlColorEncoding.{JxlColorEncoding}
use Rattle.numbers.specs.declared.fixed.Counted.{Counted}
use Rattle.numbers.specs.Rounded.{rounded_in, counted}
use Rattle.numbers.specs.RoundedLaws.{counted_value, counted_rounded, counted_refused}
use Rattle.profile.specs.Plan.{Plan}
use Rattle.encoding_plan.specs.PlanOf.{color_plan}
use Rattle.encoding_plan.specs.FixedFloats.{color_floats, counted_color_plan}

pub refused_as : (a : Bool) (e : JxlColorEncoding) {n : ℕ} → color_plan a e ≡ refused n → refused n ≡ counted_color_plan a e
refused_as a e h = sym (ap (counted (color_floats a e)) h)

-- a plan and its count are what is due
pub planned_as : (a : Bool) (e : JxlColorEncoding) {p : Plan} {k : ℕ} → color_plan a e ≡ is p → k ≡ rounded_in (color_floats a e)
    → is (record { value = p; rounded = k }) ≡ counted_color_plan a e
planned_as a e {p} h same = ap (λ (n : ℕ). is (record { value = p; rounded = n })) same ∙ sym (ap (counted (color_floats a e)) h)

-- ---- an answer put in another form: f of the value, with the count m, that of the floats ys

module _ {A B : Type 0} (f : A → B) (xs ys : List Float) (c : Checked A) where
  pub refused_with : {n : ℕ} → refused n ≡ counted xs c → refused n ≡ counted ys (then c (λ a. is (f a)))
  refused_with h = sym (ap (λ (x : Checked A). counted ys (then x (λ a. is (f a)))) (counted_refused xs c h))

  pub given_with : {v : Counted A} {m : ℕ} → (v.rounded ≡ rounded_in xs → m ≡ rounded_in ys) → is v ≡ counted xs c
      → is (record { value = f v.value; rounded = m }) ≡ counted ys (then c (λ a. is (f a)))
  given_with {v} count h =
      ap (λ (j : ℕ). is (record { value = f v.value; rounded = j })) (count (counted_rounded xs c h))
      ∙ sym (ap (λ (x : Checked A). counted ys (then x (λ a. is (f a)))) (counted_value xs c h))
