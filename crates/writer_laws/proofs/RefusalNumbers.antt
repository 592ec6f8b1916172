-- The writer refuses an encoding by a number from 1 to 8 (01, the refusal list), never by 2 (02, order 8), and a written file has at least 284 bytes: so the one number that a C
-- call answers, with the count, tells the writer's answer. Assumes nothing.
use Rattle.std.specs.Prelude.{ℕ, ◌≤◌, ◌≡◌, Bool, List, Float, length}
use Rattle.std.proofs.Common.{arith}
use Rattle.buffer.specs.Checked.{Checked, is, refused}
use Rattle.numbers.specs.Rounded.{counted}
use Rattle.color_encoding.specs.declared.JxlColorEncoding.{JxlColorEncoding}
use Rattle.text.specs.Held.{HeldEncoding}
use Rattle.profile.specs.Plan.{Plan}
use Rattle.profile.specs.Shape.{min_length}
use Rattle.profile.specs.Layout.{layout}
use Rattle.encoding_plan.specs.PlanOf.{color_plan}
use Rattle.encoding_plan.specs.FixedFloats.{color_floats, counted_color_plan}
use Rattle.writer.specs.Writer.{answer, number, count_after, profile_by}
use Rattle.writer_laws.specs.RefusalNumbersLaws as Laws
use Rattle.writer_laws.specs.RefusalNumbersLaws.{refusal_bounds, told}
use Rattle.writer_laws.proofs.WrittenLength.{written_length}

pub refusal_number_lem : (a : Bool) (e : JxlColorEncoding) {k : ℕ} → color_plan a e ≡ refused k → (1 ≤ k) × (k ≤ 8)
refusal_number_lem a e h = refusal_bounds a e h

-- whatever the output
pub never_2 : (a : Bool) (e : JxlColorEncoding) (n : ℕ) → answer (counted_color_plan a e) n ≡ refused 2 → ⊥
never_2 a e n h = Laws.never_2 a e n h

-- of a plan, or of a refusal by a number up to 99
pub number_tells : (xs : List Float) (c : Checked Plan) (n : ℕ) → ((p : Plan) → c ≡ is p → min_length ≤ length (layout p)) → ((k : ℕ) → c ≡ refused k → k ≤ 99)
    → (k : ℕ) → let a = answer (counted xs c) n in profile_by (number a) (count_after a k) ≡ a
number_tells xs c n long low k = told xs c n long low k

-- of an encoding
pub answer_told : (a : Bool) (e : JxlColorEncoding) → HeldEncoding e → (n k : ℕ) → let r = answer (counted_color_plan a e) n in profile_by (number r) (count_after r k) ≡ r
answer_told a e held n k = number_tells (color_floats a e) (color_plan a e) n (λ p h. (written_length a e held h).0) (λ j h. omega (arith, (refusal_number_lem a e h).1)) k
