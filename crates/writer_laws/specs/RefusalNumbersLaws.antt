-- A refused encoding's number is that of a check before the last, and a number tells the answer that it stands for. Assumes nothing.
use Rattle.std.specs.Prelude.{ℕ, ◌≤◌, ◌≡◌, refl, Bool, true, false, cond, leb, List, Float, length}
use Rattle.std.proofs.Common.{sym, ap, ◌∙◌, le_trans, arith, lit≤, le-leb}
use Rattle.std.proofs.lemmas.Bool.{lt-leb}
use Rattle.buffer.specs.Checked.{Checked, is, refused}
use Rattle.buffer.specs.CheckedLaws.{never}
use Rattle.buffer.specs.First.{First}
use Rattle.buffer.specs.FirstLaws.{first_fails}
use Rattle.numbers.specs.Rounded.{rounded_in, counted}
use Rattle.color_encoding.specs.declared.JxlColorEncoding.{JxlColorEncoding}
use Rattle.profile.specs.Plan.{Plan}
use Rattle.profile.specs.Shape.{min_length}
use Rattle.profile.specs.Layout.{layout}
use Rattle.encoding_plan.specs.PlanOf.{color_plan}
use Rattle.encoding_plan.specs.FixedFloats.{color_floats, counted_color_plan}
use Rattle.writer.specs.Writer.{answer, number as number_of, count_after, profile_by, too_short}
use Rattle.writer.specs.declared.Written.{Written}
use Rattle.writer.specs.Writer.{profile}
use Rattle.writer_laws.specs.RefusalList.{Check, c1, c3, c4, c5, c6, c7, c8, c9, number, Passed, checks, Answers, refuses, writes}
use Rattle.writer_laws.specs.WriterAnswersLaws.{answered}

-- ---- the number of a refused encoding

module _ (m : Bool) (e : JxlColorEncoding) {k : ℕ} (h : color_plan m e ≡ refused k) where
  -- a refused encoding has no profile that an output could be too short for
  before_output : (c : Check) → First (Passed m e 0) checks c → (1 ≤ number c) × (number c ≤ 8)
  before_output c1 f = (lit≤ tt, lit≤ tt)
  before_output c3 f = (lit≤ tt, lit≤ tt)
  before_output c4 f = (lit≤ tt, lit≤ tt)
  before_output c5 f = (lit≤ tt, lit≤ tt)
  before_output c6 f = (lit≤ tt, lit≤ tt)
  before_output c7 f = (lit≤ tt, lit≤ tt)
  before_output c8 f = (lit≤ tt, lit≤ tt)
  before_output c9 f = absurd (first_fails f (λ p g. absurd (never (sym h ∙ g))))

  pub refusal_bounds : (1 ≤ k) × (k ≤ 8)
  refusal_bounds = go (answered m e 0) (ap (λ c. answer (counted (color_floats m e) c) 0) h)
    where
      go : {a : Checked Written} → Answers m e 0 a → a ≡ refused k → (1 ≤ k) × (k ≤ 8)
      go (refuses {c} f) g = let same : number c ≡ k = cc in rw (← same) (before_output c f)
      go (writes p q all) g = let z : ◌≡◌ {A = ℕ} 0 1 = cc in absurd (omega arith)

-- ---- no refusal has the number 2

not-2 : (c : Check) → number c ≡ 2 → ⊥
not-2 c1 e = omega arith
not-2 c3 e = omega arith
not-2 c4 e = omega arith
not-2 c5 e = omega arith
not-2 c6 e = omega arith
not-2 c7 e = omega arith
not-2 c8 e = omega arith
not-2 c9 e = omega arith

pub never_2 : (m : Bool) (e : JxlColorEncoding) (n : ℕ) → answer (counted_color_plan m e) n ≡ refused 2 → ⊥
never_2 m e n h = go (answered m e n) h
  where
    go : {a : Checked Written} → Answers m e n a → a ≡ refused 2 → ⊥
    go (refuses {c} f) g = let same : number c ≡ 2 = cc in not-2 c same
    go (writes p q all) g = let z : ◌≡◌ {A = ℕ} 0 1 = cc in omega arith

-- ---- a number tells the answer

pub told : (xs : List Float) (c : Checked Plan) (n : ℕ) → ((p : Plan) → c ≡ is p → min_length ≤ length (layout p)) → ((k : ℕ) → c ≡ refused k → k ≤ 99)
    → (k : ℕ) → let a = answer (counted xs c) n in profile_by (number_of a) (count_after a k) ≡ a
told xs (refused j) n long low k = simp (le-leb j 99 (low j refl))
told xs (is p) n long low k = go (leb (length (layout p)) n)
  where
    answered : Bool → Checked Written
    answered b = cond b (profile (length (layout p)) (rounded_in xs)) (refused too_short)

    go : (b : Bool) → profile_by (number_of (answered b)) (count_after (answered b) k) ≡ answered b
    go true = simp (lt-leb (length (layout p)) 99 (le_trans (lit≤ tt) (long p refl)))
    go false = refl
