-- The steps of `color_plan` decide the checks of the refusal list, in their order. Assumes nothing.
use Rattle.std.specs.Prelude.{Option, Some, None, ℕ, ◌≡◌, refl, Bool, true, false, not, cond, List, [], ◌∷◌, leb, length, Float}
use Rattle.std.proofs.Common.{sym, subst, ◌∙◌, leb→le, le-leb}
use Rattle.buffer.specs.All.{All, none, more}
use Rattle.buffer.specs.BoolLaws as Bools
use Rattle.buffer.specs.Checked.{Checked, is, refused, then, each}
use Rattle.buffer.specs.CheckedLaws.{then_assoc}
use Rattle.buffer.specs.First.{First, fails, later}
use Rattle.numbers.specs.Fixed.{s15_fixed16, fixed_or}
use Rattle.numbers.specs.FixedLaws.{no_number, number_if}
use Rattle.numbers.specs.Rounded.{rounded_in, counted}
use Rattle.numbers.specs.declared.fixed.S15Fixed16.{S15Fixed16}
use Rattle.profile.specs.Plan.{Plan}
use Rattle.profile.specs.Layout.{layout}
use Rattle.encoding_plan.specs.PlanOf.{color_plan}
use Rattle.encoding_plan.specs.FixedFloats.{color_floats}
use Rattle.color_encoding.specs.declared.JxlColorEncoding.{JxlColorEncoding}
use Rattle.writer.specs.Writer.{answer, too_short}
use Rattle.writer.specs.declared.Written.{Written}
use Rattle.writer.specs.Writer.{profile}
use Rattle.writer_laws.specs.RefusalList.{Fits, Check, c9, number, Passed}

-- ---- a step that passes exactly if P holds, and else refuses by the number k

pub data Decides (P : Type 0) (k : ℕ) {A : Type 0} (c : Checked A) : Type 0 where
  passes : P → (a : A) → c ≡ is a → Decides P k c
  refuses : (P → ⊥) → c ≡ refused k → Decides P k c

-- a float that has a fixed number, and a list of such
pub fixed_decides : (k : ℕ) (x : Float) → Decides (Fits x) k (fixed_or k x)
fixed_decides k x = go (s15_fixed16 x) refl
  where
    go : (s : Option S15Fixed16) → s15_fixed16 x ≡ s → Decides (Fits x) k (fixed_or k x)
    go (Some s) h = let fixed : fixed_or k x ≡ is s.number = simp h in passes (s.number, number_if k x fixed) s.number fixed
    go None h = refuses (λ f. no_number (sym h ∙ f.1)) (simp h)

pub both_decide : {P Q : Type 0} {k : ℕ} {A B : Type 0} {c : Checked A} {f : A → Checked B} → Decides P k c → ((a : A) → Decides Q k (f a)) → Decides (P × Q) k (then c f)
both_decide {f = f} (refuses n e) d = refuses (λ h. n h.0) (rw e)
both_decide {P = P} {Q = Q} {k = k} {c = c} {f = f} (passes p a e) d = go (d a)
  where
    go : Decides Q k (f a) → Decides (P × Q) k (then c f)
    go (passes q b g) = passes (p, q) b (rw e g)
    go (refuses n g) = refuses (λ h. n h.1) (rw e g)

pub each_decides : (k : ℕ) (xs : List Float) → Decides (All Fits xs) k (each (fixed_or k) xs)
each_decides k [] = passes none [] refl
each_decides k (x ∷ xs) = go (fixed_decides k x) (each_decides k xs)
  where
    go : Decides (Fits x) k (fixed_or k x) → Decides (All Fits xs) k (each (fixed_or k) xs) → Decides (All Fits (x ∷ xs)) k (each (fixed_or k) (x ∷ xs))
    go (passes p z e) (passes q zs g) = passes (more p q) (z ∷ zs) (rw (e, g))
    go (passes p z e) (refuses n g) = refuses (λ h. n (rest h)) (rw (e, g))
      where
        rest : All Fits (x ∷ xs) → All Fits xs
        rest (more h hs) = hs
    go (refuses n e) d = refuses (λ h. n (first h)) (rw e)
      where
        first : All Fits (x ∷ xs) → Fits x
        first (more h hs) = h

pub value_of : {P : Type 0} {k : ℕ} {A B : Type 0} {c : Checked A} (f : A → B) → Decides P k c → Decides P k (then c (λ a. is (f a)))
value_of f (passes p a e) = passes p (f a) (rw e)
value_of f (refuses n e) = refuses n (rw e)

pub decides_by : {P Q : Type 0} {k : ℕ} {A : Type 0} {c : Checked A} → (P → Q) → (Q → P) → Decides P k c → Decides Q k c
decides_by to from (passes p a e) = passes (to p) a e
decides_by to from (refuses n e) = refuses (λ q. n (from q)) e

-- the same of a step whose value is known
pub data DecidesAs (P : Type 0) (k : ℕ) {A : Type 0} (c : Checked A) (a : A) : Type 0 where
  passes_as : P → c ≡ is a → DecidesAs P k c a
  refuses_as : (P → ⊥) → c ≡ refused k → DecidesAs P k c a

-- a test b that holds exactly if the step passes
pub test_decides : {A : Type 0} (b t : Bool) (k : ℕ) (c : Checked A) (a : A) → (b ≡ t → c ≡ is a) → (b ≡ not t → c ≡ refused k) → DecidesAs (b ≡ t) k c a
test_decides true true k c a pass fail = passes_as refl (pass refl)
test_decides true false k c a pass fail = refuses_as Bools.true≢false (fail refl)
test_decides false true k c a pass fail = refuses_as (λ h. Bools.true≢false (sym h)) (fail refl)
test_decides false false k c a pass fail = passes_as refl (pass refl)

-- ---- the answer by the checks that are left

module _ (m : Bool) (e : JxlColorEncoding) (n : ℕ) where
  -- the answer where the plan, or its refusal, is c
  abbrev pub answer_to : Checked Plan → Checked Written
  answer_to c = answer (counted (color_floats m e) c) n

  pub data From (cs : List Check) : Checked Written → Type 0 where
    stops : {c : Check} → First (Passed m e n) cs c → From cs (refused (number c))
    writes : (p : Plan) → color_plan m e ≡ is p → All (Passed m e n) cs → From cs (profile (length (layout p)) (rounded_in (color_floats m e)))

  pub onward : {c : Check} {cs : List Check} {a : Checked Written} → Passed m e n c → From cs a → From (c ∷ cs) a
  onward p (stops f) = stops (later p f)
  onward p (writes q g all) = writes q g (more p all)

  -- a step that decides the next check, and what follows where it passes
  pub step : (c : Check) {cs : List Check} {A : Type 0} {x : Checked A} (f : A → Checked Plan) → Decides (Passed m e n c) (number c) x
      → ((a : A) → Passed m e n c → x ≡ is a → From cs (answer_to (f a))) → From (c ∷ cs) (answer_to (then x f))
  step c {cs} {x = x} f (passes p a g) r = subst (λ y. From (c ∷ cs) (answer_to (then y f))) (sym g) (onward p (r a p g))
  step c {cs} {x = x} f (refuses bad g) r = subst (λ y. From (c ∷ cs) (answer_to (then y f))) (sym g) (stops (fails bad))

  pub step_as : (c : Check) {cs : List Check} {A : Type 0} {x : Checked A} (a : A) (f : A → Checked Plan) → DecidesAs (Passed m e n c) (number c) x a
      → (Passed m e n c → x ≡ is a → From cs (answer_to (f a))) → From (c ∷ cs) (answer_to (then x f))
  step_as c {cs} a f (passes_as p g) r = subst (λ y. From (c ∷ cs) (answer_to (then y f))) (sym g) (onward p (r p g))
  step_as c {cs} a f (refuses_as bad g) r = subst (λ y. From (c ∷ cs) (answer_to (then y f))) (sym g) (stops (fails bad))

  -- a step of two: the check is decided by its first
  pub apart : {cs : List Check} {A B : Type 0} (x : Checked A) (f : A → Checked B) (g : B → Checked Plan) → From cs (answer_to (then x (λ a. then (f a) g)))
      → From cs (answer_to (then (then x f) g))
  apart {cs} x f g r = subst (λ (c : Checked Plan). From cs (answer_to c)) (sym (then_assoc x f g)) r

  -- the last check, of a plan that is laid out
  pub last : (p : Plan) → color_plan m e ≡ is p → From (c9 ∷ []) (answer_to (is p))
  last p g = go (leb (length (layout p)) n) refl
    where
      go : (b : Bool) → leb (length (layout p)) n ≡ b → From (c9 ∷ []) (cond b (profile (length (layout p)) (rounded_in (color_floats m e))) (refused too_short))
      go true h = writes p g (more {a = c9} (λ q k. let same : p ≡ q = cc (sym g ∙ k) in rw (← same) (leb→le (length (layout p)) n (Bools.holds h))) none)
      go false h = stops (fails {c = c9} (λ ok. Bools.true≢false (sym (le-leb (length (layout p)) n (ok p g)) ∙ h)))
