-- How many segments have a sequence number among k numbers from i on: where all have, and none is doubled, none is missing. Assumes nothing.
use Rattle.std.specs.Prelude.{ℕ, zero, suc, ◌+◌, ◌≤◌, ◌<◌, ◌≡◌, refl, true, List, [], ◌∷◌, ◌++◌, eqb, length}
use Rattle.std.proofs.Common.{ap, sym, ◌∙◌, arith, eq-eqb, ne_eqb, eqb-true}
use Rattle.std.proofs.Math.Decide.{dec_le, ℕ_discrete}
use Rattle.buffer.specs.BoolLaws.{both_left, both_right}
use Rattle.app2.specs.Segments.{Segment}
use Rattle.app2.specs.Joining.{times, each_once}

unfoldable pub inside : ℕ → ℕ → List Segment → ℕ
inside zero i ss = 0
inside (suc k) i ss = times i ss + inside k (suc i) ss

pub times_append : (i : ℕ) (a b : List Segment) → times i (a ++ b) ≡ times i a + times i b
unfolding times
times_append i [] b = omega arith
times_append i (s ∷ a) b = omega (arith, times_append i a b)

pub inside_append : (k i : ℕ) (a b : List Segment) → inside k i (a ++ b) ≡ inside k i a + inside k i b
unfolding inside
inside_append zero i a b = refl
inside_append (suc k) i a b = omega (arith, times_append i a b, inside_append k (suc i) a b)

pub times_one : (i : ℕ) (s : Segment) → s.sequence ≡ i → times i (s ∷ []) ≡ 1
unfolding times
times_one i s e = rw (eq-eqb s.sequence i e)

pub times_other : (i : ℕ) (s : Segment) → (s.sequence ≡ i → ⊥) → times i (s ∷ []) ≡ 0
unfolding times
times_other i s e = rw (ne_eqb s.sequence i e)

pub outside_one : (k i : ℕ) (s : Segment) → ((j : ℕ) → i ≤ j → j < i + k → s.sequence ≡ j → ⊥) → inside k i (s ∷ []) ≡ 0
unfolding inside
outside_one zero i s h = refl
outside_one (suc k) i s h =
    omega (arith, times_other i s (h i (omega arith) (omega arith)), outside_one k (suc i) s (λ j a b. h j (omega arith) (omega arith)))

pub inside_one : (k i : ℕ) (s : Segment) → i ≤ s.sequence → s.sequence < i + k → inside k i (s ∷ []) ≡ 1
unfolding inside
inside_one zero i s a b = absurd (omega arith)
inside_one (suc k) i s a b = go (inside_one k (suc i) s) (ℕ_discrete s.sequence i)
  where
    go : (suc i ≤ s.sequence → s.sequence < suc i + k → inside k (suc i) (s ∷ []) ≡ 1) → Dec (s.sequence ≡ i)
        → times i (s ∷ []) + inside k (suc i) (s ∷ []) ≡ 1
    go later (yes e) = omega (arith, times_one i s e, outside_one k (suc i) s (λ j c d f. omega arith))
    go later (no e) = omega (arith, times_other i s e, later (omega arith) (omega arith))

one_at_most : (k i : ℕ) (s : Segment) → inside k i (s ∷ []) ≤ 1
one_at_most k i s = go (dec_le i s.sequence) (dec_le (i + k) s.sequence)
  where
    go : Dec (i ≤ s.sequence) → Dec (i + k ≤ s.sequence) → inside k i (s ∷ []) ≤ 1
    go (yes a) (yes b) = omega (arith, outside_one k i s (λ j c d f. omega arith))
    go (yes a) (no b) = omega (arith, inside_one k i s a (omega arith))
    go (no a) b = omega (arith, outside_one k i s (λ j c d f. omega arith))

pub inside_none : (k i : ℕ) → inside k i [] ≡ 0
unfolding inside times
inside_none zero i = refl
inside_none (suc k) i = omega (arith, inside_none k (suc i))

pub inside_most : (k i : ℕ) (ss : List Segment) → inside k i ss ≤ length ss
inside_most k i [] = omega (arith, inside_none k i)
inside_most k i (s ∷ ss) = omega (arith, inside_append k i (s ∷ []) ss, one_at_most k i s, inside_most k i ss)

-- each once: as many as there are numbers
pub inside_once : (k i : ℕ) (ss : List Segment) → each_once k i ss ≡ true → inside k i ss ≡ k
unfolding inside each_once
inside_once zero i ss e = refl
inside_once (suc k) i ss e =
    omega (
      arith,
      eqb-true (times i ss) 1 (both_left (eqb (times i ss) 1) (each_once k (suc i) ss) e),
      inside_once k (suc i) ss (both_right (eqb (times i ss) 1) (each_once k (suc i) ss) e),
    )

pub inside_bound : (k i : ℕ) (ss : List Segment) → ((j : ℕ) → i ≤ j → j < i + k → times j ss ≤ 1) → inside k i ss ≤ k
unfolding inside
inside_bound zero i ss h = omega arith
inside_bound (suc k) i ss h = omega (arith, h i (omega arith) (omega arith), inside_bound k (suc i) ss (λ j a b. h j (omega arith) (omega arith)))

-- none doubled, and as many as there are numbers: each once
pub once_inside : (k i : ℕ) (ss : List Segment) → ((j : ℕ) → i ≤ j → j < i + k → times j ss ≤ 1) → inside k i ss ≡ k
    → each_once k i ss ≡ true
unfolding inside each_once
once_inside zero i ss h e = refl
once_inside (suc k) i ss h e =
    let later : (j : ℕ) → suc i ≤ j → j < suc i + k → times j ss ≤ 1 = λ j a b. h j (omega arith) (omega arith) in
    let bound : inside k (suc i) ss ≤ k = inside_bound k (suc i) ss later in
    let here : times i ss ≡ 1 = omega (arith, h i (omega arith) (omega arith)) in
    rw (eq-eqb (times i ss) 1 here) (once_inside k (suc i) ss later (omega arith))

-- a number of those stands once
pub once_at : (k i : ℕ) (ss : List Segment) → each_once k i ss ≡ true → (j : ℕ) → i ≤ j → j < i + k → times j ss ≡ 1
unfolding each_once
once_at zero i ss e j a b = absurd (omega arith)
once_at (suc k) i ss e j a b =
    go (once_at k (suc i) ss (both_right (eqb (times i ss) 1) (each_once k (suc i) ss) e) j) (ℕ_discrete i j)
  where
    here : times i ss ≡ 1
    here = eqb-true (times i ss) 1 (both_left (eqb (times i ss) 1) (each_once k (suc i) ss) e)

    go : (suc i ≤ j → j < suc i + k → times j ss ≡ 1) → Dec (i ≡ j) → times j ss ≡ 1
    go later (yes f) = ap (λ (x : ℕ). times x ss) (sym f) ∙ here
    go later (no f) = later (omega arith) (omega arith)
