-- How the digits of a number in parts grow by its next part.
-- Assumes nothing.
use Rattle.std.specs.Prelude.{◌≡◌, refl, Bool, true, false, cond, List, [], ◌++◌, ℕ, zero, suc, ◌+◌, ◌*◌, ◌^◌, ◌≤◌, ◌<◌, ltb, length}
use Rattle.std.proofs.Common.{sym, ap, ap₂, ◌∙◌, subst, le_of_eq, zero-lt-suc, arith, lt-ltb, le-ltb, eq-eqb, ne_eqb}
use Rattle.digits.specs.Digits.{digits, last_digits}
use Rattle.digits.specs.DigitsLaws.{digits_append, some-digit, length_digits, length_last}
use Rattle.buffer.specs.Puts.{PutsText}
use Rattle.buffer.specs.PutsLaws.{then}
use Rattle.decimal.specs.Parts.{shown, part}

pub shown_none : (v : ℕ) → v ≡ 0 → shown v ≡ []
unfolding shown
shown_none v e = ap (λ (t : Bool). cond t [] (digits v)) (eq-eqb v 0 e)

pub shown_some : (v : ℕ) → 0 < v → shown v ≡ digits v
unfolding shown
shown_some v h = ap (λ (t : Bool). cond t [] (digits v)) (ne_eqb v 0 (λ (e : v ≡ 0). no v h e))
  where
    no : (v : ℕ) → 0 < v → v ≡ 0 → ⊥
    no v h e = omega arith

pub part_first : (n : ℕ) {t : Bool} → t ≡ false → part t n ≡ shown n
unfolding part
part_first n e = ap (λ (b : Bool). cond b (last_digits 8 n) (shown n)) e

pub part_next : (n : ℕ) {t : Bool} → t ≡ true → part t n ≡ last_digits 8 n
unfolding part
part_next n e = ap (λ (b : Bool). cond b (last_digits 8 n) (shown n)) e

pub length-shown : (k v : ℕ) → v < 10 ^ suc k → length (shown v) ≤ suc k
length-shown k zero h = subst (λ (l : List ℕ). length l ≤ suc k) (sym (shown_none zero refl)) (none k)
  where
    none : (k : ℕ) → 0 ≤ suc k
    none k = omega arith
length-shown k (suc v) h = subst (λ (l : List ℕ). length l ≤ suc k) (sym (shown_some (suc v) (zero-lt-suc v))) (length_digits k (suc v) h)

pub length-part : (t : Bool) (n : ℕ) → n < 10 ^ 8 → length (part t n) ≤ 8
length-part true n h = subst (λ (l : List ℕ). length l ≤ 8) (sym (part_next n refl)) (le_of_eq (length_last 8 n))
length-part false n h = subst (λ (l : List ℕ). length l ≤ 8) (sym (part_first n refl)) (length-shown 7 n h)

-- the digits of v * 10 ^ 8 + p: those of v, and then those that the part p adds
grows : (v p start i : ℕ) → p < 10 ^ 8 → i ≡ start + length (shown v) → shown (v * 10 ^ 8 + p) ≡ shown v ++ part (ltb start i) p
grows zero p start i h e =
    ap shown (zeros p)
    ∙ sym (ap₂ (λ (a b : List ℕ). a ++ b) (shown_none zero refl) (part_first p (le-ltb start i (at_start i start (e ∙ ap (λ (l : List ℕ). start + length l) (shown_none zero refl))))))
  where
    zeros : (p : ℕ) → 0 * 10 ^ 8 + p ≡ p
    zeros p = omega arith

    at_start : (i start : ℕ) → i ≡ start + 0 → i ≤ start
    at_start i start e = omega arith
grows (suc v) p start i h e =
    let w = suc v in
    let more : start < i = past i start (length (digits w)) (e ∙ ap (λ (l : List ℕ). start + length l) (shown_some w (zero-lt-suc v))) (some-digit w) in
    shown_some (w * 10 ^ 8 + p) (pos v p)
    ∙ digits_append 8 w p (zero-lt-suc v) h
    ∙ sym (ap₂ (λ (a b : List ℕ). a ++ b) (shown_some w (zero-lt-suc v)) (part_next p (lt-ltb start i more)))
  where
    past : (i start n : ℕ) → i ≡ start + n → 1 ≤ n → start < i
    past i start n e h = omega arith

    pos : (v p : ℕ) → 0 < suc v * 10 ^ 8 + p
    pos v p = omega arith

-- a part written after the parts above it
pub next_part : {l m o : List ℕ} {start i j : ℕ} (v p : ℕ) → start ≤ length l → p < 10 ^ 8 → PutsText l start (shown v) i m
    → PutsText m i (part (ltb start i) p) j o → PutsText l start (shown (v * 10 ^ 8 + p)) j o
next_part {l} {m} {o} {start} {i} {j} v p s h a b = then (shown (v * 10 ^ 8 + p)) s a b (grows v p start i h a.place)
