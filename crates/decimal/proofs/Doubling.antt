-- A number in parts of eight digits, doubled part by part from the lowest on, and its digits from the highest on.
-- Assumes nothing.
use Rattle.std.proofs.Common.{◌≡◌, sym, ap, ◌∙◌, ℕ, zero, suc, ◌+◌, ◌*◌, ◌^◌, ◌≤◌, ◌<◌, List, [], ◌∷◌, length, take, drop, get_or, arith, add-one, pow-suc, mul_comm, mul_assoc, add-zero, lit<, drop-drop, get_or-drop, drop-set-lt}
use Rattle.std.proofs.Math.ListN.{set}
use Rattle.decimal.specs.Parts.{value_of, Proper}

-- what one more in the part i is worth
abbrev pub weight : ℕ → ℕ
weight i = (10 ^ 8) ^ i

weight_suc : (i : ℕ) → weight (suc i) ≡ 10 ^ 8 * weight i
weight_suc i = pow-suc (10 ^ 8) i ∙ mul_comm (weight i) (10 ^ 8)

-- another part in the place of the part i
value-set : (d : List ℕ) (i r : ℕ) → i < length d → value_of (set d i r) + weight i * get_or d i 0 ≡ value_of d + weight i * r
value-set [] i r h = absurd (no i h)
  where
    no : (i : ℕ) → i < 0 → ⊥
    no i h = omega arith
value-set (p ∷ d) zero r h = omega arith
value-set (p ∷ d) (suc i) r h =
    let e = value-set d i r (omega arith) in
    rw weight_suc (omega (arith, e))

-- one more part of the lowest
value-take : (a : List ℕ) (i : ℕ) → i < length a → value_of (take (suc i) a) ≡ value_of (take i a) + weight i * get_or a i 0
value-take [] i h = absurd (no i h)
  where
    no : (i : ℕ) → i < 0 → ⊥
    no i h = omega arith
value-take (p ∷ a) zero h = omega arith
value-take (p ∷ a) (suc i) h =
    let e = value-take a i (omega arith) in
    rw weight_suc (omega (arith, e))

-- the parts below i are doubled, and k goes over into the part i
pub record Doubled (a d : List ℕ) (i k : ℕ) : Type 0 where
  pub value : value_of d + weight i * k ≡ value_of a + value_of (take i a)
  pub rest : drop i d ≡ drop i a
  pub proper : Proper d
  pub small : k ≤ 1

proper-set : (d : List ℕ) (i r j : ℕ) → Proper d → r < 10 ^ 8 → get_or (set d i r) j 0 < 10 ^ 8
proper-set [] i r j p h = lit< tt
proper-set (x ∷ d) zero r zero p h = h
proper-set (x ∷ d) zero r (suc j) p h = p.below (suc j)
proper-set (x ∷ d) (suc i) r zero p h = p.below 0
proper-set (x ∷ d) (suc i) r (suc j) p h = proper-set d i r j (record { below = λ n. p.below (suc n) }) h

-- w is the weight of the part p, which becomes r
sums : (w p r c k a t d n o : ℕ) → n + w * p ≡ d + w * r → o ≡ t + w * p → d + w * k ≡ a + t → r + 10 ^ 8 * c ≡ 2 * p + k → n + 10 ^ 8 * w * c ≡ a + o
sums w p r c k a t d n o f g h e =
    let left : w * (r + 10 ^ 8 * c) ≡ w * r + 10 ^ 8 * w * c = left_is w r c in
    let right : w * (2 * p + k) ≡ w * p + w * p + w * k = right_is w p k in
    let times : w * (r + 10 ^ 8 * c) ≡ w * (2 * p + k) = ap (λ (x : ℕ). w * x) e in
    omega (arith, f, g, h, left, right, times)
  where
    left_is : (w r c : ℕ) → w * (r + 10 ^ 8 * c) ≡ w * r + 10 ^ 8 * w * c
    left_is w r c = omega arith

    right_is : (w p k : ℕ) → w * (2 * p + k) ≡ w * p + w * p + w * k
    right_is w p k = omega arith

-- one more part doubled
pub one_more : {a d : List ℕ} {i k r c : ℕ} → i < length d → length d ≡ length a → Doubled a d i k → r + 10 ^ 8 * c ≡ 2 * get_or d i 0 + k → r < 10 ^ 8 → c ≤ 1
    → Doubled a (set d i r) (i + 1) c
one_more {a} {d} {i} {k} {r} {c} h l s e f g =
    let front : (l : List ℕ) → get_or (drop i l) 0 0 ≡ get_or l i 0 = λ l. get_or-drop i l 0 0 ∙ ap (λ n. get_or l n 0) (add-zero i) in
    let same : get_or d i 0 ≡ get_or a i 0 = sym (front d) ∙ ap (λ (l : List ℕ). get_or l 0 0) s.rest ∙ front a in
    let set_value = value-set d i r h in
    let take_value = value-take a i (omega arith) in
    record {
      value = rw (add-one i, weight_suc) (sums (weight i) _ r c k _ _ _ _ _ set_value (rw (← same) at take_value) s.value e);
      rest = drop-set-lt (i + 1) d i r (omega arith) ∙ sym (drop-drop 1 i d) ∙ ap (drop 1) s.rest ∙ drop-drop 1 i a;
      proper = record { below = λ j. proper-set d i r j s.proper f };
      small = g;
    }

pub next : (v m i : ℕ) → v ≡ m * 2 ^ i → 2 * v ≡ m * 2 ^ (i + 1)
next v m i e = ap (λ (x : ℕ). 2 * x) e ∙ mul_comm 2 (m * 2 ^ i) ∙ mul_assoc m (2 ^ i) 2 ∙ ap (λ (x : ℕ). m * x) (sym (ap (λ (j : ℕ). 2 ^ j) (add-one i) ∙ pow-suc 2 i))

-- ---- the digits from the highest part on

-- the part n below those above it
pub value-drop : (parts : List ℕ) (n : ℕ) → n < length parts → value_of (drop n parts) ≡ value_of (drop (suc n) parts) * 10 ^ 8 + get_or parts n 0
value-drop [] n h = absurd (no n h)
  where
    no : (n : ℕ) → n < 0 → ⊥
    no n h = omega arith
value-drop (p ∷ parts) zero h = omega arith
value-drop (p ∷ parts) (suc n) h = value-drop parts n (omega arith)
