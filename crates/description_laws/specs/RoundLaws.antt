-- A fraction n / den rounded to p binary digits is nearest to it among all whole numbers that have p digits and zeros behind them, and its last digit is
-- even where another one is as near. Assumes nothing.
use Rattle.std.specs.Prelude.{ℕ, zero, suc, ◌+◌, ◌-◌, ◌*◌, ◌/◌, ◌%◌, ◌^◌, ◌≤◌, ◌<◌, ◌≡◌, refl, ◌⊎◌, Bool, true, false, ltb}
use Rattle.std.proofs.Common.{le_trans, le_of_eq, lt_of_lt_of_le, mul_assoc, mul_comm, mul-pos, mul-lt-mul_of_pos_right, div-lt_iff_lt-mul, le-div_iff_mul-le, arith, sym, ap, ◌∙◌, subst, inl, inr, ltb-true, ltb-false, pow-add, pow_pos, pow_mono, shl_lt}
use Rattle.std.specs.Float.Ieee.{size}
use Rattle.std.specs.Float.Ieee.Digits.{size-lt, size_reaches, back}
use Rattle.std.specs.Float.Ieee.Order.{drop, kept}
use Rattle.floats.specs.RoundingLaws.{closest-le, closest-ge}
use Rattle.description_laws.specs.Distance.{away}
use Rattle.description_laws.specs.ClosestLaws.{closest-nearest, closest-even}

module _ (p n den : ℕ) (P : 0 < p) (D : 0 < den) where
  abbrev k : ℕ
  k = drop p n den

  abbrev r : ℕ
  r = kept p n den

  unit_pos : 0 < den * 2 ^ k
  unit_pos = mul-pos D (pow_pos k)

  unit : (v : ℕ) → v * 2 ^ k * den ≡ v * (den * 2 ^ k)
  unit v = mul_assoc v (2 ^ k) den ∙ ap (λ (x : ℕ). v * x) (mul_comm (2 ^ k) den)

  -- where digits are dropped, the whole part has all p
  reaches : 0 < k → 2 ^ (p - 1) * 2 ^ k * den ≤ n
  reaches K =
      (le-div_iff_mul-le D).0
      (le_trans (le_of_eq (sym (pow-add 2 (p - 1) k))) (size_reaches (n / den) (p - 1 + k) (room (size (n / den)) p P K)))
    where
      room : (z p : ℕ) → 0 < p → 0 < z - p → p - 1 + (z - p) < z
      room z p P h = omega arith

  pub kept-most : r ≤ 2 ^ p
  kept-most =
      closest-le n (den * 2 ^ k) (2 ^ p) unit_pos
      (lt_of_lt_of_le ((div-lt_iff_lt-mul D).0 (lt_of_lt_of_le (size-lt (n / den)) (pow_mono (cover (size (n / den)) p))))
      (le_of_eq (ap (λ (x : ℕ). x * den) (pow-add 2 p k) ∙ unit (2 ^ p))))
    where
      cover : (z p : ℕ) → z ≤ p + (z - p)
      cover z p = omega arith

  pub kept-least : (k ≡ 0) ⊎ (2 ^ (p - 1) ≤ r)
  kept-least = go k refl
    where
      go : (i : ℕ) → k ≡ i → (k ≡ 0) ⊎ (2 ^ (p - 1) ≤ r)
      go zero e = inl e
      go (suc i) e = inr (closest-ge n (den * 2 ^ k) (2 ^ (p - 1)) unit_pos (le_trans (le_of_eq (sym (unit (2 ^ (p - 1))))) (reaches (omega arith))))

  -- ---- the numbers of p digits, beside the multiples of 2 ^ k

  data Grid (w : ℕ) : Type 0 where
    on : (v : ℕ) → w ≡ v * 2 ^ k → Grid w
    below : (v : ℕ) → w < v * 2 ^ k → v * 2 ^ k * den ≤ n → Grid w

  grid : (m j : ℕ) → m < 2 ^ p → Grid (m * 2 ^ j)
  grid m j small = go (ltb j k) refl
    where
      go : (t : Bool) → ltb j k ≡ t → Grid (m * 2 ^ j)
      go true e =
          let h : j < k = ltb-true j k e in
          below (2 ^ (p - 1)) (lt_of_lt_of_le (shl_lt p j small) (le_trans (pow_mono (room p j k P h)) (le_of_eq (pow-add 2 (p - 1) k)))) (reaches (omega arith))
        where
          room : (p j k : ℕ) → 0 < p → j < k → p + j ≤ p - 1 + k
          room p j k P h = omega arith
      go false e =
          on (m * 2 ^ (j - k))
          (sym (mul_assoc m (2 ^ (j - k)) (2 ^ k) ∙ ap (λ (x : ℕ). m * x) (sym (pow-add 2 (j - k) k) ∙ ap (λ (x : ℕ). 2 ^ x) (back j k (ltb-false j k e)))))

  -- ---- the nearest of them

  near : (v : ℕ) → away n (r * 2 ^ k * den) ≤ away n (v * 2 ^ k * den)
  near v = rw (unit r, unit v) (closest-nearest n (den * 2 ^ k) unit_pos v)

  pub kept-nearest : (m j : ℕ) → m < 2 ^ p → away n (r * 2 ^ k * den) ≤ away n (m * 2 ^ j * den)
  kept-nearest m j small = go (grid m j small)
    where
      go : Grid (m * 2 ^ j) → away n (r * 2 ^ k * den) ≤ away n (m * 2 ^ j * den)
      go (on v e) = subst (λ (x : ℕ). away n (r * 2 ^ k * den) ≤ away n (x * den)) (sym e) (near v)
      go (below v h g) = let l : m * 2 ^ j * den < v * 2 ^ k * den = mul-lt-mul_of_pos_right h D in omega (arith, near v)

  pub kept-even : (m j : ℕ) → m < 2 ^ p → away n (r * 2 ^ k * den) ≡ away n (m * 2 ^ j * den) → (m * 2 ^ j ≡ r * 2 ^ k) ⊎ (r % 2 ≡ 0)
  kept-even m j small t = go (grid m j small)
    where
      same : (v : ℕ) → m * 2 ^ j ≡ v * 2 ^ k → (v ≡ r) ⊎ (r % 2 ≡ 0) → (m * 2 ^ j ≡ r * 2 ^ k) ⊎ (r % 2 ≡ 0)
      same v e (inl i) = inl (e ∙ ap (λ (x : ℕ). x * 2 ^ k) i)
      same v e (inr i) = inr i

      go : Grid (m * 2 ^ j) → (m * 2 ^ j ≡ r * 2 ^ k) ⊎ (r % 2 ≡ 0)
      go (on v e) = same v e (closest-even n (den * 2 ^ k) unit_pos v (ap (away n) (sym (unit r)) ∙ t ∙ ap (λ (x : ℕ). away n (x * den)) e ∙ ap (away n) (unit v)))
      go (below v h g) = let l : m * 2 ^ j * den < v * 2 ^ k * den = mul-lt-mul_of_pos_right h D in absurd (omega (arith, near v))
