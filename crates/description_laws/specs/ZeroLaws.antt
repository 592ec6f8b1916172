-- A decimal fraction q / 10 ^ 7 rounds to zero only if q is 0. Assumes nothing.
use Prim.Native.Nat.{ℕ, zero, suc, ◌-◌, ◌*◌, ◌/◌, ◌%◌, ◌^◌, ◌+◌, ◌≤◌, compare}
use Rattle.std.proofs.Common.{arith, sym, ◌∙◌, ne_eqb, lit<}
use Rattle.std.specs.Prelude.{◌≡◌, refl, Bool, true, false, cond, T, eqb, ltb, Float}
use Rattle.std.specs.Float.{nan, inf, fin, Format, binary32}
use Rattle.std.specs.Float.Ieee.{prec, low, emax, size, nearest, round, odd}
use Rattle.std.specs.Float.Ieee.Order.{round_mono}
use Rattle.std.specs.Float.Ieee.Positive.{positive, above, above_of_le}
use Rattle.description_parser.specs.Language.{is_zero}

-- the sign does not count
signless_odd : (b s : Bool) (d q k l : ℕ) → is_zero (cond b (odd d s q k l) (inf s)) ≡ is_zero (cond b (odd d false q k l) (inf false))
unfolding odd
signless_odd true s d zero k l = refl
signless_odd true s d (suc q) k l = refl
signless_odd false s d q k l = refl

signless : (f : Format) (s : Bool) (a c : ℕ) → is_zero (round f s a c) ≡ is_zero (round f false a c)
unfolding round
signless f s a c =
    let n = a * 2 ^ low f in
    let k = size (n / c) - prec f in
    let u = c * 2 ^ k in
    let q = nearest (n / u) (compare (n % u * 2) u) in
    signless_odd (ltb (q * 2 ^ k) (2 ^ (low f + suc (emax f)))) s (suc (prec f)) q k (low f)

not-zero : (x : Float) → T (above x) → is_zero x ≡ false
not-zero nan h = absurd h
not-zero (inf s) h = refl
not-zero (fin true m e) h = absurd h
not-zero (fin false zero e) h = absurd h
not-zero (fin false (suc m) e) h = refl

least : T (positive (round binary32 false 1 (10 ^ 7)))
unfolding round
least = tt

pub rounds_to_zero : (s : Bool) (q : ℕ) → is_zero (round binary32 s q (10 ^ 7)) ≡ eqb q 0
unfolding round
rounds_to_zero s zero = refl
rounds_to_zero s (suc q) =
    signless binary32 s (suc q) (10 ^ 7)
    ∙ not-zero (round binary32 false (suc q) (10 ^ 7))
    (above_of_le (round binary32 false 1 (10 ^ 7)) (round binary32 false (suc q) (10 ^ 7)) least
    (round_mono binary32 1 (10 ^ 7) (suc q) (10 ^ 7) (lit< tt) (lit< tt) (more q)))
    ∙ sym (ne_eqb (suc q) 0 (λ e. some q e))
  where
    more : (q : ℕ) → 1 * 10 ^ 7 ≤ suc q * 10 ^ 7
    more q = omega arith

    some : (q : ℕ) → suc q ≡ 0 → ⊥
    some q e = omega arith
