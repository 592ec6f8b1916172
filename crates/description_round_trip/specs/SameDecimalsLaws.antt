-- The seven decimals of a binary32 value with at most two whole digits are read as a float that prints the same: the float nearest to a decimal is at
-- least as near to it as the value that was printed. Assumes nothing.
use Rattle.std.specs.Prelude.{◌≡◌, Bool, true, false, ◌++◌, ℕ, ◌-◌, ◌*◌, ◌^◌, ◌≤◌, ◌<◌, T, ℤ, Float}
use Rattle.std.proofs.Common.{sym, ap, ap₂, ◌∙◌, subst, le_trans, le_of_eq, le_antisymm, lt_of_lt_of_le, le_of_mul-le-mul_right, mul_comm, mul_right_comm, mul-le-mul_right, add_comm, lit<, lit≤}
use Rattle.std.specs.Float.{nan, inf, fin, binary32}
use Rattle.std.specs.Float.Ieee.{up, down, fits}
use Rattle.std.specs.Float.Ieee.Fits.{down_pos}
use Rattle.std.specs.Float.Ieee.Nearest.{closest}
use Rattle.decimal.specs.Seven.{minus, with_point, seven_decimals}
use Rattle.description_laws.specs.Distance.{away, distance, Nearest}
use Rattle.description_laws.specs.NearestLaws.{round-nearest}
use Rattle.description_round_trip.specs.TwoDigits.{ten_millionths, TwoDigits}
use Rattle.description_round_trip.specs.AsRead.{float_as_read}
use Rattle.description_round_trip.specs.ClosestLaws.{Half, closest-half, closest-is}

-- The whole number q is the nearest to n / d. If k / c is at least as near to q as n / d, q is the nearest to k / c too.
module _ (q n d k c : ℕ) (D : 0 < d) (C : 0 < c) (h : Half n d q) (nearer : away (q * c) k * d ≤ away (q * d) n * c) where
  abbrev far : ℕ
  far = away n (q * d)

  abbrev near : ℕ
  near = away k (q * c)

  crosswise : near * 2 * d ≤ far * 2 * c
  crosswise =
      let once : near * d ≤ far * c = rw (turn k (q * c), turn n (q * d)) nearer in
      le_trans (le_of_eq (mul_right_comm near 2 d)) (le_trans (mul-le-mul_right 2 once) (le_of_eq (mul_right_comm far c 2)))
    where
      turn : (x y : ℕ) → away x y ≡ away y x
      turn x y = add_comm (x - y) (y - x)

  still_half : Half k c q
  still_half =
      record {
        most = le_of_mul-le-mul_right (le_trans crosswise (le_trans (mul-le-mul_right c h.most) (le_of_eq (mul_comm d c)))) D;
        even = λ e. h.even (le_antisymm h.most (at_least e));
      }
    where
      at_least : near * 2 ≡ c → d ≤ far * 2
      at_least e = le_of_mul-le-mul_right (le_trans (le_of_eq (mul_comm d c ∙ ap (λ (x : ℕ). x * d) (sym e))) crosswise) C

-- m * 2 ^ e, which was printed, and k * 2 ^ g, which is at least as near to the decimal
same_millionths : (m k : ℕ) (e g : ℤ)
    → away (ten_millionths m e * down g) (k * up g * 10 ^ 7) * down e ≤ away (ten_millionths m e * down e) (m * up e * 10 ^ 7) * down g
    → ten_millionths k g ≡ ten_millionths m e
same_millionths m k e g h =
    let n = m * up e * 10 ^ 7 in
    closest-is (k * up g * 10 ^ 7) (down g) (down_pos g) (closest n (down e))
    (still_half (closest n (down e)) n (down e) (k * up g * 10 ^ 7) (down g) (down_pos e) (down_pos g) (closest-half n (down e) (down_pos e)) h)

-- the same for floats with their signs
abbrev Nearer : Bool → ℕ → ℤ → Bool → ℕ → ℤ → Type 0
Nearer s m e t k g = distance s (ten_millionths m e) (10 ^ 7) (fin t k g) * down e ≤ distance s (ten_millionths m e) (10 ^ 7) (fin s m e) * down g

signless : (s : Bool) (m k : ℕ) (e g : ℤ) → Nearer s m e s k g → ten_millionths k g ≡ ten_millionths m e
signless true m k e g h = same_millionths m k e g h
signless false m k e g h = same_millionths m k e g h

nearest-again : (s : Bool) (m : ℕ) (e : ℤ) (y : Float) → T (fits binary32 (fin s m e)) → Nearest binary32 s (ten_millionths m e) (10 ^ 7) y
    → seven_decimals y ≡ minus s ++ with_point (ten_millionths m e)
unfolding seven_decimals
nearest-again s m e nan f h = absurd h.value
nearest-again s m e (inf t) f h = absurd h.value
nearest-again s m e (fin t k g) f h =
    ap₂ (λ (b : Bool) (n : ℕ). minus b ++ with_point n) h.signed
    (signless s m k e g (subst (λ (u : Bool). Nearer s m e u k g) h.signed (h.least (fin s m e) tt f)))

pub decimals_again : (x : Float) → T (fits binary32 x) → TwoDigits x → seven_decimals (float_as_read x) ≡ seven_decimals x
unfolding seven_decimals
decimals_again nan f h = absurd h
decimals_again (inf s) f h = absurd h
decimals_again (fin s m e) f h =
    nearest-again s m e (float_as_read (fin s m e)) f (round-nearest s (ten_millionths m e) (10 ^ 7) (lit< tt) (lt_of_lt_of_le h (lit≤ tt)))
