-- The steps of the scanners of floats, by places in the text. Assumes nothing.
use Rattle.std.specs.Prelude.{ℕ, zero, suc, ◌+◌, ◌-◌, ◌*◌, ◌^◌, ◌≤◌, ◌<◌, ◌≡◌, refl, ◌⊎◌, Bool, true, false, cond, List, [], ◌∷◌, leb, ltb, eqb, length, drop, Some, None}
use Rattle.std.proofs.Common.{eq-or-lt_of_le, pow-suc, le_of_suc-le-suc, le_trans, le_of_eq, add-one, ◌∙◌, subst, inl, inr, ltb-true, eq-eqb, ne_eqb, lit≤}
use Rattle.std.proofs.Math.Nat.{pow-le-pow_right}
use native.Mathlib.Omega.{arith}
use Rattle.std.proofs.Math.Path.{sym, ap}
use Rattle.buffer.specs.Ascii.{ascii}
use Rattle.buffer.specs.BoolLaws.{both_right}
use Rattle.scanner.specs.Scan.{Found, nothing, found, and_then, or_else, starts_with, after}
use Rattle.scanner.specs.Places.{behind}
use Rattle.scanner.specs.PlacesLaws.{drop-next, after_some, after_none}
use Rattle.decimal_parser.specs.ParseFloat.{is_digit, one_digit, more_digits, point, whole_part, with_sign, float}
use Rattle.decimal_parser.specs.FloatPlaces.{front_digit}

-- ---- one digit

pub one_found : (a : ℕ) (l : List ℕ) {d : ℕ} → Some d ≡ front_digit l → one_digit a l ≡ found (a * 10 + d) (drop 1 l)
one_found a [] h = cc
one_found a (c ∷ l) {d} h = go (is_digit c) h
  where
    go : (t : Bool) → Some d ≡ cond t (Some (c - 48)) None → cond t (found (a * 10 + (c - 48)) l) nothing ≡ found (a * 10 + d) l
    go true h = cc
    go false h = cc

pub one_missing : (a : ℕ) (l : List ℕ) → None ≡ front_digit l → one_digit a l ≡ nothing
one_missing a [] h = refl
one_missing a (c ∷ l) h = go (is_digit c) h
  where
    go : (t : Bool) → None ≡ cond t (Some (c - 48)) None → cond t (found (a * 10 + (c - 48)) l) nothing ≡ nothing
    go true h = cc
    go false h = refl

pub digit_below : (l : List ℕ) {d : ℕ} → Some d ≡ front_digit l → d < 10
digit_below [] h = cc
digit_below (c ∷ l) {d} h = go (is_digit c) refl h
  where
    go : (t : Bool) → is_digit c ≡ t → Some d ≡ cond t (Some (c - 48)) None → d < 10
    go true e h =
        let is : d ≡ c - 48 = cc in
        let high : c < 58 = ltb-true c 58 (both_right (leb 48 c) (ltb c 58) e) in
        omega arith
    go false e h = cc

-- where there is a digit, the text goes on
pub digit_within : (n : ℕ) (l : List ℕ) {d : ℕ} → Some d ≡ front_digit (drop n l) → n < length l
digit_within zero [] h = cc
digit_within zero (c ∷ l) h = omega arith
digit_within (suc n) [] h = cc
digit_within (suc n) (c ∷ l) h = let g : n < length l = digit_within n l h in omega arith

-- ---- the next of k digits

pub more_next : (k w q : ℕ) (l : List ℕ) (p : ℕ) (text : List ℕ) {d : ℕ} → more_digits k w l ≡ found q (drop p text) → Some d ≡ front_digit (drop p text)
    → more_digits (k + 1) w l ≡ found (q * 10 + d) (drop (p + 1) text)
unfolding more_digits
more_next k w q l p text {d} e h =
    ap (λ (n : ℕ). more_digits n w l) (add-one k)
    ∙ ap (λ (f : Found ℕ). and_then f one_digit) e
    ∙ one_found q (drop p text) h
    ∙ ap (found (q * 10 + d)) (drop-next p text)

more_none : (j k w : ℕ) (l : List ℕ) → j ≤ k → more_digits j w l ≡ nothing → more_digits k w l ≡ nothing
unfolding more_digits
more_none j zero w l h e = subst (λ (n : ℕ). more_digits n w l ≡ nothing) (none j h) e
  where
    none : (j : ℕ) → j ≤ 0 → j ≡ 0
    none j h = omega arith
more_none j (suc k) w l h e = go (eq-or-lt_of_le h) (λ g. more_none j k w l g e)
  where
    go : (j ≡ suc k) ⊎ (j < suc k) → (j ≤ k → more_digits k w l ≡ nothing) → more_digits (suc k) w l ≡ nothing
    go (inl s) ih = subst (λ (n : ℕ). more_digits n w l ≡ nothing) s e
    go (inr g) ih = ap (λ (f : Found ℕ). and_then f one_digit) (ih (le_of_suc-le-suc g))

pub more_stops : (j k w q : ℕ) (l : List ℕ) (p : ℕ) (text : List ℕ) → j < k → more_digits j w l ≡ found q (drop p text) → None ≡ front_digit (drop p text) → more_digits k w l ≡ nothing
unfolding more_digits
more_stops j k w q l p text h e g = more_none (suc j) k w l h (ap (λ (f : Found ℕ). and_then f one_digit) e ∙ one_missing q (drop p text) g)

-- ---- how large the number is

pub room : (i : ℕ) → i < 7 → 10 ^ (i + 2) ≤ 10 ^ 8
room i h = let le : i + 2 ≤ 8 = omega arith in pow-le-pow_right {n = 10} (lit≤ tt) le

pub next_room : (i q d : ℕ) → q < 10 ^ (i + 2) → d < 10 → q * 10 + d < 10 ^ (i + 1 + 2)
next_room i q d h g = le_trans (step q d (10 ^ (i + 2)) h g) (le_of_eq (sym (ap (λ (n : ℕ). 10 ^ n) (up i) ∙ pow-suc 10 (i + 2))))
  where
    step : (q d x : ℕ) → q < x → d < 10 → q * 10 + d < x * 10
    step q d x h g = omega arith

    up : (i : ℕ) → i + 1 + 2 ≡ suc (i + 2)
    up i = omega arith

-- ---- the whole part

-- what is found after the first digit a
abbrev second : ℕ → List ℕ → Found ℕ
second a m = or_else (point a m) (cond (eqb a 0) nothing (and_then (one_digit a m) point))

module _ (text : List ℕ) (at : ℕ) where
  pub no_digit : None ≡ front_digit (drop at text) → whole_part (drop at text) ≡ nothing
  unfolding whole_part
  no_digit h = ap (λ (f : Found ℕ). and_then f second) (one_missing 0 (drop at text) h)

  module _ {a : ℕ} (is : Some a ≡ front_digit (drop at text)) where
    -- behind the first digit
    abbrev m : List ℕ
    m = drop (at + 1) text

    first : whole_part (drop at text) ≡ second a m
    unfolding whole_part
    first =
        ap (λ (f : Found ℕ). and_then f second) (one_found 0 (drop at text) is)
        ∙ ap (λ (x : ℕ). second x (drop 1 (drop at text))) (alone a)
        ∙ ap (second a) (drop-next at text)
      where
        alone : (x : ℕ) → 0 * 10 + x ≡ x
        alone x = omega arith

    pub one_whole : (n : ℕ) → Some (drop n text) ≡ behind (ascii ".") m → whole_part (drop at text) ≡ found a (drop n text)
    one_whole n h = first ∙ ap (λ (f : Found ℕ). or_else f (cond (eqb a 0) nothing (and_then (one_digit a m) point))) (after_some (ascii ".") m (found a) h)

    module _ (no_point : None ≡ behind (ascii ".") m) where
      later : whole_part (drop at text) ≡ cond (eqb a 0) nothing (and_then (one_digit a m) point)
      later = first ∙ ap (λ (f : Found ℕ). or_else f (cond (eqb a 0) nothing (and_then (one_digit a m) point))) (after_none (ascii ".") m (found a) no_point)

      pub needless_zero : a ≡ 0 → whole_part (drop at text) ≡ nothing
      needless_zero z = later ∙ ap (λ (t : Bool). cond t nothing (and_then (one_digit a m) point)) (eq-eqb a 0 z)

      module _ (some : a ≡ 0 → ⊥) where
        next : whole_part (drop at text) ≡ and_then (one_digit a m) point
        next = later ∙ ap (λ (t : Bool). cond t nothing (and_then (one_digit a m) point)) (ne_eqb a 0 some)

        pub no_second : None ≡ front_digit m → whole_part (drop at text) ≡ nothing
        no_second h = next ∙ ap (λ (f : Found ℕ). and_then f point) (one_missing a m h)

        module _ {b : ℕ} (is_b : Some b ≡ front_digit m) where
          both : whole_part (drop at text) ≡ after (ascii ".") (found (a * 10 + b)) (drop (at + 2) text)
          both = next ∙ ap (λ (f : Found ℕ). and_then f point) (one_found a m is_b) ∙ ap (point (a * 10 + b)) (drop-next (at + 1) text ∙ ap (λ (n : ℕ). drop n text) (two at))
            where
              two : (n : ℕ) → n + 1 + 1 ≡ n + 2
              two n = omega arith

          pub two_whole : (n : ℕ) → Some (drop n text) ≡ behind (ascii ".") (drop (at + 2) text) → whole_part (drop at text) ≡ found (a * 10 + b) (drop n text)
          two_whole n h = both ∙ after_some (ascii ".") (drop (at + 2) text) (found (a * 10 + b)) h

          pub no_second_point : None ≡ behind (ascii ".") (drop (at + 2) text) → whole_part (drop at text) ≡ nothing
          no_second_point h = both ∙ after_none (ascii ".") (drop (at + 2) text) (found (a * 10 + b)) h

-- ---- the sign

module _ (l : List ℕ) where
  pub minus : {m : List ℕ} → Some m ≡ behind (ascii "-") l → float l ≡ with_sign true m
  unfolding float
  minus {m} = go (starts_with (ascii "-") l)
    where
      go : (t : Bool) → Some m ≡ cond t (Some (drop 1 l)) None → cond t (with_sign true (drop 1 l)) (with_sign false l) ≡ with_sign true m
      go true h = cc
      go false h = cc

  pub no_minus : None ≡ behind (ascii "-") l → float l ≡ with_sign false l
  unfolding float
  no_minus = go (starts_with (ascii "-") l)
    where
      go : (t : Bool) → None ≡ cond t (Some (drop 1 l)) None → cond t (with_sign true (drop 1 l)) (with_sign false l) ≡ with_sign false l
      go true h = cc
      go false h = refl
