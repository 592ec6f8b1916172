-- The scanner of a float finds exactly the texts of floats. Assumes nothing.
use Rattle.std.specs.Prelude.{ℕ, zero, suc, ◌+◌, ◌-◌, ◌*◌, ◌/◌, ◌%◌, ◌^◌, ◌≤◌, ◌<◌, ◌≡◌, refl, Bool, true, false, cond, ◌&&◌, List, [], ◌∷◌, ◌++◌, leb, ltb, eqb, Float, drop}
use Rattle.std.proofs.Common.{arith, sym, ap, ap₂, ◌∙◌, ⊎_elim, append_assoc, ltb-true, ltb-false, leb-true, le-leb, lt-ltb, eq-eqb, ne_eqb, eqb→eq}
use Rattle.std.specs.Float.{binary32}
use Rattle.std.specs.Float.Ieee.{round}
use Rattle.buffer.specs.Ascii.{ascii}
use Rattle.buffer.specs.BoolLaws.{holds, both_left, both_right, never, true≢false}
use Rattle.digits.specs.Digits.{digit, digits, last_digits}
use Rattle.digits.specs.DigitsLaws.{digits_small, digits_append}
use Rattle.decimal.specs.Seven.{minus, with_point}
use Rattle.decimal_parser.specs.FloatText.{FloatText}
use Rattle.scanner.specs.Scan.{Found, nothing, found, and_then, or_else, starts_with}
use Rattle.scanner.specs.ScanLaws.{nothing≢found, same_value, same_rest, kept, kept-not, Steps, steps, either, Past, past, Front, Finds, Holds, Exact, glue, starts_split}
use Rattle.decimal_parser.specs.ParseFloat.{is_digit, one_digit, more_digits, point, whole_part, unsigned, with_sign, float}

-- ---- one digit

is_digit_lem : (d : ℕ) → d < 10 → is_digit (digit d) ≡ true
is_digit_lem d h = ap₂ (λ (s t : Bool). s && t) (le-leb 48 (48 + d) (omega arith)) (lt-ltb (48 + d) 58 (omega arith))

one_finds : (a d : ℕ) (r : List ℕ) → d < 10 → one_digit a (digit d ∷ r) ≡ found (a * 10 + d) r
one_finds a d r h = ap (λ (t : Bool). cond t (found (a * 10 + (48 + d - 48)) r) nothing) (is_digit_lem d h) ∙ ap (λ (n : ℕ). found (a * 10 + n) r) (back d)
  where
    back : (d : ℕ) → 48 + d - 48 ≡ d
    back d = omega arith

record Digit (a q : ℕ) (l r : List ℕ) : Type 0 where
  d : ℕ
  small : d < 10
  value : q ≡ a * 10 + d
  split : l ≡ digit d ∷ r

one_holds : (a q : ℕ) (l r : List ℕ) → one_digit a l ≡ found q r → Digit a q l r
one_holds a q [] r e = absurd (nothing≢found e)
one_holds a q (c ∷ l) r e = go (kept (is_digit c) (found (a * 10 + (c - 48)) l) e)
  where
    go : (is_digit c ≡ true) × (found (a * 10 + (c - 48)) l ≡ found q r) → Digit a q (c ∷ l) r
    go (t, h) =
        let low : 48 ≤ c = leb-true 48 c (both_left (leb 48 c) (ltb c 58) t) in
        let high : c < 58 = ltb-true c 58 (both_right (leb 48 c) (ltb c 58) t) in
        let whole : c ≡ 48 + (c - 48) = omega arith in
        record {
          d = c - 48;
          small = omega arith;
          value = sym (same_value h);
          split = ap₂ (λ (x : ℕ) (m : List ℕ). x ∷ m) whole (same_rest h);
        }

-- ---- k digits

-- q without its last k digits
abbrev without : ℕ → ℕ → ℕ
without zero q = q
without (suc k) q = without k (q / 10)

more_finds : (k q : ℕ) (r : List ℕ) → more_digits k (without k q) (last_digits k q ++ r) ≡ found q r
unfolding more_digits last_digits
more_finds zero q r = refl
more_finds (suc k) q r =
    ap (λ (l : List ℕ). and_then (more_digits k (without k (q / 10)) l) one_digit) (append_assoc (last_digits k (q / 10)) (digit (q % 10) ∷ []) r)
    ∙ ap (λ (f : Found ℕ). and_then f one_digit) (more_finds k (q / 10) (digit (q % 10) ∷ r))
    ∙ one_finds (q / 10) (q % 10) r (omega arith)
    ∙ ap (λ (n : ℕ). found n r) (both q)
  where
    both : (q : ℕ) → q / 10 * 10 + q % 10 ≡ q
    both q = omega arith

more_holds : (k w q : ℕ) (l r : List ℕ) → more_digits k w l ≡ found q r → (w ≡ without k q) × (l ≡ last_digits k q ++ r)
unfolding more_digits last_digits
more_holds zero w q l r e = (same_value e, same_rest e)
more_holds (suc k) w q l r e = go (steps (more_digits k w l) one_digit e) (λ a m h. more_holds k w a l m h)
  where
    go : Steps (more_digits k w l) one_digit q r → ((a : ℕ) (m : List ℕ) → more_digits k w l ≡ found a m → (w ≡ without k a) × (l ≡ last_digits k a ++ m))
        → (w ≡ without k (q / 10)) × (l ≡ last_digits k (q / 10) ++ (digit (q % 10) ∷ []) ++ r)
    go s ih =
        let a = s.value in
        let g : Digit a q s.rest r = one_holds a q s.rest r s.second in
        let h : (w ≡ without k a) × (l ≡ last_digits k a ++ s.rest) = ih a s.rest s.first in
        let small = g.small in
        let value = g.value in
        let up : a ≡ q / 10 = omega arith in
        let low : g.d ≡ q % 10 = omega arith in (
          h.0 ∙ ap (without k) up,
          glue (last_digits k (q / 10)) (digit (q % 10) ∷ []) r (h.1 ∙ ap (λ (x : ℕ). last_digits k x ++ s.rest) up) (g.split ∙ ap (λ (x : ℕ). digit x ∷ r) low),
        )

-- ---- the whole part and the point

two_digits : (w : ℕ) → 10 ≤ w → w < 100 → digits w ≡ digit (w / 10) ∷ (digit (w % 10) ∷ [])
unfolding last_digits
two_digits w h g =
    ap digits (both w)
    ∙ digits_append 1 (w / 10) (w % 10) (omega arith) (omega arith)
    ∙ ap₂ (λ (x : List ℕ) (d : ℕ). x ++ (digit d ∷ [])) (digits_small (w / 10) (omega arith)) (once w)
  where
    both : (w : ℕ) → w ≡ w / 10 * 10 ^ 1 + w % 10
    both w = omega arith

    once : (w : ℕ) → w % 10 % 10 ≡ w % 10
    once w = omega arith

-- what is found after the first digit
abbrev second : ℕ → List ℕ → Found ℕ
second a m = or_else (point a m) (cond (eqb a 0) nothing (and_then (one_digit a m) point))

second_finds : (a d : ℕ) (r : List ℕ) → 0 < a → d < 10 → second a (digit d ∷ (46 ∷ r)) ≡ found (a * 10 + d) r
second_finds a d r p h =
    ap₂ (λ (s t : Bool). or_else (cond (s && true) (found a (46 ∷ r)) nothing) (cond t nothing (and_then (one_digit a (digit d ∷ (46 ∷ r))) point))) (ne_eqb 46 (48 + d) (λ e. no_point d e))
    (ne_eqb a 0 (λ e. no_zero a p e))
    ∙ ap (λ (f : Found ℕ). and_then f point) (one_finds a d (46 ∷ r) h)
  where
    no_point : (d : ℕ) → 46 ≡ 48 + d → ⊥
    no_point d e = omega arith

    no_zero : (a : ℕ) → 0 < a → a ≡ 0 → ⊥
    no_zero a p e = omega arith

whole_finds : (w : ℕ) (r : List ℕ) → w < 100 → whole_part (digits w ++ (46 ∷ r)) ≡ found w r
unfolding whole_part
whole_finds w r h = go (ltb w 10) refl
  where
    small : w < 10 → whole_part (digits w ++ (46 ∷ r)) ≡ found w r
    small g = ap (λ (t : List ℕ). whole_part (t ++ (46 ∷ r))) (digits_small w g) ∙ ap (λ (f : Found ℕ). and_then f second) (one_finds 0 w (46 ∷ r) g) ∙ ap (λ (n : ℕ). found n r) (alone w)
      where
        alone : (w : ℕ) → 0 * 10 + w ≡ w
        alone w = omega arith

    large : 10 ≤ w → whole_part (digits w ++ (46 ∷ r)) ≡ found w r
    large g =
        ap (λ (t : List ℕ). whole_part (t ++ (46 ∷ r))) (two_digits w g h)
        ∙ ap (λ (f : Found ℕ). and_then f second) (one_finds 0 (w / 10) (digit (w % 10) ∷ (46 ∷ r)) (omega arith))
        ∙ second_finds (0 * 10 + w / 10) (w % 10) r (omega arith) (omega arith)
        ∙ ap (λ (n : ℕ). found n r) (both w)
      where
        both : (w : ℕ) → (0 * 10 + w / 10) * 10 + w % 10 ≡ w
        both w = omega arith

    go : (t : Bool) → ltb w 10 ≡ t → whole_part (digits w ++ (46 ∷ r)) ≡ found w r
    go true e = small (ltb-true w 10 e)
    go false e = large (ltb-false w 10 e)

abbrev Whole : ℕ → List ℕ → List ℕ → Type 0
Whole w l r = (w < 100) × (l ≡ digits w ++ (46 ∷ r))

whole_holds : (w : ℕ) (l r : List ℕ) → whole_part l ≡ found w r → Whole w l r
unfolding whole_part
whole_holds w l r e = first (steps (one_digit 0 l) second e)
  where
    one : (a w : ℕ) (m : List ℕ) → Digit 0 a l m → Past (ascii ".") (found a) m w r → Whole w l r
    one a w m g p =
        let small = g.small in
        let value = g.value in
        let same : a ≡ w = same_value p.second in
        let under : w < 10 = omega arith in
        let is : g.d ≡ w = omega arith in (
          omega arith,
          g.split ∙ ap₂ (λ (x : ℕ) (y : List ℕ). digit x ∷ y) is (p.split ∙ ap (λ (x : List ℕ). 46 ∷ x) (same_rest p.second)) ∙ ap (λ (x : List ℕ). x ++ (46 ∷ r)) (sym (digits_small w under)),
        )

    two : (a b w : ℕ) (m n : List ℕ) → (a ≡ 0 → ⊥) → Digit 0 a l m → Digit a b m n → Past (ascii ".") (found b) n w r → Whole w l r
    two a b w m n some g g' p =
        let small = g.small in
        let small' = g'.small in
        let value = g.value in
        let value' = g'.value in
        let same : b ≡ w = same_value p.second in
        let under : w < 100 = omega arith in
        let over : 10 ≤ w = omega arith in
        let high : g.d ≡ w / 10 = omega arith in
        let low : g'.d ≡ w % 10 = omega arith in (
          under,
          g.split ∙ ap (λ (x : List ℕ). digit g.d ∷ x) (g'.split ∙ ap (λ (x : List ℕ). digit g'.d ∷ x) (p.split ∙ ap (λ (x : List ℕ). 46 ∷ x) (same_rest p.second)))
              ∙ ap₂ (λ (x y : ℕ). digit x ∷ (digit y ∷ (46 ∷ r))) high low
              ∙ ap (λ (x : List ℕ). x ++ (46 ∷ r)) (sym (two_digits w over under)),
        )

    later : (a : ℕ) (m : List ℕ) → Digit 0 a l m → (eqb a 0 ≡ false) × (and_then (one_digit a m) point ≡ found w r) → Whole w l r
    later a m g (t, h) =
        let s : Steps (one_digit a m) point w r = steps (one_digit a m) point h in
        two a s.value w m s.rest (λ z. true≢false (sym (eq-eqb a 0 z) ∙ t)) g (one_holds a s.value m s.rest s.first) (past (ascii ".") (found s.value) s.rest w r s.second)

    first : Steps (one_digit 0 l) second w r → Whole w l r
    first s =
        let a = s.value in
        let m = s.rest in
        let g : Digit 0 a l m = one_holds 0 a l m s.first in
        ⊎_elim (λ (h : point a m ≡ found w r). one a w m g (past (ascii ".") (found a) m w r h))
        (λ (h : cond (eqb a 0) nothing (and_then (one_digit a m) point) ≡ found w r). later a m g (kept-not (eqb a 0) (and_then (one_digit a m) point) h))
        (either (point a m) (cond (eqb a 0) nothing (and_then (one_digit a m) point)) s.second)

pub whole_below : (l : List ℕ) {w : ℕ} {r : List ℕ} → whole_part l ≡ found w r → w < 100
whole_below l {w} {r} e = (whole_holds w l r e).0

-- ---- the number times 10 ^ 7

seven : (q : ℕ) → without 7 q ≡ q / 10 ^ 7
seven q = omega arith

unsigned_finds : (q : ℕ) (r : List ℕ) → q < 10 ^ 9 → unsigned (with_point q ++ r) ≡ found q r
unfolding unsigned with_point
unsigned_finds q r h =
    ap unsigned (append_assoc (digits (q / 10 ^ 7)) (46 ∷ last_digits 7 q) r)
    ∙ ap (λ (f : Found ℕ). and_then f (more_digits 7)) (whole_finds (q / 10 ^ 7) (last_digits 7 q ++ r) (omega arith))
    ∙ ap (λ (w : ℕ). more_digits 7 w (last_digits 7 q ++ r)) (sym (seven q))
    ∙ more_finds 7 q r

pub unsigned_holds : (q : ℕ) (l r : List ℕ) → unsigned l ≡ found q r → (q < 10 ^ 9) × (l ≡ with_point q ++ r)
unfolding unsigned with_point
unsigned_holds q l r e = go (steps (whole_part l) (more_digits 7) e)
  where
    go : Steps (whole_part l) (more_digits 7) q r → (q < 10 ^ 9) × (l ≡ with_point q ++ r)
    go s =
        let w = s.value in
        let h : Whole w l s.rest = whole_holds w l s.rest s.first in
        let g : (w ≡ without 7 q) × (s.rest ≡ last_digits 7 q ++ r) = more_holds 7 w q s.rest r s.second in
        let is : w ≡ q / 10 ^ 7 = g.0 ∙ seven q in
        let under : w < 100 = h.0 in (
          omega arith,
          glue (digits (q / 10 ^ 7)) (46 ∷ last_digits 7 q) r (h.1 ∙ ap (λ (x : ℕ). digits x ++ (46 ∷ s.rest)) is) (ap (λ (x : List ℕ). 46 ∷ x) g.1),
        )

-- ---- the float

with_sign_finds : (s : Bool) (q : ℕ) (r : List ℕ) → q < 10 ^ 9 → with_sign s (with_point q ++ r) ≡ found (round binary32 s q (10 ^ 7)) r
unfolding with_sign
with_sign_finds s q r h = ap (λ (f : Found ℕ). and_then f (λ (q : ℕ). found (round binary32 s q (10 ^ 7)))) (unsigned_finds q r h)

-- a minus is no digit
no_minus : (l : List ℕ) → starts_with (ascii "-") l ≡ true → unsigned l ≡ nothing
unfolding unsigned
no_minus [] e = absurd (holds e)
no_minus (c ∷ l) e = ap (λ (x : ℕ). unsigned (x ∷ l)) (sym (eqb→eq 45 c (holds (both_left (eqb 45 c) true e))))

plain : (q : ℕ) (r : List ℕ) → q < 10 ^ 9 → starts_with (ascii "-") (with_point q ++ r) ≡ false
plain q r h = never (starts_with (ascii "-") (with_point q ++ r)) (λ e. nothing≢found (sym (no_minus (with_point q ++ r) e) ∙ unsigned_finds q r h))

float_finds : Finds FloatText float
unfolding float
float_finds x t r f = ap (λ (u : List ℕ). float (u ++ r)) f.letters ∙ go f.negative ∙ ap (λ (y : Float). found y r) (sym f.value)
  where
    go : (s : Bool) → float (minus s ++ with_point f.q ++ r) ≡ found (round binary32 s f.q (10 ^ 7)) r
    go true = with_sign_finds true f.q r f.below
    go false = rw (plain f.q r f.below) (with_sign_finds false f.q r f.below)

with_sign_holds : (s : Bool) (l : List ℕ) (x : Float) (r m : List ℕ) → m ≡ minus s ++ l → with_sign s l ≡ found x r → Front FloatText x m r
unfolding with_sign
with_sign_holds s l x r m p e = go (steps (unsigned l) (λ (q : ℕ). found (round binary32 s q (10 ^ 7))) e)
  where
    go : Steps (unsigned l) (λ (q : ℕ). found (round binary32 s q (10 ^ 7))) x r → Front FloatText x m r
    go k =
        let q = k.value in
        let h : (q < 10 ^ 9) × (l ≡ with_point q ++ k.rest) = unsigned_holds q l k.rest k.first in
        record {
          text = minus s ++ with_point q;
          is = record { negative = s; q = q; below = h.0; value = sym (same_value k.second); letters = refl };
          split = glue (minus s) (with_point q) r p (h.1 ∙ ap (λ (u : List ℕ). with_point q ++ u) (same_rest k.second));
        }

float_holds : Holds FloatText float
unfolding float
float_holds l x r e = go (starts_with (ascii "-") l) refl e
  where
    go : (t : Bool) → starts_with (ascii "-") l ≡ t → cond t (with_sign true (drop 1 l)) (with_sign false l) ≡ found x r → Front FloatText x l r
    go true p e = with_sign_holds true (drop 1 l) x r l (starts_split (ascii "-") l p) e
    go false p e = with_sign_holds false l x r l refl e

pub float_exact : Exact FloatText float
float_exact = record { finds = float_finds; holds = float_holds }
