-- Each of the reader's tests is true exactly if what it tests holds. Assumes nothing.
use Rattle.std.specs.Prelude.{ℕ, ◌≡◌, refl, true, ◌||◌, List, [], ◌∷◌, leb, eqb, ℤ, nat_abs, Option, Some, None}
use Rattle.std.proofs.Common.{le-leb, leb→le, arith}
use Rattle.std.proofs.lemmas.Bool.Decides.{nat_tests}
use Rattle.numbers.specs.Fixed.{largest}
use Rattle.buffer.specs.All.{All, none, more}
use Rattle.buffer.specs.BoolLaws.{holds, both, both_left, both_right}
use Rattle.profile.specs.Plan.{Content, gray, rgb, xyb, InRange, GoodCurve, GoodCicp, GoodWhite, GoodContent, CicpPrimaries}
use Rattle.profile.specs.Numbers.{numbers_with, numbers_for}
use Rattle.profile.specs.declared.GrayWhite.{GrayWhite}
use Rattle.profile.specs.declared.GrayWhite.TheVariants.{Unadapted, Adapted}
use Rattle.profile.specs.declared.Curve.{Curve}
use Rattle.profile.specs.declared.Curve.TheVariants.{Named, Gamma}
use Rattle.profile.specs.declared.CurveName.{CurveName}
use Rattle.reader_spec.specs.Decide.{in_range_lem}
use Rattle.reader_spec.specs.DecideLaws.{decided_yes, decided_if, decided_test}
use Rattle.reader_spec.specs.Tests

-- ---- numbers

in_range_if : (z : ℤ) → Tests.in_range z ≡ true → InRange z
in_range_if z e = decided_if (in_range_lem z) e

in_range_of : (z : ℤ) → InRange z → Tests.in_range z ≡ true
in_range_of z h = decided_yes (in_range_lem z) h

-- by a comparison
pub in_range_leb : (z : ℤ) → leb (nat_abs z) largest ≡ Tests.in_range z
in_range_leb z = decided_test (in_range_lem z) (leb (nat_abs z) largest) (λ e. leb→le (nat_abs z) largest (holds e)) (λ h. le-leb (nat_abs z) largest h)

all_in_range_if : (zs : List ℤ) → Tests.all_in_range zs ≡ true → All InRange zs
unfolding Tests.all_in_range
all_in_range_if [] e = none
all_in_range_if (z ∷ zs) e =
    more (in_range_if z (both_left (Tests.in_range z) (Tests.all_in_range zs) e)) (all_in_range_if zs (both_right (Tests.in_range z) (Tests.all_in_range zs) e))

all_in_range_of : {zs : List ℤ} → All InRange zs → Tests.all_in_range zs ≡ true
unfolding Tests.all_in_range
all_in_range_of none = refl
all_in_range_of (more {a = z} h hs) = rw (in_range_of z h) (all_in_range_of hs)

curve_in_range_if : (c : Curve) → Tests.curve_in_range c ≡ true → GoodCurve InRange c
curve_in_range_if (Named n) e = tt
curve_in_range_if (Gamma g) e = in_range_if g e

curve_in_range_of : (c : Curve) → GoodCurve InRange c → Tests.curve_in_range c ≡ true
curve_in_range_of (Named n) h = refl
curve_in_range_of (Gamma g) h = in_range_of g h

-- ---- `cicp`

value_if : (v : ℕ) → (eqb v 1 || (eqb v 9 || (eqb v 11 || eqb v 12))) ≡ true → CicpPrimaries v
value_if v e = grind (arith, nat_tests)

value_of : (v : ℕ) → CicpPrimaries v → (eqb v 1 || (eqb v 9 || (eqb v 11 || eqb v 12))) ≡ true
value_of v h = grind (arith, nat_tests)

pub cicp_if : (n : CurveName) (v : Option ℕ) → Tests.cicp_good v ≡ true → GoodCicp (Named n) v
cicp_if n None e = tt
cicp_if n (Some v) e = value_if v e

pub cicp_of_lem : (c : Curve) (v : Option ℕ) → GoodCicp c v → Tests.cicp_good v ≡ true
cicp_of_lem c None h = refl
cicp_of_lem (Named n) (Some v) h = value_of v h
cicp_of_lem (Gamma g) (Some v) h = absurd h

-- ---- the numbers of a plan that is one but for their range

white_in_range_if : (N : ℤ → Type 0) (w : GrayWhite) → GoodWhite N w → Tests.white_in_range w ≡ true → GoodWhite InRange w
white_in_range_if N (Unadapted x z) h e = (in_range_if x (both_left _ _ e), in_range_if z (both_right (Tests.in_range x) _ e))
white_in_range_if N (Adapted m) h e = (h.0, all_in_range_if m e)

white_in_range_of : (w : GrayWhite) → GoodWhite InRange w → Tests.white_in_range w ≡ true
white_in_range_of (Unadapted x z) h = both (in_range_of x h.0) (in_range_of z h.1)
white_in_range_of (Adapted m) h = all_in_range_of h.1

module _ (N : ℤ → Type 0) (a b i : ℕ) where
  pub in_range_content : (c : Content) → GoodContent N c → Tests.numbers_in_range (numbers_with a b (numbers_for i c)) ≡ true → GoodContent InRange c
  unfolding Tests.numbers_in_range
  in_range_content (gray g) h e =
      record {
        text = h.text;
        curve = curve_in_range_if g.curve (both_left _ _ e);
        white = white_in_range_if N g.white h.white (both_right (Tests.curve_in_range g.curve) _ e);
      }
  in_range_content (rgb g) h e =
      let r = both_right (Tests.curve_in_range g.curve) _ e in
      record {
        text = h.text;
        curve = curve_in_range_if g.curve (both_left _ _ e);
        chad_nine = h.chad_nine;
        chad = all_in_range_if g.chad (both_left _ _ r);
        columns_nine = h.columns_nine;
        columns = all_in_range_if g.columns (both_right (Tests.all_in_range g.chad) _ r);
        cicp = h.cicp;
      }
  in_range_content xyb h e = tt

pub content_in_range : (a b i : ℕ) (c : Content) → GoodContent InRange c → Tests.numbers_in_range (numbers_with a b (numbers_for i c)) ≡ true
unfolding Tests.numbers_in_range
content_in_range a b i (gray g) h = both (curve_in_range_of g.curve h.curve) (white_in_range_of g.white h.white)
content_in_range a b i (rgb g) h = both (curve_in_range_of g.curve h.curve) (both (all_in_range_of h.chad) (all_in_range_of h.columns))
content_in_range a b i xyb h = refl
