-- Every shape that there is has a plan. Assumes nothing.
use Rattle.std.specs.Prelude.{ℕ, ◌≤◌, ◌≡◌, refl, Bool, true, false, pos, replicate, Option, Some, None}
use Rattle.std.proofs.Common.{◌∙◌, inl, arith}
use Rattle.std.proofs.lemmas.List.{length-replicate}
use Rattle.buffer.specs.AllLaws.{All-replicate}
use Rattle.profile.specs.Plan.{max_letters, Plan, GoodWhite, Content, gray, rgb, xyb, plain_plan, kind_of, GoodText, GoodCurve, GoodCicp, GoodContent, InRange, Valid}
use Rattle.profile.specs.declared.GrayWhite.{GrayWhite}
use Rattle.profile.specs.declared.GrayWhite.TheVariants.{Unadapted, Adapted}
use Rattle.profile.specs.declared.Kind.{Kind}
use Rattle.profile.specs.declared.Kind.TheVariants.{Gray, Rgb, Xyb}
use Rattle.profile.specs.PlanLaws.{good_nines, slots_shape}
use Rattle.profile.specs.Layout.{slots}
use Rattle.profile.specs.Shape.{shape_of, slots_of, NotBoth, GoodShape}
use Rattle.profile.specs.declared.Shape.{Shape}
use Rattle.profile.specs.declared.CurveName.TheVariants.{SRGB}
use Rattle.profile.specs.declared.Curve.{Curve}
use Rattle.profile.specs.declared.Curve.TheVariants.{Named, Gamma}

abbrev curve_for : Bool → Curve
curve_for true = Gamma (pos 0)
curve_for false = Named SRGB

abbrev cicp_for : Bool → Option ℕ
cicp_for true = Some 1
cicp_for false = None

abbrev white_for : Bool → GrayWhite
white_for true = Adapted (replicate 9 (pos 0))
white_for false = Unadapted (pos 0) (pos 0)

abbrev content_for : Kind → ℕ → Bool → Bool → Bool → Content
content_for Gray n g v a = gray (record { text = replicate n 65; curve = curve_for g; white = white_for a })
content_for Rgb n g v a =
    rgb (record { text = replicate n 65; curve = curve_for g; chad = replicate 9 (pos 0); columns = replicate 9 (pos 0); cicp = cicp_for v })
content_for Xyb n g v a = xyb

-- a text of A's, every number zero
abbrev pub plain : Shape → Plan
plain s = plain_plan 0 (content_for s.kind s.letters s.gamma s.cicp s.adapted)

good_text : (n : ℕ) → 1 ≤ n → n ≤ max_letters → GoodText (replicate n 65)
good_text n p q = record { some-letter = rw length-replicate p; short = rw length-replicate q; ascii = All-replicate n 65 (omega arith) }

zero-in_range : InRange (pos 0)
zero-in_range = omega arith

good_curve : (g : Bool) → GoodCurve InRange (curve_for g)
good_curve true = zero-in_range
good_curve false = tt

good_cicp : (g v : Bool) → NotBoth v g → GoodCicp (curve_for g) (cicp_for v)
good_cicp true true r = r
good_cicp false true r = inl refl
good_cicp g false r = tt

good_white : (a : Bool) → GoodWhite InRange (white_for a)
good_white true = (refl, All-replicate 9 (pos 0) zero-in_range)
good_white false = (zero-in_range, zero-in_range)

good_content : (k : Kind) (n : ℕ) (g v a : Bool) → 1 ≤ n → n ≤ max_letters → NotBoth v g → GoodContent InRange (content_for k n g v a)
good_content Gray n g v a p q r = record { text = good_text n p q; curve = good_curve g; white = good_white a }
good_content Rgb n g v a p q r =
    record {
      text = good_text n p q;
      curve = good_curve g;
      chad_nine = refl;
      chad = All-replicate 9 (pos 0) zero-in_range;
      columns_nine = refl;
      columns = All-replicate 9 (pos 0) zero-in_range;
      cicp = good_cicp g v r;
    }
good_content Xyb n g v a p q r = tt

pub plain_valid : (s : Shape) → GoodShape s → Valid (plain s)
plain_valid s g =
    record {
      intent = omega arith;
      maker = omega arith;
      model = omega arith;
      content = good_content s.kind s.letters s.gamma s.cicp s.adapted g.some-letter g.short g.pair;
    }

kind_for : (k : Kind) (n : ℕ) (g v a : Bool) → kind_of (content_for k n g v a) ≡ k
kind_for Gray n g v a = refl
kind_for Rgb n g v a = refl
kind_for Xyb n g v a = refl

pub plain_kind : (s : Shape) → kind_of (plain s).content ≡ s.kind
plain_kind s = kind_for s.kind s.letters s.gamma s.cicp s.adapted

slots_for_lem : (k : Kind) (n : ℕ) (g v a : Bool)
    → slots_of (shape_of (content_for k n g v a)) ≡ slots_of (record { kind = k; letters = n; gamma = g; cicp = v; adapted = a })
unfolding slots_of
slots_for_lem Gray n true v true = simp length-replicate
slots_for_lem Gray n true v false = simp length-replicate
slots_for_lem Gray n false v true = simp length-replicate
slots_for_lem Gray n false v false = simp length-replicate
slots_for_lem Rgb n true true a = simp length-replicate
slots_for_lem Rgb n true false a = simp length-replicate
slots_for_lem Rgb n false true a = simp length-replicate
slots_for_lem Rgb n false false a = simp length-replicate
slots_for_lem Xyb n g v a = refl

pub plain_slots : (s : Shape) → GoodShape s → slots (plain s) ≡ slots_of s
plain_slots s g =
    slots_shape (plain s) (good_nines InRange (plain s).content (plain_valid s g).content)
    ∙ slots_for_lem s.kind s.letters s.gamma s.cicp s.adapted
