-- What demand 2 stands on: the tests of `validate_icc_matrix` pass exactly where the numbers of the plan are given, and refuse by the same number.
-- Assumes nothing.
use Rattle.std.specs.Prelude.{Option, Some, None, Ok, Err, ℕ, ◌≤◌, ◌≡◌, Bool, true, cond, List, [], ◌∷◌, leb, length, ℤ, Float}
use Rattle.std.proofs.Math.Path.{refl, ap}
use Rattle.std.proofs.Common.{sym, ◌∙◌, arith, leb→le, le-leb}
use Rattle.std.proofs.Math.Bool.{false}
use Rattle.std.specs.Float.Ieee.{of_bits, lt, le, eq}
use Rattle.buffer.specs.All.{All, none, more}
use Rattle.buffer.specs.BoolLaws as Bools
use Rattle.buffer.specs.Checked.{Checked, is, refused, then, each}
use Rattle.buffer.specs.CheckedLaws.{Passes, never, both, Refusing, refusing, by_then, by_cond}
use Rattle.floats.specs.Binary32.{one}
use Rattle.numbers.specs.Fixed.{s15_fixed16, fixed_or}
use Rattle.numbers.specs.Rounded.{rounded_in, counted}
use Rattle.numbers.specs.declared.fixed.S15Fixed16.{S15Fixed16}
use Rattle.linalg.specs.Linalg.{component, rows, columns}
use Rattle.color_encoding.specs.Coordinates.{white_xy, primaries_xy}
use Rattle.color_encoding.specs.declared.RenderingIntent.{RenderingIntent}
use Rattle.color_encoding.specs.declared.WhiteXy.{WhiteXy}
use Rattle.color_encoding.specs.declared.PrimariesXy.{PrimariesXy}
use Rattle.color_encoding.specs.declared.JxlWhitePoint.{JxlWhitePoint}
use Rattle.color_encoding.specs.declared.JxlPrimaries.{JxlPrimaries}
use Rattle.color_encoding.specs.declared.JxlTransferFunction.{JxlTransferFunction}
use Rattle.color_encoding.specs.declared.JxlColorEncoding.{JxlColorEncoding}
use Rattle.color_encoding.specs.declared.JxlColorEncoding.TheVariants.{RgbColorSpace, GrayscaleColorSpace, XYB}
use Rattle.white_point.specs.GrayWhite.{cie_xyz_from_white_cie_xy}
use Rattle.white_point.specs.GrayWhiteLaws.{gray_white_lem}
use Rattle.adaptation.specs.Adapt.{chad_matrix}
use Rattle.colorimetry.specs.Primaries.{create_icc_rgb_matrix}
use Rattle.colorimetry.specs.RefusalLaws.{by_white, by_chad, by_rgb_matrix}
use Rattle.profile.specs.Plan.{Plan}
use Rattle.profile.specs.declared.GrayWhite.TheVariants.{Unadapted as unadapted}
use Rattle.profile.specs.Elements.{file_length, start, body_size, tag_count, padding}
use Rattle.profile.specs.Shape.{slots_of}
use Rattle.profile.specs.Layout.{layout}
use Rattle.profile.specs.LayoutLaws.{length-layout}
use Rattle.profile.specs.declared.Curve.{Curve}
use Rattle.encoding_plan.specs.Answers.{reciprocal_refusal}
use Rattle.encoding_plan.specs.PlanOf.{supported, curve_of, gray_numbers, gray_white, chad_numbers, column_numbers, xyb_plan, color_plan, plan_of}
use Rattle.encoding_plan.specs.FixedFloats.{color_floats, counted_color_plan, counted_plan}
use Rattle.encoding_plan.specs.FixedFloatsLaws.{xyb_count}
use Rattle.encoding_plan.specs.PlanOfLaws.{gray_plan_lem, rgb_plan_lem}
use Rattle.encoding_curve.specs.declared.SupportedCurve.{SupportedCurve}
use Rattle.validate.specs.Validate.{is_s15_fixed_16, all_s15_fixed_16, in_range_or, white_in_range, matrix_in_range, matrices_in_range, in_range, stands_for, error_at, validation, validate_icc_matrix}
use Rattle.writer.specs.Writer.{profile, answer, too_short}
use Rattle.writer_laws.specs.PlanLaws.{gray_parts, rgb_parts}
use Rattle.writer_laws.specs.RefusalList.{NeitherPqNorHlg, ReciprocalFits}
use Rattle.writer_laws.specs.RefusalListLaws.{Decides, passes, refuses}
use Rattle.writer_laws.specs.WriterAnswersLaws.{supported_decides, curve_decides}
use Rattle.demands.specs.FixedRangeLaws.{is_number, fixed_range}

-- ---- whether a check passed, without what it gave

abbrev passed : {A : Type 0} → Checked A → Checked (Unit {0})
passed c = then c (λ _. is tt)

passed_then : {A B : Type 0} (c : Checked A) (d : Checked B) → passed (then c (λ _. d)) ≡ then (passed c) (λ _. passed d)
passed_then (is a) d = refl
passed_then (refused n) d = refl

passed_after : {A B : Type 0} (c : Checked A) (d : Checked B) → passed (then c (λ _. d)) ≡ then c (λ _. passed d)
passed_after (is a) d = refl
passed_after (refused n) d = refl

passed_value : {A B : Type 0} (f : A → B) (c : Checked A) → passed (then c (λ a. is (f a))) ≡ passed c
passed_value f (is a) = refl
passed_value f (refused n) = refl

refused_as : {A B : Type 0} (c : Checked A) {n : ℕ} → passed c ≡ refused n → (f : A → Checked B) → then c f ≡ refused n
refused_as (is a) e f = absurd (never (sym e))
refused_as (refused k) {n} e f = let same : k ≡ n = cc in ap refused same

refused_after : {A B C : Type 0} (c : Checked A) (d : Checked B) {n : ℕ} → passed (then c (λ _. d)) ≡ refused n
    → (f : A → B → Checked C) → then c (λ a. then d (λ b. f a b)) ≡ refused n
refused_after (is a) d e f = refused_as d e (λ b. f a b)
refused_after (refused k) d {n} e f = let same : k ≡ n = cc in ap refused same

-- ---- the range test of floats, and their fixed numbers

each_tested : (n : ℕ) (xs : List Float) → passed (each (fixed_or n) xs) ≡ in_range_or n xs
each_tested n [] = refl
each_tested n (x ∷ xs) = go (s15_fixed16 x) refl (each_tested n xs)
  where
    go : (s : Option S15Fixed16) → s15_fixed16 x ≡ s → passed (each (fixed_or n) xs) ≡ in_range_or n xs → passed (each (fixed_or n) (x ∷ xs)) ≡ in_range_or n (x ∷ xs)
    go (Some s) h rest =
        let t : is_s15_fixed_16 x ≡ true = fixed_range x ∙ ap is_number h in
        simp (h, t) (passed_value (λ zs. s.number ∷ zs) (each (fixed_or n) xs) ∙ rest)
    go None h rest = let t : is_s15_fixed_16 x ≡ false = fixed_range x ∙ ap is_number h in simp (h, t)

abbrev Tested : Float → Type 0
Tested x = is_s15_fixed_16 x ≡ true

all_tested : (xs : List Float) → All Tested xs → all_s15_fixed_16 xs ≡ true
all_tested [] none = refl
all_tested (x ∷ xs) (more h hs) = Bools.both h (all_tested xs hs)

tested_all : (xs : List Float) → all_s15_fixed_16 xs ≡ true → All Tested xs
tested_all [] e = none
tested_all (x ∷ xs) e = more (Bools.both_left (is_s15_fixed_16 x) (all_s15_fixed_16 xs) e) (tested_all xs (Bools.both_right (is_s15_fixed_16 x) (all_s15_fixed_16 xs) e))

transposed : {a b c d e f g h i : Float} → All Tested (a ∷ d ∷ g ∷ b ∷ e ∷ h ∷ c ∷ f ∷ i ∷ []) → All Tested (a ∷ b ∷ c ∷ d ∷ e ∷ f ∷ g ∷ h ∷ i ∷ [])
transposed (more a (more d (more g (more b (more e (more h (more c (more f (more i none))))))))) =
    more a (more b (more c (more d (more e (more f (more g (more h (more i none))))))))

same_test : (a b : Bool) → (a ≡ true → b ≡ true) → (b ≡ true → a ≡ true) → a ≡ b
same_test true b f g = sym (f refl)
same_test false true f g = g refl
same_test false false f g = refl

by_columns : (m : List (List Float)) → all_s15_fixed_16 (columns m) ≡ all_s15_fixed_16 (rows m)
by_columns m =
    same_test (all_s15_fixed_16 (columns m)) (all_s15_fixed_16 (rows m))
    (λ t. all_tested (rows m) (transposed (tested_all (columns m) t)))
    (λ t. all_tested (columns m) (transposed (tested_all (rows m) t)))

-- ---- the tests of `validate_icc_matrix` are those of the plan's numbers

columns_tested : (p : PrimariesXy) (w : WhiteXy) → passed (column_numbers p w) ≡ matrix_in_range p w
columns_tested p w = go (create_icc_rgb_matrix p w)
  where
    go : (c : Checked (List (List Float))) → passed (then c (λ m. each (fixed_or 7) (columns m))) ≡ then c (λ m. in_range_or 7 (rows m))
    go (is m) = each_tested 7 (columns m) ∙ ap (λ b. cond b (is tt) (refused 7)) (by_columns m)
    go (refused n) = refl

rgb_tested : (p : PrimariesXy) (w : WhiteXy) → passed (then (chad_numbers w) (λ _. column_numbers p w)) ≡ matrices_in_range p w
rgb_tested p w = go (chad_matrix w)
  where
    go : (c : Checked (List (List Float)))
        → passed (then (then c (λ m. each (fixed_or 5) (rows m))) (λ _. column_numbers p w)) ≡ then c (λ m. then (in_range_or 5 (rows m)) (λ _. matrix_in_range p w))
    go (is m) = passed_then (each (fixed_or 5) (rows m)) (column_numbers p w) ∙ rw (each_tested 5 (rows m), columns_tested p w)
    go (refused n) = refl

one_tested : is_s15_fixed_16 one ≡ true
unfolding le lt eq of_bits
one_tested = refl

gray_tested : (w : WhiteXy) → passed (gray_white false w) ≡ white_in_range w
gray_tested w = passed_value (λ xz. unadapted xz.0 xz.1) (gray_numbers w) ∙ go (cie_xyz_from_white_cie_xy w) refl
  where
    two : (x z : Float) (s t : Option S15Fixed16) → s15_fixed16 x ≡ s → s15_fixed16 z ≡ t
        → passed {A = ℤ × ℤ} (then (fixed_or 7 x) (λ a. then (fixed_or 7 z) (λ b. is (a, b)))) ≡ in_range_or 7 (x ∷ one ∷ z ∷ [])
    two x z (Some a) (Some b) h g =
        let tx : is_s15_fixed_16 x ≡ true = fixed_range x ∙ ap is_number h in
        let tz : is_s15_fixed_16 z ≡ true = fixed_range z ∙ ap is_number g in
        simp (h, g, tx, one_tested, tz)
    two x z (Some a) None h g =
        let tx : is_s15_fixed_16 x ≡ true = fixed_range x ∙ ap is_number h in
        let tz : is_s15_fixed_16 z ≡ false = fixed_range z ∙ ap is_number g in
        simp (h, g, tx, one_tested, tz)
    two x z None t h g = let tx : is_s15_fixed_16 x ≡ false = fixed_range x ∙ ap is_number h in simp (h, tx)

    go : (c : Checked (List Float)) → cie_xyz_from_white_cie_xy w ≡ c → passed (gray_numbers w) ≡ white_in_range w
    go (is v) h =
        rw h
        (two (component v 0) (component v 2) (s15_fixed16 (component v 0)) (s15_fixed16 (component v 2)) refl refl
        ∙ ap (in_range_or 7) (sym (gray_white_lem w h)))
    go (refused n) h = rw h

-- ---- the answer

pub valid_if : (c : Checked (Unit {0})) → validation c ≡ Ok tt → c ≡ is tt
valid_if (is u) e = refl
valid_if (refused n) e = cc

-- a number that the tests refuse by is one that the answer stands for
abbrev pub Named : ℕ → Type 0
Named n = stands_for (Err (error_at n)) n ≡ true

in_range_or_lem : (n : ℕ) → Named n → (vs : List Float) → Refusing Named (in_range_or n vs)
in_range_or_lem n h vs = by_cond Named (all_s15_fixed_16 vs) _ _ tt h

by_tests : (e : JxlColorEncoding) → Refusing Named (in_range e)
unfolding in_range
by_tests (GrayscaleColorSpace w t i) = by_then Named (cie_xyz_from_white_cie_xy (white_xy w)) _ (by_white Named refl (white_xy w)) (in_range_or_lem 7 refl)
by_tests (RgbColorSpace w p t i) =
    by_then Named (chad_matrix (white_xy w)) _ (by_chad Named refl (white_xy w)) (λ m.
    by_then Named (in_range_or 5 (rows m)) _ (in_range_or_lem 5 refl (rows m)) (λ _.
    by_then Named (create_icc_rgb_matrix (primaries_xy p) (white_xy w)) _ (by_rgb_matrix Named refl (white_xy w) refl (primaries_xy p)) (λ m.
    in_range_or_lem 7 refl (rows m))))
by_tests (XYB i) = tt

pub named : (e : JxlColorEncoding) {n : ℕ} → in_range e ≡ refused n → Named n
named e h = refusing Named (by_tests e) h

-- ---- the curve

module _ (t : JxlTransferFunction) where
  reciprocal_if : {s : SupportedCurve} {c : Curve} → supported t ≡ is s → curve_of s ≡ is c → ReciprocalFits t
  reciprocal_if {s} {c} h f = go (curve_decides t s h)
    where
      go : Decides (ReciprocalFits t) reciprocal_refusal (curve_of s) → ReciprocalFits t
      go (passes p a e) = p
      go (refuses n e) = absurd (never (sym e ∙ f))

  supported_if : NeitherPqNorHlg t → Passes (supported t)
  supported_if h = go (supported_decides t)
    where
      go : Decides (NeitherPqNorHlg t) 1 (supported t) → Passes (supported t)
      go (passes p s e) = record { value = s; given = e }
      go (refuses n e) = absurd (n h)

  curve_if : {s : SupportedCurve} → supported t ≡ is s → ReciprocalFits t → Passes (curve_of s)
  curve_if {s} h f = go (curve_decides t s h)
    where
      go : Decides (ReciprocalFits t) reciprocal_refusal (curve_of s) → Passes (curve_of s)
      go (passes p c e) = record { value = c; given = e }
      go (refuses n e) = absurd (n f)

-- ---- an encoding has a plan exactly if its numbers are in range and its curve is given, and is refused by the same number

module _ (w : JxlWhitePoint) (t : JxlTransferFunction) (i : RenderingIntent) where
  pub gray_planned : {p : Plan} → plan_of (GrayscaleColorSpace w t i) ≡ is p → (in_range (GrayscaleColorSpace w t i) ≡ is tt) × ReciprocalFits t
  unfolding in_range
  gray_planned e =
      let g = gray_parts false w t i e in
      (sym (gray_tested (white_xy w)) ∙ ap passed g.white_is, reciprocal_if t g.support_is g.curve_is)

  module _ (h : NeitherPqNorHlg t) where
    pub gray_plan_if : ReciprocalFits t → in_range (GrayscaleColorSpace w t i) ≡ is tt → Passes (plan_of (GrayscaleColorSpace w t i))
    unfolding in_range
    gray_plan_if f e =
        let s = supported_if t h in
        let n = both (gray_white false (white_xy w)) (λ _. is tt) (gray_tested (white_xy w) ∙ e) in
        let c = curve_if t s.given f in
        record { value = _; given = gray_plan_lem false w t i s.given n.first c.given }

    pub gray_refused : {n : ℕ} → in_range (GrayscaleColorSpace w t i) ≡ refused n → plan_of (GrayscaleColorSpace w t i) ≡ refused n
    unfolding color_plan in_range
    gray_refused e = rw (supported_if t h).given (refused_as (gray_white false (white_xy w)) (gray_tested (white_xy w) ∙ e) _)

module _ (w : JxlWhitePoint) (q : JxlPrimaries) (t : JxlTransferFunction) (i : RenderingIntent) where
  pub rgb_planned : {p : Plan} → plan_of (RgbColorSpace w q t i) ≡ is p → (in_range (RgbColorSpace w q t i) ≡ is tt) × ReciprocalFits t
  unfolding in_range
  rgb_planned e =
      let g = rgb_parts false w q t i e in
      (sym (rgb_tested (primaries_xy q) (white_xy w)) ∙ rw (g.chad_is, g.columns_are), reciprocal_if t g.support_is g.curve_is)

  module _ (h : NeitherPqNorHlg t) where
    pub rgb_plan_if : ReciprocalFits t → in_range (RgbColorSpace w q t i) ≡ is tt → Passes (plan_of (RgbColorSpace w q t i))
    unfolding in_range
    rgb_plan_if f e =
        let columns = column_numbers (primaries_xy q) (white_xy w) in
        let s = supported_if t h in
        let m = both (chad_numbers (white_xy w)) (λ _. passed columns) (sym (passed_after (chad_numbers (white_xy w)) columns) ∙ rgb_tested (primaries_xy q) (white_xy w) ∙ e) in
        let k = both columns (λ _. is tt) m.second in
        let c = curve_if t s.given f in
        record { value = _; given = rgb_plan_lem false w q t i s.given m.first k.first c.given }

    pub rgb_refused : {n : ℕ} → in_range (RgbColorSpace w q t i) ≡ refused n → plan_of (RgbColorSpace w q t i) ≡ refused n
    unfolding color_plan in_range
    rgb_refused e =
        rw (supported_if t h).given
        (refused_after (chad_numbers (white_xy w)) (column_numbers (primaries_xy q) (white_xy w)) (rgb_tested (primaries_xy q) (white_xy w) ∙ e) _)

module _ (i : RenderingIntent) where
  pub xyb_planned : plan_of (XYB i) ≡ is (xyb_plan i)
  unfolding color_plan
  xyb_planned = refl

  -- its file has 720 bytes, and 30 of its fixed numbers are rounded
  pub xyb_answered : (n : ℕ) → answer (counted_plan (XYB i)) n ≡ cond (leb 720 n) (profile 720 30) (refused too_short)
  unfolding color_plan slots_of file_length start body_size tag_count padding
  xyb_answered n = rw (length-layout (xyb_plan i) tt, xyb_count false i) refl

  pub xyb_valid : validate_icc_matrix (XYB i) ≡ Ok tt
  unfolding in_range
  xyb_valid = refl

  pub xyb_refused : {n : ℕ} → in_range (XYB i) ≡ refused n → plan_of (XYB i) ≡ refused n
  unfolding in_range
  xyb_refused e = absurd (never (sym e))

-- ---- a plan is written exactly if the output has room for it

pub written_not_refused : {k size m : ℕ} → refused k ≡ profile size m → ⊥
written_not_refused e = let z : ◌≡◌ {A = ℕ} 0 1 = cc in omega arith

module _ (a : Bool) (e : JxlColorEncoding) (n : ℕ) where
  known : {c : Checked Plan} → color_plan a e ≡ c → answer (counted_color_plan a e) n ≡ answer (counted (color_floats a e) c) n
  known h = ap (λ (c : Checked Plan). answer (counted (color_floats a e) c) n) h

  pub written : {p : Plan} → color_plan a e ≡ is p → length (layout p) ≤ n → answer (counted_color_plan a e) n ≡ profile (length (layout p)) (rounded_in (color_floats a e))
  written {p} h room = known h ∙ simp (le-leb _ _ room)

  pub has_plan : {size k : ℕ} → answer (counted_color_plan a e) n ≡ profile size k → Passes (color_plan a e)
  has_plan w = go (color_plan a e) refl
    where
      go : (c : Checked Plan) → color_plan a e ≡ c → Passes (color_plan a e)
      go (is p) h = record { value = p; given = h }
      go (refused k) h = absurd (written_not_refused (sym (known h) ∙ w))

  pub has_room : {size k : ℕ} → answer (counted_color_plan a e) n ≡ profile size k → (p : Plan) → color_plan a e ≡ is p → length (layout p) ≤ n
  has_room {size} {k} w p h = go (leb (length (layout p)) n) refl (sym (known h) ∙ w)
    where
      go : (b : Bool) → leb (length (layout p)) n ≡ b → cond b (profile (length (layout p)) (rounded_in (color_floats a e))) (refused too_short) ≡ profile size k → length (layout p) ≤ n
      go true t g = leb→le (length (layout p)) n (Bools.holds t)
      go false t g = absurd (written_not_refused g)
