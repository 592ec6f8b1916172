-- Order 9, "Gray adapted to D50": with the mark a gray plan holds `chad` in place of X and Z, its file has the white of the PCS in `wtpt` and `chad` behind it, which is that of
-- an RGB profile of the same white; it is written, with enough output, exactly if none of 1, 4, 5 and 8 applies; 3, 6 and 7 do not occur; it is read back with
-- its mark, which the number of tags tells; gray without the mark, and RGB and XYB, have the files that they had. (That one plan fits one file is in Demand3, the
-- 384 bytes of gray D65 Relative SRGB in `sheets` of examples.) Assumes nothing.
use Rattle.std.specs.Prelude.{ℕ, ◌≤◌, ◌<◌, ◌≡◌, ◌↔◌, ◌⊎◌, Bool, true, false, cond, List, [], ◌∷◌, take, ℤ, pos}
use Rattle.buffer.specs.Ascii.{ascii}
use Rattle.buffer.specs.Checked.{Checked, is, refused}
use Rattle.color_encoding.specs.Coordinates.{white_xy}
use Rattle.color_encoding.specs.declared.RenderingIntent.{RenderingIntent}
use Rattle.color_encoding.specs.declared.JxlWhitePoint.{JxlWhitePoint}
use Rattle.color_encoding.specs.declared.JxlPrimaries.{JxlPrimaries}
use Rattle.color_encoding.specs.declared.JxlTransferFunction.{JxlTransferFunction}
use Rattle.color_encoding.specs.declared.JxlColorEncoding.{JxlColorEncoding}
use Rattle.color_encoding.specs.declared.JxlColorEncoding.TheVariants.{RgbColorSpace, GrayscaleColorSpace, XYB}
use Rattle.profile.specs.Signatures as Sig
use Rattle.profile.specs.Plan.{Plan, GrayContent, gray}
use Rattle.profile.specs.declared.GrayWhite.TheVariants.{Unadapted as unadapted, Adapted as adapted}
use Rattle.profile.specs.Elements.{tag_count}
use Rattle.profile.specs.Shape.{is_adapted}
use Rattle.profile.specs.TagTypes.{mluc, xyz, sf32, curve}
use Rattle.profile.specs.Layout.{D50, tag, elements_for, slots}
use Rattle.profile.specs.PlanLaws.{Nines}
use Rattle.profile.specs.declared.Curve.{Curve}
use Rattle.encoding_plan.specs.PlanOf.{chad_numbers, color_plan}
use Rattle.encoding_plan.specs.FixedFloats.{color_floats}
use Rattle.encoding_plan.specs.EncodingPlan.{encoding_as, encoding_plan, counted_encoding_plan}
use Rattle.text.specs.Held.{HeldEncoding}
use Rattle.writer.specs.Writer.{profile, answer, max_written, Creates}
use Rattle.writer_laws.specs.RefusalList.{Ok1, Ok4, Ok5, Ok8, Ok9}
use Rattle.reader_spec.specs.Finder.{find}
use Rattle.reading.specs.declared.Reading.{Reading}
use Rattle.coded_writer.specs.CodedWriter.{coded, coded_by, WritesCounted, MeasuresCounted}
use Rattle.demands.specs.Demand2.{Succeeds, enough_output}
use Rattle.demands.specs.Demand3.{Reads}
use Rattle.demands.specs.AdaptedFiles.{marked, HasMark}
use Rattle.demands.specs.AdaptedGrayLaws as Laws

module _ (w : JxlWhitePoint) (t : JxlTransferFunction) (i : RenderingIntent) (maker model : ℕ) where
  abbrev e : JxlColorEncoding
  e = GrayscaleColorSpace w t i

  pub its_plan : {q : Plan} → encoding_plan (marked w t i maker model) ≡ is q → HasMark w t i q
  its_plan h = Laws.its_plan w t i maker model h

  -- ---- the writer, on an output of n bytes; `Ok9` is that the output is not shorter than the profile

  pub succeeds_exactly_if : (n : ℕ) → Succeeds (marked w t i maker model) n ↔ ((Ok1 e × Ok4 true e × Ok5 true e × Ok8 e) × Ok9 true e n)
  succeeds_exactly_if n = Laws.succeeds_exactly_if w t i maker model n

  -- so, with enough output: the floats of the encoding are binary32 values, as those of the code are
  pub with_enough_output : HeldEncoding e → (n : ℕ) → max_written ≤ n → Succeeds (marked w t i maker model) n ↔ (Ok1 e × Ok4 true e × Ok5 true e × Ok8 e)
  with_enough_output held n enough = (λ s. ((succeeds_exactly_if n).0 s).0, λ o. (succeeds_exactly_if n).1 (o, enough_output true e held n enough))

  pub refused_by : (n k : ℕ) → answer (counted_encoding_plan (marked w t i maker model)) n ≡ refused k → (k ≡ 1) ⊎ ((k ≡ 4) ⊎ ((k ≡ 5) ⊎ ((k ≡ 8) ⊎ (k ≡ 9))))
  refused_by n k h = Laws.refused_by w t i maker model n k h

  -- ---- running code: `maybe_create_profile` ensures `Creates`

  module _ {n k : ℕ} (before after : List ℕ) (c : Creates (marked w t i maker model) before after (profile n k)) where
    -- the finder finds the white of the PCS, and the `chad` of the white
    pub written_elements : (find (take n after) Sig.wtpt ≡ xyz D50) × ((m : List ℤ) → chad_numbers (white_xy w) ≡ is m → find (take n after) Sig.chad ≡ sf32 m)
    written_elements = Laws.written_elements w t i maker model before after c

    -- it finds the same `chad` in the profile of an RGB encoding whose white has the same coordinates
    pub same_chad : (a : Bool) (v : JxlWhitePoint) (p : JxlPrimaries) (u : JxlTransferFunction) (j : RenderingIntent) (x y : ℕ) {l o : ℕ} (empty full : List ℕ)
        → Creates (encoding_as a x y (RgbColorSpace v p u j)) empty full (profile l o) → white_xy v ≡ white_xy w → find (take n after) Sig.chad ≡ find (take l full) Sig.chad
    same_chad a v p u j x y empty full d same = Laws.same_chad w t i maker model before after c a v p u j x y empty full d same

    -- the reader answers the mark, and the numbers of `chad` in place of X and Z
    pub read_back : (r : Checked Reading) → Reads (take n after) r
        → (a : Reading) × (r ≡ is a) × (a.adapted ≡ 1) × (a.white_x ≡ pos 0) × (a.white_z ≡ pos 0) × (chad_numbers (white_xy w) ≡ is a.chad)
    read_back r h = Laws.read_back w t i maker model before after c r h

-- ---- the file: `chad` stands behind `wtpt`, and the number of tags tells the mark

pub adapted_elements : (i : ℕ) (t : List ℕ) (c : Curve) (m : List ℤ)
    → elements_for i (gray (record { text = t; curve = c; white = adapted m }))
    ≡ tag Sig.desc (mluc t) ∷ tag Sig.cprt (mluc (ascii "CC0")) ∷ tag Sig.wtpt (xyz D50) ∷ tag Sig.chad (sf32 m) ∷ tag Sig.k_trc (curve c) ∷ []
adapted_elements i t c m = Laws.adapted_elements i t c m

pub tags_tell : (p : Plan) (g : GrayContent) → p.content ≡ gray g → Nines (gray g) → tag_count (slots p) ≡ cond (is_adapted g.white) 5 4
tags_tell p g e h = Laws.tags_tell p g e h

-- ---- what stayed

-- the elements of gray without the mark
pub unadapted_elements : (i : ℕ) (t : List ℕ) (c : Curve) (x z : ℤ)
    → elements_for i (gray (record { text = t; curve = c; white = unadapted x z }))
    ≡ tag Sig.desc (mluc t) ∷ tag Sig.cprt (mluc (ascii "CC0")) ∷ tag Sig.wtpt (xyz (x ∷ pos 65536 ∷ z ∷ [])) ∷ tag Sig.k_trc (curve c) ∷ []
unadapted_elements i t c x z = Laws.unadapted_elements i t c x z

-- the mark says nothing of RGB and XYB
pub rgb_as_before : (a : Bool) (w : JxlWhitePoint) (p : JxlPrimaries) (t : JxlTransferFunction) (i : RenderingIntent) → let e = RgbColorSpace w p t i in
    (color_plan a e ≡ color_plan false e) × (color_floats a e ≡ color_floats false e)
rgb_as_before a w p t i = Laws.rgb_as_before a w p t i

pub xyb_as_before : (a : Bool) (i : RenderingIntent) → (color_plan a (XYB i) ≡ color_plan false (XYB i)) × (color_floats a (XYB i) ≡ color_floats false (XYB i))
xyb_as_before a i = Laws.xyb_as_before a i

-- ---- from C the mark is a number: 0 is off and 1 on, and any other is refused 43, with all that is lent as it was

module _ (maker model : ℕ) (c : Checked JxlColorEncoding) where
  pub mark_0 : coded_by 0 maker model c ≡ coded false maker model c
  mark_0 = Laws.mark_0 maker model c

  pub mark_1 : coded_by 1 maker model c ≡ coded true maker model c
  mark_1 = Laws.mark_1 maker model c

  module _ (m : ℕ) (other : 1 < m) where
    pub no_meaning_lem : (before after : List ℕ) {j k r : ℕ} → WritesCounted (coded_by m maker model c) before after j k r → (r ≡ 43) × (after ≡ before) × (k ≡ j)
    no_meaning_lem before after h = Laws.no_meaning_lem maker model c m other before after h

    pub no_meaning_dry : (n : ℕ) {j k r : ℕ} → MeasuresCounted (coded_by m maker model c) n j k r → (r ≡ 43) × (k ≡ j)
    no_meaning_dry n h = Laws.no_meaning_dry maker model c m other n h
