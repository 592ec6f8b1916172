-- What the theorems of AdaptedGray stand on. Assumes nothing.
use Rattle.std.specs.Prelude.{ℕ, ◌<◌, ◌≡◌, ◌↔◌, ◌⊎◌, Bool, true, false, cond, List, [], ◌∷◌, take, ℤ, pos}
use Rattle.std.proofs.Math.Path.{refl, sym, ap}
use Rattle.std.proofs.Common.{◌∙◌, subst, inl, inr, arith}
use Rattle.buffer.specs.All.{All, none, more}
use Rattle.buffer.specs.Ascii.{ascii}
use Rattle.buffer.specs.Bytes.{same}
use Rattle.buffer.specs.Checked.{Checked, is, refused}
use Rattle.buffer.specs.CheckedLaws.{both}
use Rattle.buffer.specs.First.{First}
use Rattle.buffer.specs.FirstLaws.{first_fails, first_not_all}
use Rattle.color_encoding.specs.Coordinates.{white_xy}
use Rattle.color_encoding.specs.declared.RenderingIntent.{RenderingIntent}
use Rattle.color_encoding.specs.declared.JxlWhitePoint.{JxlWhitePoint}
use Rattle.color_encoding.specs.declared.JxlPrimaries.{JxlPrimaries}
use Rattle.color_encoding.specs.declared.JxlTransferFunction.{JxlTransferFunction}
use Rattle.color_encoding.specs.declared.JxlColorEncoding.{JxlColorEncoding}
use Rattle.color_encoding.specs.declared.JxlColorEncoding.TheVariants.{RgbColorSpace, GrayscaleColorSpace, XYB}
use Rattle.text.specs.Description.{description}
use Rattle.profile.specs.Signatures as Sig
use Rattle.profile.specs.Plan.{Plan, GrayContent, Content, gray, rgb}
use Rattle.profile.specs.declared.GrayWhite.{GrayWhite}
use Rattle.profile.specs.declared.GrayWhite.TheVariants.{Unadapted as unadapted, Adapted as adapted}
use Rattle.profile.specs.Elements.{tag_count}
use Rattle.profile.specs.Numbers.{content_of}
use Rattle.profile.specs.Shape.{is_adapted, shape_of, slots_of}
use Rattle.profile.specs.TagTypes.{mluc, xyz, sf32, curve}
use Rattle.profile.specs.Layout.{D50, tag, elements_for, elements, slots}
use Rattle.profile.specs.PlanLaws.{Nines, slots_shape}
use Rattle.profile.specs.declared.Curve.{Curve}
use Rattle.encoding_plan.specs.PlanOf.{chad_numbers, color_plan}
use Rattle.encoding_plan.specs.FixedFloats.{color_floats}
use Rattle.encoding_plan.specs.EncodingPlan.{encoding_as, encoding_plan, counted_encoding_plan}
use Rattle.encoding_plan.specs.EncodingPlanLaws.{from_color}
use Rattle.encoding_plan.specs.declared.Encoding.{Encoding}
use Rattle.writer.specs.Writer.{profile, answer, Creates}
use Rattle.writer.specs.declared.Written.{Written}
use Rattle.writer_laws.specs.PlanLaws.{gray_parts, rgb_parts}
use Rattle.writer_laws.specs.RefusalList.{Check, c1, c3, c4, c5, c6, c7, c8, c9, number, Passed, checks, Answers, refuses, writes, Ok1, Ok4, Ok5, Ok8, Ok9}
use Rattle.writer_laws.specs.WriterAnswers.{writer_answers}
use Rattle.reader_spec.specs.RefusalList.{accepted}
use Rattle.reader_spec.specs.Read.{read}
use Rattle.reader_spec.proofs.Accepts.{accepts_exactly}
use Rattle.reader_spec.specs.Finder.{is_among, element_under, find}
use Rattle.reader_spec.proofs.Finds.{finds}
use Rattle.reading.specs.Reading.{told, plan_reading, reading}
use Rattle.reading.specs.declared.Reading.{Reading}
use Rattle.coded_writer.specs.CodedWriter.{coded, coded_by, WritesCounted, MeasuresCounted}
use Rattle.coded_writer.specs.CodedWriterLaws.{mark_unknown}
use Rattle.demands.specs.Demand2.{Succeeds}
use Rattle.demands.specs.Demand3.{written}
use Rattle.demands.specs.AdaptedFiles.{marked, HasMark}

-- ---- elements

pub adapted_elements : (i : ℕ) (t : List ℕ) (c : Curve) (m : List ℤ)
    → elements_for i (gray (record { text = t; curve = c; white = adapted m }))
    ≡ tag Sig.desc (mluc t) ∷ tag Sig.cprt (mluc (ascii "CC0")) ∷ tag Sig.wtpt (xyz D50) ∷ tag Sig.chad (sf32 m) ∷ tag Sig.k_trc (curve c) ∷ []
adapted_elements i t c m = refl

pub unadapted_elements : (i : ℕ) (t : List ℕ) (c : Curve) (x z : ℤ)
    → elements_for i (gray (record { text = t; curve = c; white = unadapted x z }))
    ≡ tag Sig.desc (mluc t) ∷ tag Sig.cprt (mluc (ascii "CC0")) ∷ tag Sig.wtpt (xyz (x ∷ pos 65536 ∷ z ∷ [])) ∷ tag Sig.k_trc (curve c) ∷ []
unadapted_elements i t c x z = refl

pub tags_tell : (p : Plan) (g : GrayContent) → p.content ≡ gray g → Nines (gray g) → tag_count (slots p) ≡ cond (is_adapted g.white) 5 4
tags_tell p g e h = ap tag_count (slots_shape p (subst Nines (sym e) h)) ∙ ap (λ (c : Content). tag_count (slots_of (shape_of c))) e ∙ count g.white
  where
    count : (w : GrayWhite) → tag_count (slots_of (shape_of (gray (record { text = g.text; curve = g.curve; white = w })))) ≡ cond (is_adapted w) 5 4
    count (unadapted x z) = unfold slots_of tag_count in refl
    count (adapted m) = unfold slots_of tag_count in refl

-- what stands under a signature, by the content
under : List ℕ → ℕ → Content → List ℕ
under s i c = element_under s (elements_for i c)

module _ (i : ℕ) (t : List ℕ) (c : Curve) (m : List ℤ) where
  wtpt_under : under Sig.wtpt i (gray (record { text = t; curve = c; white = adapted m })) ≡ xyz D50
  unfolding under element_under is_among same
  wtpt_under = refl

  chad_under : under Sig.chad i (gray (record { text = t; curve = c; white = adapted m })) ≡ sf32 m
  unfolding under element_under is_among same
  chad_under = refl

-- ---- RGB and XYB

pub rgb_as_before : (a : Bool) (w : JxlWhitePoint) (p : JxlPrimaries) (t : JxlTransferFunction) (i : RenderingIntent) → let e = RgbColorSpace w p t i in
    (color_plan a e ≡ color_plan false e) × (color_floats a e ≡ color_floats false e)
unfolding color_plan color_floats
rgb_as_before a w p t i = (refl, refl)

pub xyb_as_before : (a : Bool) (i : RenderingIntent) → (color_plan a (XYB i) ≡ color_plan false (XYB i)) × (color_floats a (XYB i) ≡ color_floats false (XYB i))
unfolding color_plan color_floats
xyb_as_before a i = (refl, refl)

-- ---- the file that was written is read as its plan

module _ (e : Encoding) {n k : ℕ} (before after : List ℕ) (c : Creates e before after (profile n k)) where
  abbrev plan : Plan
  plan = (written e n before after c).plan

  reads : read (take n after) ≡ accepted plan
  reads = let w = written e n before after c in (accepts_exactly (take n after) plan).1 (w.exists, sym w.laid_out)

  finds_under : (s : List ℕ) → find (take n after) s ≡ under s plan.intent plan.content
  unfolding under elements
  finds_under s = finds (take n after) s plan reads

-- ---- gray with the mark

module _ (w : JxlWhitePoint) (t : JxlTransferFunction) (i : RenderingIntent) (maker model : ℕ) where
  abbrev color : JxlColorEncoding
  color = GrayscaleColorSpace w t i

  abbrev e : Encoding
  e = marked w t i maker model

  pub its_plan : {q : Plan} → encoding_plan e ≡ is q → HasMark w t i q
  its_plan {q} h =
      let d = from_color e h in
      let g = gray_parts true w t i d.color_plan_lem in
      let m = both (chad_numbers (white_xy w)) _ g.white_is in
      let white : adapted m.value ≡ g.white = cc m.second in
      record {
        chad = m.value;
        chad_is = m.first;
        curve = g.curve;
        content =
            ap (λ (p : Plan). p.content) (sym d.device) ∙ ap (λ (p : Plan). p.content) (sym g.plan_is)
            ∙ ap (λ (x : GrayWhite). gray (record { text = description color; curve = g.curve; white = x })) (sym white);
      }

  pub succeeds_exactly_if : (n : ℕ) → Succeeds e n ↔ ((Ok1 color × Ok4 true color × Ok5 true color × Ok8 color) × Ok9 true color n)
  succeeds_exactly_if n = (λ s. passed (writer_answers e n) s.answers, λ o. succeeds (writer_answers e n) o refl)
    where
      Due : Type 0
      Due = (Ok1 color × Ok4 true color × Ok5 true color × Ok8 color) × Ok9 true color n

      every : All (Passed true color n) checks → Due
      every (more a (more _ (more b (more c (more _ (more _ (more d (more f none)))))))) = ((a, b, c, d), f)

      all_of : Due → All (Passed true color n) checks
      all_of ((a, b, c, d), f) = more a (more tt (more b (more c (more tt (more tt (more d (more f none)))))))

      passed : {r : Checked Written} {m k : ℕ} → Answers true color n r → r ≡ profile m k → Due
      passed (refuses f) g = let z : ◌≡◌ {A = ℕ} 0 1 = cc in absurd (omega arith)
      passed (writes p h all) g = every all

      succeeds : {r : Checked Written} → Answers true color n r → Due → r ≡ answer (counted_encoding_plan e) n → Succeeds e n
      succeeds (refuses f) o g = absurd (first_not_all f (all_of o))
      succeeds (writes p h all) o g = record { size = _; rounded = _; answers = sym g }

  pub refused_by : (n k : ℕ) → answer (counted_encoding_plan e) n ≡ refused k → (k ≡ 1) ⊎ ((k ≡ 4) ⊎ ((k ≡ 5) ⊎ ((k ≡ 8) ⊎ (k ≡ 9))))
  refused_by n k h = go (writer_answers e n) h
    where
      by : (c : Check) → First (Passed true color n) checks c → number c ≡ k → (k ≡ 1) ⊎ ((k ≡ 4) ⊎ ((k ≡ 5) ⊎ ((k ≡ 8) ⊎ (k ≡ 9))))
      by c1 f g = inl (sym g)
      by c3 f g = absurd (first_fails f tt)
      by c4 f g = inr (inl (sym g))
      by c5 f g = inr (inr (inl (sym g)))
      by c6 f g = absurd (first_fails f tt)
      by c7 f g = absurd (first_fails f tt)
      by c8 f g = inr (inr (inr (inl (sym g))))
      by c9 f g = inr (inr (inr (inr (sym g))))

      go : {r : Checked Written} → Answers true color n r → r ≡ refused k → (k ≡ 1) ⊎ ((k ≡ 4) ⊎ ((k ≡ 5) ⊎ ((k ≡ 8) ⊎ (k ≡ 9))))
      go (refuses {c} f) g = let same : number c ≡ k = cc in by c f same
      go (writes p q all) g = let z : ◌≡◌ {A = ℕ} 0 1 = cc in absurd (omega arith)

  module _ {n k : ℕ} (before after : List ℕ) (c : Creates e before after (profile n k)) where
    has_mark : HasMark w t i (plan e before after c)
    has_mark = its_plan (written e n before after c).its_plan

    chad_found : find (take n after) Sig.chad ≡ sf32 has_mark.chad
    chad_found = finds_under e before after c Sig.chad ∙ ap (under Sig.chad (plan e before after c).intent) has_mark.content ∙ chad_under _ _ _ _

    pub written_elements : (find (take n after) Sig.wtpt ≡ xyz D50) × ((m : List ℤ) → chad_numbers (white_xy w) ≡ is m → find (take n after) Sig.chad ≡ sf32 m)
    written_elements = (
      finds_under e before after c Sig.wtpt ∙ ap (under Sig.wtpt (plan e before after c).intent) has_mark.content ∙ wtpt_under _ _ _ _,
      λ m h. let same : has_mark.chad ≡ m = cc (sym has_mark.chad_is ∙ h) in chad_found ∙ ap sf32 same,
    )

    pub same_chad : (a : Bool) (v : JxlWhitePoint) (p : JxlPrimaries) (u : JxlTransferFunction) (j : RenderingIntent) (x y : ℕ) {l o : ℕ} (empty full : List ℕ)
        → Creates (encoding_as a x y (RgbColorSpace v p u j)) empty full (profile l o) → white_xy v ≡ white_xy w → find (take n after) Sig.chad ≡ find (take l full) Sig.chad
    same_chad a v p u j x y {l} empty full d same =
        let r = encoding_as a x y (RgbColorSpace v p u j) in
        let other = from_color r (written r l empty full d).its_plan in
        let g = rgb_parts a v p u j other.color_plan_lem in
        let content : (plan r empty full d).content ≡ rgb (record { text = description (RgbColorSpace v p u j); curve = g.curve; chad = g.chad; columns = g.columns; cicp = _ }) =
        ap (λ (q : Plan). q.content) (sym other.device) ∙ ap (λ (q : Plan). q.content) (sym g.plan_is) in
        let found : find (take l full) Sig.chad ≡ sf32 g.chad =
        finds_under r empty full d Sig.chad ∙ ap (under Sig.chad (plan r empty full d).intent) content ∙ (unfold under element_under is_among same in refl) in
        let chad : is g.chad ≡ is has_mark.chad = sym g.chad_is ∙ ap chad_numbers same ∙ has_mark.chad_is in
        let equal : has_mark.chad ≡ g.chad = cc chad in
        chad_found ∙ ap sf32 equal ∙ sym found

    pub read_back : (r : Checked Reading) → r ≡ reading (read (take n after))
        → (a : Reading) × (r ≡ is a) × (a.adapted ≡ 1) × (a.white_x ≡ pos 0) × (a.white_z ≡ pos 0) × (chad_numbers (white_xy w) ≡ is a.chad)
    read_back r h =
        let p = plan e before after c in (
          plan_reading p,
          h ∙ ap reading (reads e before after c),
          ap (λ (x : Content). (told (content_of x)).adapted) has_mark.content,
          ap (λ (x : Content). (told (content_of x)).white_x) has_mark.content,
          ap (λ (x : Content). (told (content_of x)).white_z) has_mark.content,
          has_mark.chad_is ∙ ap is (sym (ap (λ (x : Content). (told (content_of x)).chad) has_mark.content)),
        )

-- ---- from C

module _ (maker model : ℕ) (c : Checked JxlColorEncoding) where
  pub mark_0 : coded_by 0 maker model c ≡ coded false maker model c
  mark_0 = refl

  pub mark_1 : coded_by 1 maker model c ≡ coded true maker model c
  mark_1 = refl

  module _ (m : ℕ) (other : 1 < m) where
    pub no_meaning_lem : (before after : List ℕ) {j k r : ℕ} → WritesCounted (coded_by m maker model c) before after j k r → (r ≡ 43) × (after ≡ before) × (k ≡ j)
    no_meaning_lem before after h = let u = rw (mark_unknown m other) at h in (u.writes.writes.answer, u.writes.writes.output, u.rounded)

    pub no_meaning_dry : (n : ℕ) {j k r : ℕ} → MeasuresCounted (coded_by m maker model c) n j k r → (r ≡ 43) × (k ≡ j)
    no_meaning_dry n h = let u = rw (mark_unknown m other) at h in (u.measures.answer, u.rounded)
