-- Laws of XYB files by their intent. Assumes nothing.
use Rattle.std.specs.Prelude.{ℕ, ◌≤◌, ◌<◌, ◌≡◌, cond, eqb, length, take, get_or}
use Rattle.std.proofs.Math.Path.{refl, ap, sym}
use Rattle.std.proofs.Common.{ap₂, ◌∙◌, subst, arith, length-append}
use mathlib.Core.List.{List, [], ◌∷◌, ◌++◌, append_assoc}
use Rattle.std.proofs.Math.Seq.{take_at}
use Rattle.words.specs.Words.{be32}
use Rattle.words.specs.WordsLaws.{length-be32}
use Rattle.buffer.specs.Ascii.{ascii}
use Rattle.buffer.specs.BufferLaws.{put_over}
use Rattle.buffer.specs.Bytes.{zeros}
use Rattle.buffer.specs.Checked.{is, refused as refusedBy, Checked}
use Rattle.buffer.specs.First.{fails, later}
use Rattle.buffer.specs.FirstLaws.{first_fails}
use Rattle.color_encoding.specs.Intent.{intent_number, intent_name}
use Rattle.color_encoding.specs.IntentLaws.{intent_number_le, length-intent_name}
use Rattle.color_encoding.specs.declared.RenderingIntent.{RenderingIntent}
use Rattle.color_encoding.specs.declared.RenderingIntent.TheVariants.{Perceptual, Relative, Saturation, Absolute}
use Rattle.color_encoding.specs.declared.JxlColorEncoding.TheVariants.{XYB}
use Rattle.text.specs.Description.{description, xyb_text as describedXyb}
use Rattle.xyb_constants.specs.XybNumbers as XybNumbers
use Rattle.profile.specs.Signatures as Sig
use Rattle.profile.specs.Elements.{padding, padded, body, body_size, tag_count, start, table, file, file_length}
use Rattle.profile.specs.ElementsLaws.{length-table, length-file}
use Rattle.profile.specs.Plan.{Plan, Content, gray, rgb, xyb, kind_of, FourBytes, InRange, Valid}
use Rattle.profile.specs.PlanLaws.{slots_shape, fours}
use Rattle.profile.specs.TagTypes.{join, utf16, mluc, xyz, sf32}
use Rattle.profile.specs.TagTypesLaws.{length-utf16}
use Rattle.profile.specs.Shape.{slots_of, xyb_shape}
use Rattle.profile.specs.Xyb.{a2b0, b2a0}
use Rattle.profile.specs.Layout.{Varying, tag, D50, xyb_text, elements_for, elements, slots, header, varying, with_id, profile_id, computed_id, layout}
use Rattle.profile.specs.LayoutLaws.{length-header, length-computed, length-layout, header_put_byte_67, plan_fours, put_new_id, layout_computed}
use Rattle.profile.specs.declared.Kind.TheVariants.{Xyb}
use Rattle.encoding_plan.specs.PlanOf.{color_plan}
use Rattle.encoding_plan.specs.EncodingPlan.{encoding_with, encoding_plan}
use Rattle.writer.specs.Writer.{profile, Creates}
use Rattle.reader_spec.specs.Table.{varying_of, table_of, body_of}
use Rattle.reader_spec.specs.TableLaws.{table_file, body_file}
use Rattle.reader_spec.specs.FileLaws.{header_varying, small, computed_exists}
use Rattle.reader_spec.specs.RefusalList.{Header, Ok21, Ok22, Ok23, Ok24, Ok25, Ok26, FirstFailing, checks, Answers, accepted, refused, refuses, c24, c26}
use Rattle.reader_spec.specs.Read.{read}
use Rattle.reader_spec.specs.ReadLaws.{kind_is}
use Rattle.reader_spec.proofs.ReadAnswers.{read_answers, read_is}
use Rattle.reader_spec.proofs.Accepts.{accepts_exactly}
use Rattle.reading.specs.Reading.{reading}
use Rattle.reading.specs.declared.Reading.{Reading}
use Rattle.demands.specs.Told.{told}
use Rattle.demands.specs.ToldLaws.{refusal_told}
use Rattle.demands.specs.Demand3.{written}
use Rattle.demands.specs.XybFiles.{xyb_plan_with, old_xyb_elements, old_xyb_with_id, old_xyb_file, with_byte67, with_letters, patched_xyb}

-- ---- the text

pub matching_text : (i : RenderingIntent) → xyb_text (intent_number i) ≡ description (XYB i)
unfolding xyb_text description describedXyb
matching_text Perceptual = refl
matching_text Relative = refl
matching_text Saturation = refl
matching_text Absolute = refl

-- the elements up to the letters of the intent, and after them
text_front : List ℕ
text_front = join (Sig.mluc ∷ zeros 4 ∷ be32 1 ∷ be32 12 ∷ ascii "enUS" ∷ be32 14 ∷ be32 28 ∷ utf16 (ascii "XYB_") ∷ [])

text_rest : List ℕ
text_rest =
    zeros 2
    ++ body (tag Sig.cprt (mluc (ascii "CC0")) ∷ tag Sig.wtpt (xyz D50) ∷ tag Sig.chad (sf32 XybNumbers.chad) ∷ tag Sig.A2B0 a2b0 ∷ tag Sig.B2A0 b2a0 ∷ [])

text_parts : (i : RenderingIntent) → body (elements_for (intent_number i) xyb) ≡ text_front ++ (utf16 (intent_name i) ++ text_rest)
unfolding body padded padding mluc join utf16 be32 xyb_text text_front text_rest
text_parts Perceptual = refl
text_parts Relative = refl
text_parts Saturation = refl
text_parts Absolute = refl

length_front : length text_front ≡ 36
unfolding text_front join utf16
length_front = simp (length-append, length-be32)

three : (i : RenderingIntent) → length (utf16 (intent_name i)) ≡ 6
three i = simp (length-utf16, length-intent_name)

-- the first of the letters tells the intent
by_letter : ℕ → RenderingIntent
by_letter c = cond (eqb c 82) Relative (cond (eqb c 83) Saturation (cond (eqb c 65) Absolute Perceptual))

told_by_letter : (i : RenderingIntent) → by_letter (get_or (body (elements_for (intent_number i) xyb)) 37 0) ≡ i
unfolding body padded mluc join utf16 be32 xyb_text by_letter
told_by_letter Perceptual = refl
told_by_letter Relative = refl
told_by_letter Saturation = refl
told_by_letter Absolute = refl

one_byte : (i : RenderingIntent) → be32 (intent_number i) ≡ zeros 3 ++ (intent_number i ∷ [])
unfolding be32
one_byte Perceptual = refl
one_byte Relative = refl
one_byte Saturation = refl
one_byte Absolute = refl

-- ---- the files

only_xyb : (c : Content) → kind_of c ≡ Xyb → c ≡ xyb
only_xyb (gray g) e = let z : ◌≡◌ {A = ℕ} 0 1 = cc in absurd (omega arith)
only_xyb (rgb g) e = let z : ◌≡◌ {A = ℕ} 0 1 = cc in absurd (omega arith)
only_xyb xyb e = refl

length-file_xyb : file_length (slots_of xyb_shape) ≡ 720
unfolding slots_of file_length start body_size tag_count padding
length-file_xyb = refl

length-table_xyb : length (table (slots_of xyb_shape)) ≡ 76
unfolding slots_of tag_count
length-table_xyb = length-table (slots_of xyb_shape) (fours xyb_shape)

not-below : {n : ℕ} → ¬ (n ≤ 3) → 3 < n
not-below h = omega arith

module _ (maker model : ℕ) where
  abbrev plan : RenderingIntent → Plan
  plan i = xyb_plan_with maker model i

  pub its_plan : (i : RenderingIntent) → encoding_plan (encoding_with maker model (XYB i)) ≡ is (plan i)
  unfolding color_plan
  its_plan i = refl

  pub length-720 : (i : RenderingIntent) → length (layout (plan i)) ≡ 720
  length-720 i = length-layout (plan i) tt ∙ length-file_xyb

  length-slots : (i : RenderingIntent) → file_length (slots (plan i)) ≡ 720
  length-slots i = ap file_length (slots_shape (plan i) tt) ∙ length-file_xyb

  -- ---- before the order

  old_under : (id : List ℕ) → with_id id (plan Perceptual) ≡ old_xyb_with_id id maker model
  unfolding with_id old_xyb_with_id elements xyb_text
  old_under id =
      ap (λ (n : ℕ). file (header Xyb (record { size = n; maker = maker; model = model; intent = 0; id = id })) old_xyb_elements) (length-slots Perceptual)

  pub perceptual_kept : layout (plan Perceptual) ≡ old_xyb_file maker model
  unfolding computed_id old_xyb_file
  perceptual_kept =
      layout_computed (plan Perceptual) ∙ ap (λ f. with_id (profile_id f) (plan Perceptual)) (old_under (zeros 16)) ∙ old_under _

  -- ---- the header of intent i, with the elements of intent j

  module _ (id : List ℕ) (sixteen : length id ≡ 16) where
    abbrev says : RenderingIntent → Varying
    says i = varying 720 id (plan i)

    mixed : RenderingIntent → RenderingIntent → List ℕ
    mixed i j = file (header Xyb (says i)) (elements (plan j))

    its_own : (i : RenderingIntent) → with_id id (plan i) ≡ mixed i i
    unfolding with_id mixed
    its_own i = ap (λ (n : ℕ). file (header Xyb (varying n id (plan i))) (elements (plan i))) (length-slots i)

    byte_67 : (i j : RenderingIntent) → with_byte67 i (with_id id (plan j)) ≡ mixed i j
    unfolding mixed file
    byte_67 i j = ap (with_byte67 i) (its_own j) ∙ header_put_byte_67 Xyb (says j) (intent_number i) _ (one_byte j) (one_byte i)

    mixed_parts : (i j : RenderingIntent) → mixed i j ≡ (header Xyb (says i) ++ (table (slots_of xyb_shape) ++ text_front)) ++ (utf16 (intent_name j) ++ text_rest)
    unfolding mixed file elements
    mixed_parts i j = rw (slots_shape (plan j) tt, text_parts j) (simp append_assoc)

    letters : (i j : RenderingIntent) → with_letters i (mixed i j) ≡ with_id id (plan i)
    letters i j =
        let before : List ℕ = header Xyb (says i) ++ (table (slots_of xyb_shape) ++ text_front) in
        let at : length before ≡ 240 = simp (length-append, length-header Xyb (says i) sixteen, length-table_xyb, length_front) in
        ap (with_letters i) (mixed_parts i j)
        ∙ put_over before (utf16 (intent_name j)) text_rest (utf16 (intent_name i)) 240 at (three i ∙ sym (three j))
        ∙ sym (its_own i ∙ mixed_parts i i)

  pub patched : (i : RenderingIntent) → layout (plan i) ≡ patched_xyb i (layout (plan Perceptual))
  patched i =
      let p = plan Perceptual in
      let d = computed_id p in
      sym (put_new_id (plan i) d (length-computed p)
      (ap (λ f. with_letters i (with_byte67 i f)) (layout_computed p)
      ∙ ap (with_letters i) (byte_67 d (length-computed p) i Perceptual)
      ∙ letters d (length-computed p) i Perceptual))

  module _ (i : RenderingIntent) {n k : ℕ} (before after : List ℕ) (w : Creates (encoding_with maker model (XYB i)) before after (profile n k)) where
    laid_out : take n after ≡ layout (plan i)
    laid_out =
        let p = written (encoding_with maker model (XYB i)) n before after w in
        let same : p.plan ≡ plan i = cc (sym p.its_plan ∙ its_plan i) in
        p.laid_out ∙ ap layout same

    pub written_patched : take n after ≡ patched_xyb i (old_xyb_file maker model)
    written_patched = laid_out ∙ patched i ∙ ap (patched_xyb i) perceptual_kept

  -- ---- the reader

  module _ (a : FourBytes maker) (b : FourBytes model) where
    valid : (i : RenderingIntent) → Valid (plan i)
    valid i = record { intent = intent_number_le i; maker = a; model = b; content = tt }

    pub known : (i : RenderingIntent) → read (layout (plan i)) ≡ accepted (plan i)
    known i = (accepts_exactly (layout (plan i)) (plan i)).1 (computed_exists (plan i) (valid i), refl)

    module _ (i j : RenderingIntent) (id : List ℕ) (sixteen : length id ≡ 16) where
      abbrev f : List ℕ
      f = mixed id sixteen i j

      abbrev v : Varying
      v = says id sixteen i

      same_slots : slots (plan j) ≡ slots (plan i)
      same_slots = slots_shape (plan j) tt ∙ sym (slots_shape (plan i) tt)

      says_it : varying_of f ≡ v
      unfolding mixed file
      says_it = header_varying Xyb v _ (record { size = omega arith; maker = a; model = b; intent = omega (arith, intent_number_le i); id = sixteen })

      long : length f ≡ 720
      unfolding mixed
      long = length-file _ (elements (plan j)) (length-header Xyb v sixteen) (plan_fours (plan j) tt) ∙ length-slots j

      ok21 : Ok21 f
      ok21 = record { long = omega (arith, long) }

      headed : Header Xyb f
      unfolding Header
      headed = rw says_it (unfold mixed file in take_at (header Xyb v) _ 128 (length-header Xyb v sixteen))

      tabled : table_of f ≡ table (slots (plan i))
      unfolding mixed
      tabled = table_file _ (elements (plan j)) (length-header Xyb v sixteen) (plan_fours (plan j) tt) (small InRange (plan j) (valid j)) ∙ ap table same_slots

      its_body : body_of f ≡ body (elements (plan j))
      unfolding mixed
      its_body = body_file _ (elements (plan j)) (length-header Xyb v sixteen) (plan_fours (plan j) tt) (small InRange (plan j) (valid j))

      -- a plan that has the file is of kind XYB and of intent i, and so has that intent's letters
      same_letters : Ok26 f → i ≡ j
      unfolding elements
      same_letters ok =
          let r = ok.plan in
          let content : r.content ≡ xyb = only_xyb r.content (sym (kind_is f ok21 (kind_of r.content) ok.has.header) ∙ kind_is f ok21 Xyb headed) in
          let intent : r.intent ≡ intent_number i = sym ok.has.intent ∙ ap (λ (v : Varying). v.intent) says_it in
          let bodies : body (elements_for (intent_number i) xyb) ≡ body (elements_for (intent_number j) xyb) =
          sym (ap₂ (λ (n : ℕ) (c : Content). body (elements_for n c)) intent content) ∙ sym ok.has.body ∙ its_body
          in
          sym (told_by_letter i) ∙ ap (λ (l : List ℕ). by_letter (get_or l 37 0)) bodies ∙ told_by_letter j

      pub another_text : ¬ (i ≡ j) → read (with_byte67 i (with_id id (plan j))) ≡ refused c26
      another_text other =
          let ok22 : Ok22 f = record { size = ap (λ (v : Varying). v.size) says_it ∙ sym long } in
          let ok23 : Ok23 f = record { kind = Xyb; header = headed } in
          let ok24 : Ok24 f = record { intent = rw says_it (intent_number_le i) } in
          let ok25 : Ok25 f = record { plan = plan i; valid = valid i; header = headed; table = tabled; length-is = long ∙ sym (length-slots i) } in
          let first : FirstFailing f checks c26 = later ok21 (later ok22 (later ok23 (later ok24 (later ok25 (fails (λ ok. other (same_letters ok))))))) in
          ap read (byte_67 id sixteen i j) ∙ read_is f (refused c26) (refuses first)

pub written_26 : (maker model : ℕ) (i j : RenderingIntent) → ¬ (i ≡ j) → {n k : ℕ} (before after : List ℕ)
    → Creates (encoding_with maker model (XYB j)) before after (profile n k) → (r : Checked Reading) → r ≡ reading (read (with_byte67 i (take n after))) → told r ≡ refusedBy 26
written_26 maker model i j other {n} before after w r h =
    let p = xyb_plan_with maker model j in
    let crossed : read (with_byte67 i (take n after)) ≡ refused c26 =
    ap (λ f. read (with_byte67 i f)) (laid_out maker model j before after w ∙ layout_computed p)
    ∙ another_text maker model w.maker w.model i j (computed_id p) (length-computed p) other
    in
    ap told (h ∙ ap reading crossed) ∙ refusal_told c26

pub only_above_3 : (f : List ℕ) → read f ≡ refused c24 → 3 < (varying_of f).intent
only_above_3 f h = go (subst (Answers f) h (read_answers f))
  where
    go : Answers f (refused c24) → 3 < (varying_of f).intent
    go (refuses first) = not-below (λ low. first_fails first (record { intent = low }))
