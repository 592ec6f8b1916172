-- What reading the regions of a plan's file gives, under any id; and that no two plans share a file. Assumes nothing.
use Rattle.std.specs.Prelude.{ℕ, ◌^◌, ◌<◌, ◌≡◌, refl, Bool, true, false, cond, ℤ, pos, negsuc, length, take}
use Rattle.std.proofs.Math.Path.{ap}
use Rattle.std.proofs.Common.{sym, ◌∙◌, true≢false, arith, length-append, take-append-drop, drop-drop, SFits}
use mathlib.Core.List.{List, [], ◌∷◌, ◌++◌, append_assoc}
use Rattle.std.proofs.Math.ListN.{drop}
use Rattle.std.proofs.Math.Seq.{take_at}
use Rattle.std.specs.Int.{w32}
use Rattle.words.specs.Words.{be32, word32}
use Rattle.words.specs.WordsLaws.{length-be16, length-be32, word32_be32, word32_below}
use Rattle.buffer.specs.Bytes.{zeros, same}
use Rattle.buffer.specs.All.{All, none, more}
use Rattle.profile.specs.Elements.{start, tag_count, table, entries, body, file, file_length}
use Rattle.profile.specs.ElementsLaws.{Fours}
use Rattle.profile.specs.Plan.{Plan, Content, gray, rgb, xyb, plain_plan, with_device, with_mark, kind, FourBytes, GoodCurve, GoodWhite, GoodContent, Good, InRange, Valid, Wide}
use Rattle.profile.specs.declared.GrayWhite.{GrayWhite}
use Rattle.profile.specs.declared.GrayWhite.TheVariants.{Unadapted, Adapted}
use Rattle.profile.specs.declared.Kind.{Kind}
use Rattle.profile.specs.declared.Kind.TheVariants.{Gray, Rgb, Xyb}
use Rattle.profile.specs.PlanLaws.{good_nines, slots_shape}
use Rattle.profile.specs.Shape.{shape}
use Rattle.profile.specs.declared.Shape.{Shape}
use Rattle.profile.specs.TagTypes.{join}
use Rattle.profile.specs.TagTypesLaws.{length-s15_fixed_16s}
use Rattle.profile.specs.Layout.{Varying, class, space, front, header_fields, header, varying, elements, slots, with_id, computed_id, id_for, layout}
use Rattle.profile.specs.LayoutLaws.{length-header, plan_fours, length-id_for, length-with_id, length-layout, layout_bounds, mark_id}
use Rattle.profile.specs.declared.Curve.{Curve}
use Rattle.profile.specs.declared.Curve.TheVariants.{Named, Gamma}
use Rattle.reader_spec.specs.Exists.{Exists}
use Rattle.reader_spec.specs.JoinLaws.{from_part}
use Rattle.reader_spec.specs.Table.{varying_of, tags_of, table_of, body_of, entries_of}
use Rattle.reader_spec.specs.TableLaws.{tags_file, table_file, drop-start, body_file, entries_file, tails_file}
use Rattle.reader_spec.specs.PlanIn.{kind_from, shape_in, content_from, element_in, plan_in}
use Rattle.reader_spec.specs.PlanInLaws.{element_of, content_back, shape_back}

-- ---- the header

-- numbers that their four bytes hold, and sixteen bytes of id
pub record Fits (v : Varying) : Type 0 where
  pub size : FourBytes v.size
  pub maker : FourBytes v.maker
  pub model : FourBytes v.model
  pub intent : FourBytes v.intent
  pub id : length v.id ≡ 16

length-class : (k : Kind) → length (class k) ≡ 4
length-class Gray = refl
length-class Rgb = refl
length-class Xyb = refl

length-space : (k : Kind) → length (space k) ≡ 4
length-space Gray = refl
length-space Rgb = refl
length-space Xyb = refl

-- a number in four bytes, in front of other fields
word_first : (x : ℕ) (fs : List (List ℕ)) (r : List ℕ) → FourBytes x → word32 (join (be32 x ∷ fs) ++ r) ≡ x
unfolding join
word_first x fs r h = ap word32 (append_assoc (be32 x) (join fs) r) ∙ word32_be32 x (join fs ++ r) h

-- whatever number it is
fits-first : (x : ℕ) (fs : List (List ℕ)) (r : List ℕ) → FourBytes (word32 (join (be32 x ∷ fs) ++ r))
unfolding join
fits-first x fs r = rw (append_assoc (be32 x) (join fs) r) (word32_below x (join fs ++ r))

module _ (k : Kind) (v : Varying) (r : List ℕ) where
  -- from its field i on, the first being 0, which stands at place n
  from_field : (i n : ℕ) → length (join (take i (header_fields k v))) ≡ n → drop n (header k v ++ r) ≡ join (drop i (header_fields k v)) ++ r
  unfolding header
  from_field i n e =
      ap (λ (fs : List (List ℕ)). drop n (join fs ++ r)) (sym (take-append-drop i (header_fields k v)))
      ∙ from_part (take i (header_fields k v)) (drop i (header_fields k v)) r n e

  from_maker : drop 48 (header k v ++ r) ≡ join (drop 3 (header_fields k v)) ++ r
  from_maker = from_field 3 48 (unfold join in simp (length-append, length-be16, length-be32, length-class, length-space))

  from_model : drop 52 (header k v ++ r) ≡ join (drop 4 (header_fields k v)) ++ r
  from_model = from_field 4 52 (unfold join in simp (length-append, length-be16, length-be32, length-class, length-space))

  from_intent : drop 64 (header k v ++ r) ≡ join (drop 6 (header_fields k v)) ++ r
  from_intent = from_field 6 64 (unfold join in simp (length-append, length-be16, length-be32, length-class, length-space))

  from_id_lem : drop 84 (header k v ++ r) ≡ join (drop 9 (header_fields k v)) ++ r
  from_id_lem = from_field 9 84 (unfold join in simp (length-append, length-be16, length-be32, length-class, length-space, length-s15_fixed_16s))

  header_id : length v.id ≡ 16 → take 16 (drop 84 (header k v ++ r)) ≡ v.id
  unfolding join
  header_id h = ap (take 16) (from_id_lem ∙ append_assoc v.id (join (zeros 28 ∷ [])) r) ∙ take_at v.id _ 16 h

  pub header_varying : Fits v → varying_of (header k v ++ r) ≡ v
  unfolding varying_of header
  header_varying h = λ i.
      record {
        size = word_first v.size (drop 1 (header_fields k v)) r h.size i;
        maker = (ap word32 from_maker ∙ word_first v.maker (drop 4 (header_fields k v)) r h.maker) i;
        model = (ap word32 from_model ∙ word_first v.model (drop 5 (header_fields k v)) r h.model) i;
        intent = (ap word32 from_intent ∙ word_first v.intent (drop 7 (header_fields k v)) r h.intent) i;
        id = header_id h.id i;
      }

  pub device_fits : FourBytes (word32 (drop 48 (header k v ++ r))) × FourBytes (word32 (drop 52 (header k v ++ r)))
  device_fits = (rw from_maker (fits-first v.maker (drop 4 (header_fields k v)) r), rw from_model (fits-first v.model (drop 5 (header_fields k v)) r))

-- class and space stand at bytes 8 and 12 of what follows the size; once the kind is known the front computes as far as these
class_and_space_lem : (k : Kind) (v : Varying) (r : List ℕ) → (take 4 (drop 12 (header k v ++ r)) ≡ class k) × (take 4 (drop 16 (header k v ++ r)) ≡ space k)
class_and_space_lem k v r =
    let fields : List (List ℕ) = drop 2 (header_fields k v) in
    let past : drop 4 (header k v ++ r) ≡ join (front k ∷ fields) ++ r = from_field k v r 1 4 (unfold join in simp (length-append, length-be32)) in (
      ap (take 4) (sym (drop-drop 8 4 (header k v ++ r)) ∙ ap (drop 8) past) ∙ (in_front k fields).0,
      ap (take 4) (sym (drop-drop 12 4 (header k v ++ r)) ∙ ap (drop 12) past) ∙ (in_front k fields).1,
    )
  where
    in_front : (k : Kind) (ps : List (List ℕ)) → (take 4 (drop 8 (join (front k ∷ ps) ++ r)) ≡ class k) × (take 4 (drop 12 (join (front k ∷ ps) ++ r)) ≡ space k)
    in_front Gray ps = unfold join in (refl, refl)
    in_front Rgb ps = unfold join in (refl, refl)
    in_front Xyb ps = unfold join in (refl, refl)

pub header_kind : (k : Kind) (v : Varying) (r : List ℕ) → kind_from (header k v ++ r) ≡ k
unfolding kind_from same
header_kind Gray v r = let h = class_and_space_lem Gray v r in rw (h.0, h.1)
header_kind Rgb v r = let h = class_and_space_lem Rgb v r in rw (h.0, h.1)
header_kind Xyb v r = let h = class_and_space_lem Xyb v r in rw (h.0, h.1)

-- ---- a plan's file, under any id

module _ (N : ℤ → Type 0) (p : Plan) (g : Good N p) where
  pub fours : Fours (slots p)
  fours = plan_fours p (good_nines N p.content g.content)

  -- its length, by the elements themselves
  pub length-slots : length (layout p) ≡ file_length (slots p)
  length-slots =
      let nines = good_nines N p.content g.content in
      length-layout p nines ∙ ap file_length (sym (slots_shape p nines))

  pub small : file_length (slots p) < 2 ^ 32
  small = omega (arith, layout_bounds N p g, length-slots)

module _ (N : ℤ → Type 0) (p : Plan) (g : Good N p) (id : List ℕ) (sixteen : length id ≡ 16) where
  says : Fits (varying (file_length (slots p)) id p)
  says = record { size = small N p g; maker = g.maker; model = g.model; intent = omega (arith, g.intent); id = sixteen }

  pub length-file : length (with_id id p) ≡ file_length (slots p)
  length-file =
      let nines = good_nines N p.content g.content in
      length-with_id p nines id sixteen ∙ ap file_length (sym (slots_shape p nines))

  pub header_128 : length (header (kind p) (varying (file_length (slots p)) id p)) ≡ 128
  header_128 = length-header (kind p) _ sixteen

  pub tags_with_id : tags_of (with_id id p) ≡ tag_count (slots p)
  unfolding with_id
  tags_with_id = tags_file _ (elements p) header_128 (fours N p g) (small N p g)

  pub table_with_id : table_of (with_id id p) ≡ table (slots p)
  unfolding with_id
  table_with_id = table_file _ (elements p) header_128 (fours N p g) (small N p g)

  pub entries_with_id : entries_of (with_id id p) ≡ entries (start (slots p)) (slots p)
  unfolding with_id
  entries_with_id = entries_file _ (elements p) header_128 (fours N p g) (small N p g)

  pub drop-with_id : drop (start (slots p)) (with_id id p) ≡ body (elements p)
  unfolding with_id
  drop-with_id = drop-start _ (elements p) header_128 (fours N p g) (small N p g)

  pub body_with_id : body_of (with_id id p) ≡ body (elements p)
  unfolding with_id
  body_with_id = body_file _ (elements p) header_128 (fours N p g) (small N p g)

  element_with_id : (i : ℕ) → element_in (with_id id p) i ≡ element_of (elements p) (with_id id p) i
  unfolding with_id
  element_with_id = tails_file _ (elements p) header_128 (fours N p g) (small N p g)

  pub varying_with_id : varying_of (with_id id p) ≡ varying (file_length (slots p)) id p
  unfolding with_id file
  varying_with_id = header_varying (kind p) _ _ says

  kind_with_id : kind_from (with_id id p) ≡ kind p
  unfolding with_id file
  kind_with_id = header_kind (kind p) _ _

  shape_with_id : shape_in (with_id id p) ≡ shape p
  unfolding shape_in
  shape_with_id =
      rw (kind_with_id, entries_with_id, slots_shape p (good_nines N p.content g.content)) (shape_back _ p.content)

-- ---- the way back

pub plan_in_with_id : (p : Plan) → Wide p → (id : List ℕ) → length id ≡ 16 → plan_in (with_id id p) ≡ with_mark false p
unfolding plan_in elements
plan_in_with_id p g id h =
    let s : Shape = shape_in (with_id id p) in
    let c : content_from s.kind s (element_in (with_id id p)) ≡ p.content =
    (λ j. content_from (shape_with_id (SFits w32) p g id h j).kind (shape_with_id (SFits w32) p g id h j) (λ i. element_with_id (SFits w32) p g id h i j))
    ∙ content_back p.intent p.content (with_id id p) g.content
    in
    let v = varying_with_id (SFits w32) p g id h in
    λ j. with_device (v j).maker (v j).model (plain_plan (v j).intent (c j))

plan_in_layout : (p : Plan) → Wide p → plan_in (layout p) ≡ with_mark false p
unfolding layout
plan_in_layout p g = plan_in_with_id p g _ (length-id_for p)

pub varying_layout : (p : Plan) → Wide p → varying_of (layout p) ≡ varying (file_length (slots p)) (id_for p) p
unfolding layout
varying_layout p g = varying_with_id (SFits w32) p g _ (length-id_for p)

-- ---- a valid plan's numbers are signed 32-bit numbers

in_range_fits : (z : ℤ) → InRange z → SFits w32 z
in_range_fits (pos n) h = record { sfits = omega arith }
in_range_fits (negsuc n) h = record { sfits = omega arith }

All-weaken : {A : Type 0} {P Q : A → Type 0} {l : List A} → ((a : A) → P a → Q a) → All P l → All Q l
All-weaken f none = none
All-weaken f (more {a = a} h hs) = more (f a h) (All-weaken f hs)

module _ (M N : ℤ → Type 0) (f : (z : ℤ) → M z → N z) where
  curve_weaken : (c : Curve) → GoodCurve M c → GoodCurve N c
  curve_weaken (Named n) h = h
  curve_weaken (Gamma g) h = f g h

  white_weaken : (w : GrayWhite) → GoodWhite M w → GoodWhite N w
  white_weaken (Unadapted x z) h = (f x h.0, f z h.1)
  white_weaken (Adapted m) h = (h.0, All-weaken f h.1)

  content_weaken : (c : Content) → GoodContent M c → GoodContent N c
  content_weaken (gray g) h =
      record { text = h.text; curve = curve_weaken g.curve h.curve; white = white_weaken g.white h.white }
  content_weaken (rgb g) h =
      record {
        text = h.text;
        curve = curve_weaken g.curve h.curve;
        chad_nine = h.chad_nine;
        chad = All-weaken f h.chad;
        columns_nine = h.columns_nine;
        columns = All-weaken f h.columns;
        cicp = h.cicp;
      }
  content_weaken xyb h = h

pub valid_wide : (p : Plan) → Valid p → Wide p
valid_wide p v = record { intent = v.intent; maker = v.maker; model = v.model; content = content_weaken InRange (SFits w32) in_range_fits p.content v.content }

-- ---- the mark, and that no two plans share a file

pub mark_valid : (m : Bool) (p : Plan) → Valid p → Valid (with_mark m p)
mark_valid m p v = record { intent = v.intent; maker = v.maker; model = v.model; content = v.content }

pub computed_exists : (p : Plan) → Valid p → Exists (with_mark false p)
computed_exists p v = record { valid = mark_valid false p v; mark = λ e z. absurd (true≢false (sym e)) }

pub marked_exists : (p : Plan) → Valid p → ¬ (computed_id p ≡ zeros 16) → Exists (with_mark true p)
marked_exists p v h = record { valid = mark_valid true p v; mark = λ e z. absurd (h (sym (mark_id true p) ∙ z)) }

-- the mark is told by what stands in place of the id: the plan with it exists only where the computed id is not itself zero
same_mark : (a b : Bool) (id : List ℕ) → (a ≡ true → ¬ (id ≡ zeros 16)) → (b ≡ true → ¬ (id ≡ zeros 16))
    → cond a (zeros 16) id ≡ cond b (zeros 16) id → a ≡ b
same_mark true true id h g e = refl
same_mark true false id h g e = absurd (h refl (sym e))
same_mark false true id h g e = absurd (g refl e)
same_mark false false id h g e = refl

pub layout_injective : (p q : Plan) → Exists p → Exists q → layout p ≡ layout q → p ≡ q
unfolding id_for
layout_injective p q g h e =
    let v : Wide p = valid_wide p g.valid in
    let w : Wide q = valid_wide q h.valid in
    let same : with_mark false p ≡ with_mark false q = sym (plan_in_layout p v) ∙ ap plan_in e ∙ plan_in_layout q w in
    let one_id : computed_id p ≡ computed_id q = sym (mark_id false p) ∙ ap computed_id same ∙ mark_id false q in
    let id : id_for p ≡ id_for q = ap (λ x. x.id) (sym (varying_layout p v) ∙ ap varying_of e ∙ varying_layout q w) in
    let mark : p.id_not_computed ≡ q.id_not_computed =
    same_mark p.id_not_computed q.id_not_computed (computed_id p) g.mark (λ m z. h.mark m (sym one_id ∙ z))
    (id ∙ ap (cond q.id_not_computed (zeros 16)) (sym one_id))
    in
    λ j. with_mark (mark j) (same j)
