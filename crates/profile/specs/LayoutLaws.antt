-- Laws of the layout: how long it is, what its file is with the three fields blank, what the mark changes, that the intent and the id go in last, and
-- what maker and model change.
-- Assumes nothing.
use Rattle.std.specs.Prelude.{ℕ, ◌+◌, ◌≤◌, ◌≡◌, refl, Bool, true, false, cond, length, drop, ℤ}
use Rattle.std.proofs.Math.Path.{ap, sym}
use Rattle.std.proofs.Common.{ap₂, ◌∙◌, length-append, take_at, drop_at, drop-drop}
use mathlib.Core.List.{List, [], ◌∷◌, ◌++◌, append_assoc, append-nil}
use Rattle.words.specs.Words.{be32}
use Rattle.buffer.specs.Bytes.{zeros}
use Rattle.words.specs.WordsLaws.{length-be16, length-be32, be32_zero}
use Rattle.buffer.specs.Buffer.{put}
use Rattle.buffer.specs.BufferLaws.{put_over}
use Rattle.md5_digest.specs.Md5.{md5}
use Rattle.md5_digest.specs.Md5Laws.{length-md5}
use Rattle.profile.specs.Elements.{header_size, file, file_length}
use Rattle.profile.specs.ElementsLaws.{Fours, length-file}
use Rattle.profile.specs.Plan.{Plan, with_device, with_mark, kind, Good}
use Rattle.profile.specs.declared.Kind.{Kind}
use Rattle.profile.specs.declared.Kind.TheVariants.{Gray, Rgb, Xyb}
use Rattle.profile.specs.Signatures as Sig
use Rattle.profile.specs.TagTypes.{join, s15_fixed_16s}
use Rattle.profile.specs.Layout
use Rattle.profile.specs.Shape.{shape, slots_of, min_length, max_length}
use Rattle.profile.specs.TagTypesLaws.{length-s15_fixed_16s}
use Rattle.profile.specs.PlanLaws.{Nines, good_nines, slots_shape, good_shape}
use Rattle.profile.specs.PlanLaws as PlanLaws

-- ---- the header

-- what it says, with another maker and model, with another intent, and under another id
abbrev pub by_device : ℕ → ℕ → Layout.Varying → Layout.Varying
by_device a b v = record { size = v.size; maker = a; model = b; intent = v.intent; id = v.id }

abbrev pub with_intent : ℕ → Layout.Varying → Layout.Varying
with_intent j v = record { size = v.size; maker = v.maker; model = v.model; intent = j; id = v.id }

abbrev pub under_id : List ℕ → Layout.Varying → Layout.Varying
under_id e v = record { size = v.size; maker = v.maker; model = v.model; intent = v.intent; id = e }

length_front : (k : Kind) → length (Layout.front k) ≡ 40
unfolding join
length_front Gray = simp (length-append, length-be16)
length_front Rgb = simp (length-append, length-be16)
length_front Xyb = simp (length-append, length-be16)

-- what stands before the flags, and between intent and id
before_flags : Kind → ℕ → List ℕ
before_flags k n = be32 n ++ Layout.front k

abbrev before_id : List ℕ
before_id = s15_fixed_16s Layout.D50 ++ Sig.jxl

length-before_flags : (k : Kind) (n : ℕ) → length (before_flags k n) ≡ 44
unfolding before_flags
length-before_flags k n = rw (length-append, length-be32, length_front k) refl

length-before_id : length before_id ≡ 16
length-before_id = simp (length-append, length-s15_fixed_16s)

-- what stands between the flags and the intent: maker, model and attributes
device_fields : ℕ → ℕ → List ℕ
device_fields a b = be32 a ++ (be32 b ++ zeros 8)

length-device_fields : (a b : ℕ) → length (device_fields a b) ≡ 16
unfolding device_fields
length-device_fields a b = simp (length-append, length-be32)

parts : (k : Kind) (v : Layout.Varying) (r : List ℕ)
    → Layout.header k v ++ r ≡ before_flags k v.size ++ (zeros 4 ++ (device_fields v.maker v.model ++ (be32 v.intent ++ (before_id ++ (v.id ++ (zeros 28 ++ r))))))
unfolding Layout.header join before_flags device_fields
parts k v r = simp (append_assoc, append-nil)

pub length-header : (k : Kind) (v : Layout.Varying) → length v.id ≡ 16 → length (Layout.header k v) ≡ header_size
length-header k v h =
    ap length (sym (append-nil (Layout.header k v)) ∙ parts k v [])
    ∙ simp (length-append, length-before_flags, length-device_fields, length-be32, length-s15_fixed_16s, h)

past_two : (a b r : List ℕ) (n m : ℕ) → length a ≡ n → length b ≡ m → drop (n + m) (a ++ (b ++ r)) ≡ r
past_two a b r n m la lb = sym (drop-drop m n (a ++ (b ++ r))) ∙ ap (drop m) (drop_at a (b ++ r) n la) ∙ drop_at b r m lb

-- six parts of these lengths, and what follows, with the second, the fourth and the sixth blank
blank : (a b c d e g r : List ℕ) → length a ≡ 44 → length b ≡ 4 → length c ≡ 16 → length d ≡ 4 → length e ≡ 16 → length g ≡ 16
    → Layout.blanked (a ++ (b ++ (c ++ (d ++ (e ++ (g ++ r)))))) ≡ a ++ (zeros 4 ++ (c ++ (zeros 4 ++ (e ++ (zeros 16 ++ r)))))
unfolding Layout.blanked join
blank a b c d e g r la lb lc ld le lg =
    let f : List ℕ = a ++ (b ++ (c ++ (d ++ (e ++ (g ++ r))))) in
    let at_c : drop 48 f ≡ c ++ (d ++ (e ++ (g ++ r))) = past_two a b (c ++ (d ++ (e ++ (g ++ r)))) 44 4 la lb in
    let at_e : drop 68 f ≡ e ++ (g ++ r) = sym (drop-drop 20 48 f) ∙ ap (drop 20) at_c ∙ past_two c d (e ++ (g ++ r)) 16 4 lc ld in
    let at_r : drop 100 f ≡ r = sym (drop-drop 32 68 f) ∙ ap (drop 32) at_e ∙ past_two e g r 16 16 le lg in
    rw (at_c, at_e, at_r, take_at a (b ++ (c ++ (d ++ (e ++ (g ++ r))))) 44 la, take_at c (d ++ (e ++ (g ++ r))) 16 lc, take_at e (g ++ r) 16 le) (simp append-nil)

header_blanked : (k : Kind) (v : Layout.Varying) (r : List ℕ) → length v.id ≡ 16
    → Layout.blanked (Layout.header k v ++ r) ≡ Layout.blank_header k v.size v.maker v.model ++ r
header_blanked k v r h =
    ap Layout.blanked (parts k v r)
    ∙ blank (before_flags k v.size) (zeros 4) (device_fields v.maker v.model) (be32 v.intent) before_id v.id _ (length-before_flags k v.size) refl (length-device_fields v.maker v.model) (length-be32 v.intent) length-before_id h
    ∙ sym (parts k (under_id (zeros 16) (with_intent 0 v)) r ∙ ap (λ (z : List ℕ). before_flags k v.size ++ (zeros 4 ++ (device_fields v.maker v.model ++ (z ++ (before_id ++ (zeros 16 ++ (zeros 28 ++ r))))))) be32_zero)

-- ---- a header with one of its fields put anew, and what follows it

pub header_put_device : (k : Kind) (v : Layout.Varying) (a b : ℕ) (r : List ℕ)
    → put (Layout.header k v ++ r) 48 (be32 a ++ be32 b) ≡ Layout.header k (by_device a b v) ++ r
header_put_device k v a b r =
    let before : List ℕ = before_flags k v.size ++ zeros 4 in
    let rest : List ℕ = zeros 8 ++ (be32 v.intent ++ (before_id ++ (v.id ++ (zeros 28 ++ r)))) in
    let up_to : (m n : ℕ) → Layout.header k (by_device m n v) ++ r ≡ before ++ ((be32 m ++ be32 n) ++ rest) =
    λ m n. parts k (by_device m n v) r ∙ (unfold device_fields in simp append_assoc) in
    ap (λ (l : List ℕ). put l 48 (be32 a ++ be32 b)) (up_to v.maker v.model)
    ∙ put_over before (be32 v.maker ++ be32 v.model) rest (be32 a ++ be32 b) 48 (rw (length-append, length-before_flags k v.size) refl) (simp (length-append, length-be32))
    ∙ sym (up_to a b)

module _ (k : Kind) (v : Layout.Varying) (j : ℕ) (r : List ℕ) where
  abbrev before_intent : List ℕ
  before_intent = before_flags k v.size ++ (zeros 4 ++ device_fields v.maker v.model)

  abbrev after_intent : List ℕ
  after_intent = before_id ++ (v.id ++ (zeros 28 ++ r))

  up-to_intent : (m : ℕ) → Layout.header k (with_intent m v) ++ r ≡ before_intent ++ (be32 m ++ after_intent)
  up-to_intent m = parts k (with_intent m v) r ∙ simp append_assoc

  pub header_put_intent : put (Layout.header k v ++ r) 64 (be32 j) ≡ Layout.header k (with_intent j v) ++ r
  header_put_intent =
      ap (λ (l : List ℕ). put l 64 (be32 j)) (up-to_intent v.intent)
      ∙ put_over before_intent (be32 v.intent) after_intent (be32 j) 64 (simp (length-append, length-before_flags, length-device_fields)) (length-be32 j ∙ sym (length-be32 v.intent))
      ∙ sym (up-to_intent j)

  -- an intent below 256 has three zeros before its byte
  pub header_put_byte_67 : be32 v.intent ≡ zeros 3 ++ (v.intent ∷ []) → be32 j ≡ zeros 3 ++ (j ∷ [])
      → put (Layout.header k v ++ r) 67 (j ∷ []) ≡ Layout.header k (with_intent j v) ++ r
  header_put_byte_67 one other =
      let up_to : (m : ℕ) → be32 m ≡ zeros 3 ++ (m ∷ []) → Layout.header k (with_intent m v) ++ r ≡ (before_intent ++ zeros 3) ++ ((m ∷ []) ++ after_intent) =
      λ m low. up-to_intent m ∙ ap (λ (b : List ℕ). before_intent ++ (b ++ after_intent)) low ∙ simp append_assoc in
      ap (λ (l : List ℕ). put l 67 (j ∷ [])) (up_to v.intent one)
      ∙ put_over (before_intent ++ zeros 3) (v.intent ∷ []) after_intent (j ∷ []) 67 (simp (length-append, length-before_flags, length-device_fields)) refl
      ∙ sym (up_to j other)

pub header_put_id : (k : Kind) (v : Layout.Varying) (e r : List ℕ) → length v.id ≡ 16 → length e ≡ 16
    → put (Layout.header k v ++ r) 84 e ≡ Layout.header k (under_id e v) ++ r
header_put_id k v e r h g =
    let before : List ℕ = before_flags k v.size ++ (zeros 4 ++ (device_fields v.maker v.model ++ (be32 v.intent ++ before_id))) in
    let up_to : (m : List ℕ) → Layout.header k (under_id m v) ++ r ≡ before ++ (m ++ (zeros 28 ++ r)) = λ m. parts k (under_id m v) r ∙ simp append_assoc in
    ap (λ (l : List ℕ). put l 84 e) (up_to v.id)
    ∙ put_over before v.id (zeros 28 ++ r) e 84 (simp (length-append, length-before_flags, length-device_fields, length-be32, length-s15_fixed_16s)) (g ∙ sym h)
    ∙ sym (up_to e)

-- ---- the length of a plan's file

pub plan_fours : (p : Plan) → Nines p.content → Fours (Layout.slots p)
plan_fours p h = rw (slots_shape p h) (PlanLaws.fours (shape p))

pub length-with_id : (p : Plan) → Nines p.content → (id : List ℕ) → length id ≡ 16 → length (Layout.with_id id p) ≡ file_length (slots_of (shape p))
unfolding Layout.with_id
length-with_id p h id e =
    length-file _ (Layout.elements p) (length-header (kind p) _ e) (plan_fours p h) ∙ ap file_length (slots_shape p h)

pub length-id : (f : List ℕ) → length (Layout.profile_id f) ≡ 16
unfolding Layout.profile_id
length-id f = length-md5 (Layout.blanked f)

pub length-computed : (p : Plan) → length (Layout.computed_id p) ≡ 16
unfolding Layout.computed_id
length-computed p = length-id _

-- what stands in place of the id has sixteen bytes
pub length-id_for : (p : Plan) → length (Layout.id_for p) ≡ 16
unfolding Layout.id_for
length-id_for p = go p.id_not_computed
  where
    go : (m : Bool) → length (cond m (zeros 16) (Layout.computed_id p)) ≡ 16
    go true = refl
    go false = length-computed p

pub length-layout : (p : Plan) → Nines p.content → length (Layout.layout p) ≡ file_length (slots_of (shape p))
unfolding Layout.layout
length-layout p h = length-with_id p h _ (length-id_for p)

pub layout_bounds : (N : ℤ → Type 0) (p : Plan) → Good N p → (min_length ≤ length (Layout.layout p)) × (length (Layout.layout p) ≤ max_length)
layout_bounds N p g =
    let s = good_shape N p.content g.content in
    rw (length-layout p (good_nines N p.content g.content)) (PlanLaws.at_least (shape p) s.some-letter, PlanLaws.at_most (shape p) s.short)

-- ---- the file with its three fields blank

pub blanked_with_id : (p : Plan) (id : List ℕ) → length id ≡ 16
    → Layout.blanked (Layout.with_id id p) ≡ file (Layout.blank_header (kind p) (file_length (Layout.slots p)) p.maker p.model) (Layout.elements p)
unfolding Layout.with_id file
blanked_with_id p id h = header_blanked (kind p) _ _ h

-- sixteen bytes put in place of the id
pub put_id : (p : Plan) (d e : List ℕ) → length d ≡ 16 → length e ≡ 16 → put (Layout.with_id d p) 84 e ≡ Layout.with_id e p
unfolding Layout.with_id file
put_id p d e h g = header_put_id (kind p) (Layout.varying (file_length (Layout.slots p)) d p) e _ h g

-- the id of a plan's file does not depend on what stands in its place
pub any_id : (p : Plan) (d : List ℕ) → length d ≡ 16 → Layout.profile_id (Layout.with_id d p) ≡ Layout.computed_id p
unfolding Layout.computed_id Layout.profile_id
any_id p d h = ap md5 (blanked_with_id p d h ∙ sym (blanked_with_id p (zeros 16) refl))

-- ---- the mark

-- the computed id does not depend on it
pub mark_id : (m : Bool) (p : Plan) → Layout.computed_id (with_mark m p) ≡ Layout.computed_id p
unfolding Layout.computed_id Layout.with_id Layout.elements
mark_id m p = refl

-- without it the file has its id, with it zeros
pub layout_computed : (p : Plan) → Layout.layout (with_mark false p) ≡ Layout.with_id (Layout.computed_id p) p
unfolding Layout.layout Layout.id_for Layout.computed_id Layout.with_id Layout.elements
layout_computed p = refl

pub layout_marked : (p : Plan) → Layout.layout (with_mark true p) ≡ Layout.with_id (zeros 16) p
unfolding Layout.layout Layout.id_for Layout.with_id Layout.elements
layout_marked p = refl

-- a file that is the plan's but for its id, with the id of that file put in
pub put_new_id : (q : Plan) (d : List ℕ) {f : List ℕ} → length d ≡ 16 → f ≡ Layout.with_id d q → put f 84 (Layout.profile_id f) ≡ Layout.layout (with_mark false q)
put_new_id q d {f} h here =
    let same : Layout.profile_id f ≡ Layout.computed_id q = ap Layout.profile_id here ∙ any_id q d h in
    ap₂ (λ (x y : List ℕ). put x 84 y) here same ∙ put_id q d (Layout.computed_id q) h (length-computed q) ∙ sym (layout_computed q)

-- the intent and the id go in last, into the blank file
pub layout_last : (p : Plan) → let f = Layout.blanked (Layout.with_id (zeros 16) p) in put (put f 64 (be32 p.intent)) 84 (md5 f) ≡ Layout.layout (with_mark false p)
unfolding Layout.computed_id Layout.profile_id Layout.with_id file
layout_last p =
    let k = kind p in
    let v = Layout.varying (file_length (Layout.slots p)) (zeros 16) p in
    let blank = blanked_with_id p (zeros 16) refl in
    let id = md5 (Layout.blanked (Layout.with_id (zeros 16) p)) in
    ap (λ (f : List ℕ). put (put f 64 (be32 p.intent)) 84 id) blank
    ∙ ap (λ (f : List ℕ). put f 84 id) (header_put_intent k (with_intent 0 v) p.intent _)
    ∙ put_id p (zeros 16) id refl (length-md5 _) ∙ sym (layout_computed p)

-- ---- maker and model

-- maker and model do not change the length
pub length-device : (p : Plan) (a b : ℕ) → length (Layout.layout (with_device a b p)) ≡ length (Layout.layout p)
unfolding Layout.layout Layout.with_id Layout.elements file
length-device p a b = simp (length-append, length-header, length-id_for)

-- another maker and model: these eight bytes are put anew, and then the id of that file
pub layout_device : (p : Plan) (a b : ℕ) → let f = put (Layout.layout (with_mark false p)) 48 (be32 a ++ be32 b) in
    Layout.layout (with_mark false (with_device a b p)) ≡ put f 84 (Layout.profile_id f)
unfolding Layout.computed_id Layout.with_id Layout.elements file
layout_device p a b =
    let id = Layout.computed_id p in
    sym (put_new_id (with_device a b p) id (length-computed p)
    (ap (λ (l : List ℕ). put l 48 (be32 a ++ be32 b)) (layout_computed p) ∙ header_put_device (kind p) (Layout.varying (file_length (Layout.slots p)) id p) a b _))
