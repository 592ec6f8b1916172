-- What is laid out is read back: each tag type, the content of a plan, and the shape of a plan's table. Assumes nothing.
use Prim.Native.Nat.{ℕ, ◌+◌, ◌*◌, ◌/◌, ◌^◌, ◌≤◌, ◌<◌}
use Rattle.std.specs.Prelude.{◌≡◌, Bool, ℤ, pos, length, take, drop, get_or, Option, Some, None}
use Rattle.std.proofs.Math.Path.{refl}
use Rattle.std.proofs.Common.{ap, ap₂, ◌∙◌, arith, length-append, length-drop, take-append-drop, length-take-le, take_at, drop_at, drop-drop, SFits}
use Rattle.std.proofs.Math.Bool.{true, false}
use mathlib.Core.List.{List, [], ◌∷◌, ◌++◌, append_assoc, append-nil}
use Rattle.std.specs.Int.{w32}
use Rattle.words.specs.Words.{be16, be32, word32, twos_complement32}
use Rattle.words.specs.WordsLaws.{length-be16, length-be32, word32_be32, twos_complement32_pos, number_written}
use Rattle.buffer.specs.Ascii.{ascii}
use Rattle.buffer.specs.Bytes.{zeros}
use Rattle.buffer.specs.All.{All, none, more}
use Rattle.buffer.specs.AllLaws.{All-take, All-drop}
use Rattle.profile.specs.Signatures as Sig
use Rattle.profile.specs.Elements.{Entry, Element, entries, body}
use Rattle.profile.specs.Plan.{GrayContent, RgbContent, Content, gray, rgb, xyb, kind_of, GoodCurve, GoodGray, GoodRgb, GoodContent}
use Rattle.profile.specs.Numbers.{numbers_with, numbers_for, numbers_of, text_for, text_of}
use Rattle.profile.specs.declared.GrayWhite.{GrayWhite}
use Rattle.profile.specs.declared.GrayWhite.TheVariants.{Unadapted, Adapted}
use Rattle.profile.specs.declared.Kind.{Kind}
use Rattle.profile.specs.declared.Kind.TheVariants.{Gray, Rgb, Xyb}
use Rattle.profile.specs.TagTypes
use Rattle.profile.specs.TagTypes.{join}
use Rattle.profile.specs.TagTypesLaws.{length-utf16}
use Rattle.profile.specs.Layout.{elements_for}
use Rattle.profile.specs.Shape.{is_gamma, has_cicp, is_adapted, shape_of, slots_of, mluc_size}
use Rattle.profile.specs.declared.Shape.{Shape}
use Rattle.profile.specs.declared.CurveName.{CurveName}
use Rattle.profile.specs.declared.CurveName.TheVariants as Name
use Rattle.profile.specs.declared.Curve.{Curve}
use Rattle.profile.specs.declared.Curve.TheVariants.{Named, Gamma}
use Rattle.reader_spec.specs.Table.{varying_of}
use Rattle.reader_spec.specs.TableLaws.{tails, body_front}
use Rattle.reader_spec.specs.JoinLaws.{from_part}
use Rattle.reader_spec.specs.PlanIn

-- ---- tag types

low-back : (t : List ℕ) → PlanIn.low_bytes (TagTypes.utf16 t) ≡ t
unfolding PlanIn.low_bytes TagTypes.utf16
low-back [] = refl
low-back (c ∷ t) = ap (λ l. c ∷ l) (low-back t)

low_half : (l : List ℕ) → length (PlanIn.low_bytes l) ≡ length l / 2
unfolding PlanIn.low_bytes
low_half [] = refl
low_half (x ∷ []) = refl
low_half (x ∷ (y ∷ l)) = omega (arith, low_half l)

-- half as many letters as bytes
pub length-low : (n : ℕ) (l : List ℕ) → 2 * n ≤ length l → length (PlanIn.low_bytes (take (2 * n) l)) ≡ n
length-low n l h = low_half (take (2 * n) l) ∙ rw (length-take-le (2 * n) l h) (omega arith)

text_back : (t r : List ℕ) → PlanIn.text_in (length t) (TagTypes.mluc t ++ r) ≡ t
unfolding PlanIn.text_in TagTypes.mluc join
text_back t r =
    let front = Sig.mluc ∷ zeros 4 ∷ be32 1 ∷ be32 12 ∷ ascii "enUS" ∷ be32 (2 * length t) ∷ be32 28 ∷ [] in
    let letters : drop 28 (TagTypes.mluc t ++ r) ≡ (TagTypes.utf16 t ++ []) ++ r =
    from_part front (TagTypes.utf16 t ∷ []) r 28 (simp (length-append, length-be32))
    in
    rw (letters, append-nil, take_at (TagTypes.utf16 t) r (2 * length t) (length-utf16 t)) (low-back t)

numbers_from_lem : (ns : List ℤ) (r : List ℕ) → All (SFits w32) ns → PlanIn.numbers_from (length ns) (TagTypes.s15_fixed_16s ns ++ r) ≡ ns
unfolding PlanIn.numbers_from TagTypes.s15_fixed_16s
numbers_from_lem [] r none = refl
numbers_from_lem (z ∷ ns) r (more h hs) =
    let bytes : List ℕ = be32 (twos_complement32 z) in
    rw (
      append_assoc bytes (TagTypes.s15_fixed_16s ns) r,
      number_written z (TagTypes.s15_fixed_16s ns ++ r) h,
      drop_at bytes (TagTypes.s15_fixed_16s ns ++ r) 4 (length-be32 _),
      numbers_from_lem ns r hs,
    )

xyz_at : (ns : List ℤ) (r : List ℕ) → drop 8 (TagTypes.xyz ns ++ r) ≡ TagTypes.s15_fixed_16s ns ++ r
unfolding TagTypes.xyz join
xyz_at ns r = ap (λ l. l ++ r) (append-nil (TagTypes.s15_fixed_16s ns))

sf32_at : (ns : List ℤ) (r : List ℕ) → drop 8 (TagTypes.sf32 ns ++ r) ≡ TagTypes.s15_fixed_16s ns ++ r
unfolding TagTypes.sf32 join
sf32_at ns r = ap (λ l. l ++ r) (append-nil (TagTypes.s15_fixed_16s ns))

xyz_back : (n : ℕ) (ns : List ℤ) (r : List ℕ) → length ns ≡ n → All (SFits w32) ns → PlanIn.numbers_in n (TagTypes.xyz ns ++ r) ≡ ns
xyz_back n ns r e h = rw (← e, xyz_at ns r) (numbers_from_lem ns r h)

sf32_back : (n : ℕ) (ns : List ℤ) (r : List ℕ) → length ns ≡ n → All (SFits w32) ns → PlanIn.numbers_in n (TagTypes.sf32 ns ++ r) ≡ ns
sf32_back n ns r e h = rw (← e, sf32_at ns r) (numbers_from_lem ns r h)

-- X and Z of a white
x_back : (x y z : ℤ) (r : List ℕ) → SFits w32 x → PlanIn.number_in (drop 8 (TagTypes.xyz (x ∷ y ∷ z ∷ []) ++ r)) ≡ x
unfolding TagTypes.s15_fixed_16s
x_back x y z r h = rw (xyz_at (x ∷ y ∷ z ∷ []) r, append_assoc) (number_written x _ h)

z_back : (x y z : ℤ) (r : List ℕ) → SFits w32 z → PlanIn.number_in (drop 16 (TagTypes.xyz (x ∷ y ∷ z ∷ []) ++ r)) ≡ z
unfolding TagTypes.s15_fixed_16s join
z_back x y z r h =
    let past : drop 8 (TagTypes.s15_fixed_16s (x ∷ y ∷ z ∷ []) ++ r) ≡ be32 (twos_complement32 z) ++ [] ++ r =
    from_part (be32 (twos_complement32 x) ∷ be32 (twos_complement32 y) ∷ []) (be32 (twos_complement32 z) ∷ []) r 8 (simp (length-append, length-be32))
    in
    rw (← drop-drop 8 8, xyz_at (x ∷ y ∷ z ∷ []) r, past, append-nil) (number_written z r h)

parameters_at : (f : ℕ) (ns : List ℤ) (r : List ℕ) → drop 12 (TagTypes.para f ns ++ r) ≡ TagTypes.s15_fixed_16s ns ++ r
unfolding TagTypes.para join
parameters_at f ns r =
    from_part (Sig.para ∷ zeros 4 ∷ be16 f ∷ zeros 2 ∷ []) (TagTypes.s15_fixed_16s ns ∷ []) r 12 (simp (length-append, length-be16))
    ∙ ap (λ l. l ++ r) (append-nil (TagTypes.s15_fixed_16s ns))

gamma_back : (g : ℤ) (r : List ℕ) → SFits w32 g → PlanIn.number_in (drop 12 (TagTypes.para 0 (g ∷ []) ++ r)) ≡ g
unfolding TagTypes.s15_fixed_16s
gamma_back g r h = rw (parameters_at 0 (g ∷ []) r, append_assoc) (number_written g r h)

first_back : (n : CurveName) (r : List ℕ) → word32 (drop 12 (TagTypes.para 3 (TagTypes.parameters n) ++ r)) ≡ PlanIn.first_number n
unfolding TagTypes.s15_fixed_16s
first_back n r = rw (parameters_at 3 (TagTypes.parameters n) r) (go n)
  where
    one : (k : ℕ) (zs : List ℤ) → k < 2 ^ 31 → word32 (TagTypes.s15_fixed_16s (pos k ∷ zs) ++ r) ≡ k
    one k zs h =
        let two : twos_complement32 (pos k) ≡ k = twos_complement32_pos k in
        rw append_assoc (word32_be32 (twos_complement32 (pos k)) _ (rw two (omega arith)) ∙ two)

    go : (n : CurveName) → word32 (TagTypes.s15_fixed_16s (TagTypes.parameters n) ++ r) ≡ PlanIn.first_number n
    go Name.SRGB = one (PlanIn.first_number Name.SRGB) (drop 1 (TagTypes.parameters Name.SRGB)) (omega arith)
    go Name.BT709 = one (PlanIn.first_number Name.BT709) (drop 1 (TagTypes.parameters Name.BT709)) (omega arith)
    go Name.Linear = one (PlanIn.first_number Name.Linear) (drop 1 (TagTypes.parameters Name.Linear)) (omega arith)
    go Name.DCI = one (PlanIn.first_number Name.DCI) (drop 1 (TagTypes.parameters Name.DCI)) (omega arith)

name_back : (n : CurveName) → PlanIn.name_by (PlanIn.first_number n) ≡ n
unfolding PlanIn.name_by
name_back Name.SRGB = refl
name_back Name.BT709 = refl
name_back Name.Linear = refl
name_back Name.DCI = refl

curve_back : (c : Curve) (r : List ℕ) → GoodCurve (SFits w32) c → PlanIn.curve_in (is_gamma c) (TagTypes.curve c ++ r) ≡ c
curve_back (Named n) r h = ap Named (ap PlanIn.name_by (first_back n r) ∙ name_back n)
curve_back (Gamma g) r h = ap Gamma (gamma_back g r h)

cicp_back : (v : ℕ) (c : Curve) (r : List ℕ) → get_or (TagTypes.cicp v c ++ r) 8 0 ≡ v
unfolding TagTypes.cicp join
cicp_back v c r = refl

-- ---- the content of a plan, from its elements, each with what follows it

abbrev pub element_of : List Element → List ℕ → ℕ → List ℕ
element_of es f i = get_or (tails es) i f

-- what is read from an element, whatever follows it, is read from the elements that it begins
first_of : {A : Type 0} (read : List ℕ → A) (e : Element) (es : List Element) {a : A} → ((r : List ℕ) → read (e.bytes ++ r) ≡ a) → read (body (e ∷ es)) ≡ a
first_of read e es h = ap read (body_front e es) ∙ h _

abbrev gray_content : List ℕ → Curve → GrayWhite → GrayContent
gray_content t c w = record { text = t; curve = c; white = w }

gray_back : (i : ℕ) (t : List ℕ) (c : Curve) (w : GrayWhite) (f : List ℕ)
    → let g = gray_content t c w in GoodGray (SFits w32) g → PlanIn.content_from Gray (shape_of (gray g)) (element_of (elements_for i (gray g)) f) ≡ gray g
unfolding PlanIn.content_from tails
gray_back i t c (Unadapted x z) f h =
    let text = first_of (PlanIn.text_in (length t)) _ _ (text_back t) in
    let curve = first_of (PlanIn.curve_in (is_gamma c)) _ _ (λ r. curve_back c r h.curve) in
    let x-is = first_of (λ b. PlanIn.number_in (drop 8 b)) _ _ (λ r. x_back x (pos 65536) z r h.white.0) in
    let z-is = first_of (λ b. PlanIn.number_in (drop 16 b)) _ _ (λ r. z_back x (pos 65536) z r h.white.1) in
    λ j. gray (gray_content (text j) (curve j) (Unadapted (x-is j) (z-is j)))
gray_back i t c (Adapted m) f h =
    let text = first_of (PlanIn.text_in (length t)) _ _ (text_back t) in
    let curve = first_of (PlanIn.curve_in (is_gamma c)) _ _ (λ r. curve_back c r h.curve) in
    let chad = first_of (PlanIn.numbers_in 9) _ _ (λ r. sf32_back 9 m r h.white.0 h.white.1) in
    λ j. gray (gray_content (text j) (curve j) (Adapted (chad j)))

thirds : (k : List ℤ) → take 3 k ++ (take 3 (drop 3 k) ++ drop 6 k) ≡ k
thirds k = rw (← drop-drop 3 3 k, take-append-drop 3 (drop 3 k)) (take-append-drop 3 k)

module _ (k : List ℤ) (nine : length k ≡ 9) (fit : All (SFits w32) k) where
  red_back : (r : List ℕ) → PlanIn.numbers_in 3 (TagTypes.xyz (take 3 k) ++ r) ≡ take 3 k
  red_back r = xyz_back 3 (take 3 k) r (length-take-le 3 k (omega arith)) (All-take 3 fit)

  green_back : (r : List ℕ) → PlanIn.numbers_in 3 (TagTypes.xyz (take 3 (drop 3 k)) ++ r) ≡ take 3 (drop 3 k)
  green_back r = xyz_back 3 (take 3 (drop 3 k)) r (length-take-le 3 (drop 3 k) (simp length-drop (omega arith))) (All-take 3 (All-drop 3 fit))

  blue_back : (r : List ℕ) → PlanIn.numbers_in 3 (TagTypes.xyz (drop 6 k) ++ r) ≡ drop 6 k
  blue_back r = xyz_back 3 (drop 6 k) r (simp length-drop (omega arith)) (All-drop 6 fit)

rgb_from_lem : (s : Shape) (e : ℕ → List ℕ) (g : RgbContent) → let red = PlanIn.red_line_of s.cicp in
    PlanIn.text_in s.letters (e 0) ≡ g.text → PlanIn.curve_in s.gamma (e (red + 3)) ≡ g.curve → PlanIn.numbers_in 9 (e 3) ≡ g.chad
    → PlanIn.numbers_in 3 (e red) ≡ take 3 g.columns → PlanIn.numbers_in 3 (e (red + 1)) ≡ take 3 (drop 3 g.columns)
    → PlanIn.numbers_in 3 (e (red + 2)) ≡ drop 6 g.columns → PlanIn.cicp_in s.cicp (e 4) ≡ g.cicp → PlanIn.content_from Rgb s e ≡ rgb g
unfolding PlanIn.content_from
rgb_from_lem s e g t c m red green blue v = λ j.
    rgb (record { text = t j; curve = c j; chad = m j; columns = (ap₂ ◌++◌ red (ap₂ ◌++◌ green blue) ∙ thirds g.columns) j; cicp = v j })

abbrev rgb_content : List ℕ → Curve → List ℤ → List ℤ → Option ℕ → RgbContent
rgb_content t c m k v = record { text = t; curve = c; chad = m; columns = k; cicp = v }

rgb_back : (i : ℕ) (t : List ℕ) (c : Curve) (m k : List ℤ) (v : Option ℕ) (f : List ℕ)
    → let g = rgb_content t c m k v in GoodRgb (SFits w32) g → PlanIn.content_from Rgb (shape_of (rgb g)) (element_of (elements_for i (rgb g)) f) ≡ rgb g
unfolding tails
rgb_back i t c m k None f h =
    rgb_from_lem (shape_of (rgb (rgb_content t c m k None))) (element_of (elements_for i (rgb (rgb_content t c m k None))) f) (rgb_content t c m k None)
    (first_of (PlanIn.text_in (length t)) _ _ (text_back t))
    (first_of (PlanIn.curve_in (is_gamma c)) _ _ (λ r. curve_back c r h.curve))
    (first_of (PlanIn.numbers_in 9) _ _ (λ r. sf32_back 9 m r h.chad_nine h.chad))
    (first_of (PlanIn.numbers_in 3) _ _ (red_back k h.columns_nine h.columns))
    (first_of (PlanIn.numbers_in 3) _ _ (green_back k h.columns_nine h.columns))
    (first_of (PlanIn.numbers_in 3) _ _ (blue_back k h.columns_nine h.columns))
    refl
rgb_back i t c m k (Some v) f h =
    rgb_from_lem (shape_of (rgb (rgb_content t c m k (Some v)))) (element_of (elements_for i (rgb (rgb_content t c m k (Some v)))) f) (rgb_content t c m k (Some v))
    (first_of (PlanIn.text_in (length t)) _ _ (text_back t))
    (first_of (PlanIn.curve_in (is_gamma c)) _ _ (λ r. curve_back c r h.curve))
    (first_of (PlanIn.numbers_in 9) _ _ (λ r. sf32_back 9 m r h.chad_nine h.chad))
    (first_of (PlanIn.numbers_in 3) _ _ (red_back k h.columns_nine h.columns))
    (first_of (PlanIn.numbers_in 3) _ _ (green_back k h.columns_nine h.columns))
    (first_of (PlanIn.numbers_in 3) _ _ (blue_back k h.columns_nine h.columns))
    (ap Some (first_of (λ b. get_or b 8 0) _ _ (cicp_back v c)))

pub content_back : (i : ℕ) (c : Content) (f : List ℕ) → GoodContent (SFits w32) c
    → PlanIn.content_from (shape_of c).kind (shape_of c) (element_of (elements_for i c) f) ≡ c
unfolding PlanIn.content_from
content_back i (gray g) f h = gray_back i g.text g.curve g.white f h
content_back i (rgb g) f h = rgb_back i g.text g.curve g.chad g.columns g.cicp f h
content_back i xyb f h = refl

-- the kind is the one that was asked for
pub content_kind : (k : Kind) (s : Shape) (e : ℕ → List ℕ) → kind_of (PlanIn.content_from k s e) ≡ k
unfolding PlanIn.content_from
content_kind Gray s e = refl
content_kind Rgb s e = refl
content_kind Xyb s e = refl

-- ---- the shape of a plan's table

halved : (n : ℕ) → PlanIn.letters_for (mluc_size n) ≡ n
halved n = omega arith

module _ (at n : ℕ) where
  gray_shape : (g a : Bool) → let s : Shape = record { kind = Gray; letters = n; gamma = g; cicp = false; adapted = a } in PlanIn.shape_from Gray (entries at (slots_of s)) ≡ s
  unfolding PlanIn.shape_from entries slots_of
  gray_shape true true = simp halved
  gray_shape true false = simp halved
  gray_shape false true = simp halved
  gray_shape false false = simp halved

  rgb_shape : (g v : Bool) → let s : Shape = record { kind = Rgb; letters = n; gamma = g; cicp = v; adapted = false } in PlanIn.shape_from Rgb (entries at (slots_of s)) ≡ s
  unfolding PlanIn.shape_from entries slots_of
  rgb_shape true true = simp halved
  rgb_shape true false = simp halved
  rgb_shape false true = simp halved
  rgb_shape false false = simp halved

pub shape_back : (at : ℕ) (c : Content) → PlanIn.shape_from (kind_of c) (entries at (slots_of (shape_of c))) ≡ shape_of c
unfolding PlanIn.shape_from
shape_back at (gray g) = gray_shape at (length g.text) (is_gamma g.curve) (is_adapted g.white)
shape_back at (rgb g) = rgb_shape at (length g.text) (is_gamma g.curve) (has_cicp g.cicp)
shape_back at xyb = refl

pub shape_kind : (k : Kind) (es : List Entry) → (PlanIn.shape_from k es).kind ≡ k
unfolding PlanIn.shape_from
shape_kind Gray es = refl
shape_kind Rgb es = refl
shape_kind Xyb es = refl

-- ---- the plan by a shape that is the file's

pub free_short : (k : Kind) (n : ℕ) → PlanIn.free_letters k n ≤ n
free_short Gray n = omega arith
free_short Rgb n = omega arith
free_short Xyb n = omega arith

module _ (f : List ℕ) (s : Shape) (e : s ≡ PlanIn.shape_in f) where
  pub numbers_by : (i : ℕ) (k : Kind) → i ≡ (varying_of f).intent → s.kind ≡ k
      → numbers_with (varying_of f).maker (varying_of f).model (numbers_for i (PlanIn.content_from k s (PlanIn.element_in f))) ≡ numbers_of (PlanIn.plan_in f)
  unfolding PlanIn.plan_in
  numbers_by i k h g = rw (h, ← g, e)

  pub text_by : PlanIn.text_in (PlanIn.free_letters s.kind s.letters) (PlanIn.element_in f 0) ≡ text_of (PlanIn.plan_in f)
  unfolding PlanIn.plan_in
  text_by = rw e (go (PlanIn.shape_in f).kind (PlanIn.shape_in f) (PlanIn.element_in f))
    where
      go : (k : Kind) (s : Shape) (e : ℕ → List ℕ) → PlanIn.text_in (PlanIn.free_letters k s.letters) (e 0) ≡ text_for (PlanIn.content_from k s e)
      go Gray s e = unfold PlanIn.content_from in refl
      go Rgb s e = unfold PlanIn.content_from in refl
      go Xyb s e = unfold PlanIn.content_from PlanIn.text_in PlanIn.low_bytes in refl
