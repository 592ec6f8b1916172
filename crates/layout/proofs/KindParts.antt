-- The elements of each kind from the parts that the code puts, and their sizes. Assumes nothing.
use Prim.Native.Nat.{ℕ, ◌+◌}
use mathlib.Core.Path.{◌≡◌, refl, ap, ap₂, sym, ◌∙◌}
use mathlib.Core.Bool.{Bool, true, false}
use mathlib.Core.List.{List, [], ◌∷◌, ◌++◌, append-nil}
use native.Mathlib.Omega.{arith}
use lib.ListN.{length, take, drop, length-drop}
use lib.Seq.{length-take-le, take_all}
use lib.IntN.{ℤ}
use Rattle.buffer.specs.Ascii.{ascii}
use Rattle.xyb_constants.specs.XybNumbers as XybNumbers
use Rattle.profile.specs.Elements.{padding, padded, padded_size, body, body_size}
use Rattle.profile.specs.ElementsLaws.{length-body, body_append}
use Rattle.profile.specs.Layout.{tag, D50, xyb_text, first_elements, white_numbers, chad_element, cicp_element, color_elements, elements_for, elements}
use Rattle.profile.specs.Plan.{Content, GrayContent, RgbContent, gray, rgb, xyb, plain_plan}
use Rattle.profile.specs.PlanLaws.{Nines, slots_shape}
use Rattle.profile.specs.Shape.{mluc_size, curve_size, is_gamma, shape_of, first_slots, chad_slot, color_slots, cicp_slot, slots_of, xyb_shape, xyb_letters}
use Rattle.profile.specs.Signatures as Sig
use Rattle.profile.specs.TagTypes.{join, mluc, xyz, sf32, curve}
use Rattle.profile.specs.TagTypesLaws.{length-mluc, length-xyz, length-curve}
use Rattle.profile.specs.Xyb.{a2b0, b2a0}
use Rattle.profile.specs.declared.Curve.{Curve}
use Rattle.profile.specs.declared.Kind.TheVariants.{Gray, Rgb}

-- ---- sizes

pub cprt_size : padded_size (mluc_size 3) ≡ 36
unfolding padding
cprt_size = refl

pub first_size : (n : ℕ) → body_size (first_slots n) ≡ padded_size (mluc_size n) + 56
unfolding body_size padding
first_size n = omega arith

pub color_size : (g : Bool) → body_size (color_slots (curve_size g)) ≡ 60 + curve_size g
unfolding body_size padding
color_size true = refl
color_size false = refl

pub gray_size : (n : ℕ) (g a : Bool)
    → body_size (slots_of (record { kind = Gray; letters = n; gamma = g; cicp = false; adapted = a })) ≡ body_size (first_slots n) + body_size (chad_slot a) + curve_size g
unfolding slots_of body_size padding
gray_size n true true = omega arith
gray_size n true false = omega arith
gray_size n false true = omega arith
gray_size n false false = omega arith

pub rgb_size : (n : ℕ) (g v : Bool)
    → body_size (slots_of (record { kind = Rgb; letters = n; gamma = g; cicp = v; adapted = false }))
    ≡ body_size (first_slots n) + 44 + body_size (cicp_slot v) + body_size (color_slots (curve_size g))
unfolding slots_of body_size padding
rgb_size n true true = omega arith
rgb_size n true false = omega arith
rgb_size n false true = omega arith
rgb_size n false false = omega arith

pub xyb_size : (body_size (slots_of xyb_shape) ≡ 516) × (body_size (first_slots xyb_letters) ≡ 100)
unfolding slots_of body_size padding
xyb_size = (refl, refl)

-- the elements of a plan are as long as its shape tells
pub length-elements : (i : ℕ) (c : Content) → Nines c → length (body (elements_for i c)) ≡ body_size (slots_of (shape_of c))
unfolding elements
length-elements i c h = length-body (elements_for i c) ∙ ap body_size (slots_shape (plain_plan i c) h)

-- ---- `desc`, `cprt` and `wtpt`

pub first_parts : (t : List ℕ) (w : List ℤ) → body (first_elements t w) ≡ join (padded (mluc t) ∷ padded (mluc (ascii "CC0")) ∷ padded (xyz w) ∷ [])
unfolding join body
first_parts t w = refl

pub length-first : (t : List ℕ) (w : List ℤ) → length w ≡ 3 → length (body (first_elements t w)) ≡ body_size (first_slots (length t))
length-first t w h = length-body (first_elements t w) ∙ simp (length-mluc, length-xyz, h)

-- ---- the columns and the curve of RGB

module _ (k : List ℤ) (c : Curve) (h : length k ≡ 9) where
  pub color_parts : body (color_elements k c)
      ≡ join (padded (xyz (take 3 k)) ∷ padded (xyz (take 3 (drop 3 k))) ∷ padded (xyz (take 3 (drop 6 k))) ∷ padded (curve c) ∷ [])
  unfolding join body
  color_parts =
      ap (λ (l : List ℤ). join (padded (xyz (take 3 k)) ∷ padded (xyz (take 3 (drop 3 k))) ∷ padded (xyz l) ∷ padded (curve c) ∷ []))
      (sym (take_all 3 (drop 6 k) (simp length-drop (omega arith))))

  pub length-colors : length (body (color_elements k c)) ≡ body_size (color_slots (curve_size (is_gamma c)))
  length-colors =
      let first : length (take 3 k) ≡ 3 = length-take-le 3 k (omega arith) in
      let rest : length (drop 3 k) ≡ 6 = simp length-drop (omega arith) in
      let second : length (take 3 (drop 3 k)) ≡ 3 = length-take-le 3 (drop 3 k) (omega arith) in
      let third : length (drop 6 k) ≡ 3 = simp length-drop (omega arith) in
      length-body (color_elements k c) ∙ simp (length-xyz, length-curve, first, second, third)

-- ---- each kind

pub gray_parts : (i : ℕ) (g : GrayContent) (w : List ℤ) → w ≡ white_numbers g.white
    → body (elements_for i (gray g)) ≡ join (body (first_elements g.text w) ∷ body (chad_element g.white) ∷ padded (curve g.curve) ∷ [])
unfolding join body
gray_parts i g w h =
    body_append (first_elements g.text (white_numbers g.white)) (chad_element g.white ++ (tag Sig.k_trc (curve g.curve) ∷ []))
    ∙ ap₂ (λ (w : List ℤ) (l : List ℕ). body (first_elements g.text w) ++ l) (sym h) (body_append (chad_element g.white) (tag Sig.k_trc (curve g.curve) ∷ []))

pub rgb_parts : (i : ℕ) (g : RgbContent)
    → body (elements_for i (rgb g))
    ≡ join (body (first_elements g.text D50) ∷ padded (sf32 g.chad) ∷ body (cicp_element g.curve g.cicp) ∷ body (color_elements g.columns g.curve) ∷ [])
unfolding join body
rgb_parts i g =
    let es = cicp_element g.curve g.cicp in
    let cs = color_elements g.columns g.curve in
    body_append (first_elements g.text D50) (tag Sig.chad (sf32 g.chad) ∷ (es ++ cs))
    ∙ ap (λ (l : List ℕ). body (first_elements g.text D50) ++ (padded (sf32 g.chad) ++ l))
    (body_append es cs ∙ ap (λ (l : List ℕ). body es ++ l) (sym (append-nil (body cs))))

pub xyb_parts : (i : ℕ) (t : List ℕ) (m : List ℤ) → t ≡ xyb_text i → m ≡ XybNumbers.chad
    → body (elements_for i xyb) ≡ join (body (first_elements t D50) ∷ padded (sf32 m) ∷ padded a2b0 ∷ padded b2a0 ∷ [])
unfolding join body
xyb_parts i t m e h =
    body_append (first_elements (xyb_text i) D50) (tag Sig.chad (sf32 XybNumbers.chad) ∷ tag Sig.A2B0 a2b0 ∷ tag Sig.B2A0 b2a0 ∷ [])
    ∙ ap₂ (λ (t : List ℕ) (m : List ℤ). body (first_elements t D50) ++ (padded (sf32 m) ++ (padded a2b0 ++ (padded b2a0 ++ [])))) (sym e) (sym h)
