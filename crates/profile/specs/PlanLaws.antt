-- Laws of plans: the tag table depends on the shape alone, what shapes there are, and a plan in code. Assumes nothing.
use Rattle.std.specs.Prelude.{ℕ, ◌+◌, ◌*◌, ◌≤◌, ◌≡◌, Bool, List, [], ◌∷◌, ◌++◌, map, length, take, drop, Option, Some, None, ℤ}
use Rattle.std.proofs.Math.Path.{refl}
use Rattle.std.proofs.Common.{ap, sym, ◌∙◌, length-drop, length-take-le}
use Rattle.std.proofs.Math.Bool.{true, false}
use native.Mathlib.Omega.{arith}
use Rattle.buffer.specs.All.{All, none, more}
use Rattle.color_encoding.specs.IntentLaws.{length-intent_name}
use Rattle.xyb_constants.proofs.XybNumbersLaws.{length-chad}
use Rattle.profile.specs.Signatures as Sig
use Rattle.profile.specs.Elements.{Element, slot, padding, start, body_size, tag_count, file_length}
use Rattle.profile.specs.ElementsLaws.{Four, Fours}
use Rattle.profile.specs.Plan
use Rattle.profile.specs.Plan.{unadapted, adapted, gray, rgb, xyb, plain_plan, with_device, with_mark, max_letters}
use Rattle.profile.specs.Numbers.{content_by, plan_of, numbers_with, kind_of, content_of, numbers_of, text_for, text_of}
use Rattle.profile.specs.TagTypes
use Rattle.profile.specs.TagTypesLaws.{length-mluc, length-xyz, length-sf32, length-curve, length-cicp, length-a2b0, length-b2a0}
use Rattle.profile.specs.Layout as Layout
use Rattle.profile.specs.Shape
use Rattle.profile.specs.declared.Kind.{Kind}
use Rattle.profile.specs.declared.Kind.TheVariants.{Gray, Rgb, Xyb}
use Rattle.profile.specs.declared.Shape.{Shape}
use Rattle.profile.specs.declared.Numbers.{Numbers}
use Rattle.profile.specs.declared.Content.{Content}
use Rattle.profile.specs.declared.Content.TheVariants as Code
use Rattle.profile.specs.declared.Curve.{Curve}
use Rattle.profile.specs.declared.Curve.TheVariants.{Named, Gamma}

-- ---- the table of a plan is that of its shape

-- nine numbers each, in an RGB plan and in a gray one whose white is adapted
abbrev pub WhiteNines : Plan.GrayWhite → Type 0
WhiteNines (unadapted x z) = Unit {0}
WhiteNines (adapted m) = length m ≡ 9

abbrev pub Nines : Plan.Content → Type 0
Nines (gray g) = WhiteNines g.white
Nines (rgb g) = (length g.chad ≡ 9) × (length g.columns ≡ 9)
Nines xyb = Unit {0}

pub white_nines : (N : ℤ → Type 0) (w : Plan.GrayWhite) → Plan.GoodWhite N w → WhiteNines w
white_nines N (unadapted x z) h = tt
white_nines N (adapted m) h = h.0

pub good_nines : (N : ℤ → Type 0) (c : Plan.Content) → Plan.GoodContent N c → Nines c
good_nines N (gray g) h = white_nines N g.white h.white
good_nines N (rgb g) h = (h.chad_nine, h.columns_nine)
good_nines N xyb h = tt

slots_cicp : (c : Curve) (v : Option ℕ) (es : List Element) → map slot (Layout.cicp_element c v ++ es) ≡ Shape.cicp_slot (Shape.has_cicp v) ++ map slot es
slots_cicp c None es = refl
slots_cicp c (Some v) es = ap (λ n. Shape.one Sig.cicp n ∷ map slot es) (length-cicp v c)

-- three numbers in `wtpt`, and `chad` where there is one
length-white : (w : Plan.GrayWhite) → length (Layout.white_numbers w) ≡ 3
length-white (unadapted x z) = refl
length-white (adapted m) = refl

slots_chad : (w : Plan.GrayWhite) (es : List Element) → WhiteNines w → map slot (Layout.chad_element w ++ es) ≡ Shape.chad_slot (Shape.is_adapted w) ++ map slot es
slots_chad (unadapted x z) es h = refl
slots_chad (adapted m) es h = ap (λ n. Shape.one Sig.chad n ∷ map slot es) (length-sf32 m ∙ ap (λ n. 8 + 4 * n) h)

pub length-xyb_text : (i : ℕ) → length (Layout.xyb_text i) ≡ Shape.xyb_letters
unfolding Layout.xyb_text
length-xyb_text i = simp length-intent_name

pub slots_shape : (p : Plan.Plan) → Nines p.content → Layout.slots p ≡ Shape.slots_of (Shape.shape p)
unfolding Layout.elements Shape.slots_of
slots_shape p h = go p.intent p.content h
  where
    go : (i : ℕ) (c : Plan.Content) → Nines c → map slot (Layout.elements_for i c) ≡ Shape.slots_of (Shape.shape_of c)
    go i (gray g) h = simp (slots_chad g.white (Layout.tag Sig.k_trc (TagTypes.curve g.curve) ∷ []) h, length-mluc, length-xyz, length-white, length-curve)
    go i (rgb g) h =
        let k = g.columns in
        let first : length (take 3 k) ≡ 3 = length-take-le 3 k (omega arith) in
        let rest : length (drop 3 k) ≡ 6 = simp length-drop (omega arith) in
        let second : length (take 3 (drop 3 k)) ≡ 3 = length-take-le 3 (drop 3 k) (omega arith) in
        let third : length (drop 6 k) ≡ 3 = simp length-drop (omega arith) in
        simp (slots_cicp, length-mluc, length-xyz, length-sf32, length-curve, h.0, first, second, third)
    go i xyb h = simp (length-mluc, length-xyb_text, length-xyz, length-sf32, length-chad, length-a2b0, length-b2a0)

-- ---- a plan in code

pub unmarked : (p : Plan.Plan) → p.id_not_computed ≡ false → with_mark false p ≡ p
unmarked p e = λ j. with_mark (sym e j) p

content_back : (c : Plan.Content) → content_by (content_of c) (text_for c) ≡ c
content_back (gray g) = refl
content_back (rgb g) = refl
content_back xyb = refl

-- a plan, its mark aside, is what its numbers and its text make
pub plan_of_numbers : (p : Plan.Plan) → plan_of (numbers_of p) (text_of p) ≡ with_mark false p
plan_of_numbers p = ap (λ c. with_device p.maker p.model (plain_plan p.intent c)) (content_back p.content)

-- maker and model in the numbers are those of the plan
pub plan_with : (a b : ℕ) (p : Numbers) (t : List ℕ) → plan_of (numbers_with a b p) t ≡ with_device a b (plan_of p t)
plan_with a b p t = refl

pub kind_by_lem : (p : Numbers) (t : List ℕ) → Plan.kind (plan_of p t) ≡ kind_of p.content
kind_by_lem p t = go p.content
  where
    go : (c : Content) → Plan.kind_of (content_by c t) ≡ kind_of c
    go (Code.Gray c w) = refl
    go (Code.Rgb c v m k) = refl
    go Code.Xyb = refl

pub letters_by : (p : Numbers) (t : List ℕ) → length t ≤ max_letters → (Shape.shape (plan_of p t)).letters ≤ max_letters
letters_by p t h = go p.content
  where
    go : (c : Content) → (Shape.shape_of (content_by c t)).letters ≤ max_letters
    go (Code.Gray c w) = h
    go (Code.Rgb c v m k) = h
    go Code.Xyb = omega arith

-- nine numbers each, in what the numbers have
abbrev pub NinesIn : Content → Type 0
NinesIn (Code.Gray c w) = WhiteNines w
NinesIn (Code.Rgb c v m k) = (length m ≡ 9) × (length k ≡ 9)
NinesIn Code.Xyb = Unit {0}

pub nines_by : (p : Numbers) (t : List ℕ) → NinesIn p.content → Nines (plan_of p t).content
nines_by p t h = go p.content h
  where
    go : (c : Content) → NinesIn c → Nines (content_by c t)
    go (Code.Gray c w) h = h
    go (Code.Rgb c v m k) h = h
    go Code.Xyb h = tt

-- ---- the shapes there are

good_pair : (c : Curve) (v : Option ℕ) → Plan.GoodCicp c v → Shape.NotBoth (Shape.has_cicp v) (Shape.is_gamma c)
good_pair c None h = tt
good_pair (Named n) (Some v) h = tt
good_pair (Gamma g) (Some v) h = h

pub good_shape : (N : ℤ → Type 0) (c : Plan.Content) → Plan.GoodContent N c → Shape.GoodShape (Shape.shape_of c)
good_shape N (gray g) h = record { some-letter = h.text.some-letter; short = h.text.short; pair = tt }
good_shape N (rgb g) h = record { some-letter = h.text.some-letter; short = h.text.short; pair = good_pair g.curve g.cicp h.cicp }
good_shape N xyb h = record { some-letter = omega arith; short = omega arith; pair = tt }

-- by the kind, whether the curve is a gamma, whether there is `cicp` and whether a gray white is adapted
module _ (n : ℕ) where
  abbrev shaped : Kind → Bool → Bool → Bool → Shape
  shaped k g v a = record { kind = k; letters = n; gamma = g; cicp = v; adapted = a }

  bounds : (k : Kind) (g v a : Bool) → let f = file_length (Shape.slots_of (shaped k g v a)) in (1 ≤ n → 284 ≤ f) × (n ≤ max_letters → f ≤ Shape.max_length)
  unfolding Shape.slots_of file_length start body_size tag_count padding
  bounds Gray true v true = (λ h. omega arith, λ h. omega arith)
  bounds Gray true v false = (λ h. omega arith, λ h. omega arith)
  bounds Gray false v true = (λ h. omega arith, λ h. omega arith)
  bounds Gray false v false = (λ h. omega arith, λ h. omega arith)
  bounds Rgb true true a = (λ h. omega arith, λ h. omega arith)
  bounds Rgb true false a = (λ h. omega arith, λ h. omega arith)
  bounds Rgb false true a = (λ h. omega arith, λ h. omega arith)
  bounds Rgb false false a = (λ h. omega arith, λ h. omega arith)
  bounds Xyb g v a = (λ h. omega arith, λ h. omega arith)

  four : {a b c d : ℕ} → All Four ((a ∷ b ∷ c ∷ d ∷ []) ∷ [])
  four = more refl none

  signed : (k : Kind) (g v a : Bool) → Fours (Shape.slots_of (shaped k g v a))
  unfolding Shape.slots_of
  signed Gray g v true = more four (more four (more four (more four (more four none))))
  signed Gray g v false = more four (more four (more four (more four none)))
  signed Rgb g true a =
      more four (more four (more four (more four (more four (more four (more four (more four (more (more refl (more refl four)) none))))))))
  signed Rgb g false a =
      more four (more four (more four (more four (more four (more four (more four (more (more refl (more refl four)) none)))))))
  signed Xyb g v a = more four (more four (more four (more four (more four (more four none)))))

pub at_least : (s : Shape) → 1 ≤ s.letters → 284 ≤ file_length (Shape.slots_of s)
at_least s h = (bounds s.letters s.kind s.gamma s.cicp s.adapted).0 h

pub at_most : (s : Shape) → s.letters ≤ max_letters → file_length (Shape.slots_of s) ≤ Shape.max_length
at_most s h = (bounds s.letters s.kind s.gamma s.cicp s.adapted).1 h

pub fours : (s : Shape) → Fours (Shape.slots_of s)
fours s = signed s.letters s.kind s.gamma s.cicp s.adapted
