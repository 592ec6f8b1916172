-- The scanner of a whole description finds exactly the texts of the language. Assumes nothing.
use Rattle.std.specs.Prelude.{ℕ, ◌≡◌, refl, List, [], ◌∷◌, ◌++◌}
use Rattle.std.proofs.Common.{ap, ◌∙◌, subst}
use Rattle.buffer.specs.Ascii.{ascii}
use Rattle.color_encoding.specs.declared.RenderingIntent.{RenderingIntent}
use Rattle.color_encoding.specs.declared.JxlColorEncoding.{JxlColorEncoding}
use Rattle.color_encoding.specs.declared.JxlColorEncoding.TheVariants.{RgbColorSpace, XYB}
use Rattle.text.specs.Description.{underscore, description}
use Rattle.scanner.specs.Scan.{Found, nothing, found, and_then, or_else, mapped, after}
use Rattle.scanner.specs.ScanLaws.{nothing≢found, same_value, same_rest, Steps, steps, Front, Finds, Holds, Exact, any_of_holds, headed, joint, mapped_holds, either_holds}
use Rattle.names_parser.specs.ParseNames.{intent}
use Rattle.description_parser.specs.Language.{RgbText, GrayText, XybText, common_name, Describes, srgb, p3, pq, hlg, rgb, gray, xyb}
use Rattle.description_parser.specs.Parse.{RgbFields, rgb_fields, unless_named, rgb_of, GrayFields, gray_fields, gray_of, common_encodings, common, encoding}
use Rattle.description_parser.specs.Parse as Parse
use Rattle.description_laws.specs.PartsLaws.{intent_exact, white_exact, primaries_exact, transfer_exact}

-- ---- the long forms

pub rgb_exact : Exact RgbText rgb_fields
unfolding rgb_fields
rgb_exact = joint underscore (joint underscore (joint underscore (headed (ascii "RGB_") white_exact) primaries_exact) intent_exact) transfer_exact

pub gray_exact : Exact GrayText gray_fields
unfolding gray_fields
gray_exact = joint underscore (joint underscore (headed (ascii "Gra_") white_exact) intent_exact) transfer_exact

pub xyb_exact : Exact XybText (after (ascii "XYB_") intent)
xyb_exact = headed (ascii "XYB_") intent_exact

-- ---- what was found is described by its text

abbrev pub Described : JxlColorEncoding → List ℕ → Type 0
Described e t = Describes t e

unnamed : (name : List ℕ) (d e : JxlColorEncoding) (l r : List ℕ) → unless_named name d l ≡ found e r → (name ≡ []) × (found d l ≡ found e r)
unnamed [] d e l r h = (refl, h)
unnamed (c ∷ name) d e l r h = absurd (nothing≢found h)

rgb_holds : Holds Described Parse.rgb
unfolding Parse.rgb
rgb_holds l e r h = go (steps (rgb_fields l) rgb_of h)
  where
    go : Steps (rgb_fields l) rgb_of e r → Front Described e l r
    go s =
        let f = s.value in
        let x : Front RgbText f l s.rest = rgb_exact.holds l f s.rest s.first in
        let d = RgbColorSpace f.0.0.0 f.0.0.1 f.1 f.0.1 in
        let name = common_name f.0.0.0 f.0.0.1 f.1 f.0.1 in
        let k : (name ≡ []) × (found d s.rest ≡ found e r) = unnamed name d e s.rest r s.second in
        record {
          text = x.text;
          is = subst (Describes x.text) (same_value k.1) (rgb k.0 x.is);
          split = x.split ∙ ap (λ (u : List ℕ). x.text ++ u) (same_rest k.1);
        }

gray_holds : Holds Described Parse.gray
unfolding Parse.gray
gray_holds = mapped_holds Described gray_of (λ f t h. gray h) gray_exact

xyb_holds : Holds Described Parse.xyb
unfolding Parse.xyb
xyb_holds = mapped_holds Described XYB (λ i t h. xyb h) xyb_exact

common_holds : Holds Described common
unfolding common
common_holds = any_of_holds Described description common_encodings (srgb refl, (p3 refl, (pq refl, (hlg refl, tt))))

encoding_holds : Holds Described encoding
unfolding encoding
encoding_holds =
    either_holds Described Parse.rgb (λ l. or_else (Parse.gray l) (or_else (Parse.xyb l) (common l))) rgb_holds
    (either_holds Described Parse.gray (λ l. or_else (Parse.xyb l) (common l)) gray_holds
    (either_holds Described Parse.xyb common xyb_holds common_holds))

-- ---- what a text describes is found

rgb_finds : (f : RgbFields) (t r : List ℕ) → common_name f.0.0.0 f.0.0.1 f.1 f.0.1 ≡ [] → RgbText f t
    → Parse.rgb (t ++ r) ≡ found (RgbColorSpace f.0.0.0 f.0.0.1 f.1 f.0.1) r
unfolding Parse.rgb
rgb_finds f t r c h =
    ap (λ (x : Found RgbFields). and_then x rgb_of) (rgb_exact.finds f t r h)
    ∙ ap (λ (n : List ℕ). unless_named n (RgbColorSpace f.0.0.0 f.0.0.1 f.1 f.0.1) r) c

gray_finds : (f : GrayFields) (t r : List ℕ) → GrayText f t → Parse.gray (t ++ r) ≡ found (gray_of f) r
unfolding Parse.gray
gray_finds f t r h = ap (λ (x : Found GrayFields). mapped gray_of x) (gray_exact.finds f t r h)

-- the text of a gray encoding is none of RGB
gray_not_rgb : (f : GrayFields) (t r : List ℕ) → GrayText f t → Parse.rgb (t ++ r) ≡ nothing
unfolding Parse.rgb
gray_not_rgb f t r h = rw (h.split, h.is_first.split, h.is_first.is_first.split)

xyb_finds : (i : RenderingIntent) (t r : List ℕ) → XybText i t → Parse.xyb (t ++ r) ≡ found (XYB i) r
unfolding Parse.xyb
xyb_finds i t r h = ap (λ (x : Found RenderingIntent). mapped XYB x) (xyb_exact.finds i t r h)

-- the text of XYB is none of RGB and none of gray
xyb_not_rgb : (i : RenderingIntent) (t r : List ℕ) → XybText i t → Parse.rgb (t ++ r) ≡ nothing
unfolding Parse.rgb
xyb_not_rgb i t r h = rw h.split

xyb_not_gray : (i : RenderingIntent) (t r : List ℕ) → XybText i t → Parse.gray (t ++ r) ≡ nothing
unfolding Parse.gray
xyb_not_gray i t r h = rw h.split

encoding_finds : Finds Described encoding
unfolding encoding
encoding_finds e t r (srgb h) = rw h
encoding_finds e t r (p3 h) = rw h
encoding_finds e t r (pq h) = rw h
encoding_finds e t r (hlg h) = rw h
encoding_finds e t r (rgb {w} {p} {t = f} {i} c h) = rw (rgb_finds (((w, p), i), f) t r c h)
encoding_finds e t r (gray {w} {t = f} {i} h) = rw (gray_not_rgb ((w, i), f) t r h, gray_finds ((w, i), f) t r h)
encoding_finds e t r (xyb {i} h) = rw (xyb_not_rgb i t r h, xyb_not_gray i t r h, xyb_finds i t r h)

pub encoding_exact : Exact Described encoding
encoding_exact = record { finds = encoding_finds; holds = encoding_holds }
