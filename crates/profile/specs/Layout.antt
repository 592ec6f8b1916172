-- The bytes that a plan lays out to (01, "Words of demand 3"): the header of its kind, the tag table, the elements with their padding,
-- and the id of all this, or zeros where the plan has the mark (02, order 7). Assumes nothing.
use Rattle.std.specs.Prelude.{ℕ, cond, List, [], ◌∷◌, ◌++◌, map, take, drop, Option, Some, None, ℤ, pos}
use Rattle.words.specs.Words.{be16, be32}
use Rattle.buffer.specs.Bytes.{zeros}
use Rattle.buffer.specs.Ascii.{ascii}
use Rattle.buffer.specs.Checked.{value_or}
use Rattle.md5_digest.specs.Md5.{md5}
use Rattle.color_encoding.specs.Intent.{intent_name}
use Rattle.color_encoding.specs.Codes.{intent_from}
use Rattle.color_encoding.specs.declared.RenderingIntent.TheVariants.{Perceptual}
use Rattle.xyb_constants.specs.XybNumbers as XybNumbers
use Rattle.profile.specs.Signatures as Sig
use Rattle.profile.specs.Elements.{Element, Slot, slot, file, file_length}
use Rattle.profile.specs.Plan.{Plan, GrayWhite, unadapted, adapted, Content, gray, rgb, xyb, kind}
use Rattle.profile.specs.declared.Kind.{Kind}
use Rattle.profile.specs.declared.Kind.TheVariants.{Gray, Rgb, Xyb}
use Rattle.profile.specs.TagTypes.{join, mluc, xyz, sf32, curve, cicp, s15_fixed_16s}
use Rattle.profile.specs.Xyb.{a2b0, b2a0}
use Rattle.profile.specs.declared.Curve.{Curve}

-- ---- the elements of each kind, in tag order

abbrev pub under : List (List ℕ) → List ℕ → Element
under s b = record { signatures = s; bytes = b }

abbrev pub tag : List ℕ → List ℕ → Element
tag s b = under (s ∷ []) b

-- the PCS white point: 0.964203, 1, 0.824905 (FixedConstants)
abbrev pub D50 : List ℤ
D50 = pos 63190 ∷ pos 65536 ∷ pos 54061 ∷ []

-- the text of the XYB plan with this intent (02, order 8); above 3, where no plan is, it is Perceptual's
unfoldable pub xyb_text : ℕ → List ℕ
xyb_text i = ascii "XYB_" ++ intent_name (value_or Perceptual (intent_from i))

-- each profile begins with its text, the copyright and a white
abbrev pub first_elements : List ℕ → List ℤ → List Element
first_elements t white = tag Sig.desc (mluc t) ∷ tag Sig.cprt (mluc (ascii "CC0")) ∷ tag Sig.wtpt (xyz white) ∷ []

-- `wtpt` of a gray plan, and its `chad`, if its white is adapted (02, order 9)
abbrev pub white_numbers : GrayWhite → List ℤ
white_numbers (unadapted x z) = x ∷ pos 65536 ∷ z ∷ []
white_numbers (adapted m) = D50

abbrev pub chad_element : GrayWhite → List Element
chad_element (unadapted x z) = []
chad_element (adapted m) = tag Sig.chad (sf32 m) ∷ []

abbrev pub cicp_element : Curve → Option ℕ → List Element
cicp_element c None = []
cicp_element c (Some v) = tag Sig.cicp (cicp v c) ∷ []

-- the columns and the one curve of an RGB plan
abbrev pub color_elements : List ℤ → Curve → List Element
color_elements k c =
    tag Sig.r_xyz (xyz (take 3 k)) ∷ tag Sig.g_xyz (xyz (take 3 (drop 3 k))) ∷ tag Sig.b_xyz (xyz (drop 6 k))
    ∷ under (Sig.r_trc ∷ Sig.g_trc ∷ Sig.b_trc ∷ []) (curve c) ∷ []

-- of a plan with this intent
abbrev pub elements_for : ℕ → Content → List Element
elements_for i (gray g) = first_elements g.text (white_numbers g.white) ++ (chad_element g.white ++ (tag Sig.k_trc (curve g.curve) ∷ []))
elements_for i (rgb g) =
    first_elements g.text D50 ++ (tag Sig.chad (sf32 g.chad) ∷ (cicp_element g.curve g.cicp ++ color_elements g.columns g.curve))
elements_for i xyb = first_elements (xyb_text i) D50 ++ (tag Sig.chad (sf32 XybNumbers.chad) ∷ tag Sig.A2B0 a2b0 ∷ tag Sig.B2A0 b2a0 ∷ [])

unfoldable pub elements : Plan → List Element
elements p = elements_for p.intent p.content

abbrev pub slots : Plan → List Slot
slots p = map slot (elements p)

-- ---- the header (7.2)

-- where maker, model, intent and id stand
abbrev pub maker_at : ℕ
maker_at = 48

abbrev pub model_at : ℕ
model_at = 52

abbrev pub intent_at : ℕ
intent_at = 64

abbrev pub id_at : ℕ
id_at = 84

abbrev pub id_size : ℕ
id_size = 16

-- what of a header its kind does not fix
pub record Varying : Type 0 where
  pub size : ℕ
  pub maker : ℕ
  pub model : ℕ
  pub intent : ℕ
  pub id : List ℕ

abbrev pub class : Kind → List ℕ
class Gray = Sig.mntr
class Rgb = Sig.mntr
class Xyb = Sig.scnr

abbrev pub space : Kind → List ℕ
space Gray = Sig.GRAY
space Rgb = Sig.RGB
space Xyb = Sig.RGB

-- bytes 4 to 43: preferred CMM, version 4.4, class, data color space, PCS, 2019-12-01 00:00:00, file signature, platform
abbrev pub front : Kind → List ℕ
front k =
    join (Sig.jxl ∷ (4 ∷ 64 ∷ 0 ∷ 0 ∷ []) ∷ class k ∷ space k ∷ Sig.XYZ ∷ be16 2019 ∷ be16 12 ∷ be16 1 ∷ zeros 6 ∷ Sig.acsp ∷ Sig.APPL ∷ [])

-- size; the above; flags; device manufacturer, model and attributes; intent; PCS illuminant; creator; id; reserved
abbrev pub header_fields : Kind → Varying → List (List ℕ)
header_fields k v =
    be32 v.size ∷ front k ∷ zeros 4 ∷ be32 v.maker ∷ be32 v.model ∷ zeros 8 ∷ be32 v.intent ∷ s15_fixed_16s D50 ∷ Sig.jxl ∷ v.id ∷ zeros 28 ∷ []

unfoldable pub header : Kind → Varying → List ℕ
header k v = join (header_fields k v)

-- what the header of a plan says, in a file of n bytes
abbrev pub varying : ℕ → List ℕ → Plan → Varying
varying n id p = record { size = n; maker = p.maker; model = p.model; intent = p.intent; id = id }

-- the header, while the intent and the id are zero, of a file of n bytes by this maker and of this model
abbrev pub blank_header : Kind → ℕ → ℕ → ℕ → List ℕ
blank_header k n a b = header k (record { size = n; maker = a; model = b; intent = 0; id = zeros id_size })

-- ---- the file

-- the plan's file under any id
unfoldable pub with_id : List ℕ → Plan → List ℕ
with_id id p = file (header (kind p) (varying (file_length (slots p)) id p)) (elements p)

-- a file with bytes 44 to 47, 64 to 67 and 84 to 99 zero
unfoldable pub blanked : List ℕ → List ℕ
blanked f = join (take 44 f ∷ zeros 4 ∷ take 16 (drop 48 f) ∷ zeros 4 ∷ take 16 (drop 68 f) ∷ zeros 16 ∷ drop 100 f ∷ [])

-- the id of a file (7.2.18)
unfoldable pub profile_id : List ℕ → List ℕ
profile_id f = md5 (blanked f)

-- the id of the plan's file
unfoldable pub computed_id : Plan → List ℕ
computed_id p = profile_id (with_id (zeros id_size) p)

-- what stands in place of the id: sixteen zero bytes, if the plan has the mark
unfoldable pub id_for : Plan → List ℕ
id_for p = cond p.id_not_computed (zeros id_size) (computed_id p)

-- the plan's file
unfoldable pub layout : Plan → List ℕ
layout p = with_id (id_for p) p
