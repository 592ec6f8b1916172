-- XYB files by their intent, and those before order 8 of 02. Assumes nothing.
use Rattle.std.specs.Prelude.{ℕ, List, [], ◌∷◌, ◌++◌}
use Rattle.buffer.specs.Ascii.{ascii}
use Rattle.buffer.specs.Buffer.{put}
use Rattle.buffer.specs.Bytes.{zeros}
use Rattle.color_encoding.specs.Intent.{intent_number, intent_name}
use Rattle.color_encoding.specs.declared.RenderingIntent.{RenderingIntent}
use Rattle.xyb_constants.specs.XybNumbers as XybNumbers
use Rattle.profile.specs.Signatures as Sig
use Rattle.profile.specs.Elements.{Element, file}
use Rattle.profile.specs.Plan.{Plan, with_device}
use Rattle.profile.specs.TagTypes.{utf16, sf32}
use Rattle.profile.specs.Xyb.{a2b0, b2a0}
use Rattle.profile.specs.Layout.{tag, D50, first_elements, id_at, id_size, header, profile_id}
use Rattle.profile.specs.declared.Kind.TheVariants.{Xyb}
use Rattle.encoding_plan.specs.PlanOf.{xyb_plan}

-- the plan of XYB with this intent, maker and model
abbrev pub xyb_plan_with : ℕ → ℕ → RenderingIntent → Plan
xyb_plan_with maker model i = with_device maker model (xyb_plan i)

-- ---- the files before the order: one intent, and its text

abbrev pub old_xyb_elements : List Element
old_xyb_elements = first_elements (ascii "XYB_Per") D50 ++ (tag Sig.chad (sf32 XybNumbers.chad) ∷ tag Sig.A2B0 a2b0 ∷ tag Sig.B2A0 b2a0 ∷ [])

unfoldable pub old_xyb_with_id : List ℕ → ℕ → ℕ → List ℕ
old_xyb_with_id id maker model = file (header Xyb (record { size = 720; maker = maker; model = model; intent = 0; id = id })) old_xyb_elements

unfoldable pub old_xyb_file : ℕ → ℕ → List ℕ
old_xyb_file maker model = old_xyb_with_id (profile_id (old_xyb_with_id (zeros id_size) maker model)) maker model

-- ---- "the Perceptual file with the intent in header byte 67, the matching text and a new id"

abbrev pub with_byte67 : RenderingIntent → List ℕ → List ℕ
with_byte67 i f = put f 67 (intent_number i ∷ [])

-- the three letters of the intent in UTF-16BE, which stand after those of `XYB_`
abbrev pub with_letters : RenderingIntent → List ℕ → List ℕ
with_letters i f = put f 240 (utf16 (intent_name i))

abbrev pub patched_xyb : RenderingIntent → List ℕ → List ℕ
patched_xyb i f = let g = with_letters i (with_byte67 i f) in put g id_at (profile_id g)
