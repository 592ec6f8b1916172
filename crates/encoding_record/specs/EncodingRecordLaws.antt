-- The bytes of a record: how many there are, and what is read back from them. Assumes nothing.
use Rattle.std.specs.Prelude.{ℕ, ◌≡◌, refl, List, [], ◌∷◌, ◌++◌, Float, length, drop}
use Rattle.std.proofs.Common.{ap, ap₂, sym, ◌∙◌, append_assoc, add-zero, length-append, drop_at, drop-drop, get_or-drop}
use Rattle.std.specs.Float.{binary32}
use Rattle.std.specs.Float.Ieee.{to_bits, of_bits}
use Rattle.std.specs.Float.Ieee.Bits.{of_bits-to_bits, to_bits-lt}
use Rattle.buffer.specs.Checked.{is}
use Rattle.words.specs.Words.{be32, word32}
use Rattle.words.specs.WordsLaws.{word32_be32}
use Rattle.color_encoding.specs.declared.RenderingIntent.{RenderingIntent}
use Rattle.color_encoding.specs.declared.RenderingIntent.TheVariants.{Perceptual, Relative, Saturation, Absolute}
use Rattle.color_encoding.specs.declared.JxlWhitePoint.{JxlWhitePoint}
use Rattle.color_encoding.specs.declared.JxlWhitePoint.TheVariants as W
use Rattle.color_encoding.specs.declared.JxlPrimaries.{JxlPrimaries}
use Rattle.color_encoding.specs.declared.JxlPrimaries.TheVariants as P
use Rattle.color_encoding.specs.declared.JxlTransferFunction.{JxlTransferFunction}
use Rattle.color_encoding.specs.declared.JxlTransferFunction.TheVariants as F
use Rattle.color_encoding.specs.Intent.{intent_number}
use Rattle.text.specs.Held.{Held, HeldWhite, HeldPrimaries, HeldTransfer}
use Rattle.job_entry.specs.Entry.{white_at, primaries_at, curve_at, intent_at}
use Rattle.encoding_record.specs.EncodingRecord.{float_bytes, white_bytes, primaries_bytes, curve_bytes}

-- ---- how many bytes a part has

pub length-white : (w : JxlWhitePoint) → length (white_bytes w) ≡ 9
unfolding be32
length-white W.D65 = refl
length-white W.E = refl
length-white W.DCI = refl
length-white (W.Chromaticity wx wy) = refl

pub length-primaries : (p : JxlPrimaries) → length (primaries_bytes p) ≡ 25
unfolding be32
length-primaries P.SRGB = refl
length-primaries P.BT2100 = refl
length-primaries P.P3 = refl
length-primaries (P.Chromaticities rx ry gx gy bx by) = refl

pub length-curve : (t : JxlTransferFunction) → length (curve_bytes t) ≡ 5
unfolding be32
length-curve F.BT709 = refl
length-curve F.Linear = refl
length-curve F.SRGB = refl
length-curve F.PQ = refl
length-curve F.DCI = refl
length-curve F.HLG = refl
length-curve (F.Gamma g) = refl

-- ---- a part read back from its bytes, whatever follows them

float_back : (x : Float) (r : List ℕ) → Held x → of_bits binary32 (word32 (float_bytes x ++ r)) ≡ x
float_back x r h = ap (of_bits binary32) (word32_be32 (to_bits binary32 x) r (to_bits-lt binary32 x h)) ∙ of_bits-to_bits binary32 x h

white_back : (w : JxlWhitePoint) (r : List ℕ) → HeldWhite w → white_at (white_bytes w ++ r) 0 ≡ is w
unfolding be32
white_back W.D65 r h = refl
white_back W.E r h = refl
white_back W.DCI r h = refl
white_back (W.Chromaticity wx wy) r h = ap₂ (λ (x y : Float). is (W.Chromaticity x y)) (float_back wx (float_bytes wy ++ r) h.0) (float_back wy r h.1)

primaries_back : (p : JxlPrimaries) (r : List ℕ) → HeldPrimaries p → primaries_at (primaries_bytes p ++ r) 0 ≡ is p
unfolding be32
primaries_back P.SRGB r h = refl
primaries_back P.BT2100 r h = refl
primaries_back P.P3 r h = refl
primaries_back (P.Chromaticities rx ry gx gy bx by) r h =
    let behind-by = float_bytes by ++ r in
    let behind-bx = float_bytes bx ++ behind-by in
    let behind-gy = float_bytes gy ++ behind-bx in
    let behind-gx = float_bytes gx ++ behind-gy in
    let behind-ry = float_bytes ry ++ behind-gx in
    λ j.
    is
    (P.Chromaticities
    (float_back rx behind-ry h.0.0 j)
    (float_back ry behind-gx h.0.1 j)
    (float_back gx behind-gy h.1.0.0 j)
    (float_back gy behind-bx h.1.0.1 j)
    (float_back bx behind-by h.1.1.0 j)
    (float_back by r h.1.1.1 j))

curve_back : (t : JxlTransferFunction) (r : List ℕ) → HeldTransfer t → curve_at (curve_bytes t ++ r) 0 ≡ is t
unfolding be32
curve_back F.BT709 r h = refl
curve_back F.Linear r h = refl
curve_back F.SRGB r h = refl
curve_back F.PQ r h = refl
curve_back F.DCI r h = refl
curve_back F.HLG r h = refl
curve_back (F.Gamma g) r h = ap (λ (x : Float). is (F.Gamma x)) (float_back g r h)

pub intent_back : (i : RenderingIntent) (r : List ℕ) → intent_at (intent_number i ∷ r) 0 ≡ is i
intent_back Perceptual r = refl
intent_back Relative r = refl
intent_back Saturation r = refl
intent_back Absolute r = refl

-- ---- a part at a place is one at the front of what stands there

primaries_there : (b : List ℕ) (i : ℕ) → primaries_at b i ≡ primaries_at (drop i b) 0
primaries_there b i = simp (drop-drop, get_or-drop, add-zero)

curve_there : (b : List ℕ) (i : ℕ) → curve_at b i ≡ curve_at (drop i b) 0
curve_there b i = simp (drop-drop, get_or-drop, add-zero)

intent_there : (b : List ℕ) (i : ℕ) → intent_at b i ≡ intent_at (drop i b) 0
intent_there b i = simp (get_or-drop, add-zero)

-- ---- an entry of white point, primaries or as many zeros, curve and intent

abbrev pub parts_bytes : JxlWhitePoint → List ℕ → JxlTransferFunction → RenderingIntent → List ℕ
parts_bytes w middle t i = white_bytes w ++ (middle ++ (curve_bytes t ++ (intent_number i ∷ [])))

module _ (w : JxlWhitePoint) (middle : List ℕ) (t : JxlTransferFunction) (i : RenderingIntent) (n : length middle ≡ 25) where
  pub length-parts : length (parts_bytes w middle t i) ≡ 40
  length-parts = simp (length-append, length-white, length-curve, n)

  module _ (rest : List ℕ) where
    abbrev entry : List ℕ
    entry = parts_bytes w middle t i ++ rest

    abbrev from_curve : List ℕ
    from_curve = curve_bytes t ++ (intent_number i ∷ rest)

    grouped : entry ≡ white_bytes w ++ (middle ++ from_curve)
    grouped = simp append_assoc

    drop-white : drop 9 entry ≡ middle ++ from_curve
    drop-white = rw grouped (drop_at (white_bytes w) (middle ++ from_curve) 9 (length-white w))

    drop-middle : drop 34 entry ≡ from_curve
    drop-middle = sym (drop-drop 25 9 entry) ∙ rw drop-white (drop_at middle from_curve 25 n)

    drop-curve : drop 39 entry ≡ intent_number i ∷ rest
    drop-curve = sym (drop-drop 5 34 entry) ∙ rw drop-middle (drop_at (curve_bytes t) (intent_number i ∷ rest) 5 (length-curve t))

    pub white_told : HeldWhite w → white_at entry 0 ≡ is w
    white_told h = rw grouped (white_back w (middle ++ from_curve) h)

    pub curve_told : HeldTransfer t → curve_at entry 34 ≡ is t
    curve_told h = curve_there entry 34 ∙ rw drop-middle (curve_back t (intent_number i ∷ rest) h)

    pub intent_told : intent_at entry 39 ≡ is i
    intent_told = intent_there entry 39 ∙ rw drop-curve (intent_back i rest)

    pub primaries_told : (p : JxlPrimaries) → HeldPrimaries p → middle ≡ primaries_bytes p → primaries_at entry 9 ≡ is p
    primaries_told p h e = primaries_there entry 9 ∙ rw (drop-white, e) (primaries_back p from_curve h)
