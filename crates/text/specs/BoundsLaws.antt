-- The lengths and the letters of a description's parts.
-- Assumes nothing.
use Rattle.std.specs.Prelude.{◌≡◌, refl, Bool, true, false, cond, List, [], ◌∷◌, ◌++◌, ℕ, ◌+◌, ◌≤◌, length, Float}
use Rattle.std.proofs.Common.{arith, lit≤, length-append, le_trans, le_of_eq}
use Rattle.color_encoding.specs.declared.RenderingIntent.{RenderingIntent}
use Rattle.color_encoding.specs.declared.RenderingIntent.TheVariants.{Perceptual, Relative, Saturation, Absolute}
use Rattle.color_encoding.specs.declared.JxlWhitePoint.{JxlWhitePoint}
use Rattle.color_encoding.specs.declared.JxlWhitePoint.TheVariants as W
use Rattle.color_encoding.specs.declared.JxlPrimaries.{JxlPrimaries}
use Rattle.color_encoding.specs.declared.JxlPrimaries.TheVariants as P
use Rattle.color_encoding.specs.declared.JxlTransferFunction.{JxlTransferFunction}
use Rattle.color_encoding.specs.declared.JxlTransferFunction.TheVariants as F
use Rattle.color_encoding.specs.Intent.{intent_name}
use Rattle.color_encoding.specs.IntentLaws.{length-intent_name}
use Rattle.color_encoding.specs.Coordinates.{white_xy}
use Rattle.color_encoding.specs.RangeLaws.{within}
use Rattle.buffer.specs.All.{none, more}
use Rattle.buffer.specs.Ascii.{Ascii}
use Rattle.decimal.specs.AsciiLaws.{append, written, ascii_seven}
use Rattle.decimal.specs.Seven.{seven_decimals}
use Rattle.decimal.specs.SevenLaws.{length-seven, length-unit, length-positive_unit}
use Rattle.text.specs.Description.{comma, semicolon, underscore, pair, white_name, primaries_name, transfer_name, matches, rgb_text, gray_text, xyb_text, rgb_description, srgb, display_p3, rec2100_pq, rec2100_hlg}
use Rattle.text.specs.Held.{Held, HeldWhite, HeldPrimaries, HeldTransfer, InRange}
use Rattle.text.specs.Written.{Short}

-- ---- the parts

length-pair : (c : ℕ) (x y : Float) (m n : ℕ) → length (seven_decimals x) ≤ m → length (seven_decimals y) ≤ n → length (pair (c ∷ []) x y) ≤ m + 1 + n
unfolding pair
length-pair c x y m n h g = simp length-append (omega arith)

held_pair : (c : ℕ) (x y : Float) → Held x × Held y → length (pair (c ∷ []) x y) ≤ 97
held_pair c x y h = length-pair c x y 48 48 (length-seven x h.0) (length-seven y h.1)

pub length-white : (w : JxlWhitePoint) → HeldWhite w → length (white_name w) ≤ 97
unfolding white_name
length-white W.D65 h = lit≤ tt
length-white W.E h = lit≤ tt
length-white W.DCI h = lit≤ tt
length-white (W.Chromaticity wx wy) h = held_pair 59 wx wy h

pub length-white_in_range : (w : JxlWhitePoint) → InRange w → length (white_name w) ≤ 20
unfolding white_name
length-white_in_range W.D65 h = lit≤ tt
length-white_in_range W.E h = lit≤ tt
length-white_in_range W.DCI h = lit≤ tt
length-white_in_range (W.Chromaticity wx wy) h =
    let in_range_lem = within (white_xy (W.Chromaticity wx wy)) h in
    length-pair 59 wx wy 10 9 (length-unit wx in_range_lem.x_from in_range_lem.x_to) (le_of_eq (length-positive_unit wy in_range_lem.y_above in_range_lem.y_to))

pub length_pairs : (a b c : List ℕ) → length (a ++ semicolon ++ b ++ semicolon ++ c) ≡ length a + 1 + length b + 1 + length c
length_pairs a b c = simp length-append (omega arith)

three_pairs_lem : (a b c : List ℕ) → length a ≤ 97 → length b ≤ 97 → length c ≤ 97 → length (a ++ semicolon ++ b ++ semicolon ++ c) ≤ 293
three_pairs_lem a b c h g f = omega (arith, length_pairs a b c)

length-primaries : (p : JxlPrimaries) → HeldPrimaries p → length (primaries_name p) ≤ 293
unfolding primaries_name
length-primaries P.SRGB h = lit≤ tt
length-primaries P.BT2100 h = lit≤ tt
length-primaries P.P3 h = lit≤ tt
length-primaries (P.Chromaticities rx ry gx gy bx by) h =
    three_pairs_lem (pair comma rx ry) (pair comma gx gy) (pair comma bx by) (held_pair 44 rx ry h.0) (held_pair 44 gx gy h.1.0) (held_pair 44 bx by h.1.1)

length-gamma : (l : List ℕ) → length l ≤ 48 → length {A = ℕ} (103 ∷ l) ≤ 49
length-gamma l h = omega arith

length-transfer : (t : JxlTransferFunction) → HeldTransfer t → length (transfer_name t) ≤ 49
unfolding transfer_name
length-transfer F.BT709 h = lit≤ tt
length-transfer F.Linear h = lit≤ tt
length-transfer F.SRGB h = lit≤ tt
length-transfer F.PQ h = lit≤ tt
length-transfer F.DCI h = lit≤ tt
length-transfer F.HLG h = lit≤ tt
length-transfer (F.Gamma g) h = length-gamma (seven_decimals g) (length-seven g h)

five : (a w p i t : List ℕ) (n : ℕ) → length a ≡ 4 → length w ≤ n → length p ≤ 293 → length i ≡ 3 → length t ≤ 49
    → length (a ++ w ++ underscore ++ p ++ underscore ++ i ++ underscore ++ t) ≤ n + 352
five a w p i t n x h g e f = simp length-append (omega arith)

four : (a w i t : List ℕ) → length a ≡ 4 → length w ≤ 97 → length i ≡ 3 → length t ≤ 49 → length (a ++ w ++ underscore ++ i ++ underscore ++ t) ≤ 155
four a w i t x h e f = simp length-append (omega arith)

two : (a i : List ℕ) → length a ≡ 4 → length i ≡ 3 → length (a ++ i) ≤ 7
two a i x e = simp length-append (omega arith)

-- one of the four common names, or the text
module _ (Q : List ℕ → Type 0) (w : JxlWhitePoint) (p : JxlPrimaries) (t : JxlTransferFunction) (i : RenderingIntent) where
  one_of : Q srgb → Q display_p3 → Q rec2100_pq → Q rec2100_hlg → (z : List ℕ) → Q z → (a b c d : Bool)
      → Q (cond a srgb (cond b display_p3 (cond c rec2100_pq (cond d rec2100_hlg z))))
  one_of hv hw hx hy z hz true b c d = hv
  one_of hv hw hx hy z hz false true c d = hw
  one_of hv hw hx hy z hz false false true d = hx
  one_of hv hw hx hy z hz false false false true = hy
  one_of hv hw hx hy z hz false false false false = hz

  of_rgb : Q srgb → Q display_p3 → Q rec2100_pq → Q rec2100_hlg → Q (rgb_text w p t i) → Q (rgb_description w p t i)
  unfolding rgb_description
  of_rgb hv hw hx hy hz =
      one_of hv hw hx hy (rgb_text w p t i) hz (matches w p t i W.D65 P.SRGB F.SRGB Perceptual) (matches w p t i W.D65 P.P3 F.SRGB Perceptual)
      (matches w p t i W.D65 P.BT2100 F.PQ Relative) (matches w p t i W.D65 P.BT2100 F.HLG Relative)

pub length-rgb_text : (w : JxlWhitePoint) (p : JxlPrimaries) (t : JxlTransferFunction) (i : RenderingIntent) (n : ℕ)
    → length (white_name w) ≤ n → HeldPrimaries p → HeldTransfer t → length (rgb_text w p t i) ≤ n + 352
unfolding rgb_text
length-rgb_text w p t i n h g f =
    five (82 ∷ 71 ∷ 66 ∷ 95 ∷ []) (white_name w) (primaries_name p) (intent_name i) (transfer_name t) n refl h (length-primaries p g) (length-intent_name i) (length-transfer t f)

pub length-rgb : (w : JxlWhitePoint) (p : JxlPrimaries) (t : JxlTransferFunction) (i : RenderingIntent) (n : ℕ)
    → length (white_name w) ≤ n → HeldPrimaries p → HeldTransfer t → length (rgb_description w p t i) ≤ n + 352
length-rgb w p t i n h g f =
    of_rgb (λ (l : List ℕ). length l ≤ n + 352) w p t i (named 4 n (lit≤ tt)) (named 9 n (lit≤ tt)) (named 9 n (lit≤ tt)) (named 10 n (lit≤ tt))
    (length-rgb_text w p t i n h g f)
  where
    named : (k n : ℕ) → k ≤ 352 → k ≤ n + 352
    named k n h = omega arith

pub length-gray_text : (w : JxlWhitePoint) (t : JxlTransferFunction) (i : RenderingIntent) → HeldWhite w → HeldTransfer t → length (gray_text w t i) ≤ 155
unfolding gray_text
length-gray_text w t i h f = four (71 ∷ 114 ∷ 97 ∷ 95 ∷ []) (white_name w) (intent_name i) (transfer_name t) refl (length-white w h) (length-intent_name i) (length-transfer t f)

pub length-xyb_text_lem : (i : RenderingIntent) → length (xyb_text i) ≤ 7
unfolding xyb_text
length-xyb_text_lem i = two (88 ∷ 89 ∷ 66 ∷ 95 ∷ []) (intent_name i) refl (length-intent_name i)

-- ---- short texts

pub short : {Asked : Type 0} {l : List ℕ} → length l ≤ 372 → Short Asked l
short h = record { any = le_trans h (lit≤ tt); accepted = λ a. h }

pub short_rgb : (w : JxlWhitePoint) (p : JxlPrimaries) (t : JxlTransferFunction) (i : RenderingIntent) → HeldWhite w → HeldPrimaries p → HeldTransfer t
    → Short (InRange w) (rgb_text w p t i)
short_rgb w p t i h g f =
    record {
      any = length-rgb_text w p t i 97 (length-white w h) g f;
      accepted = λ r. length-rgb_text w p t i 20 (length-white_in_range w r) g f;
    }

-- ---- some letter

begun : (c d e f : ℕ) (l : List ℕ) → 1 ≤ length ((c ∷ d ∷ e ∷ f ∷ []) ++ l)
begun c d e f l = omega arith

some-rgb_text : (w : JxlWhitePoint) (p : JxlPrimaries) (t : JxlTransferFunction) (i : RenderingIntent) → 1 ≤ length (rgb_text w p t i)
unfolding rgb_text
some-rgb_text w p t i = begun 82 71 66 95 (white_name w ++ underscore ++ primaries_name p ++ underscore ++ intent_name i ++ underscore ++ transfer_name t)

pub some-rgb : (w : JxlWhitePoint) (p : JxlPrimaries) (t : JxlTransferFunction) (i : RenderingIntent) → 1 ≤ length (rgb_description w p t i)
some-rgb w p t i = of_rgb (λ (l : List ℕ). 1 ≤ length l) w p t i (lit≤ tt) (lit≤ tt) (lit≤ tt) (lit≤ tt) (some-rgb_text w p t i)

pub some-gray : (w : JxlWhitePoint) (t : JxlTransferFunction) (i : RenderingIntent) → 1 ≤ length (gray_text w t i)
unfolding gray_text
some-gray w t i = begun 71 114 97 95 (white_name w ++ underscore ++ intent_name i ++ underscore ++ transfer_name t)

pub some-xyb : (i : RenderingIntent) → 1 ≤ length (xyb_text i)
unfolding xyb_text
some-xyb i = begun 88 89 66 95 (intent_name i)

-- ---- ASCII

ascii_pair : (c : ℕ) (x y : Float) → c ≤ 127 → Ascii (pair (c ∷ []) x y)
unfolding pair
ascii_pair c x y h =
    append (seven_decimals x ++ (c ∷ [])) (seven_decimals y) (append (seven_decimals x) (c ∷ []) (ascii_seven x) (more h none)) (ascii_seven y)

ascii_white : (w : JxlWhitePoint) → Ascii (white_name w)
unfolding white_name
ascii_white W.D65 = written (68 ∷ 54 ∷ 53 ∷ []) tt
ascii_white W.E = written (69 ∷ 69 ∷ 82 ∷ []) tt
ascii_white W.DCI = written (68 ∷ 67 ∷ 73 ∷ []) tt
ascii_white (W.Chromaticity wx wy) = ascii_pair 59 wx wy (lit≤ tt)

ascii_primaries : (p : JxlPrimaries) → Ascii (primaries_name p)
unfolding primaries_name
ascii_primaries P.SRGB = written (83 ∷ 82 ∷ 71 ∷ []) tt
ascii_primaries P.BT2100 = written (50 ∷ 48 ∷ 50 ∷ []) tt
ascii_primaries P.P3 = written (68 ∷ 67 ∷ 73 ∷ []) tt
ascii_primaries (P.Chromaticities rx ry gx gy bx by) =
    let mark = written semicolon tt in
    let a = pair comma rx ry in
    let b = pair comma gx gy in
    append (a ++ semicolon ++ b ++ semicolon) (pair comma bx by)
    (append (a ++ semicolon ++ b) semicolon (append (a ++ semicolon) b (append a semicolon (ascii_pair 44 rx ry (lit≤ tt)) mark) (ascii_pair 44 gx gy (lit≤ tt))) mark)
    (ascii_pair 44 bx by (lit≤ tt))

ascii_transfer : (t : JxlTransferFunction) → Ascii (transfer_name t)
unfolding transfer_name
ascii_transfer F.BT709 = written (55 ∷ 48 ∷ 57 ∷ []) tt
ascii_transfer F.Linear = written (76 ∷ 105 ∷ 110 ∷ []) tt
ascii_transfer F.SRGB = written (83 ∷ 82 ∷ 71 ∷ []) tt
ascii_transfer F.PQ = written (80 ∷ 101 ∷ 81 ∷ []) tt
ascii_transfer F.DCI = written (68 ∷ 67 ∷ 73 ∷ []) tt
ascii_transfer F.HLG = written (72 ∷ 76 ∷ 71 ∷ []) tt
ascii_transfer (F.Gamma g) = more (lit≤ tt) (ascii_seven g)

ascii_intent : (i : RenderingIntent) → Ascii (intent_name i)
ascii_intent Perceptual = written (80 ∷ 101 ∷ 114 ∷ []) tt
ascii_intent Relative = written (82 ∷ 101 ∷ 108 ∷ []) tt
ascii_intent Saturation = written (83 ∷ 97 ∷ 116 ∷ []) tt
ascii_intent Absolute = written (65 ∷ 98 ∷ 115 ∷ []) tt

-- a part after a mark
marked : (a b : List ℕ) → Ascii a → Ascii b → Ascii (a ++ underscore ++ b)
marked a b h g = append (a ++ underscore) b (append a underscore h (written underscore tt)) g

ascii_rgb_text : (w : JxlWhitePoint) (p : JxlPrimaries) (t : JxlTransferFunction) (i : RenderingIntent) → Ascii (rgb_text w p t i)
unfolding rgb_text
ascii_rgb_text w p t i =
    let a = (82 ∷ 71 ∷ 66 ∷ 95 ∷ []) ++ white_name w in
    let b = a ++ underscore ++ primaries_name p in
    let c = b ++ underscore ++ intent_name i in
    marked c (transfer_name t)
    (marked b (intent_name i) (marked a (primaries_name p) (append (82 ∷ 71 ∷ 66 ∷ 95 ∷ []) (white_name w) (written (82 ∷ 71 ∷ 66 ∷ 95 ∷ []) tt) (ascii_white w)) (ascii_primaries p)) (ascii_intent i))
    (ascii_transfer t)

pub ascii_rgb : (w : JxlWhitePoint) (p : JxlPrimaries) (t : JxlTransferFunction) (i : RenderingIntent) → Ascii (rgb_description w p t i)
ascii_rgb w p t i = of_rgb Ascii w p t i (written srgb tt) (written display_p3 tt) (written rec2100_pq tt) (written rec2100_hlg tt) (ascii_rgb_text w p t i)

pub ascii_gray : (w : JxlWhitePoint) (t : JxlTransferFunction) (i : RenderingIntent) → Ascii (gray_text w t i)
unfolding gray_text
ascii_gray w t i =
    let a = (71 ∷ 114 ∷ 97 ∷ 95 ∷ []) ++ white_name w in
    marked (a ++ underscore ++ intent_name i) (transfer_name t)
    (marked a (intent_name i) (append (71 ∷ 114 ∷ 97 ∷ 95 ∷ []) (white_name w) (written (71 ∷ 114 ∷ 97 ∷ 95 ∷ []) tt) (ascii_white w)) (ascii_intent i))
    (ascii_transfer t)

pub ascii_xyb : (i : RenderingIntent) → Ascii (xyb_text i)
unfolding xyb_text
ascii_xyb i = append (88 ∷ 89 ∷ 66 ∷ 95 ∷ []) (intent_name i) (written (88 ∷ 89 ∷ 66 ∷ 95 ∷ []) tt) (ascii_intent i)
