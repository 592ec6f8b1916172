-- A part of a record as the code puts it: the byte of its number, and then its floats or zeros. Assumes nothing.
use Prim.Native.Nat.{ℕ, ◌+◌, ◌≤◌}
use mathlib.Core.Path.{◌≡◌, refl, sym, ap₂}
use mathlib.Core.List.{List, ◌∷◌, ◌++◌, append_assoc}
use lib.ListN.{length}
use lib.Ieee.{Float}
use Rattle.color_encoding.specs.declared.JxlWhitePoint.{JxlWhitePoint}
use Rattle.color_encoding.specs.declared.JxlWhitePoint.TheVariants as W
use Rattle.color_encoding.specs.declared.JxlPrimaries.{JxlPrimaries}
use Rattle.color_encoding.specs.declared.JxlPrimaries.TheVariants as P
use Rattle.color_encoding.specs.declared.JxlTransferFunction.{JxlTransferFunction}
use Rattle.color_encoding.specs.declared.JxlTransferFunction.TheVariants as F
use Rattle.buffer.specs.Bytes.{zeros}
use Rattle.buffer.specs.Puts.{Puts}
use Rattle.buffer.specs.PutsLaws.{joined}
use Rattle.encoding_record.specs.EncodingRecord.{white_floats, primaries_floats, curve_float}

-- the same bytes by another name
pub named : {l o q : List ℕ} {at j n : ℕ} (s : List ℕ) → s ≡ q → Puts l at n q j o → Puts l at n s j o
named s e p = rw e p

-- a number and floats, each by another name
pub part : {l o q : List ℕ} {at j k n : ℕ} (number : ℕ) (floats : List ℕ) → n ≡ number → floats ≡ q → Puts l at k (n ∷ q) j o → Puts l at k (number ∷ floats) j o
part number floats n e p = named (number ∷ floats) (ap₂ (λ (x : ℕ) (r : List ℕ). x ∷ r) (sym n) e) p

-- three runs of bytes are one
pub three : {l m n o a b c : List ℕ} {at i j k x y z : ℕ} → at ≤ length l → Puts l at x a i m → Puts m i y b j n → Puts n j z c k o → Puts l at (x + y + z) (a ++ (b ++ c)) k o
three {a = a} {b = b} {c = c} h p q r = named (a ++ (b ++ c)) (sym (append_assoc a b c)) (joined h (joined h p q) r)

-- ---- the floats of a named variant, by what a `match` tells, are zeros

pub white_zeros : (w : JxlWhitePoint) → ((x y : Float) → w ≡ W.Chromaticity x y → ⊥) → white_floats w ≡ zeros 8
white_zeros W.D65 h = refl
white_zeros W.E h = refl
white_zeros W.DCI h = refl
white_zeros (W.Chromaticity wx wy) h = absurd (h wx wy refl)

pub primaries_zeros : (p : JxlPrimaries) → ((a b c d e f : Float) → p ≡ P.Chromaticities a b c d e f → ⊥) → primaries_floats p ≡ zeros 24
primaries_zeros P.SRGB h = refl
primaries_zeros P.BT2100 h = refl
primaries_zeros P.P3 h = refl
primaries_zeros (P.Chromaticities rx ry gx gy bx by) h = absurd (h rx ry gx gy bx by refl)

pub curve_zeros : (t : JxlTransferFunction) → ((g : Float) → t ≡ F.Gamma g → ⊥) → curve_float t ≡ zeros 4
curve_zeros F.BT709 h = refl
curve_zeros F.Linear h = refl
curve_zeros F.SRGB h = refl
curve_zeros F.PQ h = refl
curve_zeros F.DCI h = refl
curve_zeros F.HLG h = refl
curve_zeros (F.Gamma g) h = absurd (h g refl)
