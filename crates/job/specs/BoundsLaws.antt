-- Every entry of a job is within, and so is every answer. Assumes nothing.
use Rattle.std.specs.Prelude.{Option, ℕ, zero, suc, ◌+◌, ◌≤◌, ◌≡◌, List, drop, Float}
use Rattle.std.proofs.Common.{sym, subst, lit≤}
use Rattle.std.specs.Float.{binary32}
use Rattle.std.specs.Float.Ieee.Bits.{of_bits-fits}
use Rattle.buffer.specs.Checked.{Checked, is, refused, then}
use Rattle.words.specs.Words.{word32}
use Rattle.color_encoding.specs.Codes.{white_point_from, primaries_from, transfer_function_from, intent_from}
use Rattle.color_encoding.specs.declared.RenderingIntent.{RenderingIntent}
use Rattle.color_encoding.specs.declared.JxlColorEncoding.{JxlColorEncoding}
use Rattle.text.specs.Held.{Held, HeldWhite, HeldPrimaries, HeldTransfer, HeldEncoding}
use Rattle.job_entry.specs.Entry.{byte_at, float_at, white_at, primaries_at, curve_at, intent_at, gray_encoding, rgb_encoding, xyb_encoding}
use Rattle.job.specs.Counts.{told_of}
use Rattle.job.specs.Bounds.{EntryAnswerBounds, greatest_refusal}
use Rattle.job.specs.declared.Section.{Section}
use Rattle.job.specs.declared.Section.TheVariants.{Gray, Rgb, Xyb}
use Rattle.job.specs.Job.{number}
use Rattle.job.specs.declared.JobEntry.{JobEntry}

-- a value that a check gave, or the number of its refusal
abbrev Given : {A : Type 0} → (A → Type 0) → Checked A → Type 0
Given P (is a) = P a
Given P (refused k) = k ≤ greatest_refusal

given_then : {A B : Type 0} (P : A → Type 0) (Q : B → Type 0) (c : Checked A) (f : A → Checked B) → Given P c → ((a : A) → P a → Given Q (f a)) → Given Q (then c f)
given_then P Q (is a) f p h = h a p
given_then P Q (refused k) f p h = p

-- ---- codes

held_white : (n : ℕ) (wx wy : Float) → Held wx → Held wy → Given HeldWhite (white_point_from n wx wy)
held_white zero wx wy a b = tt
held_white (suc zero) wx wy a b = tt
held_white (suc (suc zero)) wx wy a b = tt
held_white (suc (suc (suc zero))) wx wy a b = (a, b)
held_white (suc (suc (suc (suc n)))) wx wy a b = lit≤ tt

held_primaries : (n : ℕ) (rx ry gx gy bx by : Float) → Held rx → Held ry → Held gx → Held gy → Held bx → Held by
    → Given HeldPrimaries (primaries_from n rx ry gx gy bx by)
held_primaries zero rx ry gx gy bx by a b c d e f = tt
held_primaries (suc zero) rx ry gx gy bx by a b c d e f = tt
held_primaries (suc (suc zero)) rx ry gx gy bx by a b c d e f = tt
held_primaries (suc (suc (suc zero))) rx ry gx gy bx by a b c d e f = ((a, b), ((c, d), (e, f)))
held_primaries (suc (suc (suc (suc n)))) rx ry gx gy bx by a b c d e f = lit≤ tt

held_curve : (n : ℕ) (g : Float) → Held g → Given HeldTransfer (transfer_function_from n g)
held_curve zero g a = tt
held_curve (suc zero) g a = tt
held_curve (suc (suc zero)) g a = tt
held_curve (suc (suc (suc zero))) g a = tt
held_curve (suc (suc (suc (suc zero)))) g a = tt
held_curve (suc (suc (suc (suc (suc zero))))) g a = tt
held_curve (suc (suc (suc (suc (suc (suc zero)))))) g a = a
held_curve (suc (suc (suc (suc (suc (suc (suc n))))))) g a = lit≤ tt

any_intent : (n : ℕ) → Given (λ a. Unit {0}) (intent_from n)
any_intent zero = tt
any_intent (suc zero) = tt
any_intent (suc (suc zero)) = tt
any_intent (suc (suc (suc zero))) = tt
any_intent (suc (suc (suc (suc n)))) = lit≤ tt

-- ---- entries

module _ (b : List ℕ) where
  float : (i : ℕ) → Held (float_at b i)
  float i = of_bits-fits binary32 (word32 (drop i b))

  white : (i : ℕ) → Given HeldWhite (white_at b i)
  white i = held_white (byte_at b i) (float_at b (i + 1)) (float_at b (i + 5)) (float (i + 1)) (float (i + 5))

  primaries : (i : ℕ) → Given HeldPrimaries (primaries_at b i)
  primaries i =
      held_primaries (byte_at b i) (float_at b (i + 1)) (float_at b (i + 5)) (float_at b (i + 9)) (float_at b (i + 13)) (float_at b (i + 17)) (float_at b (i + 21))
      (float (i + 1)) (float (i + 5)) (float (i + 9)) (float (i + 13)) (float (i + 17)) (float (i + 21))

  curve : (i : ℕ) → Given HeldTransfer (curve_at b i)
  curve i = held_curve (byte_at b i) (float_at b (i + 1)) (float (i + 1))

  pub held_gray : Given HeldEncoding (gray_encoding b)
  unfolding gray_encoding
  held_gray =
      given_then HeldWhite HeldEncoding (white_at b 0) _ (white 0) (λ w hw.
      given_then HeldTransfer HeldEncoding (curve_at b 9) _ (curve 9) (λ t ht.
      given_then (λ (i : RenderingIntent). Unit {0}) HeldEncoding (intent_at b 14) _ (any_intent (byte_at b 14)) (λ i hi.
      (hw, ht))))

  pub held_rgb : Given HeldEncoding (rgb_encoding b)
  unfolding rgb_encoding
  held_rgb =
      given_then HeldWhite HeldEncoding (white_at b 0) _ (white 0) (λ w hw.
      given_then HeldPrimaries HeldEncoding (primaries_at b 9) _ (primaries 9) (λ p hp.
      given_then HeldTransfer HeldEncoding (curve_at b 34) _ (curve 34) (λ t ht.
      given_then (λ (i : RenderingIntent). Unit {0}) HeldEncoding (intent_at b 39) _ (any_intent (byte_at b 39)) (λ i hi.
      (hw, (hp, ht))))))

  pub held_xyb : Given HeldEncoding (xyb_encoding b)
  unfolding xyb_encoding
  held_xyb = given_then (λ (i : RenderingIntent). Unit {0}) HeldEncoding (intent_at b 0) _ (any_intent (byte_at b 0)) (λ i hi. tt)

-- the number of a section has one digit
pub section_number : (s : Section) → number s ≤ 3
section_number Gray = lit≤ tt
section_number Rgb = lit≤ tt
section_number Xyb = lit≤ tt

-- an entry at a place of a section
pub bounds_told : (s : Section) (k : ℕ) (c : Checked JxlColorEncoding) → k ≤ 255 → Given HeldEncoding c → EntryAnswerBounds (told_of s k c)
bounds_told s k (is e) b h = record { place = b; floats = h }
bounds_told s k (refused n) b h = h

pub bounds_same : {a b : Checked (Option JobEntry)} → a ≡ b → EntryAnswerBounds b → EntryAnswerBounds a
bounds_same {a} {b} e h = subst (λ (x : Checked (Option JobEntry)). EntryAnswerBounds x) (sym e) h
