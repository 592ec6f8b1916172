-- Lemmas of a typed text that is read from C: what the lent record tells, and why a number is answered. Assumes nothing.
use Rattle.std.specs.Prelude.{ℕ, ◌≤◌, ◌<◌, ◌≡◌, refl, ◌⊎◌, Bool, true, false, List, [], ◌++◌, leb, length, drop}
use Rattle.std.proofs.Common.{ap, ◌∙◌, subst, inl, inr, le-leb, leb-true, leb-false, drop_at}
use Rattle.std.proofs.lemmas.Bool.{lt-leb}
use Rattle.buffer.specs.Buffer.{put}
use Rattle.buffer.specs.BufferLaws.{put_after}
use Rattle.buffer.specs.Checked.{Checked, is, refused}
use Rattle.color_encoding.specs.declared.JxlColorEncoding.{JxlColorEncoding}
use Rattle.text.specs.Held.{HeldEncoding}
use Rattle.description_parser.specs.Language.{Describes, InLanguage, zero_gamma}
use Rattle.description_parser.specs.Parse.{parse}
use Rattle.description_laws.proofs.ReadsTexts.{answers_encoding, answers_51, answers_52}
use Rattle.description_laws.specs.ReadsLaws.{Answer, given}
use Rattle.description_laws.specs.ReadsLaws as Reads
use Rattle.encoding_record.specs.EncodingRecord.{encoding_size, encoding_record, encoding_by}
use Rattle.encoding_record.specs.EncodingRecordTold.{length-record, record_told}
use Rattle.host.specs.Host.{StoresEncoding}

-- ---- the lent record

-- the bytes of an encoding's record stand before the rest of what is lent
in_front : (e : JxlColorEncoding) (before : List ℕ) → put before 0 (encoding_record e) ≡ encoding_record e ++ drop encoding_size before
in_front e before = put_after [] before (encoding_record e) 0 refl ∙ ap (λ (n : ℕ). encoding_record e ++ drop n before) (length-record e)

pub record_of : (e : JxlColorEncoding) (before after : List ℕ) → HeldEncoding e → after ≡ put before 0 (encoding_record e)
    → (encoding_by after ≡ is e) × (drop encoding_size after ≡ drop encoding_size before)
record_of e before after held a =
    let rest = drop encoding_size before in
    let whole : after ≡ encoding_record e ++ rest = a ∙ in_front e before in
    (ap encoding_by whole ∙ record_told e held rest, ap (drop encoding_size) whole ∙ drop_at (encoding_record e) rest encoding_size (length-record e))

-- ---- what is answered and left, by what `parse` answers

module _ {c : Checked JxlColorEncoding} {before after : List ℕ} {r : ℕ} (h : StoresEncoding c before after r) where
  pub when_refused : {n : ℕ} → c ≡ refused n → (r ≡ n) × (after ≡ before)
  when_refused e = (h.answer ∙ rw e, h.left ∙ rw e)

  module _ {e : JxlColorEncoding} (known : c ≡ is e) where
    pub when_short : length before < encoding_size → (r ≡ 9) × (after ≡ before)
    when_short g = let no = lt-leb encoding_size (length before) g in (h.answer ∙ rw (known, no), h.left ∙ rw (known, no))

    pub when_stored : encoding_size ≤ length before → (r ≡ 0) × (after ≡ put before 0 (encoding_record e))
    when_stored g = let long = le-leb encoding_size (length before) g in (h.answer ∙ rw (known, long), h.left ∙ rw (known, long))

-- ---- why a number is answered

pub data Reason (text before after : List ℕ) : ℕ → Type 0 where
  outside : ¬ InLanguage text → after ≡ before → Reason text before after 51
  zero : {e : JxlColorEncoding} → Describes text e → zero_gamma e ≡ true → after ≡ before → Reason text before after 52
  short : {e : JxlColorEncoding} → Describes text e → zero_gamma e ≡ false → length before < encoding_size → after ≡ before
      → Reason text before after 9
  stored : {e : JxlColorEncoding} → Describes text e → zero_gamma e ≡ false → encoding_size ≤ length before → Reason text before after 0

module _ {text before after : List ℕ} {r : ℕ} (h : StoresEncoding (parse text) before after r) where
  by_number : {n : ℕ} → r ≡ n → Reason text before after n → Reason text before after r
  by_number e x = rw e x

  pub reason : Reason text before after r
  reason = go (given text refl)
    where
      room : {e : JxlColorEncoding} → Describes text e → zero_gamma e ≡ false → (b : Bool) → leb encoding_size (length before) ≡ b
          → Reason text before after r
      room {e} d z true p =
          let g = leb-true encoding_size (length before) p in
          by_number (when_stored h ((answers_encoding text e).1 (d, z)) g).0 (stored d z g)
      room {e} d z false p =
          let g = leb-false encoding_size (length before) p in
          let s = when_short h ((answers_encoding text e).1 (d, z)) g in
          by_number s.0 (short d z g s.1)

      go : {c : Checked JxlColorEncoding} → Answer text c → Reason text before after r
      go (Reads.outside o) = let s = when_refused h ((answers_51 text).1 o) in by_number s.0 (outside o s.1)
      go (Reads.zero {e} d z) = let s = when_refused h ((answers_52 text).1 (e, d, z)) in by_number s.0 (zero d z s.1)
      go (Reads.read d z) = room d z (leb encoding_size (length before)) refl

  pub why : {n : ℕ} → r ≡ n → Reason text before after n
  why e = subst (Reason text before after) e reason

module _ {text before after : List ℕ} where
  pub told_51 : Reason text before after 51 → ¬ InLanguage text
  told_51 (outside o s) = o

  pub told_52 : Reason text before after 52 → (e : JxlColorEncoding) × Describes text e × (zero_gamma e ≡ true)
  told_52 (zero {e} d z s) = (e, d, z)

  pub told_9 : Reason text before after 9 → ((e : JxlColorEncoding) × Describes text e × (zero_gamma e ≡ false)) × (length before < encoding_size)
  told_9 (short {e} d z g s) = ((e, d, z), g)

  pub told_0 : Reason text before after 0 → ((e : JxlColorEncoding) × Describes text e × (zero_gamma e ≡ false)) × (encoding_size ≤ length before)
  told_0 (stored {e} d z g) = ((e, d, z), g)

  pub told_unchanged : {r : ℕ} → Reason text before after r → ¬ (r ≡ 0) → after ≡ before
  told_unchanged (outside o s) some = s
  told_unchanged (zero d z s) some = s
  told_unchanged (short d z g s) some = s
  told_unchanged (stored d z g) some = absurd (some refl)

  pub told_number : {r : ℕ} → Reason text before after r → (r ≡ 0) ⊎ ((r ≡ 9) ⊎ ((r ≡ 51) ⊎ (r ≡ 52)))
  told_number (stored d z g) = inl refl
  told_number (short d z g s) = inr (inl refl)
  told_number (outside o s) = inr (inr (inl refl))
  told_number (zero d z s) = inr (inr (inr refl))
