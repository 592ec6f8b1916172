-- Order 2, "Read such a text into an encoding", from C: the record that is lent tells the encoding that the text describes, and the calls that write
-- give its profile by it; or the text is refused, by which number exactly, and the record is as it was. Assumes nothing.
use Rattle.std.specs.Prelude.{ℕ, ◌≤◌, ◌<◌, ◌≡◌, ◌⊎◌, ◌↔◌, true, false, List, length, drop}
use Rattle.std.proofs.Common.{sym, subst}
use Rattle.buffer.specs.Checked.{Checked, is}
use Rattle.color_encoding.specs.declared.JxlColorEncoding.{JxlColorEncoding}
use Rattle.description_parser.specs.Language.{Describes, InLanguage, zero_gamma}
use Rattle.description_parser.specs.Parse.{parse}
use Rattle.description_laws.proofs.ReadsTexts.{answers_encoding, answers_51, answers_52}
use Rattle.description_laws.specs.HeldLaws.{typed_held}
use Rattle.encoding_record.specs.EncodingRecord.{encoding_size, encoding_by}
use Rattle.coded_writer.specs.CodedWriter.{plain, WritesCode}
use Rattle.host.specs.Host.{StoresEncoding}
use Rattle.demands.specs.TypedTextLaws.{record_of, when_refused, when_short, when_stored, reason, why}
use Rattle.demands.specs.TypedTextLaws.{told_0, told_51, told_52, told_9, told_unchanged, told_number}

-- `merqyduk_parse_description` ensures `StoresEncoding` of what `parse` answers to the text: the call answers r, and the record that it was lent holds
-- `after` at exit, `before` at entry. `encoding_by` is the encoding that the bytes of a record mean.
module _ (text before after : List ℕ) (r : ℕ) where
  -- what the record tells is the encoding that the text describes; the rest of what was lent is as it was
  pub typed_in_c : (e : JxlColorEncoding) → StoresEncoding (parse text) before after r → Describes text e → zero_gamma e ≡ false
      → encoding_size ≤ length before
      → (r ≡ 0) × (encoding_by after ≡ is e) × (drop encoding_size after ≡ drop encoding_size before)
  typed_in_c e h d z room =
      let s = when_stored h ((answers_encoding text e).1 (d, z)) room in
      let told = record_of e before after (typed_held text e d) s.1 in
      (s.0, told.0, told.1)

  -- a call that writes, by the numbers of the record, promises what it promises for that encoding; maker and model are zero
  pub typed_is_written : (e : JxlColorEncoding) → StoresEncoding (parse text) before after r → Describes text e → zero_gamma e ≡ false
      → encoding_size ≤ length before
      → (out out' : List ℕ) (n : ℕ) → WritesCode (plain (encoding_by after)) out out' n ↔ WritesCode (plain (is e)) out out' n
  typed_is_written e h d z room out out' n =
      let told = (typed_in_c e h d z room).1 in
      let Promise : Checked JxlColorEncoding → Type 0 = λ c. WritesCode (plain c) out out' n in
      (subst Promise told, subst Promise (sym told))

  module _ (h : StoresEncoding (parse text) before after r) where
    -- ---- which number is answered

    -- 0 exactly if the text describes an encoding without a zero gamma, and the record has room
    pub stored_in_c : (r ≡ 0) ↔ (((e : JxlColorEncoding) × Describes text e × (zero_gamma e ≡ false)) × (encoding_size ≤ length before))
    stored_in_c = (λ e. told_0 (why h e), λ s. (when_stored h ((answers_encoding text s.0.0).1 (s.0.1, s.0.2)) s.1).0)

    -- 51 exactly if the text is not in the language
    pub refused_51_in_c : (r ≡ 51) ↔ (¬ InLanguage text)
    refused_51_in_c = (λ e. told_51 (why h e), λ o. (when_refused h ((answers_51 text).1 o)).0)

    -- 52 exactly if it describes an encoding with a zero gamma
    pub refused_52_in_c : (r ≡ 52) ↔ ((e : JxlColorEncoding) × Describes text e × (zero_gamma e ≡ true))
    refused_52_in_c = (λ e. told_52 (why h e), λ s. (when_refused h ((answers_52 text).1 s)).0)

    -- 9 exactly if it describes one without, and the record is too short
    pub refused_9_in_c : (r ≡ 9) ↔ (((e : JxlColorEncoding) × Describes text e × (zero_gamma e ≡ false)) × (length before < encoding_size))
    refused_9_in_c = (λ e. told_9 (why h e), λ s. (when_short h ((answers_encoding text s.0.0).1 (s.0.1, s.0.2)) s.1).0)

    pub no_other_in_c : (r ≡ 0) ⊎ ((r ≡ 9) ⊎ ((r ≡ 51) ⊎ (r ≡ 52)))
    no_other_in_c = told_number (reason h)

    -- where it is not 0, all of the record is as it was
    pub refused_in_c : ¬ (r ≡ 0) → after ≡ before
    refused_in_c some = told_unchanged (reason h) some
