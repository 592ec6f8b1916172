-- What callers may rely on in an answer. In an entry: a place that a one-byte count reaches, floats that binary32 holds. In a
-- number of entries: three sections of up to 255. In a refusal: 43 is the greatest. Assumes nothing.
use Rattle.std.specs.Prelude.{Option, Some, None, ℕ, ◌*◌, ◌≤◌, ◌<◌, ◌≡◌, List, length}
use Rattle.buffer.specs.All.{All}
use Rattle.buffer.specs.Checked.{Checked, is, refused}
use Rattle.text.specs.Held.{HeldEncoding}
use Rattle.job.specs.declared.JobEntry.{JobEntry}

abbrev pub most_in_section : ℕ
most_in_section = 255

abbrev pub most_entries : ℕ
most_entries = 3 * most_in_section

abbrev pub greatest_refusal : ℕ
greatest_refusal = 43

pub record EntryBounds (e : JobEntry) : Type 0 where
  pub place : e.place ≤ most_in_section
  pub floats : HeldEncoding e.encoding

abbrev pub EntryAnswerBounds : Checked (Option JobEntry) → Type 0
EntryAnswerBounds (is (Some e)) = EntryBounds e
EntryAnswerBounds (is None) = Unit {0}
EntryAnswerBounds (refused k) = k ≤ greatest_refusal

abbrev pub JobAnswerBounds : Checked ℕ → Type 0
JobAnswerBounds (is n) = n ≤ most_entries
JobAnswerBounds (refused k) = k ≤ greatest_refusal

-- the answer of a call, and its bounds
pub record AnswersEntry (said r : Checked (Option JobEntry)) : Type 0 where
  pub answer : r ≡ said
  pub bounds : EntryAnswerBounds r

pub record AnswersJob (said r : Checked ℕ) : Type 0 where
  pub answer : r ≡ said
  pub bounds : JobAnswerBounds r

-- ---- jobs

-- a list of bytes, as a file or a lent slice is
abbrev pub Bytes : List ℕ → Type 0
Bytes l = All (λ (b : ℕ). b < 256) l

pub record JobBounds (es : List JobEntry) : Type 0 where
  pub all : All EntryBounds es
  pub few : length es ≤ most_entries
