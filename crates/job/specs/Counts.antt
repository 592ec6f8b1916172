-- What the numbers of entries in the three sections say of a job of one-byte counts. Assumes nothing.
use Rattle.std.specs.Prelude.{Option, ℕ, ◌+◌, ◌*◌, ◌≤◌, ◌<◌, ◌≡◌, List, [], ◌++◌, length, take, drop}
use Rattle.buffer.specs.Checked.{Checked, is, refused, then}
use Rattle.color_encoding.specs.declared.JxlColorEncoding.{JxlColorEncoding}
use Rattle.job.specs.Job.{Entry, size, encoding, sections, entries_from, count, cut, told}
use Rattle.job.specs.Bounds.{most_entries, greatest_refusal}
use Rattle.job.specs.declared.Section.{Section}
use Rattle.job.specs.declared.Section.TheVariants.{Gray, Rgb, Xyb}
use Rattle.job.specs.declared.JobEntry.{JobEntry}
use Rattle.job.specs.declared.Counts.{Counts}

-- a section whose count stands at a place of a job, with n entries of so many bytes, all there
pub record WholeSection (l : List ℕ) (at size n : ℕ) : Type 0 where
  pub counted : count 1 (drop at l) ≡ n
  pub fits : at + (1 + n * size) ≤ length l
  pub few : n < 256

-- not all of them there: 41
pub record EarlySection (l : List ℕ) (at size k : ℕ) : Type 0 where
  pub number : k ≡ 41
  pub early : length l < at + (1 + count 1 (drop at l) * size)

-- as many entries as the count says, or not all there
abbrev pub SectionIs : List ℕ → ℕ → ℕ → Checked ℕ → Type 0
SectionIs l at size (is n) = WholeSection l at size n
SectionIs l at size (refused k) = EarlySection l at size k

-- the entries of a job with g gray, r RGB and x XYB entries
abbrev pub entries_by : List ℕ → ℕ → ℕ → ℕ → List Entry
entries_by l g r x =
    entries_from Gray 1 g (drop 1 l) ++ (entries_from Rgb 1 r (drop (2 + g * 15) l) ++ (entries_from Xyb 1 x (drop (3 + g * 15 + r * 40) l) ++ []))

abbrev pub cut_by : List ℕ → Checked Counts → Checked (List Entry)
cut_by l c = then c (λ n. is (entries_by l n.gray n.rgb n.xyb))

-- the sections fill the job
pub record FilledBy (l : List ℕ) (n : Counts) : Type 0 where
  pub all : 3 + n.gray * 15 + n.rgb * 40 + n.xyb ≡ length l
  pub gray_few : n.gray < 256
  pub rgb_few : n.rgb < 256
  pub xyb_few : n.xyb < 256

-- or the number of a refusal
abbrev pub Filled : List ℕ → Checked Counts → Type 0
Filled l (is n) = FilledBy l n
Filled l (refused k) = k ≤ greatest_refusal

pub record Counted (l : List ℕ) (c : Checked Counts) : Type 0 where
  pub by : cut 1 sections l ≡ cut_by l c
  pub filled : Filled l c

-- a job that ends where its sections do, with n entries
pub record Sized (n : ℕ) (c : Checked (List Entry)) : Type 0 where
  pub entries : List Entry
  pub given : c ≡ is entries
  pub size : length entries ≡ n
  pub small : n ≤ most_entries

-- an entry at a place of a section, with what its bytes mean
abbrev pub told_of : Section → ℕ → Checked JxlColorEncoding → Checked (Option JobEntry)
told_of s k c = told (then c (λ e. is (record { section = s; place = k; encoding = e })))

-- the i-th entry of a section whose entries begin at a place of the job
abbrev pub entry_in : List ℕ → Section → ℕ → ℕ → Checked (Option JobEntry)
entry_in l s start i = told_of s (i + 1) (encoding s (take (size s) (drop (start + i * size s) l)))
