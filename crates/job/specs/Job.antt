-- The job (01, "The job"): three sections in a fixed order, each a count and then so many entries. Every definition is over w, the number of bytes
-- of a count. Assumes nothing.
use Rattle.std.specs.Prelude.{Option, Some, None, ℕ, zero, suc, ◌+◌, ◌*◌, cond, List, [], ◌∷◌, ◌++◌, map, leb, length, take, drop, get_or}
use Rattle.buffer.specs.Checked.{Checked, is, refused, then, each}
use Rattle.color_encoding.specs.declared.JxlColorEncoding.{JxlColorEncoding}
use Rattle.job_entry.specs.Entry.{gray_encoding, rgb_encoding, xyb_encoding}
use Rattle.job.specs.declared.JobEntry.{JobEntry}
use Rattle.job.specs.declared.Section.{Section}
use Rattle.job.specs.declared.Section.TheVariants.{Gray, Rgb, Xyb}

-- ---- sections

-- its number in the listing
abbrev pub number : Section → ℕ
number Gray = 1
number Rgb = 2
number Xyb = 3

-- the bytes of an entry
abbrev pub size : Section → ℕ
size Gray = 15
size Rgb = 40
size Xyb = 1

-- what the bytes of an entry mean
abbrev pub encoding : Section → List ℕ → Checked JxlColorEncoding
encoding Gray = gray_encoding
encoding Rgb = rgb_encoding
encoding Xyb = xyb_encoding

-- in the job's order
abbrev pub sections : List Section
sections = Gray ∷ Rgb ∷ Xyb ∷ []

-- ---- the entries of a job, as bytes

-- its section, its place there, the first being 1, and its bytes
pub record Entry : Type 0 where
  pub section : Section
  pub place : ℕ
  pub bytes : List ℕ

-- n entries of a section, one after another from the front of a list; the first has place k
unfoldable pub entries_from : Section → ℕ → ℕ → List ℕ → List Entry
entries_from s k zero l = []
entries_from s k (suc n) l = record { section = s; place = k; bytes = take (size s) l } ∷ entries_from s (suc k) n (drop (size s) l)

-- the number that bytes make, the first the most significant, after the digits n
abbrev pub big_endian : ℕ → List ℕ → ℕ
big_endian n [] = n
big_endian n (b ∷ l) = big_endian (n * 256 + b) l

-- the count at the front of a section
abbrev pub count : ℕ → List ℕ → ℕ
count w l = big_endian 0 (take w l)

-- 41: the job ends early, in a count or in the entries after it
abbrev pub ends_early : {A : Type 0} → Checked A
ends_early = refused 41

-- 42: it has bytes left
abbrev pub bytes_left : {A : Type 0} → Checked A
bytes_left = refused 42

unfoldable pub cut : ℕ → List Section → List ℕ → Checked (List Entry)
cut w [] [] = is []
cut w [] (b ∷ l) = bytes_left
cut w (s ∷ ss) l =
    cond (leb (w + count w l * size s) (length l))
    (then (cut w ss (drop (w + count w l * size s) l)) (λ es. is (entries_from s 1 (count w l) (drop w l) ++ es)))
    ends_early

-- ---- the job

-- an entry with the encoding that it means, or 43
abbrev pub meaning : Entry → Checked JobEntry
meaning e = then (encoding e.section e.bytes) (λ c. is (record { section = e.section; place = e.place; encoding = c }))

-- 41 and 42 are tested over the whole job before 43 anywhere
unfoldable pub job : ℕ → List ℕ → Checked (List JobEntry)
job w l = then (cut w sections l) (each meaning)

-- ---- what the calls answer

-- the number of entries, or the refusal
abbrev pub job_answer : Checked (List JobEntry) → Checked ℕ
job_answer (is es) = is (length es)
job_answer (refused k) = refused k

-- an entry; none
abbrev pub found : JobEntry → Checked (Option JobEntry)
found e = is (Some e)

abbrev pub absent : Checked (Option JobEntry)
absent = is None

-- the i-th entry of a job, the first being the 0-th, or the job's refusal
abbrev pub entry_answer : Checked (List JobEntry) → ℕ → Checked (Option JobEntry)
entry_answer (is es) i = get_or (map found es) i absent
entry_answer (refused k) i = refused k

abbrev pub told : Checked JobEntry → Checked (Option JobEntry)
told c = then c found

-- the i-th entry of a job of which no other entry is looked at: 43 only if it is this one that has no meaning
unfoldable pub entry_alone : Checked (List Entry) → ℕ → Checked (Option JobEntry)
entry_alone (is es) i = get_or (map (λ (e : Entry). told (meaning e)) es) i absent
entry_alone (refused k) i = refused k
