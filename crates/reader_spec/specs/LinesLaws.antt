-- The lines of a file's tag table, each by its place in the file. Assumes nothing.
use Rattle.std.specs.Prelude.{ℕ, zero, suc, ◌+◌, ◌-◌, ◌≤◌, ◌<◌, ◌≡◌, refl, List, [], ◌∷◌, length, take, drop, get_or}
use Rattle.std.proofs.Common.{ap, ◌∙◌, zero-add, arith}
use Rattle.std.proofs.Math.Nat.{sub-zero}
use Rattle.std.proofs.Math.Seq.{drop-drop}
use Rattle.words.specs.Words.{word32}
use Rattle.profile.specs.Elements.{line_start, Entry}
use Rattle.reader_spec.specs.Table.{tags_of, lines, entries_of, absent, line_in}

-- ---- one line after another

-- the line at a place
abbrev pub line_at : List ℕ → ℕ → Entry
line_at f at = record { signature = take 4 (drop at f); offset = word32 (drop (at + 4) f); size = word32 (drop (at + 8) f) }

-- the lines but the first i
unfoldable pub lines_from : List ℕ → ℕ → List Entry
lines_from f i = lines (tags_of f - i) (drop (line_start i) f)

pub from_line : (f : List ℕ) (i : ℕ) → i < tags_of f → lines_from f i ≡ line_at f (line_start i) ∷ lines_from f (i + 1)
unfolding lines_from
from_line f i h =
    let more : tags_of f - i ≡ suc (tags_of f - (i + 1)) = omega arith in
    let past : line_start (i + 1) ≡ line_start i + 12 = omega arith in
    rw (more, past) (unfold lines in rw (drop-drop 4, drop-drop 8, drop-drop 12))

pub from_none : (f : List ℕ) → lines_from f (tags_of f) ≡ []
unfolding lines_from
from_none f =
    let none : tags_of f - tags_of f ≡ 0 = omega arith in
    rw none (unfold lines in refl)

pub from_first : (f : List ℕ) → entries_of f ≡ lines_from f 0
unfolding entries_of lines_from
from_first f = rw (sub-zero (tags_of f))

-- ---- the line i

-- i lines further
from_place : (f : List ℕ) (j i : ℕ) → j + i < tags_of f → get_or (lines_from f j) i absent ≡ line_at f (line_start (j + i))
from_place f j zero h = rw (from_line f j (omega arith)) (ap (λ (k : ℕ). line_at f (line_start k)) (none j))
  where
    none : (j : ℕ) → j ≡ j + 0
    none j = omega arith
from_place f j (suc i) h =
    let next : j + 1 + i ≡ j + suc i = omega arith in
    rw (from_line f j (omega arith)) (from_place f (j + 1) i (omega arith) ∙ ap (λ (k : ℕ). line_at f (line_start k)) next)

pub line_in_lem : (f : List ℕ) (i : ℕ) → i < tags_of f → line_in f i ≡ line_at f (line_start i)
line_in_lem f i h = ap (λ es. get_or es i absent) (from_first f) ∙ from_place f 0 i (omega arith) ∙ ap (λ (k : ℕ). line_at f (line_start k)) (zero-add i)

no_line : (n : ℕ) (l : List ℕ) (i : ℕ) → n ≤ i → get_or (lines n l) i absent ≡ absent
unfolding lines
no_line zero l i h = refl
no_line (suc n) l zero h = absurd (omega arith)
no_line (suc n) l (suc i) h = no_line n (drop 12 l) i (omega arith)

pub line_past : (f : List ℕ) (i : ℕ) → tags_of f ≤ i → line_in f i ≡ absent
unfolding entries_of
line_past f i h = no_line (tags_of f) (drop 132 f) i h

length-lines : (n : ℕ) (l : List ℕ) → length (lines n l) ≡ n
unfolding lines
length-lines zero l = refl
length-lines (suc n) l = ap suc (length-lines n (drop 12 l))

pub length-entries : (f : List ℕ) → length (entries_of f) ≡ tags_of f
unfolding entries_of
length-entries f = length-lines (tags_of f) (drop 132 f)
