-- What reading the regions of a file of elements gives. Assumes nothing.
use Rattle.std.specs.Prelude.{ℕ, ◌+◌, ◌*◌, ◌^◌, ◌<◌, ◌≡◌, refl, length, take, drop, get_or, replicate}
use Rattle.std.proofs.Common.{ap, ap₂, ◌∙◌, length-append, take_at}
use Rattle.std.proofs.Math.Path.{sym}
use mathlib.Core.List.{List, [], ◌∷◌, ◌++◌, map, append_assoc}
use native.Mathlib.Omega.{arith}
use Rattle.std.proofs.Math.ListN.{get_or-map}
use Rattle.std.proofs.Math.Seq.{drop_at, drop-drop, take-append_seam}
use Rattle.std.proofs.lemmas.List.{map-append}
use Rattle.std.proofs.lemmas.Simd.{map-map}
use Rattle.words.specs.Words.{be32, word32}
use Rattle.words.specs.WordsLaws.{length-be32, word32_be32}
use Rattle.buffer.specs.All.{All, none, more}
use Rattle.buffer.specs.AllLaws.{All-append}
use Rattle.profile.specs.Elements
use Rattle.profile.specs.ElementsLaws.{Four, Fours, length-padded, length-entries, length-entry_bytes, length-table}
use Rattle.reader_spec.specs.Table

-- ---- a line

-- a line whose signature has 4 bytes and whose numbers fit 32 bits
pub record Fits (e : Elements.Entry) : Type 0 where
  pub four : Four e.signature
  offset32 : e.offset < 2 ^ 32
  size32 : e.size < 2 ^ 32

module _ (e : Elements.Entry) (r : List ℕ) (h : Fits e) where
  line_signature : take 4 (Elements.entry_bytes e ++ r) ≡ e.signature
  unfolding Elements.entry_bytes
  line_signature = simp append_assoc (take_at e.signature _ 4 h.four)

  line_offset : word32 (drop 4 (Elements.entry_bytes e ++ r)) ≡ e.offset
  unfolding Elements.entry_bytes
  line_offset = simp append_assoc (rw (drop_at e.signature _ 4 h.four) (word32_be32 e.offset _ h.offset32))

  line_size_lem : word32 (drop 8 (Elements.entry_bytes e ++ r)) ≡ e.size
  unfolding Elements.entry_bytes
  line_size_lem =
      simp append_assoc
      (rw (← append_assoc e.signature (be32 e.offset), drop_at (e.signature ++ be32 e.offset) _ 8 (simp (length-append, length-be32, h.four)))
      (word32_be32 e.size r h.size32))

  line_rest : drop 12 (Elements.entry_bytes e ++ r) ≡ r
  line_rest = drop_at (Elements.entry_bytes e) r 12 (length-entry_bytes e h.four)

  line_read : ◌≡◌ {A = Elements.Entry}
      (record { signature = take 4 (Elements.entry_bytes e ++ r); offset = word32 (drop 4 (Elements.entry_bytes e ++ r)); size = word32 (drop 8 (Elements.entry_bytes e ++ r)) })
      e
  line_read = λ i. record { signature = line_signature i; offset = line_offset i; size = line_size_lem i }

lines_read : (es : List Elements.Entry) (r : List ℕ) → All Fits es → Table.lines (length es) (Elements.entries_bytes es ++ r) ≡ es
unfolding Table.lines Elements.entries_bytes
lines_read [] r none = refl
lines_read (e ∷ es) r (more h hs) =
    rw (
      append_assoc (Elements.entry_bytes e) (Elements.entries_bytes es) r,
      line_rest e (Elements.entries_bytes es ++ r) h,
      lines_read es r hs,
      line_read e (Elements.entries_bytes es ++ r) h,
    )

-- ---- the lines of elements

group_fits : (at n : ℕ) (ss : List (List ℕ)) → All Four ss → at < 2 ^ 32 → n < 2 ^ 32 → All Fits (map (Elements.entry at n) ss)
group_fits at n [] none p q = none
group_fits at n (s ∷ ss) (more h hs) p q = more (record { four = h; offset32 = p; size32 = q }) (group_fits at n ss hs p q)

entries_fit : (at : ℕ) (ss : List Elements.Slot) → Fours ss → at + Elements.body_size ss < 2 ^ 32 → All Fits (Elements.entries at ss)
unfolding Elements.entries Elements.body_size
entries_fit at [] none h = none
entries_fit at (s ∷ ss) (more f fs) h = All-append (group_fits at s.size s.signatures f (omega arith) (omega arith)) (entries_fit (at + Elements.padded_size s.size) ss fs (omega arith))

-- ---- a file that has this table from byte 128 on, whatever stands before it and after it

module _ (f : List ℕ) (ss : List Elements.Slot) (r : List ℕ) (here : drop 128 f ≡ Elements.table ss ++ r) (fours : Fours ss)
    (small : Elements.file_length ss < 2 ^ 32) where
  all_fit : All Fits (Elements.entries (Elements.start ss) ss)
  unfolding Elements.file_length
  all_fit = entries_fit _ _ fours small

  tags_small : Elements.tag_count ss < 2 ^ 32
  unfolding Elements.file_length Elements.start
  tags_small = omega arith

  pub tags_are : Table.tags_of f ≡ Elements.tag_count ss
  unfolding Table.tags_of Elements.table
  tags_are = rw (here, append_assoc) (word32_be32 _ _ tags_small)

  pub table_is : Table.table_of f ≡ Elements.table ss
  unfolding Table.table_of
  table_is = rw (tags_are, here) (take_at _ _ _ (length-table ss fours))

  at_132 : drop 132 f ≡ Elements.entries_bytes (Elements.entries (Elements.start ss) ss) ++ r
  unfolding Elements.table
  at_132 = sym (drop-drop 4 128 f) ∙ rw (here, append_assoc) (drop_at (be32 (Elements.tag_count ss)) _ 4 (length-be32 _))

  pub entries_are : Table.entries_of f ≡ Elements.entries (Elements.start ss) ss
  unfolding Table.entries_of
  entries_are = rw (tags_are, at_132, ← length-entries (Elements.start ss) ss) (lines_read (Elements.entries (Elements.start ss) ss) r all_fit)

  pub rest_is : drop (Elements.start ss) f ≡ r
  unfolding Elements.start
  rest_is =
      let e : Elements.line_start (Elements.tag_count ss) ≡ 128 + (4 + 12 * Elements.tag_count ss) = omega arith in
      rw (e, ← drop-drop (4 + 12 * Elements.tag_count ss) 128 f, here) (drop_at (Elements.table ss) r (4 + 12 * Elements.tag_count ss) (length-table ss fours))

-- ---- the element that each line names, and what follows it

-- one list for each tag
unfoldable pub tails : List Elements.Element → List (List ℕ)
tails [] = []
tails (e ∷ es) = map (λ (s : List ℕ). Elements.body (e ∷ es)) e.signatures ++ tails es

-- the first element, its padding and the elements after it
pub body_front : (e : Elements.Element) (es : List Elements.Element)
    → Elements.body (e ∷ es) ≡ e.bytes ++ (replicate (Elements.padding (length e.bytes)) 0 ++ Elements.body es)
unfolding Elements.body Elements.padded
body_front e es = append_assoc e.bytes _ _

-- where the elements after the first start
pub next_body : (f : List ℕ) (at : ℕ) (e : Elements.Element) (es : List Elements.Element) → drop at f ≡ Elements.body (e ∷ es)
    → drop (at + Elements.padded_size (length e.bytes)) f ≡ Elements.body es
unfolding Elements.body
next_body f at e es h =
    sym (drop-drop (Elements.padded_size (length e.bytes)) at f)
    ∙ ap (drop (Elements.padded_size (length e.bytes))) h
    ∙ drop_at (Elements.padded e.bytes) (Elements.body es) _ (length-padded e.bytes)

-- the first element
pub first_element : (f : List ℕ) (at : ℕ) (e : Elements.Element) (es : List Elements.Element) → drop at f ≡ Elements.body (e ∷ es)
    → take (length e.bytes) (drop at f) ≡ e.bytes
first_element f at e es h = rw (h, body_front) (take-append_seam e.bytes _)

tails_read : (f : List ℕ) (at : ℕ) (es : List Elements.Element) → drop at f ≡ Elements.body es
    → map (λ (l : Elements.Entry). drop l.offset f) (Elements.entries at (map Elements.slot es)) ≡ tails es
unfolding Elements.entries tails
tails_read f at [] h = refl
tails_read f at (e ∷ es) h =
    simp (map-append, map-map)
    (ap₂ ◌++◌ (ap (λ b. map (λ (s : List ℕ). b) e.signatures) h) (tails_read f (at + Elements.padded_size (length e.bytes)) es (next_body f at e es h)))

-- ---- the whole file, under any header

module _ (h : List ℕ) (es : List Elements.Element) (len : length h ≡ 128) (fours : Fours (map Elements.slot es))
    (small : Elements.file_length (map Elements.slot es) < 2 ^ 32) where
  from_128 : drop 128 (Elements.file h es) ≡ Elements.table (map Elements.slot es) ++ Elements.body es
  unfolding Elements.file
  from_128 = drop_at h _ 128 len

  pub tags_file : Table.tags_of (Elements.file h es) ≡ Elements.tag_count (map Elements.slot es)
  tags_file = tags_are (Elements.file h es) (map Elements.slot es) (Elements.body es) from_128 fours small

  pub table_file : Table.table_of (Elements.file h es) ≡ Elements.table (map Elements.slot es)
  table_file = table_is (Elements.file h es) (map Elements.slot es) (Elements.body es) from_128 fours small

  pub drop-start : drop (Elements.start (map Elements.slot es)) (Elements.file h es) ≡ Elements.body es
  drop-start = rest_is (Elements.file h es) (map Elements.slot es) (Elements.body es) from_128 fours small

  pub body_file : Table.body_of (Elements.file h es) ≡ Elements.body es
  unfolding Table.body_of Elements.start
  body_file = rw tags_file drop-start

  pub entries_file : Table.entries_of (Elements.file h es) ≡ Elements.entries (Elements.start (map Elements.slot es)) (map Elements.slot es)
  entries_file = entries_are (Elements.file h es) (map Elements.slot es) (Elements.body es) from_128 fours small

  -- from the element that line i names on
  pub tails_file : (i : ℕ) → drop (Table.line_in (Elements.file h es) i).offset (Elements.file h es) ≡ get_or (tails es) i (Elements.file h es)
  tails_file i =
      sym (get_or-map (λ (l : Elements.Entry). drop l.offset (Elements.file h es)) (Table.entries_of (Elements.file h es)) i Table.absent)
      ∙ rw (entries_file, tails_read (Elements.file h es) (Elements.start (map Elements.slot es)) es drop-start)
