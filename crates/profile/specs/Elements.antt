-- A profile as a list of elements, each under one signature or more (ICC.1:2022, 7.1 and 7.3): the tag table, the padding and the whole
-- file. Generic: nothing here knows which tags a profile has. Assumes nothing.
use Rattle.std.specs.Prelude.{ℕ, ◌+◌, ◌*◌, ◌%◌, ◌-◌, List, [], ◌∷◌, ◌++◌, map, length, replicate}
use Rattle.words.specs.Words.{be32}

-- an element: the signatures of the tags that name it, and its bytes, padding left out
pub record Element : Type 0 where
  pub signatures : List (List ℕ)
  pub bytes : List ℕ

-- what the tag table shows of an element
pub record Slot : Type 0 where
  pub signatures : List (List ℕ)
  pub size : ℕ

-- a line of the tag table
pub record Entry : Type 0 where
  pub signature : List ℕ
  pub offset : ℕ
  pub size : ℕ

abbrev pub slot : Element → Slot
slot e = record { signatures = e.signatures; size = length e.bytes }

-- ---- padding

-- the bytes of padding after an element of n bytes: up to a multiple of 4
unfoldable pub padding : ℕ → ℕ
padding n = (4 - n % 4) % 4

unfoldable pub padded : List ℕ → List ℕ
padded b = b ++ replicate (padding (length b)) 0

-- the bytes of an element of n bytes with its padding
abbrev pub padded_size : ℕ → ℕ
padded_size n = n + padding n

-- ---- elements and padding, in tag order

unfoldable pub body : List Element → List ℕ
body [] = []
body (e ∷ es) = padded e.bytes ++ body es

unfoldable pub body_size : List Slot → ℕ
body_size [] = 0
body_size (s ∷ ss) = padded_size s.size + body_size ss

-- ---- the tag table

unfoldable pub tag_count : List Slot → ℕ
tag_count [] = 0
tag_count (s ∷ ss) = length s.signatures + tag_count ss

abbrev pub entry : ℕ → ℕ → List ℕ → Entry
entry at n s = record { signature = s; offset = at; size = n }

-- the lines of elements that follow one another from the offset `at` on
unfoldable pub entries : ℕ → List Slot → List Entry
entries at [] = []
entries at (s ∷ ss) = map (entry at s.size) s.signatures ++ entries (at + padded_size s.size) ss

unfoldable pub entry_bytes : Entry → List ℕ
entry_bytes e = e.signature ++ (be32 e.offset ++ be32 e.size)

unfoldable pub entries_bytes : List Entry → List ℕ
entries_bytes [] = []
entries_bytes (e ∷ es) = entry_bytes e ++ entries_bytes es

-- the bytes of a header (7.2), of the tag count and of a line of the tag table (7.3)
abbrev pub header_size : ℕ
header_size = 128

abbrev pub count_size : ℕ
count_size = 4

abbrev pub line_size : ℕ
line_size = 12

-- where line i of the table starts, and, where it has i lines, the first element
abbrev pub line_start : ℕ → ℕ
line_start i = header_size + count_size + line_size * i

unfoldable pub start : List Slot → ℕ
start ss = line_start (tag_count ss)

unfoldable pub table : List Slot → List ℕ
table ss = be32 (tag_count ss) ++ entries_bytes (entries (start ss) ss)

-- ---- the file under a header of `header_size` bytes

unfoldable pub file : List ℕ → List Element → List ℕ
file header es = header ++ (table (map slot es) ++ body es)

unfoldable pub file_length : List Slot → ℕ
file_length ss = start ss + body_size ss
