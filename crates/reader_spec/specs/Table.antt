-- The regions of a file, read back by its own tag table (ICC.1:2022, 7.2 and 7.3). Assumes nothing.
use Rattle.std.specs.Prelude.{ℕ, zero, suc, ◌+◌, ◌*◌, List, [], ◌∷◌, take, drop, get_or}
use Rattle.words.specs.Words.{word32}
use Rattle.profile.specs.Elements.{header_size, count_size, line_size, line_start, Entry}
use Rattle.profile.specs.Layout.{Varying, maker_at, model_at, intent_at, id_at, id_size}

-- what the header says where its kind does not fix it
unfoldable pub varying_of : List ℕ → Varying
varying_of f =
    record {
      size = word32 f;
      maker = word32 (drop maker_at f);
      model = word32 (drop model_at f);
      intent = word32 (drop intent_at f);
      id = take id_size (drop id_at f);
    }

-- the number of tags
unfoldable pub tags_of : List ℕ → ℕ
tags_of f = word32 (drop header_size f)

-- the tag table: that number, and a line for each tag
unfoldable pub table_of : List ℕ → List ℕ
table_of f = take (count_size + line_size * tags_of f) (drop header_size f)

-- elements and padding: what follows the tag table
unfoldable pub body_of : List ℕ → List ℕ
body_of f = drop (line_start (tags_of f)) f

-- the first n lines that a list of bytes holds
unfoldable pub lines : ℕ → List ℕ → List Entry
lines zero l = []
lines (suc n) l = record { signature = take 4 l; offset = word32 (drop 4 l); size = word32 (drop 8 l) } ∷ lines n (drop line_size l)

unfoldable pub entries_of : List ℕ → List Entry
entries_of f = lines (tags_of f) (drop (header_size + count_size) f)

-- a line that names no bytes
abbrev pub absent : Entry
absent = record { signature = []; offset = 0; size = 0 }

-- the line i of a file's table, the first being 0
abbrev pub line_in : List ℕ → ℕ → Entry
line_in f i = get_or (entries_of f) i absent

-- an element: the bytes from a line's offset on, as many as its size
unfoldable pub element_at : List ℕ → Entry → List ℕ
element_at f e = take e.size (drop e.offset f)
