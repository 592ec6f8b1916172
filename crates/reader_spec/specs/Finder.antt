-- The finder (01): the part of an accepted file that holds the element of a signature, without padding. It is empty where the reader refuses
-- the file and where the tag is absent. Assumes nothing.
use Rattle.std.specs.Prelude.{ℕ, Bool, true, false, cond, List, [], ◌∷◌}
use Rattle.profile.specs.Elements.{Entry, Element}
use Rattle.reader_spec.specs.Table.{entries_of, absent, element_at}
use Rattle.buffer.specs.Bytes.{same}
use Rattle.reader_spec.specs.RefusalList.{Answer, refused, accepted}
use Rattle.reader_spec.specs.Read.{read}

-- ---- by a file's own tag table

-- the first line with a signature, if there is one
unfoldable pub line_of : List ℕ → List Entry → Entry → Entry
line_of s [] absent = absent
line_of s (e ∷ es) absent = cond (same e.signature s) e (line_of s es absent)

abbrev line_by : List ℕ → List ℕ → Answer → Entry
line_by f s (accepted p) = line_of s (entries_of f) absent
line_by f s (refused c) = absent

-- the line of the table that the finder goes by
unfoldable pub found : List ℕ → List ℕ → Entry
found f s = line_by f s (read f)

unfoldable pub find : List ℕ → List ℕ → List ℕ
find f s = element_at f (found f s)

-- ---- by a plan's elements

unfoldable pub is_among : List ℕ → List (List ℕ) → Bool
is_among s [] = false
is_among s (t ∷ ts) = cond (same t s) true (is_among s ts)

unfoldable pub element_under : List ℕ → List Element → List ℕ
element_under s [] = []
element_under s (e ∷ es) = cond (is_among s e.signatures) e.bytes (element_under s es)
