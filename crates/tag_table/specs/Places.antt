-- Where the elements of the tags stand, and the table that says so. Assumes nothing.
use Rattle.std.specs.Prelude.{ℕ, ◌+◌, ◌≤◌, cond, List, [], ◌∷◌, ◌++◌, length}
use Rattle.words.specs.Words.{be32}
use Rattle.profile.specs.Elements.{Entry, entry, entries_bytes, line_start, padded_size}
use Rattle.profile.specs.Shape.{max_length}
use Rattle.tags.specs.declared.Tag.{Tag}
use Rattle.tag_table.specs.declared.Place.{Place}

-- the place of a tag's element, from that of the tag before it
unfoldable pub placed : Place → Tag → Place
placed p t = cond t.shared p (record { offset = p.end; end = p.end + padded_size t.size })

-- before the first element, in a profile with n tags
abbrev pub begin : ℕ → Place
begin n = record { offset = line_start n; end = line_start n }

-- the entry of a tag: signature, offset and size of its element (ICC.1:2022, 7.3)
abbrev pub entry_of : Place → Tag → Entry
entry_of p t = entry p.offset t.size t.signature

-- the entries of tags, the element before them at p
unfoldable pub walk : Place → List Tag → List Entry
walk p [] = []
walk p (t ∷ ts) = entry_of (placed p t) t ∷ walk (placed p t) ts

-- where the last of their elements ends
unfoldable pub finish : Place → List Tag → ℕ
finish p [] = p.end
finish p (t ∷ ts) = finish (placed p t) ts

-- where their last element ends, if these are the tags of a profile: its length
abbrev pub end_of : List Tag → ℕ
end_of ts = finish (begin (length ts)) ts

-- the tag table (ICC.1:2022, 7.3): the number of tags, and their entries
abbrev pub table_of : List Tag → List ℕ
table_of ts = be32 (length ts) ++ entries_bytes (walk (begin (length ts)) ts)

-- their elements do not go beyond the longest profile
abbrev pub Fits : List Tag → Type 0
Fits ts = end_of ts ≤ max_length
