-- Who owns each byte of a file, by its own tag table (01, "Words of demand 3"): the header, the tag table, one element, or the padding after
-- one element. Assumes nothing.
use Rattle.std.specs.Prelude.{ℕ, ◌+◌, ◌*◌, ◌≤◌, ◌<◌, ◌≡◌, ◌⊎◌, Bool, true, false, ◌&&◌, ◌||◌, List, [], ◌∷◌, map, eqb, length, get_or}
use Rattle.profile.specs.Elements.{header_size, count_size, line_size, line_start, Entry, padding as pad}
use Rattle.reader_spec.specs.Table.{tags_of, entries_of}

abbrev pub In : {A : Type 0} → A → List A → Type 0
In a [] = ⊥
In a (b ∷ l) = (a ≡ b) ⊎ In a l

-- where an element lies: entries with equal offset and size name one element
pub record Span : Type 0 where
  pub offset : ℕ
  pub size : ℕ

abbrev pub span : Entry → Span
span e = record { offset = e.offset; size = e.size }

abbrev pub spans : List ℕ → List Span
spans f = map span (entries_of f)

-- the end of an element, and of its padding: up to a multiple of 4
abbrev pub end : Span → ℕ
end s = s.offset + s.size

abbrev pub padded_end : Span → ℕ
padded_end s = end s + pad (end s)

pub data Owner : Type 0 where
  header table : Owner
  element padding : Span → Owner

-- byte i of f is the owner's
pub data Owns (f : List ℕ) (i : ℕ) : Owner → Type 0 where
  in_header : i < header_size → Owns f i header
  in_table : header_size ≤ i → i < line_start (tags_of f) → Owns f i table
  in_element : (s : Span) → In s (spans f) → s.offset ≤ i → i < end s → Owns f i (element s)
  in_padding : (s : Span) → In s (spans f) → end s ≤ i → i < padded_end s → Owns f i (padding s)

-- ---- the sum

-- each element once
abbrev same : Span → Span → Bool
same s t = eqb s.offset t.offset && eqb s.size t.size

unfoldable pub among : Span → List Span → Bool
among s [] = false
among s (t ∷ l) = same s t || among s l

abbrev pub keep : Bool → Span → List Span → List Span
keep true s l = l
keep false s l = s ∷ l

unfoldable pub once : List Span → List Span
once [] = []
once (s ∷ l) = keep (among s l) s (once l)

-- the total numbers of bytes
unfoldable pub element_bytes : List Span → ℕ
element_bytes [] = 0
element_bytes (s ∷ l) = s.size + element_bytes l

unfoldable pub padding_bytes : List Span → ℕ
padding_bytes [] = 0
padding_bytes (s ∷ l) = pad (end s) + padding_bytes l

-- ---- the last sentence of demand 3, of a file

pub record Owned (f : List ℕ) : Type 0 where
  -- each byte has an owner, and one only
  pub owner : (i : ℕ) → i < length f → (o : Owner) × Owns f i o × ((q : Owner) → Owns f i q → q ≡ o)
  -- what is owned is in the file
  pub inside : (i : ℕ) (o : Owner) → Owns f i o → i < length f
  -- padding is zero
  pub zeros : (i : ℕ) (s : Span) → Owns f i (padding s) → get_or f i 0 ≡ 0
  -- the length is the sum
  pub total : length f ≡ header_size + count_size + line_size * tags_of f + element_bytes (once (spans f)) + padding_bytes (once (spans f))
