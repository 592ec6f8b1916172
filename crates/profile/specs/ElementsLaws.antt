-- Laws of a profile as a list of elements: how long its parts are. Assumes nothing.
use Rattle.std.specs.Prelude.{ℕ, ◌+◌, ◌*◌, ◌%◌, ◌≡◌, refl, List, [], ◌∷◌, ◌++◌, map, length}
use Rattle.std.proofs.Common.{ap, sym, ◌∙◌, append-nil, append_assoc, add-zero, add_assoc, arith, length-append}
use Rattle.std.proofs.lemmas.List.{length-replicate, length-map}
use Rattle.words.specs.WordsLaws.{length-be32}
use Rattle.buffer.specs.All.{All, none, more}
use Rattle.buffer.specs.AllLaws.{All-append, All-map}
use Rattle.profile.specs.Elements

-- ---- padding

pub length-padded : (b : List ℕ) → length (Elements.padded b) ≡ Elements.padded_size (length b)
unfolding Elements.padded
length-padded b = simp (length-append, length-replicate)

-- an element whose length is a multiple of 4 has no padding
pub padded_whole : (b : List ℕ) → length b % 4 ≡ 0 → Elements.padded b ≡ b
unfolding Elements.padded Elements.padding
padded_whole b h = rw h (append-nil b)

pub length-body : (es : List Elements.Element) → length (Elements.body es) ≡ Elements.body_size (map Elements.slot es)
unfolding Elements.body Elements.body_size
length-body [] = refl
length-body (e ∷ es) = length-append (Elements.padded e.bytes) (Elements.body es) ∙ rw (length-padded, length-body es)

-- ---- the tag table

-- every signature has 4 bytes
abbrev pub Four : List ℕ → Type 0
Four s = length s ≡ 4

abbrev pub Fours : List Elements.Slot → Type 0
Fours = All (λ (s : Elements.Slot). All Four s.signatures)

entries_four : (at : ℕ) (ss : List Elements.Slot) → Fours ss → All (λ (e : Elements.Entry). Four e.signature) (Elements.entries at ss)
unfolding Elements.entries
entries_four at [] none = none
entries_four at (s ∷ ss) (more f fs) = All-append (All-map (Elements.entry at s.size) (λ x h. h) f) (entries_four (at + Elements.padded_size s.size) ss fs)

pub length-entries : (at : ℕ) (ss : List Elements.Slot) → length (Elements.entries at ss) ≡ Elements.tag_count ss
unfolding Elements.entries Elements.tag_count
length-entries at [] = refl
length-entries at (s ∷ ss) = simp (length-append, length-map, length-entries (at + Elements.padded_size s.size) ss)

pub length-entry_bytes : (e : Elements.Entry) → Four e.signature → length (Elements.entry_bytes e) ≡ 12
unfolding Elements.entry_bytes
length-entry_bytes e h = simp (length-append, length-be32, h)

length-entries_bytes : (es : List Elements.Entry) → All (λ (e : Elements.Entry). Four e.signature) es → length (Elements.entries_bytes es) ≡ 12 * length es
unfolding Elements.entries_bytes
length-entries_bytes [] none = refl
length-entries_bytes (e ∷ es) (more h hs) =
    omega (arith, length-append (Elements.entry_bytes e) (Elements.entries_bytes es), length-entry_bytes e h, length-entries_bytes es hs)

pub length-table : (ss : List Elements.Slot) → Fours ss → length (Elements.table ss) ≡ 4 + 12 * Elements.tag_count ss
unfolding Elements.table
length-table ss f = simp (length-append, length-be32, length-entries_bytes _ (entries_four (Elements.start ss) ss f), length-entries)

-- ---- lists of elements, one after another

pub map-append : {A B : Type 0} (f : A → B) (a b : List A) → map f (a ++ b) ≡ map f a ++ map f b
map-append f [] b = refl
map-append f (x ∷ a) b = ap (λ l. f x ∷ l) (map-append f a b)

entries_bytes_append : (a b : List Elements.Entry) → Elements.entries_bytes (a ++ b) ≡ Elements.entries_bytes a ++ Elements.entries_bytes b
unfolding Elements.entries_bytes
entries_bytes_append [] b = refl
entries_bytes_append (e ∷ a) b = ap (λ l. Elements.entry_bytes e ++ l) (entries_bytes_append a b) ∙ sym (append_assoc (Elements.entry_bytes e) _ _)

entries_append : (at : ℕ) (a b : List Elements.Slot) → Elements.entries at (a ++ b) ≡ Elements.entries at a ++ Elements.entries (at + Elements.body_size a) b
unfolding Elements.entries Elements.body_size
entries_append at [] b = rw (add-zero at)
entries_append at (s ∷ a) b =
    rw (entries_append (at + Elements.padded_size s.size) a b, add_assoc at (Elements.padded_size s.size) (Elements.body_size a))
    (sym (append_assoc (map (Elements.entry at s.size) s.signatures) _ _))

pub body_append : (a b : List Elements.Element) → Elements.body (a ++ b) ≡ Elements.body a ++ Elements.body b
unfolding Elements.body
body_append [] b = refl
body_append (e ∷ a) b = ap (λ l. Elements.padded e.bytes ++ l) (body_append a b) ∙ sym (append_assoc (Elements.padded e.bytes) _ _)

-- ---- the file

pub length-file : (h : List ℕ) (es : List Elements.Element) → length h ≡ 128 → Fours (map Elements.slot es)
    → length (Elements.file h es) ≡ Elements.file_length (map Elements.slot es)
unfolding Elements.file Elements.file_length Elements.start
length-file h es len f = simp (length-append, len, length-table (map Elements.slot es) f, length-body) (omega arith)
