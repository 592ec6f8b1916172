-- Each byte of a file of elements has one owner, and its length is the sum. Assumes nothing.
use Rattle.std.specs.Prelude.{ℕ, suc, ◌+◌, ◌*◌, ◌%◌, ◌-◌, ◌^◌, ◌≤◌, ◌<◌, ◌≡◌, ◌⊎◌, true, false, List, [], ◌∷◌, ◌++◌, map, eqb, length, drop, get_or, replicate}
use Rattle.std.proofs.Math.Path.{refl}
use Rattle.std.proofs.Common.{ap, sym, ◌∙◌, subst, inl, inr, ⊎_elim, append_assoc, ne_eqb, eq-eqb, get_or-drop, get_or-append-add}
use native.Mathlib.Omega.{arith}
use Rattle.std.proofs.Math.Decide.{dec_le}
use Rattle.std.proofs.lemmas.List.{length-replicate, get_or-replicate}
use Rattle.std.proofs.Math.ListN.{get_or-append}
use Rattle.buffer.specs.All.{All, none, more}
use Rattle.profile.specs.Elements.{line_start, Element, Slot, slot, padding as pad, padded, body, body_size, entry, entries, start, file, file_length}
use Rattle.profile.specs.ElementsLaws.{Fours, map-append, length-file}
use Rattle.reader_spec.specs.Table.{tags_of}
use Rattle.reader_spec.specs.TableLaws.{next_body, tags_file, drop-start, entries_file}
use Rattle.reader_spec.specs.Owners.{In, Span, span, spans, end, padded_end, Owner, header, table, element, padding, Owns, in_header, in_table, in_element, in_padding, among, once, element_bytes, padding_bytes, Owned}

-- ---- the places of elements that follow one another

unfoldable pub places : ℕ → List Slot → List Span
places at [] = []
places at (s ∷ ss) = record { offset = at; size = s.size } ∷ places (at + (s.size + pad s.size)) ss

-- elements that hold something, each under some signature
pub record NonEmpty (s : Slot) : Type 0 where
  pub signed : 1 ≤ length s.signatures
  pub holds : 1 ≤ s.size

pad_at : (at n : ℕ) → at % 4 ≡ 0 → (pad (at + n) ≡ pad n) × ((at + (n + pad n)) % 4 ≡ 0)
unfolding pad
pad_at at n h = (omega arith, omega arith)

-- every place is within, and starts at a multiple of 4
pub place_bounds : (at : ℕ) (ss : List Slot) → at % 4 ≡ 0 → (s : Span) → In s (places at ss)
    → (at ≤ s.offset) × (s.offset % 4 ≡ 0) × (padded_end s ≤ at + body_size ss)
unfolding places body_size
place_bounds at [] h s m = absurd m
place_bounds at (x ∷ ss) h s (inl e) = rw e (omega (arith, pad_at at x.size h))
place_bounds at (x ∷ ss) h s (inr m) =
    omega (arith, place_bounds (at + (x.size + pad x.size)) ss (pad_at at x.size h).1 s m)

-- every byte of the elements and their padding lies in a place
place_find : (at : ℕ) (ss : List Slot) → at % 4 ≡ 0 → (i : ℕ) → at ≤ i → i < at + body_size ss
    → (s : Span) × In s (places at ss) × (s.offset ≤ i) × (i < padded_end s)
unfolding places body_size
place_find at [] h i p q = absurd (omega arith)
place_find at (x ∷ ss) h i p q =
    go (dec_le (suc i) (at + (x.size + pad x.size)))
    (λ k. place_find (at + (x.size + pad x.size)) ss (pad_at at x.size h).1 i k (omega arith))
  where
    go : Dec (i < at + (x.size + pad x.size))
        → (at + (x.size + pad x.size) ≤ i → (s : Span) × In s (places (at + (x.size + pad x.size)) ss) × (s.offset ≤ i) × (i < padded_end s))
        → (s : Span) × In s (places at (x ∷ ss)) × (s.offset ≤ i) × (i < padded_end s)
    go (yes k) r = (record { offset = at; size = x.size }, inl refl, p, omega (arith, pad_at at x.size h))
    go (no k) r = let (s, m, u, v) = r (omega arith) in (s, inr m, u, v)

-- and in one only
place_apart : (at : ℕ) (x : Slot) (ss : List Slot) → at % 4 ≡ 0 → (s t : Span) → s ≡ record { offset = at; size = x.size }
    → In t (places (at + (x.size + pad x.size)) ss) → padded_end s ≤ t.offset
place_apart at x ss h s t e n =
    rw e (omega (arith, pad_at at x.size h, place_bounds (at + (x.size + pad x.size)) ss (pad_at at x.size h).1 t n))

place_one : (at : ℕ) (ss : List Slot) → at % 4 ≡ 0 → (i : ℕ) (s t : Span) → In s (places at ss) → In t (places at ss)
    → s.offset ≤ i → i < padded_end s → t.offset ≤ i → i < padded_end t → s ≡ t
unfolding places
place_one at [] h i s t m n p q u v = absurd m
place_one at (x ∷ ss) h i s t (inl e) (inl d) p q u v = e ∙ sym d
place_one at (x ∷ ss) h i s t (inl e) (inr n) p q u v = absurd (omega (arith, place_apart at x ss h s t e n))
place_one at (x ∷ ss) h i s t (inr m) (inl d) p q u v = absurd (omega (arith, place_apart at x ss h t s d m))
place_one at (x ∷ ss) h i s t (inr m) (inr n) p q u v =
    place_one (at + (x.size + pad x.size)) ss (pad_at at x.size h).1 i s t m n p q u v

-- ---- the lines of a table name the places

in_append : {A : Type 0} (a : A) (l m : List A) → In a (l ++ m) → In a l ⊎ In a m
in_append a [] m h = inr h
in_append a (b ∷ l) m (inl e) = inl (inl e)
in_append a (b ∷ l) m (inr h) = ⊎_elim (λ x. inl (inr x)) (λ y. inr y) (in_append a l m h)

in_left : {A : Type 0} (a : A) (l m : List A) → In a l → In a (l ++ m)
in_left a [] m h = absurd h
in_left a (b ∷ l) m (inl e) = inl e
in_left a (b ∷ l) m (inr h) = inr (in_left a l m h)

in_right : {A : Type 0} (a : A) (l m : List A) → In a m → In a (l ++ m)
in_right a [] m h = h
in_right a (b ∷ l) m h = inr (in_right a l m h)

in_group : (at n : ℕ) (xs : List (List ℕ)) (s : Span) → In s (map span (map (entry at n) xs)) → s ≡ record { offset = at; size = n }
in_group at n [] s h = absurd h
in_group at n (x ∷ xs) s (inl e) = e
in_group at n (x ∷ xs) s (inr h) = in_group at n xs s h

group_in : (at n : ℕ) (xs : List (List ℕ)) → 1 ≤ length xs → In (record { offset = at; size = n }) (map span (map (entry at n) xs))
group_in at n [] h = absurd (omega arith)
group_in at n (x ∷ xs) h = inl refl

abbrev group : ℕ → Slot → List Span
group at x = map span (map (entry at x.size) x.signatures)

abbrev next : ℕ → Slot → ℕ
next at x = at + (x.size + pad x.size)

lines_split : (at : ℕ) (x : Slot) (ss : List Slot) → map span (entries at (x ∷ ss)) ≡ group at x ++ map span (entries (next at x) ss)
unfolding entries
lines_split at x ss = map-append span (map (entry at x.size) x.signatures) (entries (next at x) ss)

pub lines_places : (at : ℕ) (ss : List Slot) (s : Span) → In s (map span (entries at ss)) → In s (places at ss)
unfolding entries places
lines_places at [] s h = h
lines_places at (x ∷ ss) s h =
    ⊎_elim (λ a. inl (in_group at x.size x.signatures s a)) (λ b. inr (lines_places (next at x) ss s b))
    (in_append s (group at x) (map span (entries (next at x) ss)) (subst (In s) (lines_split at x ss) h))

places_lines : (at : ℕ) (ss : List Slot) → All NonEmpty ss → (s : Span) → In s (places at ss) → In s (map span (entries at ss))
unfolding places
places_lines at [] none s h = absurd h
places_lines at (x ∷ ss) (more k ks) s (inl e) =
    rw (lines_split at x ss) (in_left s (group at x) (map span (entries (next at x) ss)) (rw e (group_in at x.size x.signatures k.signed)))
places_lines at (x ∷ ss) (more k ks) s (inr m) =
    rw (lines_split at x ss) (in_right s (group at x) (map span (entries (next at x) ss)) (places_lines (next at x) ss ks s m))

-- ---- each once

among_above : (s : Span) (l : List Span) → ((t : Span) → In t l → s.offset < t.offset) → among s l ≡ false
unfolding among
among_above s [] h = refl
among_above s (t ∷ l) h =
    let ne : eqb s.offset t.offset ≡ false = ne_eqb s.offset t.offset (λ e. omega (arith, h t (inl refl))) in
    rw (ne, among_above s l (λ u m. h u (inr m)))

among_self : (s : Span) (l : List Span) → among s (s ∷ l) ≡ true
unfolding among
among_self s l = rw (eq-eqb s.offset s.offset refl, eq-eqb s.size s.size refl)

once_group : (at n : ℕ) (x : List ℕ) (xs : List (List ℕ)) (l : List Span) → among (record { offset = at; size = n }) l ≡ false
    → once (map span (map (entry at n) (x ∷ xs)) ++ l) ≡ record { offset = at; size = n } ∷ once l
unfolding once
once_group at n x [] l h = rw h
once_group at n x (y ∷ ys) l h = rw (among_self (record { offset = at; size = n }) (map span (map (entry at n) ys) ++ l)) (once_group at n y ys l h)

once_some : (at n : ℕ) (xs : List (List ℕ)) (l : List Span) → 1 ≤ length xs → among (record { offset = at; size = n }) l ≡ false
    → once (map span (map (entry at n) xs) ++ l) ≡ record { offset = at; size = n } ∷ once l
once_some at n [] l k h = absurd (omega arith)
once_some at n (x ∷ xs) l k h = once_group at n x xs l h

once_places : (at : ℕ) (ss : List Slot) → at % 4 ≡ 0 → All NonEmpty ss → once (map span (entries at ss)) ≡ places at ss
unfolding places
once_places at [] h none = unfold once entries in refl
once_places at (x ∷ ss) h (more k ks) =
    let above : (t : Span) → In t (map span (entries (next at x) ss)) → at < t.offset =
    λ t m. omega (arith, k.holds, place_bounds (next at x) ss (pad_at at x.size h).1 t (lines_places (next at x) ss t m))
    in
    ap once (lines_split at x ss)
    ∙ once_some at x.size x.signatures (map span (entries (next at x) ss)) k.signed (among_above (record { offset = at; size = x.size }) _ above)
    ∙ ap (λ l. record { offset = at; size = x.size } ∷ l) (once_places (next at x) ss (pad_at at x.size h).1 ks)

totals : (at : ℕ) (ss : List Slot) → at % 4 ≡ 0 → element_bytes (places at ss) + padding_bytes (places at ss) ≡ body_size ss
unfolding places element_bytes padding_bytes body_size
totals at [] h = refl
totals at (x ∷ ss) h = omega (arith, totals (next at x) ss (pad_at at x.size h).1, pad_at at x.size h)

-- ---- padding is zero

pad_bytes : (b r : List ℕ) (j : ℕ) → j < pad (length b) → get_or (padded b ++ r) (length b + j) 0 ≡ 0
unfolding padded
pad_bytes b r j h =
    rw (
      append_assoc b (replicate (pad (length b)) 0) r,
      get_or-append-add b (replicate (pad (length b)) 0 ++ r) j 0,
      get_or-append (replicate (pad (length b)) 0) r 0 j (rw length-replicate h),
    )
    (get_or-replicate (pad (length b)) j 0 0 h)

padding_zero : (f : List ℕ) (at : ℕ) (es : List Element) → at % 4 ≡ 0 → drop at f ≡ body es → (i : ℕ) (s : Span) → In s (places at (map slot es))
    → end s ≤ i → i < padded_end s → get_or f i 0 ≡ 0
unfolding places body
padding_zero f at [] h b i s m p q = absurd m
padding_zero f at (e ∷ es) h b i s (inl d) p q =
    let n : ℕ = length e.bytes in
    let p' : at + n ≤ i = rw d at p in
    let q' : i < at + n + pad (at + n) = rw d at q in
    let j : ℕ = i - (at + n) in
    let k : i ≡ at + (n + j) = omega arith in
    let short : j < pad n = omega (arith, pad_at at n h) in
    ap (λ x. get_or f x 0) k ∙ sym (get_or-drop at f (n + j) 0) ∙ ap (λ l. get_or l (n + j) 0) b ∙ pad_bytes e.bytes (body es) j short
padding_zero f at (e ∷ es) h b i s (inr m) p q =
    padding_zero f (next at (slot e)) es (pad_at at (length e.bytes) h).1 (next_body f at e es b) i s m p q

-- ---- a file under any header has one owner for each byte

module _ (h : List ℕ) (es : List Element) (len : length h ≡ 128) (fours : Fours (map slot es)) (small : file_length (map slot es) < 2 ^ 32)
    (held : All NonEmpty (map slot es)) where
  ss : List Slot
  ss = map slot es

  start4 : start (map slot es) % 4 ≡ 0
  unfolding start
  start4 = omega arith

  spans_are : spans (file h es) ≡ map span (entries (start (map slot es)) (map slot es))
  spans_are = ap (map span) (entries_file h es len fours small)

  to_place : (s : Span) → In s (spans (file h es)) → In s (places (start (map slot es)) (map slot es))
  to_place s m = lines_places (start (map slot es)) (map slot es) s (subst (In s) spans_are m)

  of_place : (s : Span) → In s (places (start (map slot es)) (map slot es)) → In s (spans (file h es))
  of_place s m = subst (In s) (sym spans_are) (places_lines (start (map slot es)) (map slot es) held s m)

  is_length : length (file h es) ≡ start (map slot es) + body_size (map slot es)
  unfolding file_length
  is_length = length-file h es len fours

  tags_start : line_start (tags_of (file h es)) ≡ start (map slot es)
  unfolding start
  tags_start = rw (tags_file h es len fours small)

  bounds : (s : Span) → In s (spans (file h es)) → (start (map slot es) ≤ s.offset) × (s.offset % 4 ≡ 0) × (padded_end s ≤ start (map slot es) + body_size (map slot es))
  bounds s m = place_bounds (start (map slot es)) (map slot es) start4 s (to_place s m)

  inside : (i : ℕ) (o : Owner) → Owns (file h es) i o → i < length (file h es)
  inside i o (in_header p) = omega (arith, is_length, tags_start)
  inside i o (in_table p q) = omega (arith, is_length, tags_start)
  inside i o (in_element s m p q) = omega (arith, is_length, bounds s m)
  inside i o (in_padding s m p q) = omega (arith, is_length, bounds s m)

  zeros : (i : ℕ) (s : Span) → In s (spans (file h es)) → end s ≤ i → i < padded_end s → get_or (file h es) i 0 ≡ 0
  zeros i s m p q = padding_zero (file h es) (start (map slot es)) es start4 (drop-start h es len fours small) i s (to_place s m) p q

  total : length (file h es) ≡ 128 + 4 + 12 * tags_of (file h es) + element_bytes (once (spans (file h es))) + padding_bytes (once (spans (file h es)))
  total =
      rw (spans_are, once_places (start (map slot es)) (map slot es) start4 held)
      (omega (arith, is_length, tags_start, totals (start (map slot es)) (map slot es) start4))

  same_place : (i : ℕ) (s t : Span) → In s (spans (file h es)) → In t (spans (file h es))
      → s.offset ≤ i → i < padded_end s → t.offset ≤ i → i < padded_end t → s ≡ t
  same_place i s t m n p q u v = place_one (start (map slot es)) (map slot es) start4 i s t (to_place s m) (to_place t n) p q u v

  one_owner : (i : ℕ) (o q : Owner) → Owns (file h es) i o → Owns (file h es) i q → q ≡ o
  one_owner i o q (in_header a) (in_header b) = refl
  one_owner i o q (in_header a) (in_table b c) = absurd (omega arith)
  one_owner i o q (in_header a) (in_element t n b c) = absurd (omega (arith, bounds t n, tags_start))
  one_owner i o q (in_header a) (in_padding t n b c) = absurd (omega (arith, bounds t n, tags_start))
  one_owner i o q (in_table a d) (in_header b) = absurd (omega arith)
  one_owner i o q (in_table a d) (in_table b c) = refl
  one_owner i o q (in_table a d) (in_element t n b c) = absurd (omega (arith, bounds t n, tags_start))
  one_owner i o q (in_table a d) (in_padding t n b c) = absurd (omega (arith, bounds t n, tags_start))
  one_owner i o q (in_element s m a d) (in_header b) = absurd (omega (arith, bounds s m, tags_start))
  one_owner i o q (in_element s m a d) (in_table b c) = absurd (omega (arith, bounds s m, tags_start))
  one_owner i o q (in_element s m a d) (in_element t n b c) = ap element (same_place i t s n m b (omega arith) a (omega arith))
  one_owner i o q (in_element s m a d) (in_padding t n b c) =
      absurd (omega (arith, ap end (same_place i s t m n a (omega arith) (omega arith) c)))
  one_owner i o q (in_padding s m a d) (in_header b) = absurd (omega (arith, bounds s m, tags_start))
  one_owner i o q (in_padding s m a d) (in_table b c) = absurd (omega (arith, bounds s m, tags_start))
  one_owner i o q (in_padding s m a d) (in_element t n b c) =
      absurd (omega (arith, ap end (same_place i s t m n (omega arith) d b (omega arith))))
  one_owner i o q (in_padding s m a d) (in_padding t n b c) = ap padding (same_place i t s n m (omega arith) c (omega arith) d)

  some-owner : (i : ℕ) → i < length (file h es) → (o : Owner) × Owns (file h es) i o
  some-owner i k =
      first (dec_le (suc i) 128) (dec_le (suc i) (line_start (tags_of (file h es))))
    where
      last : (r : (s : Span) × In s (places (start (map slot es)) (map slot es)) × (s.offset ≤ i) × (i < padded_end s))
          → Dec (i < end r.0) → (o : Owner) × Owns (file h es) i o
      last r (yes e) = (element r.0, in_element r.0 (of_place r.0 r.1) r.2 e)
      last r (no e) = (padding r.0, in_padding r.0 (of_place r.0 r.1) (omega arith) r.3)

      found : line_start (tags_of (file h es)) ≤ i → (s : Span) × In s (places (start (map slot es)) (map slot es)) × (s.offset ≤ i) × (i < padded_end s)
      found e = place_find (start (map slot es)) (map slot es) start4 i (omega (arith, tags_start)) (omega (arith, is_length))

      first : Dec (i < 128) → Dec (i < line_start (tags_of (file h es))) → (o : Owner) × Owns (file h es) i o
      first (yes a) d = (header, in_header a)
      first (no a) (yes b) = (table, in_table (omega arith) b)
      first (no a) (no b) = let r = found (omega arith) in last r (dec_le (suc i) (end r.0))

  pub owned : Owned (file h es)
  owned = record { owner = owner; inside = inside; zeros = zeros_of; total = total }
    where
      owner : (i : ℕ) → i < length (file h es) → (o : Owner) × Owns (file h es) i o × ((q : Owner) → Owns (file h es) i q → q ≡ o)
      owner i k = let (o, w) = some-owner i k in (o, w, λ q v. one_owner i o q w v)

      zeros_of : (i : ℕ) (s : Span) → Owns (file h es) i (padding s) → get_or (file h es) i 0 ≡ 0
      zeros_of i s (in_padding t m p q) = zeros i t m p q
