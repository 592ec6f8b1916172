-- The finder's line, one line of the table after another; in an accepted file the table and the element that the line names lie within the
-- file, and the element is the plan's. Assumes nothing.
use Rattle.std.specs.Prelude.{ℕ, ◌+◌, ◌%◌, ◌≤◌, ◌<◌, ◌≡◌, Bool, true, false, cond, List, [], ◌∷◌, ◌++◌, map, length, take, drop}
use Rattle.std.proofs.Math.Path.{refl, ap}
use Rattle.std.proofs.Common.{◌∙◌, subst, inl, inr}
use native.Mathlib.Omega.{arith}
use Rattle.buffer.specs.Bytes.{same}
use Rattle.profile.specs.Elements.{line_start, Entry, Element, slot, padded_size, entry, entries, start, body, body_size, file_length}
use Rattle.profile.specs.Plan.{Plan, InRange, Valid}
use Rattle.profile.specs.Layout.{elements, slots, layout}
use Rattle.profile.specs.LayoutLaws.{length-id_for}
use Rattle.reader_spec.specs.Exists.{Exists}
use Rattle.reader_spec.specs.Table.{tags_of, entries_of, absent, element_at}
use Rattle.reader_spec.specs.TableLaws.{next_body, first_element}
use Rattle.reader_spec.specs.LinesLaws.{line_at, lines_from, from_line, from_none}
use Rattle.reader_spec.specs.FileLaws.{length-slots, tags_with_id, entries_with_id, drop-with_id}
use Rattle.reader_spec.specs.RefusalList.{Answer, Check, refused, accepted}
use Rattle.reader_spec.specs.Read.{read}
use Rattle.reader_spec.specs.Owners.{In, Span, span, spans, end}
use Rattle.reader_spec.proofs.OwnersLaws.{place_bounds, lines_places}
use Rattle.reader_spec.proofs.Accepts.{accepts_exactly}
use Rattle.reader_spec.specs.Finder.{line_of, found, is_among, element_under}

module _ (f s : List ℕ) where
  pub line_is : (i : ℕ) → i < tags_of f → same (take 4 (drop (line_start i) f)) s ≡ true → line_of s (lines_from f i) absent ≡ line_at f (line_start i)
  unfolding line_of
  line_is i h e = rw (from_line f i h, e)

  pub line_later : (i : ℕ) → i < tags_of f → same (take 4 (drop (line_start i) f)) s ≡ false
      → line_of s (lines_from f i) absent ≡ line_of s (lines_from f (i + 1)) absent
  unfolding line_of
  line_later i h e = rw (from_line f i h, e)

  pub line_none : line_of s (lines_from f (tags_of f)) absent ≡ absent
  unfolding line_of
  line_none = rw (from_none f)

  -- ---- the finder's line

  pub found_refused : (c : Check) → read f ≡ refused c → found f s ≡ absent
  unfolding found
  found_refused c e = rw e

  pub found_accepted : (p : Plan) → read f ≡ accepted p → found f s ≡ line_of s (entries_of f) absent
  unfolding found
  found_accepted p e = rw e

-- ---- in an accepted file

-- the table and every line's element lie within a file
record Within (f : List ℕ) : Type 0 where
  table : line_start (tags_of f) ≤ length f
  line : (s : Span) → In s (spans f) → end s ≤ length f

layout_within : (p : Plan) → Valid p → Within (layout p)
layout_within p v = record { table = in_table; line = in_line }
  where
    size : length (layout p) ≡ start (slots p) + body_size (slots p)
    size = unfold file_length in length-slots InRange p v

    in_table : line_start (tags_of (layout p)) ≤ length (layout p)
    in_table = rw size (unfold layout start in rw (tags_with_id InRange p v _ (length-id_for p)) (omega arith))

    spans_are : spans (layout p) ≡ map span (entries (start (slots p)) (slots p))
    spans_are = unfold layout in ap (map span) (entries_with_id InRange p v _ (length-id_for p))

    in_line : (s : Span) → In s (spans (layout p)) → end s ≤ length (layout p)
    in_line s m =
        let four : start (slots p) % 4 ≡ 0 = unfold start in omega arith in
        omega (arith, size, place_bounds _ (slots p) four s (lines_places _ (slots p) s (subst (In s) spans_are m)))

accepted_within : (f : List ℕ) (p : Plan) → read f ≡ accepted p → Within f
accepted_within f p e =
    let h : Exists p × (layout p ≡ f) = (accepts_exactly f p).0 e in subst Within h.1 (layout_within p h.0.valid)

line_within : (s : List ℕ) (n : ℕ) (es : List Entry) → ((x : Span) → In x (map span es) → end x ≤ n) → end (span (line_of s es absent)) ≤ n
unfolding line_of
line_within s n [] h = omega arith
line_within s n (e ∷ es) h = either (same e.signature s) (line_within s n es (λ x m. h x (inr m)))
  where
    either : (b : Bool) → end (span (line_of s es absent)) ≤ n → end (span (cond b e (line_of s es absent))) ≤ n
    either true k = h (span e) (inl refl)
    either false k = k

pub table_within : (f : List ℕ) (p : Plan) → read f ≡ accepted p → line_start (tags_of f) ≤ length f
table_within f p e = (accepted_within f p e).table

-- the element of the finder's line lies within every file: of a refused one it has no bytes
pub found_within : (f s : List ℕ) → (found f s).offset + (found f s).size ≤ length f
found_within f s = go (read f) refl
  where
    go : (a : Answer) → read f ≡ a → (found f s).offset + (found f s).size ≤ length f
    go (accepted p) e = rw (found_accepted f s p e) (line_within s (length f) (entries_of f) (accepted_within f p e).line)
    go (refused c) e = rw (found_refused f s c e) (omega arith)

-- ---- the element of a plan

abbrev pub named : List ℕ → List ℕ → List Entry → List ℕ
named f s es = element_at f (line_of s es absent)

named_group : (f s : List ℕ) (at n : ℕ) (ts : List (List ℕ)) (es : List Entry)
    → named f s (map (entry at n) ts ++ es) ≡ cond (is_among s ts) (take n (drop at f)) (named f s es)
unfolding line_of is_among element_at
named_group f s at n [] es = refl
named_group f s at n (t ∷ ts) es = go (same t s) (named_group f s at n ts es)
  where
    go : (b : Bool) → named f s (map (entry at n) ts ++ es) ≡ cond (is_among s ts) (take n (drop at f)) (named f s es)
        → element_at f (cond b (entry at n t) (line_of s (map (entry at n) ts ++ es) absent))
        ≡ cond (cond b true (is_among s ts)) (take n (drop at f)) (named f s es)
    go true h = refl
    go false h = h

named_entries : (f s : List ℕ) (at : ℕ) (es : List Element) → drop at f ≡ body es → named f s (entries at (map slot es)) ≡ element_under s es
unfolding entries element_under
named_entries f s at [] h = unfold line_of element_at in refl
named_entries f s at (e ∷ es) h =
    named_group f s at (length e.bytes) e.signatures (entries (at + padded_size (length e.bytes)) (map slot es))
    ∙ rw (first_element f at e es h, named_entries f s (at + padded_size (length e.bytes)) es (next_body f at e es h))

pub named_layout : (s : List ℕ) (p : Plan) → Valid p → named (layout p) s (entries_of (layout p)) ≡ element_under s (elements p)
unfolding layout
named_layout s p v =
    rw (entries_with_id InRange p v _ (length-id_for p))
    (named_entries (layout p) s (start (slots p)) (elements p) (drop-with_id InRange p v _ (length-id_for p)))
