-- Segments joined: what was cut and numbered is complete and joins to the file, and the order of the segments does not matter. Assumes nothing.
use Prim.Native.Nat.{ℕ, zero, suc, ◌+◌, ◌≤◌, ◌<◌}
use Rattle.std.specs.Prelude.{◌≡◌, Bool, true, false, ◌&&◌, cond, leb, eqb, length}
use Rattle.std.proofs.Math.Path.{refl, ap, sym}
use Rattle.std.proofs.Common.{ap₂, ◌∙◌, arith, zero-add, le-leb, leb-true, eq-eqb, ne_eqb, eqb-true}
use mathlib.Core.List.{List, [], ◌∷◌}
use Rattle.buffer.specs.BoolLaws.{both_left, both_right}
use Rattle.profile.specs.TagTypes.{join}
use Rattle.app2.specs.Segments.{Segment, numbered}
use Rattle.app2.specs.Joining.{times, each_once, counts, complete, chunk_of, chunks_from, joined}
use Rattle.app2.specs.Permutation.{Permutation, none, same_first, swap, then}

-- ---- the parts of `complete`

pub record Complete (ss : List Segment) : Type 0 where
  pub some-segment : 1 ≤ length ss
  pub counted : counts (length ss) ss ≡ true
  pub once : each_once (length ss) 1 ss ≡ true

pub complete_parts : (ss : List Segment) → complete ss ≡ true → Complete ss
unfolding complete
complete_parts ss e =
    let on = both_right (leb 1 (length ss)) (counts (length ss) ss && each_once (length ss) 1 ss) e in
    record {
      some-segment = leb-true 1 (length ss) (both_left (leb 1 (length ss)) _ e);
      counted = both_left (counts (length ss) ss) (each_once (length ss) 1 ss) on;
      once = both_right (counts (length ss) ss) (each_once (length ss) 1 ss) on;
    }

pub complete_whole : (ss : List Segment) → Complete ss → complete ss ≡ true
unfolding complete
complete_whole ss h = rw (le-leb 1 (length ss) h.some-segment, h.counted, h.once)

-- ---- numbered chunks

module _ (c : ℕ) where
  pub length-numbered : (i : ℕ) (ps : List (List ℕ)) → length (numbered c i ps) ≡ length ps
  unfolding numbered
  length-numbered i [] = refl
  length-numbered i (p ∷ ps) = ap suc (length-numbered (suc i) ps)

  counts_numbered : (i : ℕ) (ps : List (List ℕ)) → counts c (numbered c i ps) ≡ true
  unfolding numbered counts
  counts_numbered i [] = refl
  counts_numbered i (p ∷ ps) = rw (eq-eqb c c refl) (counts_numbered (suc i) ps)

  -- a number below all of them stands on none
  none_below : (j i : ℕ) (ps : List (List ℕ)) → j < i → times j (numbered c i ps) ≡ 0
  unfolding numbered times
  none_below j i [] h = refl
  none_below j i (p ∷ ps) h = rw (ne_eqb i j (λ e. omega arith)) (zero-add _ ∙ none_below j (suc i) ps (omega arith))

-- a segment with a number below all that are asked for changes nothing
once_past : (k i : ℕ) (s : Segment) (ss : List Segment) → s.sequence < i → each_once k i (s ∷ ss) ≡ each_once k i ss
unfolding each_once times
once_past zero i s ss h = refl
once_past (suc k) i s ss h =
    rw (ne_eqb s.sequence i (λ e. omega arith), zero-add (times i ss), once_past k (suc i) s ss (omega arith))

from_past : (k i : ℕ) (s : Segment) (ss : List Segment) → s.sequence < i → chunks_from k i (s ∷ ss) ≡ chunks_from k i ss
unfolding chunks_from chunk_of
from_past zero i s ss h = refl
from_past (suc k) i s ss h =
    rw (ne_eqb s.sequence i (λ e. omega arith), from_past k (suc i) s ss (omega arith))

once_numbered : (c i : ℕ) (ps : List (List ℕ)) → each_once (length ps) i (numbered c i ps) ≡ true
unfolding numbered each_once times
once_numbered c i [] = refl
once_numbered c i (p ∷ ps) =
    rw (eq-eqb i i refl, none_below c i (suc i) ps (omega arith), once_past (length ps) (suc i) (record { sequence = i; count = c; chunk = p }) (numbered c (suc i) ps) (omega arith))
    (once_numbered c (suc i) ps)

from_numbered : (c i : ℕ) (ps : List (List ℕ)) → chunks_from (length ps) i (numbered c i ps) ≡ ps
unfolding numbered chunks_from chunk_of
from_numbered c i [] = refl
from_numbered c i (p ∷ ps) =
    rw (eq-eqb i i refl, from_past (length ps) (suc i) (record { sequence = i; count = c; chunk = p }) (numbered c (suc i) ps) (omega arith))
    (ap (λ (qs : List (List ℕ)). p ∷ qs) (from_numbered c (suc i) ps))

-- chunks numbered from 1 on, with their number as the count, are complete
pub complete_numbered : (ps : List (List ℕ)) → 1 ≤ length ps → complete (numbered (length ps) 1 ps) ≡ true
unfolding complete
complete_numbered ps h =
    rw (length-numbered (length ps) 1 ps, le-leb 1 (length ps) h, counts_numbered (length ps) 1 ps) (once_numbered (length ps) 1 ps)

-- and join to the chunks one after another
pub joined_numbered : (c : ℕ) (ps : List (List ℕ)) → joined (numbered c 1 ps) ≡ join ps
unfolding joined
joined_numbered c ps = rw (length-numbered c 1 ps) (ap join (from_numbered c 1 ps))

-- ---- in any order

pub length-same : {one two : List Segment} → Permutation one two → length one ≡ length two
length-same none = refl
length-same (same_first a p) = ap suc (length-same p)
length-same (swap a b l) = refl
length-same (then p q) = length-same p ∙ length-same q

swap_and : (a b c : Bool) → (a && (b && c)) ≡ (b && (a && c))
swap_and true true c = refl
swap_and true false c = refl
swap_and false true c = refl
swap_and false false c = refl

counts_same : (c : ℕ) {one two : List Segment} → Permutation one two → counts c one ≡ counts c two
unfolding counts
counts_same c none = refl
counts_same c (same_first a p) = ap (λ (x : Bool). eqb a.count c && x) (counts_same c p)
counts_same c (swap a b l) = swap_and (eqb a.count c) (eqb b.count c) (counts c l)
counts_same c (then p q) = counts_same c p ∙ counts_same c q

times_same : (i : ℕ) {one two : List Segment} → Permutation one two → times i one ≡ times i two
unfolding times
times_same i none = refl
times_same i (same_first a p) = ap (λ (x : ℕ). cond (eqb a.sequence i) 1 0 + x) (times_same i p)
times_same i (swap a b l) = omega arith
times_same i (then p q) = times_same i p ∙ times_same i q

once_same : (k i : ℕ) {one two : List Segment} → Permutation one two → each_once k i one ≡ each_once k i two
unfolding each_once
once_same zero i p = refl
once_same (suc k) i p = rw (times_same i p, once_same k (suc i) p) refl

-- a permutation of complete segments is complete
pub complete_same : {one two : List Segment} → Permutation one two → complete one ≡ complete two
unfolding complete
complete_same {one} {two} p =
    ap (λ (n : ℕ). leb 1 n && (counts n one && each_once n 1 one)) (length-same p)
    ∙ ap₂ (λ (x y : Bool). leb 1 (length two) && (x && y)) (counts_same (length two) p) (once_same (length two) 1 p)

-- the data with a number that is not doubled
swap_chunk : (i : ℕ) (a b : Segment) (l : List Segment) (t u : Bool) → eqb a.sequence i ≡ t → eqb b.sequence i ≡ u
    → cond t 1 0 + (cond u 1 0 + times i l) ≤ 1
    → cond t a.chunk (cond u b.chunk (chunk_of i l)) ≡ cond u b.chunk (cond t a.chunk (chunk_of i l))
swap_chunk i a b l true true e f h = absurd (omega arith)
swap_chunk i a b l true false e f h = refl
swap_chunk i a b l false true e f h = refl
swap_chunk i a b l false false e f h = refl

first_chunk : (i : ℕ) (a : Segment) (l m : List Segment) (t : Bool) → cond t 1 0 + times i l ≤ 1
    → (times i l ≤ 1 → chunk_of i l ≡ chunk_of i m)
    → cond t a.chunk (chunk_of i l) ≡ cond t a.chunk (chunk_of i m)
first_chunk i a l m true h k = refl
first_chunk i a l m false h k = k (omega arith)

chunk_same : (i : ℕ) {one two : List Segment} → Permutation one two → times i one ≤ 1 → chunk_of i one ≡ chunk_of i two
unfolding times chunk_of
chunk_same i none h = refl
chunk_same i (same_first {l} {m} a p) h = first_chunk i a l m (eqb a.sequence i) h (chunk_same i p)
chunk_same i (swap a b l) h = swap_chunk i a b l (eqb a.sequence i) (eqb b.sequence i) refl refl h
chunk_same i (then p q) h = chunk_same i p h ∙ chunk_same i q (rw (times_same i p) at h)

from_same : (k i : ℕ) {one two : List Segment} → Permutation one two → each_once k i one ≡ true
    → chunks_from k i one ≡ chunks_from k i two
unfolding each_once chunks_from
from_same zero i p e = refl
from_same (suc k) i {one} {two} p e =
    let here : eqb (times i one) 1 ≡ true = both_left (eqb (times i one) 1) (each_once k (suc i) one) e in
    let onward : each_once k (suc i) one ≡ true = both_right (eqb (times i one) 1) (each_once k (suc i) one) e in
    ap₂ (λ (x : List ℕ) (xs : List (List ℕ)). x ∷ xs) (chunk_same i p (omega (arith, eqb-true (times i one) 1 here))) (from_same k (suc i) p onward)

-- complete segments join to the same bytes in any order
pub joined_same : {one two : List Segment} → Permutation one two → complete one ≡ true → joined one ≡ joined two
unfolding joined
joined_same {one} {two} p e =
    ap join (from_same (length one) 1 p (complete_parts one e).once ∙ ap (λ (k : ℕ). chunks_from k 1 two) (length-same p))

-- ---- complete segments are chunks numbered from 1 on, in some order

pub same_order : (ss : List Segment) → Permutation ss ss
same_order [] = none
same_order (s ∷ ss) = same_first s (same_order ss)

-- the segment with the sequence number i, in front of the others
record Taken (i : ℕ) (ss : List Segment) : Type 0 where
  one : Segment
  others : List Segment
  number_is : one.sequence ≡ i
  order : Permutation (one ∷ others) ss

taken : (i : ℕ) (ss : List Segment) → 1 ≤ times i ss → Taken i ss
unfolding times
taken i [] h = absurd (omega arith)
taken i (s ∷ ss) h = go (eqb s.sequence i) refl (taken i ss) h
  where
    go : (t : Bool) → eqb s.sequence i ≡ t → (1 ≤ times i ss → Taken i ss) → 1 ≤ cond t 1 0 + times i ss → Taken i (s ∷ ss)
    go true e later h = record { one = s; others = ss; number_is = eqb-true s.sequence i e; order = same_order (s ∷ ss) }
    go false e later h =
        let t = later (omega arith) in
        record { one = t.one; others = s ∷ t.others; number_is = t.number_is; order = then (swap t.one s t.others) (same_first s t.order) }

no_member : (ss : List Segment) → length ss ≡ 0 → ss ≡ []
no_member [] e = refl
no_member (s ∷ ss) e = absurd (omega arith)

segment_is : (s : Segment) {i c : ℕ} {l : List ℕ} → s.sequence ≡ i → s.count ≡ c → l ≡ s.chunk → record { sequence = i; count = c; chunk = l } ≡ s
segment_is s {l = l} p q r =
    ap₂ (λ (x y : ℕ). record { sequence = x; count = y; chunk = l }) (sym p) (sym q)
    ∙ ap (λ (m : List ℕ). record { sequence = s.sequence; count = s.count; chunk = m }) r

renamed : {a b : Segment} {l m ss : List Segment} → a ≡ b → l ≡ m → Permutation (b ∷ m) ss → Permutation (a ∷ l) ss
renamed e f p = rw (e, f) p

-- the first number's segment, and what is known of the others
module _ (c k i : ℕ) (ss : List Segment) (n : length ss ≡ suc k) (cs : counts c ss ≡ true) (once : times i ss ≡ 1) (later : each_once k (suc i) ss ≡ true) where
  abbrev first : Taken i ss
  first = taken i ss (omega arith)

  abbrev one : Segment
  one = first.one

  abbrev others : List Segment
  others = first.others

  length-others : length others ≡ k
  length-others = omega (arith, length-same first.order)

  counts_both : (eqb one.count c && counts c others) ≡ true
  unfolding counts
  counts_both = counts_same c first.order ∙ cs

  once_both : each_once k (suc i) (one ∷ others) ≡ true
  once_both = once_same k (suc i) first.order ∙ later

  below : one.sequence < suc i
  below = omega (arith, first.number_is)

  once_others : each_once k (suc i) others ≡ true
  once_others = sym (once_past k (suc i) one others below) ∙ once_both

  rest_is : chunks_from k (suc i) ss ≡ chunks_from k (suc i) others
  rest_is = sym (from_same k (suc i) first.order once_both) ∙ from_past k (suc i) one others below

  chunk_is : chunk_of i ss ≡ one.chunk
  unfolding chunk_of
  chunk_is =
      sym (chunk_same i first.order (omega (arith, times_same i first.order)))
      ∙ rw (eq-eqb one.sequence i first.number_is)

  one_is : record { sequence = i; count = c; chunk = chunk_of i ss } ≡ one
  one_is = segment_is one first.number_is (eqb-true one.count c (both_left (eqb one.count c) (counts c others) counts_both)) chunk_is

  in_front : Permutation (numbered c (suc i) (chunks_from k (suc i) others)) others
      → Permutation (record { sequence = i; count = c; chunk = chunk_of i ss } ∷ numbered c (suc i) (chunks_from k (suc i) ss)) ss
  in_front p = renamed one_is (ap (numbered c (suc i)) rest_is) (then (same_first one p) first.order)

numbered_order : (c k i : ℕ) (ss : List Segment) → length ss ≡ k → counts c ss ≡ true → each_once k i ss ≡ true
    → Permutation (numbered c i (chunks_from k i ss)) ss
unfolding chunks_from numbered each_once
numbered_order c zero i ss n cs e = rw (no_member ss n) none
numbered_order c (suc k) i ss n cs e =
    let once = eqb-true (times i ss) 1 (both_left (eqb (times i ss) 1) (each_once k (suc i) ss) e) in
    let later = both_right (eqb (times i ss) 1) (each_once k (suc i) ss) e in
    let counted = both_right (eqb (one c k i ss n cs once later).count c) (counts c (others c k i ss n cs once later)) (counts_both c k i ss n cs once later) in
    in_front c k i ss n cs once later
    (numbered_order c k (suc i) (others c k i ss n cs once later) (length-others c k i ss n cs once later) counted (once_others c k i ss n cs once later))

pub complete_order : (ss : List Segment) → complete ss ≡ true → (1 ≤ length ss) × Permutation (numbered (length ss) 1 (chunks_from (length ss) 1 ss)) ss
complete_order ss e =
    let parts = complete_parts ss e in (parts.some-segment, numbered_order (length ss) (length ss) 1 ss refl parts.counted parts.once)

pub length_from : (k i : ℕ) (ss : List Segment) → length (chunks_from k i ss) ≡ k
unfolding chunks_from
length_from zero i ss = refl
length_from (suc k) i ss = ap suc (length_from k (suc i) ss)
