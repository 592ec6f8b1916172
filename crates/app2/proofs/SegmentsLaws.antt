-- The segments of a file, and of any data numbered from 1 on: they fit, they are complete, they join to that data in any order, and how many bytes they
-- have. Assumes nothing.
use Rattle.std.specs.Prelude.{ℕ, suc, ◌+◌, ◌-◌, ◌*◌, ◌/◌, ◌≤◌, ◌≡◌, refl, List, [], ◌∷◌, length}
use Rattle.std.proofs.Common.{sym, ◌∙◌, arith, length-append}
use Rattle.buffer.specs.All.{All, none, more}
use Rattle.buffer.specs.Checked.{is}
use Rattle.profile.specs.TagTypes.{join}
use Rattle.app2.specs.Segments.{Segment, segment_bytes, bytes, cut, numbered, segments}
use Rattle.app2.specs.Joining.{joined}
use Rattle.app2.specs.App2.{max_data, complete_segments}
use Rattle.app2.specs.Permutation.{Permutation, none as no_member, same_first, swap, then}
use Rattle.app2.specs.Properties.{Cut, last, whole, Short, Fits}
use Rattle.app2.specs.CutLaws.{cut_join, cut_cut, cut_number, cut_within}
use Rattle.app2.specs.ParseLaws.{length-segment, parse_bytes}
use Rattle.app2.proofs.JoinLaws.{complete_numbered, joined_numbered, complete_same, joined_same}
use Rattle.app2.proofs.ChecksLaws.{complete_of}

-- ---- any data

numbered_fit : (c i : ℕ) {ps : List (List ℕ)} → All Short ps → All Fits (numbered c i ps)
unfolding numbered
numbered_fit c i none = none
numbered_fit c i (more h hs) = more (record { short = h }) (numbered_fit c (suc i) hs)

all_same : {P : Segment → Type 0} {one two : List Segment} → Permutation one two → All P one → All P two
all_same no_member none = none
all_same (same_first a p) (more h hs) = more h (all_same p hs)
all_same (swap a b l) (more h (more k hs)) = more k (more h hs)
all_same (then p q) hs = all_same q (all_same p hs)

turned : {one two : List Segment} → Permutation one two → Permutation two one
turned no_member = no_member
turned (same_first a p) = same_first a (turned p)
turned (swap a b l) = swap b a l
turned (then p q) = then (turned q) (turned p)

fit_numbered : (c i : ℕ) (ps : List (List ℕ)) → All Fits (numbered c i ps) → All Short ps
unfolding numbered
fit_numbered c i [] h = none
fit_numbered c i (p ∷ ps) (more h hs) = more h.short (fit_numbered c (suc i) ps hs)

-- chunks whose segments, in any order, fit are short
pub order_short : (c i : ℕ) (ps : List (List ℕ)) {ss : List Segment} → Permutation (numbered c i ps) ss → All Fits ss → All Short ps
order_short c i ps order h = fit_numbered c i ps (all_same (turned order) h)

module _ (ps : List (List ℕ)) (some_one : 1 ≤ length ps) (short : All Short ps) (ss : List Segment)
    (order : Permutation (numbered (length ps) 1 ps) ss) where
  -- the segments that their bytes are
  pub any_complete : complete_segments (bytes ss) ≡ is ss
  any_complete =
      complete_of (bytes ss) (parse_bytes ss (all_same order (numbered_fit (length ps) 1 short))) (sym (complete_same order) ∙ complete_numbered ps some_one)

  pub any_joined : joined ss ≡ join ps
  any_joined = sym (joined_same order (complete_numbered ps some_one)) ∙ joined_numbered (length ps) ps

-- ---- the segments of a file

wider : {n : ℕ} {ps : List (List ℕ)} → n ≤ max_data → All (λ (p : List ℕ). length p ≤ n) ps → All Short ps
wider h none = none
wider h (more {a = p} k ks) = more {a = p} (omega arith) (wider h ks)

pub cut_short : (n : ℕ) (f : List ℕ) → 1 ≤ n → n ≤ max_data → 1 ≤ length f → All Short (cut n f)
cut_short n f low high some_byte = wider high (cut_within (cut_cut n low f some_byte))

pub cut_some : (n : ℕ) (f : List ℕ) → 1 ≤ n → 1 ≤ length f → 1 ≤ length (cut n f)
cut_some n f low some_byte = go (cut_cut n low f some_byte)
  where
    go : {ps : List (List ℕ)} → Cut n ps → 1 ≤ length ps
    go (last a b) = omega arith
    go (whole e c) = omega arith

-- ---- how long they are

length-bytes : (c i : ℕ) (ps : List (List ℕ)) → length (bytes (numbered c i ps)) ≡ length (join ps) + 18 * length ps
unfolding numbered bytes join
length-bytes c i [] = refl
length-bytes c i (p ∷ ps) =
    let s : Segment = record { sequence = i; count = c; chunk = p } in
    length-append (segment_bytes s) (bytes (numbered c (suc i) ps))
    ∙ omega (arith, length-segment s, length-bytes c (suc i) ps, length-append p (join ps))

-- 18 bytes for each segment beside the file's own
pub length-segments : (n : ℕ) (f : List ℕ) → 1 ≤ n → length (bytes (segments n f)) ≡ length f + 18 * ((length f + (n - 1)) / n)
unfolding segments
length-segments n f h = rw (← cut_number n h f) (length-bytes (length (cut n f)) 1 (cut n f) ∙ rw (cut_join n h f))
