-- The segments of a buffer: parsing finds the segments whose bytes the buffer is, and no others have these bytes. Assumes nothing.
use Rattle.std.specs.Prelude.{ℕ, zero, suc, ◌+◌, ◌-◌, ◌≤◌, ◌<◌, ◌≡◌, ◌↔◌, Bool, false, ◌&&◌, cond}
use Rattle.std.proofs.Math.Path.{refl, ap, sym}
use Rattle.std.proofs.Common.{ap₂, ◌∙◌, arith, take-append-drop, take_at, drop-cons, drop-drop}
use Rattle.std.proofs.Math.Bool.{true}
use mathlib.Core.List.{List, [], ◌∷◌, ◌++◌, append_assoc}
use Rattle.std.proofs.Math.Option.{Option, none, some}
use borrow.Author.Tests.{le-leb, leb-true}
use Rattle.std.proofs.Math.Dec.{leb}
use Rattle.std.proofs.Math.ListN.{length, take, drop, get_or, length-append, length-take, length-drop}
use Rattle.std.proofs.Math.Seq.{drop_at}
use Rattle.buffer.specs.All.{All, none as no_more, more}
use Rattle.buffer.specs.BoolLaws.{both_left, both_right}
use Rattle.buffer.specs.Bytes.{same}
use Rattle.buffer.specs.BytesLaws.{same_if}
use Rattle.words.specs.Words.{be16, word16}
use Rattle.words.specs.WordsLaws.{word16_drop, be16_word16, bytes_drop}
use Rattle.profile.specs.TagTypes.{join}
use Rattle.reader_spec.specs.FitsLaws.{Bytes}
use Rattle.app2.specs.Segments.{Segment, marker, name, front, segment_bytes, bytes}
use Rattle.app2.specs.Joining.{stated, begins, first, rest, before, parse_up_to, parse}
use Rattle.app2.specs.Properties.{Fits, Parsed}

-- 18 bytes beside its data
pub length-segment : (s : Segment) → length (segment_bytes s) ≡ 18 + length s.chunk
unfolding segment_bytes front join be16
length-segment s = omega arith

module _ (s : Segment) (fits : Fits s) (r : List ℕ) where
  abbrev here : List ℕ
  here = segment_bytes s ++ r

  stated_is : stated here ≡ 16 + length s.chunk
  unfolding segment_bytes front join be16 word16
  stated_is = omega (arith, fits.short)

  marked : same (take 2 here) marker ≡ true
  unfolding segment_bytes front join same
  marked = refl

  named : same (take 12 (drop 4 here)) name ≡ true
  unfolding segment_bytes front join be16 same
  named = refl

  begins_is : begins here ≡ true
  unfolding begins
  begins_is =
      let all : length here ≡ length (segment_bytes s) + length r = length-append (segment_bytes s) r in
      let a : leb 16 (stated here) ≡ true = le-leb 16 (stated here) (omega (arith, stated_is)) in
      let b : leb (2 + stated here) (length here) ≡ true =
      le-leb (2 + stated here) (length here) (omega (arith, stated_is, length-segment s, all))
      in
      rw (marked, named, a, b)

  first_is : first here ≡ s
  unfolding first segment_bytes front join be16
  first_is =
      let size : length s.chunk ≡ stated here - 16 = omega (arith, stated_is) in
      ap (λ (l : List ℕ). record { sequence = s.sequence; count = s.count; chunk = l }) (take_at s.chunk r (stated here - 16) size)

  rest_is : rest here ≡ r
  unfolding rest
  rest_is = drop_at (segment_bytes s) r (2 + stated here) (omega (arith, length-segment s, stated_is))

-- ---- a whole buffer

nothing : (k : ℕ) → parse_up_to k [] ≡ some []
unfolding parse_up_to
nothing zero = refl
nothing (suc k) = refl

pub parse_nothing : parse [] ≡ some []
unfolding parse
parse_nothing = nothing (length {A = ℕ} [])

-- one step of the parser
step : (k : ℕ) (l : List ℕ) → 1 ≤ length l → parse_up_to (suc k) l ≡ cond (begins l) (before (first l) (parse_up_to k (rest l))) none
unfolding parse_up_to
step k [] h = absurd (omega arith)
step k (b ∷ l) h = refl

length_rest : (k : ℕ) (l : List ℕ) → 1 ≤ length l → length l ≤ suc k → length (rest l) ≤ k
unfolding rest
length_rest k l some_byte h = omega (arith, length-drop (2 + stated l) l)

-- more steps than are needed change nothing
enough : (j k : ℕ) (l : List ℕ) → length l ≤ j → length l ≤ k → parse_up_to j l ≡ parse_up_to k l
enough zero k [] h g = nothing zero ∙ sym (nothing k)
enough zero k (b ∷ l) h g = absurd (omega arith)
enough (suc j) k [] h g = nothing (suc j) ∙ sym (nothing k)
enough (suc j) zero (b ∷ l) h g = absurd (omega arith)
enough (suc j) (suc k) (b ∷ l) h g =
    let here = b ∷ l in
    step j here (omega arith)
    ∙ ap (λ (o : Option (List Segment)). cond (begins here) (before (first here) o) none)
    (enough j k (rest here) (length_rest j here (omega arith) h) (length_rest k here (omega arith) g))
    ∙ sym (step k here (omega arith))

-- the first segment, and then those of the rest
pub parse_step : (l : List ℕ) → 1 ≤ length l → parse l ≡ cond (begins l) (before (first l) (parse (rest l))) none
unfolding parse
parse_step [] h = absurd (omega arith)
parse_step (b ∷ l) h =
    let here = b ∷ l in
    step (length l) here h
    ∙ ap (λ (o : Option (List Segment)). cond (begins here) (before (first here) o) none)
    (enough (length l) (length (rest here)) (rest here) (length_rest (length l) here h (omega arith)) (omega arith))

parse_up_to_lem : (ss : List Segment) → All Fits ss → (k : ℕ) → length (bytes ss) ≤ k → parse_up_to k (bytes ss) ≡ some ss
unfolding bytes join
parse_up_to_lem [] no_more k h = nothing k
parse_up_to_lem (s ∷ ss) (more f fs) zero h = absurd (omega (arith, length-segment s, length-append (segment_bytes s) (bytes ss)))
parse_up_to_lem (s ∷ ss) (more f fs) (suc k) h =
    let r : List ℕ = bytes ss in
    let all : length (segment_bytes s ++ r) ≡ length (segment_bytes s) + length r = length-append (segment_bytes s) r in
    step k (segment_bytes s ++ r) (omega (arith, length-segment s))
    ∙ rw (begins_is s f r, first_is s f r, rest_is s f r, parse_up_to_lem ss fs k (omega (arith, length-segment s)))

-- parsing the bytes of segments gives these segments
pub parse_bytes : (ss : List Segment) → All Fits ss → parse (bytes ss) ≡ some ss
unfolding parse
parse_bytes ss fs = parse_up_to_lem ss fs (length (bytes ss)) (omega arith)

-- no other segments have the same bytes
pub bytes_unique : (one two : List Segment) → All Fits one → All Fits two → bytes one ≡ bytes two → one ≡ two
bytes_unique one two fa fb e =
    let a : parse (bytes one) ≡ some one = parse_bytes one fa in
    let b : parse (bytes two) ≡ some two = parse_bytes two fb in
    cc

-- ---- the other way: what is parsed has the buffer's bytes

-- what a segment at the front of a buffer asks
pub begins_parts : (l : List ℕ) → begins l ≡ true
    → (take 2 l ≡ marker) × (take 12 (drop 4 l) ≡ name) × (16 ≤ stated l) × (2 + stated l ≤ length l)
unfolding begins
begins_parts l e =
    let marker-is = same (take 2 l) marker in
    let name-is = same (take 12 (drop 4 l)) name in
    let low = leb 16 (stated l) in
    let high = leb (2 + stated l) (length l) in
    let on = both_right marker-is (name-is && (low && high)) e in
    let past = both_right name-is (low && high) on in (
      same_if _ _ (both_left marker-is (name-is && (low && high)) e),
      same_if _ _ (both_left name-is (low && high) on),
      leb-true _ _ (both_left low high past),
      leb-true _ _ (both_right low high past),
    )

-- as code tests it
pub begins_no_marker : (l : List ℕ) → same (take 2 l) marker ≡ false → begins l ≡ false
unfolding begins
begins_no_marker l e = rw e

pub begins_no_name : (l : List ℕ) → same (take 2 l) marker ≡ true → same (take 12 (drop 4 l)) name ≡ false → begins l ≡ false
unfolding begins
begins_no_name l e f = rw (e, f)

pub begins_size : (l : List ℕ) → same (take 2 l) marker ≡ true → same (take 12 (drop 4 l)) name ≡ true
    → begins l ≡ (leb 16 (stated l) && leb (2 + stated l) (length l))
unfolding begins
begins_size l e f = rw (e, f)

-- no segment has fewer than 18 bytes
pub begins_short : (l : List ℕ) → length l < 18 → begins l ≡ false
begins_short l h = go (begins l) refl
  where
    go : (t : Bool) → begins l ≡ t → t ≡ false
    go true e = absurd (omega (arith, (begins_parts l e).2, (begins_parts l e).3))
    go false e = refl

-- a buffer at which a segment stands is that segment's bytes and the rest
module _ (l : List ℕ) (bs : Bytes l) (e : begins l ≡ true) where
  abbrev parts : (take 2 l ≡ marker) × (take 12 (drop 4 l) ≡ name) × (16 ≤ stated l) × (2 + stated l ≤ length l)
  parts = begins_parts l e

  length-held : length (first l).chunk ≡ stated l - 16
  unfolding first
  length-held = length-take (stated l - 16) (drop 18 l) ∙ omega (arith, parts.2, parts.3, length-drop 18 l)

  -- the two bytes of the length
  two_bytes : drop 2 l ≡ get_or l 2 0 ∷ get_or l 3 0 ∷ drop 4 l
  two_bytes =
      drop-cons l 2 0 (omega (arith, parts.2, parts.3))
      ∙ ap (λ (x : List ℕ). get_or l 2 0 ∷ x) (drop-cons l 3 0 (omega (arith, parts.2, parts.3)))

  length-there : be16 (16 + length (first l).chunk) ≡ get_or l 2 0 ∷ get_or l 3 0 ∷ []
  unfolding word16
  length-there =
      let n : 16 + length (first l).chunk ≡ word16 (get_or l 2 0 ∷ get_or l 3 0 ∷ []) =
      omega (arith, length-held, parts.2, word16_drop 2 l)
      in
      ap be16 n ∙ be16_word16 (get_or l 2 0) (get_or l 3 0) (bs 2) (bs 3)

  -- sequence number and count
  two_numbers : drop 16 l ≡ get_or l 16 0 ∷ get_or l 17 0 ∷ drop 18 l
  two_numbers =
      drop-cons l 16 0 (omega (arith, parts.2, parts.3))
      ∙ ap (λ (x : List ℕ). get_or l 16 0 ∷ x) (drop-cons l 17 0 (omega (arith, parts.2, parts.3)))

  data_there : drop 18 l ≡ (first l).chunk ++ rest l
  unfolding first rest
  data_there =
      let place : 18 + (stated l - 16) ≡ 2 + stated l = omega (arith, parts.2) in
      sym (take-append-drop (stated l - 16) (drop 18 l))
      ∙ ap (λ (x : List ℕ). take (stated l - 16) (drop 18 l) ++ x) (drop-drop (stated l - 16) 18 l ∙ ap (λ (k : ℕ). drop k l) place)

  name_there : drop 4 l ≡ name ++ drop 16 l
  name_there = sym (take-append-drop 12 (drop 4 l)) ∙ ap₂ (λ (x y : List ℕ). x ++ y) parts.1 (drop-drop 12 4 l)

  marker_there : l ≡ marker ++ drop 2 l
  marker_there = sym (take-append-drop 2 l) ∙ ap (λ (x : List ℕ). x ++ drop 2 l) parts.0

  in_one : marker
      ++ (be16 (16 + length (first l).chunk) ++ (name ++ (get_or l 16 0 ∷ get_or l 17 0 ∷ ((first l).chunk ++ rest l))))
      ≡ segment_bytes (first l) ++ rest l
  unfolding segment_bytes front join first
  in_one = simp append_assoc

  pub segment_there : l ≡ segment_bytes (first l) ++ rest l
  segment_there =
      marker_there
      ∙ ap (λ (x : List ℕ). marker ++ x)
      (two_bytes
      ∙ ap₂ (λ (x y : List ℕ). x ++ y) (sym length-there)
      (name_there ∙ ap (λ (x : List ℕ). name ++ x) (two_numbers ∙ ap (λ (x : List ℕ). get_or l 16 0 ∷ get_or l 17 0 ∷ x) data_there)))
      ∙ in_one

  fits-there : Fits (first l)
  unfolding word16
  fits-there = record { short = omega (arith, length-held, parts.2, word16_drop 2 l, bs 2, bs 3) }

none-is_none : {l : List ℕ} (ss : List Segment) → none ≡ some ss → Parsed l ss
none-is_none ss e = let z : ◌≡◌ {A = ℕ} 0 1 = cc in absurd (omega arith)

same_some : (one two : List Segment) → some one ≡ some two → one ≡ two
same_some one two e = cc

parsed_nothing : (ss : List Segment) → some [] ≡ some ss → Parsed [] ss
unfolding bytes join
parsed_nothing ss e = rw (← same_some [] ss e) (record { fit = no_more; bytes_are = refl })

before_some : (l : List ℕ) → Bytes l → begins l ≡ true → (o : Option (List Segment))
    → ((ts : List Segment) → o ≡ some ts → Parsed (rest l) ts)
    → (ss : List Segment) → before (first l) o ≡ some ss → Parsed l ss
unfolding bytes join
before_some l bs b none k ss e = none-is_none ss e
before_some l bs b (some ts) k ss e =
    let others : Parsed (rest l) ts = k ts refl in
    rw (← same_some (first l ∷ ts) ss e)
    (record {
      fit = more (fits-there l bs b) others.fit;
      bytes_are = ap (λ (x : List ℕ). segment_bytes (first l) ++ x) others.bytes_are ∙ sym (segment_there l bs b);
    })

one_step : (k : ℕ) (l : List ℕ) → Bytes l → (t : Bool) → begins l ≡ t
    → ((ts : List Segment) → parse_up_to k (rest l) ≡ some ts → Parsed (rest l) ts)
    → (ss : List Segment)
    → cond t (before (first l) (parse_up_to k (rest l))) none ≡ some ss → Parsed l ss
one_step k l bs true b others ss e = before_some l bs b (parse_up_to k (rest l)) others ss e
one_step k l bs false b others ss e = none-is_none ss e

parse_gives : (k : ℕ) (l : List ℕ) → Bytes l → (ss : List Segment) → parse_up_to k l ≡ some ss → Parsed l ss
unfolding parse_up_to rest
parse_gives zero [] bs ss e = parsed_nothing ss e
parse_gives zero (b ∷ l) bs ss e = none-is_none ss e
parse_gives (suc k) [] bs ss e = parsed_nothing ss e
parse_gives (suc k) (b ∷ l) bs ss e =
    one_step k (b ∷ l) bs (begins (b ∷ l)) refl (parse_gives k (rest (b ∷ l)) (bytes_drop (2 + stated (b ∷ l)) (b ∷ l) bs)) ss e

-- a buffer parses exactly if it is the bytes of segments, and to these
pub parse_exactly : (l : List ℕ) → Bytes l → (ss : List Segment) → (parse l ≡ some ss) ↔ Parsed l ss
unfolding parse
parse_exactly l bs ss = (parse_gives (length l) l bs ss, λ p. rw (← p.bytes_are) (parse_bytes ss p.fit))
