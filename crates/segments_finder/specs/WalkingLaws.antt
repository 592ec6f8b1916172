-- The loop that tests the segments of a buffer: what it has passed, where the data of each sequence number stands, and why the segments are not complete
-- where it stops. Assumes nothing.
use Rattle.std.specs.Prelude.{ℕ, ◌+◌, ◌-◌, ◌*◌, ◌≤◌, ◌<◌, ◌≡◌, refl, Bool, true, false, ◌&&◌, cond, length, get_or, set, replicate}
use Rattle.std.proofs.Math.Path.{ap, ap₂, sym}
use Rattle.std.proofs.Common.{◌∙◌, drop_of_length-le, get_or-set_same, get_or-set_other}
use mathlib.Core.List.{List, [], ◌∷◌, ◌++◌, append_assoc, append-nil}
use Rattle.std.proofs.Math.Option.{Option, none, some}
use native.Mathlib.Omega.{arith}
use Rattle.std.proofs.Math.Decide.{ℕ_discrete, dec_le}
use borrow.Author.Tests.{le-leb, eq-eqb, ne_eqb, eqb-true, leb-true}
use Rattle.std.proofs.Math.Dec.{leb, eqb}
use Rattle.std.proofs.Math.ListN.{take, drop, length-append, length-drop}
use Rattle.std.proofs.lemmas.List.{get_or-replicate}
use Rattle.std.proofs.Math.Seq.{drop-drop}
use Rattle.buffer.specs.BoolLaws.{both_left, both_right, and_assoc, true≢false}
use Rattle.words.specs.Words.{word16}
use Rattle.words.specs.WordsLaws.{bytes_drop, word16_lt}
use Rattle.reader_spec.specs.FitsLaws.{Bytes}
use Rattle.app2.specs.Segments.{Segment}
use Rattle.app2.specs.Joining.{stated, begins, first, rest, before, parse, times, each_once, counts, complete, chunk_of}
use Rattle.app2.specs.App2.{max_segments}
use Rattle.app2.specs.ParseLaws.{parse_nothing, parse_step, begins_parts}
use Rattle.app2.proofs.JoinLaws.{Complete, complete_parts, complete_whole}
use Rattle.app2.proofs.ChecksLaws.{Incomplete, complete_of}
use Rattle.segments_finder.specs.Found.{HasData, Found, begins_new}
use Rattle.segments_finder.specs.InsideLaws.{inside, times_append, inside_append, times_one, times_other, outside_one, inside_one, inside_none, inside_most, inside_once, inside_bound, once_inside, once_at}

-- ---- segments in front of what is parsed

abbrev prepend : List Segment → Option (List Segment) → Option (List Segment)
prepend ss none = none
prepend ss (some ts) = some (ss ++ ts)

prepend_before : (ss : List Segment) (s : Segment) (o : Option (List Segment)) → prepend ss (before s o) ≡ prepend (ss ++ (s ∷ [])) o
prepend_before ss s none = refl
prepend_before ss s (some ts) = ap some (sym (append_assoc ss (s ∷ []) ts))

prepend_none : (o : Option (List Segment)) → o ≡ prepend [] o
prepend_none none = refl
prepend_none (some ts) = refl

-- what is parsed where a segment stands next
record Next (passed : List Segment) (s : Segment) (ss : List Segment) : Type 0 where
  others : List Segment
  all_is : ss ≡ passed ++ (s ∷ others)

next_of : (passed : List Segment) (s : Segment) (ss : List Segment) (o : Option (List Segment)) → prepend passed (before s o) ≡ some ss → Next passed s ss
next_of passed s ss none e = let z : ◌≡◌ {A = ℕ} 0 1 = cc in absurd (omega arith)
next_of passed s ss (some ts) e = record { others = ts; all_is = cc }

-- ---- the count that complete segments state

counts_append : (c : ℕ) (a d : List Segment) → counts c (a ++ d) ≡ (counts c a && counts c d)
unfolding counts
counts_append c [] d = refl
counts_append c (s ∷ a) d = ap (λ (t : Bool). eqb s.count c && t) (counts_append c a d) ∙ sym (and_assoc (eqb s.count c) (counts c a) (counts c d))

count_of : (k : ℕ) (passed : List Segment) (s : Segment) (others : List Segment) → counts k (passed ++ (s ∷ others)) ≡ true → s.count ≡ k
unfolding counts
count_of k passed s others e =
    let here = both_right (counts k passed) (eqb s.count k && counts k others) (sym (counts_append k passed (s ∷ others)) ∙ e) in
    eqb-true s.count k (both_left (eqb s.count k) (counts k others) here)

-- complete segments are as many as the first one says
first_count : (b : List ℕ) (ss : List Segment) → parse b ≡ some ss → complete ss ≡ true → length ss ≡ get_or b 17 0
unfolding first
first_count [] ss p k =
    let same : ss ≡ [] = cc parse_nothing in
    absurd (omega (arith, ap length same, (complete_parts ss k).some-segment))
first_count (x ∷ l) ss p k = go (begins (x ∷ l)) refl
  where
    here : List ℕ
    here = x ∷ l

    go : (t : Bool) → begins here ≡ t → length ss ≡ get_or here 17 0
    go true e =
        let q : parse here ≡ before (first here) (parse (rest here)) = parse_step here (omega arith) ∙ rw e in
        let nx = next_of [] (first here) ss (parse (rest here)) (sym (prepend_none _) ∙ sym q ∙ p) in
        sym (count_of (length ss) [] (first here) nx.others (ap (counts (length ss)) (sym nx.all_is) ∙ (complete_parts ss k).counted))
    go false e =
        let q : parse here ≡ none = parse_step here (omega arith) ∙ rw e in
        let z : ◌≡◌ {A = ℕ} 0 1 = cc in absurd (omega arith)

-- ---- the data of a sequence number, with one more segment passed

chunk_other : (i : ℕ) (passed : List Segment) (s : Segment) → (s.sequence ≡ i → ⊥) → chunk_of i (passed ++ (s ∷ [])) ≡ chunk_of i passed
unfolding chunk_of
chunk_other i [] s h = rw (ne_eqb s.sequence i h)
chunk_other i (p ∷ passed) s h = ap (λ (l : List ℕ). cond (eqb p.sequence i) p.chunk l) (chunk_other i passed s h)

chunk_new : (i : ℕ) (passed : List Segment) (s : Segment) → s.sequence ≡ i → times i passed ≡ 0 → chunk_of i (passed ++ (s ∷ [])) ≡ s.chunk
unfolding chunk_of times
chunk_new i [] s e z = rw (eq-eqb s.sequence i e)
chunk_new i (p ∷ passed) s e z = go (eqb p.sequence i) z (chunk_new i passed s e)
  where
    go : (t : Bool) → cond t 1 0 + times i passed ≡ 0 → (times i passed ≡ 0 → chunk_of i (passed ++ (s ∷ [])) ≡ s.chunk)
        → cond t p.chunk (chunk_of i (passed ++ (s ∷ []))) ≡ s.chunk
    go true y k = absurd (omega arith)
    go false y k = k (omega arith)

-- the place of a sequence number is 0 where no segment has it, and else one segment has it
record Place (b : List ℕ) (p t : ℕ) (l : List ℕ) : Type 0 where
  once : t ≤ 1
  absent : p ≡ 0 → t ≡ 0
  present : 1 ≤ p → (1 ≤ t) × HasData b p l

-- with n segments passed, up to the buffer's byte `at`; c is the count of the first one
pub record Walking (b : List ℕ) (c at n : ℕ) (places : List ℕ) : Type 0 where
  passed : List Segment
  parsed : parse b ≡ prepend passed (parse (drop at b))
  pub within : at ≤ length b
  many : n ≡ length passed
  short : at ≤ 65537 * n
  counted : counts c passed ≡ true
  all_inside : inside c 1 passed ≡ length passed
  placed : (i : ℕ) → i < 256 → Place b (get_or places i 0) (times i passed) (chunk_of i passed)

pub walk : (b : List ℕ) (c : ℕ) → Walking b c 0 0 (replicate 256 0)
unfolding times chunk_of counts
walk b c =
    record {
      passed = [];
      parsed = prepend_none (parse b);
      within = omega arith;
      many = refl;
      short = omega arith;
      counted = refl;
      all_inside = inside_none c 1;
      placed = λ i h. record { once = omega arith; absent = λ e. refl; present = λ g. absurd (omega (arith, get_or-replicate {A = ℕ} 256 i 0 0 h)) };
    }

module _ (b : List ℕ) (c at n : ℕ) (places : List ℕ) (few : c ≤ max_segments) (w : Walking b c at n places) where
  not-doubled : (j : ℕ) → 1 ≤ j → j < 1 + c → times j w.passed ≤ 1
  not-doubled j low high = (w.placed j (omega arith)).once

  -- no more segments than the count, since none is doubled: so no place is far
  pub most : n ≤ c
  most = omega (arith, w.many, w.all_inside, inside_bound c 1 w.passed not-doubled)

  pub near : at ≤ 65537 * 255
  near = omega (arith, most, w.short)

  -- ---- a segment stands next, or not

  module _ (first_one : c ≡ get_or b 17 0) (h : at < length b) where
    abbrev pub here : List ℕ
    here = drop at b

    abbrev pub s : Segment
    s = first here

    stops : begins here ≡ false → Incomplete b
    stops e ss p k =
        let q : parse here ≡ none = parse_step here (omega (arith, length-drop at b)) ∙ rw e in
        let r : parse b ≡ none = w.parsed ∙ ap (prepend w.passed) q in
        let z : ◌≡◌ {A = ℕ} 0 1 = cc in omega arith

    module _ (begun : begins here ≡ true) where
      goes : parse b ≡ prepend w.passed (before s (parse (rest here)))
      goes =
          let q : parse here ≡ before s (parse (rest here)) = parse_step here (omega (arith, length-drop at b)) ∙ rw begun in
          w.parsed ∙ ap (prepend w.passed) q

      module _ (ss : List Segment) (p : parse b ≡ some ss) (k : complete ss ≡ true) where
        nx : Next w.passed s ss
        nx = next_of w.passed s ss (parse (rest here)) (sym goes ∙ p)

        as_many : length ss ≡ c
        as_many = first_count b ss p k ∙ sym first_one

        once : each_once c 1 ss ≡ true
        once = ap (λ (m : ℕ). each_once m 1 ss) (sym as_many) ∙ (complete_parts ss k).once

        -- its count is that of the first
        count_is : s.count ≡ c
        count_is = count_of (length ss) w.passed s nx.others (ap (counts (length ss)) (sym nx.all_is) ∙ (complete_parts ss k).counted) ∙ as_many

        -- its number is among 1 to the count
        number_inside : ((j : ℕ) → 1 ≤ j → j < 1 + c → s.sequence ≡ j → ⊥) → ⊥
        number_inside out =
            let all = ap (inside c 1) nx.all_is in
            let long = ap length nx.all_is in
            omega (
              arith,
              as_many,
              inside_once c 1 ss once,
              all,
              long,
              inside_append c 1 w.passed (s ∷ nx.others),
              inside_append c 1 (s ∷ []) nx.others,
              outside_one c 1 s out,
              inside_most c 1 w.passed,
              inside_most c 1 nx.others,
              length-append w.passed (s ∷ nx.others),
            )

        -- and stands on no segment that was passed
        number_new : 1 ≤ s.sequence → s.sequence ≤ c → times s.sequence w.passed ≡ 0
        number_new low high =
            let i = s.sequence in
            let all = ap (times s.sequence) nx.all_is in
            omega (
              arith,
              once_at c 1 ss once s.sequence low (omega arith),
              all,
              times_append s.sequence w.passed (s ∷ nx.others),
              times_append s.sequence (s ∷ []) nx.others,
              times_one s.sequence s refl,
            )

        new_number : (1 ≤ s.sequence) × (s.sequence ≤ c)
        new_number = (low (dec_le 1 s.sequence), high (dec_le s.sequence c))
          where
            low : Dec (1 ≤ s.sequence) → 1 ≤ s.sequence
            low (yes a) = a
            low (no a) = absurd (number_inside (λ j x y e. omega arith))

            high : Dec (s.sequence ≤ c) → s.sequence ≤ c
            high (yes a) = a
            high (no a) = absurd (number_inside (λ j x y e. omega arith))

        no_place : get_or places s.sequence 0 ≡ 0
        no_place = go (ℕ_discrete (get_or places s.sequence 0) 0)
          where
            go : Dec (get_or places s.sequence 0 ≡ 0) → get_or places s.sequence 0 ≡ 0
            go (yes e) = e
            go (no e) =
                let there = (w.placed s.sequence (omega (arith, new_number.1))).present (omega arith) in
                absurd (omega (arith, there.0, number_new new_number.0 new_number.1))

        is_new : begins_new c places here ≡ true
        unfolding begins_new
        is_new =
            rw (
              begun,
              eq-eqb s.count c count_is,
              le-leb 1 s.sequence new_number.0,
              le-leb s.sequence c new_number.1,
              eq-eqb (get_or places s.sequence 0) 0 no_place,
            )

    -- where no new segment stands next, the segments are not complete
    pub not_new : begins_new c places here ≡ false → Incomplete b
    not_new e ss p k = go (begins here) refl
      where
        go : (t : Bool) → begins here ≡ t → ⊥
        go true begun = true≢false (sym (is_new begun ss p k) ∙ e)
        go false stopped = stops stopped ss p k

    -- ---- one more segment

    pub record New : Type 0 where
      begun : begins here ≡ true
      count_is : s.count ≡ c
      low : 1 ≤ s.sequence
      high : s.sequence ≤ c
      fresh : get_or places s.sequence 0 ≡ 0

    pub new_parts : begins_new c places here ≡ true → New
    unfolding begins_new
    new_parts e =
        let fresh = eqb (get_or places s.sequence 0) 0 in
        let high = leb s.sequence c && fresh in
        let low = leb 1 s.sequence && high in
        let e2 = both_right (begins here) (eqb s.count c && low) e in
        let e3 = both_right (eqb s.count c) low e2 in
        let e4 = both_right (leb 1 s.sequence) high e3 in
        record {
          begun = both_left (begins here) _ e;
          count_is = eqb-true s.count c (both_left (eqb s.count c) low e2);
          low = leb-true 1 s.sequence (both_left (leb 1 s.sequence) high e3);
          high = leb-true s.sequence c (both_left (leb s.sequence c) fresh e4);
          fresh = eqb-true (get_or places s.sequence 0) 0 (both_right (leb s.sequence c) fresh e4);
        }

    module _ (bs : Bytes b) (known : length places ≡ 256) (new : New) where
      -- where its length stands, and where it ends
      abbrev pub place : ℕ
      place = at + 2

      abbrev pub end : ℕ
      end = place + stated here

      told : (16 ≤ stated here) × (2 + stated here ≤ length here)
      told = let parts = begins_parts here new.begun in (parts.2, parts.3)

      stated_is : word16 (drop place b) ≡ stated here
      stated_is = ap word16 (sym (drop-drop 2 at b))

      small : word16 (drop place b) < 65536
      small = word16_lt (drop place b) (bytes_drop place b bs)

      has_data : HasData b place s.chunk
      unfolding first
      has_data =
          record {
            low = omega (arith, told.0, stated_is);
            within = omega (arith, told.1, stated_is, length-drop at b);
            chunk = ap₂ (λ (k : ℕ) (l : List ℕ). take (k - 16) l) stated_is (from_here ∙ sym (drop-drop 18 at b));
          }
        where
          from_here : drop (place + 16) b ≡ drop (at + 18) b
          from_here = let e : place + 16 ≡ at + 18 = omega arith in ap (λ (k : ℕ). drop k b) e

      absent_yet : times s.sequence w.passed ≡ 0
      absent_yet = (w.placed s.sequence (omega (arith, new.high))).absent new.fresh

      placed_next : (i : ℕ) → i < 256 → Dec (s.sequence ≡ i)
          → Place b (get_or (set places s.sequence place) i 0) (times i (w.passed ++ (s ∷ []))) (chunk_of i (w.passed ++ (s ∷ [])))
      placed_next i g (yes e) =
          let e1 : get_or (set places s.sequence place) s.sequence 0 ≡ place = get_or-set_same places s.sequence place 0 (omega (arith, new.high)) in
          let e2 : times s.sequence (w.passed ++ (s ∷ [])) ≡ 1 = omega (arith, times_append s.sequence w.passed (s ∷ []), times_one s.sequence s refl, absent_yet) in
          let e3 : chunk_of s.sequence (w.passed ++ (s ∷ [])) ≡ s.chunk = chunk_new s.sequence w.passed s refl absent_yet in
          rw (← e) (rw (e1, e2, e3) (record { once = omega arith; absent = λ z. absurd (omega arith); present = λ z. (omega arith, has_data) }))
      placed_next i g (no e) =
          let e1 : get_or (set places s.sequence place) i 0 ≡ get_or places i 0 = get_or-set_other places s.sequence i place 0 (λ z. e (sym z)) in
          let e2 : times i (w.passed ++ (s ∷ [])) ≡ times i w.passed = omega (arith, times_append i w.passed (s ∷ []), times_other i s e) in
          let e3 : chunk_of i (w.passed ++ (s ∷ [])) ≡ chunk_of i w.passed = chunk_other i w.passed s e in
          rw (e1, e2, e3) (w.placed i g)

      -- it ends within the buffer, and its number has a place
      pub ends : end ≤ length b
      ends = omega (arith, has_data.within, stated_is)

      pub has_place : s.sequence < 256
      has_place = omega (arith, new.high)

      pub onward : Walking b c end (n + 1) (set places s.sequence place)
      unfolding rest counts
      onward =
          record {
            passed = w.passed ++ (s ∷ []);
            parsed = goes new.begun ∙ prepend_before w.passed s (parse (rest here)) ∙ ap (λ (l : List ℕ). prepend (w.passed ++ (s ∷ [])) (parse l)) after;
            within = ends;
            many = omega (arith, w.many, length-append w.passed (s ∷ []));
            short = omega (arith, w.short, small, stated_is);
            counted = counts_append c w.passed (s ∷ []) ∙ rw (w.counted, eq-eqb s.count c new.count_is);
            all_inside = omega (arith, inside_append c 1 w.passed (s ∷ []), inside_one c 1 s new.low (omega (arith, new.high)), w.all_inside, length-append w.passed (s ∷ []));
            placed = λ i g. placed_next i g (ℕ_discrete s.sequence i);
          }
        where
          after : drop (2 + stated here) here ≡ drop end b
          after = let e : at + (2 + stated here) ≡ end = omega arith in drop-drop (2 + stated here) at b ∙ ap (λ (k : ℕ). drop k b) e

  -- ---- all passed

  module _ (h : length b ≤ at) where
    all_parsed : parse b ≡ some w.passed
    all_parsed =
        let nothing : parse (drop at b) ≡ some [] = ap parse (drop_of_length-le b h) ∙ parse_nothing in
        w.parsed ∙ ap (prepend w.passed) nothing ∙ ap some (append-nil w.passed)

    -- not as many as the first one says
    pub wrong_number : c ≡ get_or b 17 0 → (n ≡ c → ⊥) → Incomplete b
    wrong_number first_one k ss p q =
        let same : ss ≡ w.passed = cc (all_parsed) in
        k (w.many ∙ ap length (sym same) ∙ first_count b ss p q ∙ sym first_one)

    -- none at all
    pub no_segment : n ≡ 0 → Incomplete b
    no_segment e ss p q =
        let same : ss ≡ w.passed = cc (all_parsed) in
        omega (arith, ap length same, w.many, (complete_parts ss q).some-segment)

    module _ (e : n ≡ c) where
      all_once : each_once c 1 w.passed ≡ true
      all_once = once_inside c 1 w.passed not-doubled (w.all_inside ∙ sym w.many ∙ e)

      pub found : length places ≡ 256 → 1 ≤ c → Found b places c
      found known some_one =
          record {
            segments = w.passed;
            are = complete_of b all_parsed (complete_whole w.passed whole);
            many = sym e ∙ w.many;
            few = few;
            known = known;
            placed = λ i low high. ((w.placed i (omega arith)).present (there i low high (ℕ_discrete (get_or places i 0) 0))).1;
          }
        where
          n_is : length w.passed ≡ c
          n_is = sym w.many ∙ e

          whole : Complete w.passed
          whole =
              record {
                some-segment = omega (arith, n_is);
                counted = ap (λ (k : ℕ). counts k w.passed) n_is ∙ w.counted;
                once = ap (λ (k : ℕ). each_once k 1 w.passed) n_is ∙ all_once;
              }

          there : (i : ℕ) → 1 ≤ i → i ≤ c → Dec (get_or places i 0 ≡ 0) → 1 ≤ get_or places i 0
          there i low high (yes z) = absurd (omega (arith, (w.placed i (omega arith)).absent z, once_at c 1 w.passed all_once i low (omega arith)))
          there i low high (no z) = omega arith
