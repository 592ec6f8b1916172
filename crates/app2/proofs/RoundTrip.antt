-- Order 4's theorems: segments joined give the bytes that went out, whatever the size of their data and their order; joining gives only files that the
-- reader accepts; what 53, 54 and 55 say; which bytes are segments, and that they are these and no others. Assumes nothing.
use Rattle.std.specs.Prelude.{ℕ, ◌+◌, ◌-◌, ◌*◌, ◌/◌, ◌≤◌, ◌<◌, ◌≡◌, refl, ◌↔◌, true, List, length}
use Rattle.std.proofs.Common.{ap, sym, ◌∙◌, arith, lt_of_not-le}
use Rattle.std.proofs.Math.Option.{some}
use Rattle.buffer.specs.All.{All}
use Rattle.buffer.specs.Checked.{is, refused}
use Rattle.buffer.specs.CheckedLaws.{both, Refusing, refusing, by_then}
use Rattle.profile.specs.Plan.{Plan}
use Rattle.profile.specs.TagTypes.{join}
use Rattle.reader_spec.specs.RefusalList.{accepted}
use Rattle.reader_spec.specs.RefusalListLaws.{number_bounds}
use Rattle.reader_spec.specs.Read.{read}
use Rattle.reader_spec.proofs.Accepts.{accepted_owned}
use Rattle.reader_spec.specs.FitsLaws.{Bytes}
use Rattle.app2.specs.Segments.{Segment, bytes, cut, numbered, segments}
use Rattle.app2.specs.Joining.{parse, complete, chunks_from, joined}
use Rattle.app2.specs.App2.{accepted_file, max_data, complete_segments, fitting, sized_segments, written_segments, joined_file}
use Rattle.app2.specs.Permutation.{Permutation}
use Rattle.app2.specs.Properties.{Cut, Short, Fits, Parsed, Named}
use Rattle.app2.specs.CutLaws.{cut_join, cut_cut}
use Rattle.app2.specs.ParseLaws.{parse_exactly as parsed-exactly, bytes_unique}
use Rattle.app2.proofs.JoinLaws.{same_order, complete_order, length_from}
use Rattle.app2.proofs.ChecksLaws.{named_few, accepted_of, accepted_is, sized_is, complete_of, complete_is, complete_not, fitting_of, fitting_is, fitting_exactly}
use Rattle.app2.proofs.ChecksLaws.{written_53, written_sized, joined_54, joined_55 as joined-short, joined_fitting, accepted_refusing, fitting_refusing}
use Rattle.app2.proofs.SegmentsLaws.{order_short, any_complete, any_joined, cut_short, cut_some, length-segments}

-- ---- the cut

-- the chunks of a file are the file; each has n bytes, the last alone may be shorter, and none is empty
pub cut_exactly : (n : ℕ) (f : List ℕ) → 1 ≤ n → 1 ≤ length f → (join (cut n f) ≡ f) × Cut n (cut n f)
cut_exactly n f low some_byte = (cut_join n low f, cut_cut n low f some_byte)

-- ---- the bytes of segments

-- a buffer is read as segments exactly if it is their bytes
pub parse_exactly : (b : List ℕ) → Bytes b → (ss : List Segment) → (parse b ≡ some ss) ↔ Parsed b ss
parse_exactly = parsed-exactly

-- no other segments have these bytes
pub one_list : (one two : List Segment) → All Fits one → All Fits two → bytes one ≡ bytes two → one ≡ two
one_list = bytes_unique

-- ---- the way back

-- any data, whatever its sizes, numbered from 1 on and in any order: what joining gives is the data one after another, as the reader answers to it
pub joins_any : (ps : List (List ℕ)) → 1 ≤ length ps → All Short ps → (ss : List Segment) → Permutation (numbered (length ps) 1 ps) ss
    → (room : ℕ) → length (join ps) ≤ room → joined_file (bytes ss) room ≡ accepted_file (join ps)
unfolding joined_file
joins_any ps some_one short ss order room h = rw (any_complete ps some_one short ss order, any_joined ps some_one short ss order, fitting_of room (join ps) h)

-- the segments of a file, whatever their size and order, are joined to that file
pub joins_back : (f : List ℕ) (p : Plan) → read f ≡ accepted p → (n : ℕ) → 1 ≤ n → n ≤ max_data
    → (ss : List Segment) → Permutation (segments n f) ss → (room : ℕ) → length f ≤ room → joined_file (bytes ss) room ≡ is f
unfolding segments
joins_back f p r n low high ss order room h =
    let some_byte : 1 ≤ length f = omega (arith, (accepted_owned f p r).1) in
    let whole : join (cut n f) ≡ f = cut_join n low f in
    joins_any (cut n f) (cut_some n f low some_byte) (cut_short n f low high some_byte) ss order room (omega (arith, ap length whole))
    ∙ ap accepted_file whole ∙ accepted_of f r

-- what an accepted writing is: the file is one that the reader accepts, the size is within its limits, and the bytes are those of its segments
pub record Written (f : List ℕ) (n room : ℕ) (b : List ℕ) : Type 0 where
  pub plan : Plan
  pub read_is : read f ≡ accepted plan
  pub named : Named n f
  pub bytes_are : bytes (segments n f) ≡ b
  pub fits : length b ≤ room

pub written_is : (f : List ℕ) (n room : ℕ) (b : List ℕ) → written_segments f n room ≡ is b → Written f n room b
unfolding written_segments
written_is f n room b e =
    let one = both (accepted_file f) _ e in
    let two = both (sized_segments n one.value) _ one.second in
    let file = accepted_is f one.first in
    let sized = sized_is n f (ap (sized_segments n) file.same ∙ two.first) in
    let room-left = fitting_is room (bytes (segments n f)) (ap (λ (ss : List Segment). fitting room (bytes ss)) sized.1 ∙ two.second) in
    record { plan = file.plan; read_is = file.read_is; named = sized.0; bytes_are = room-left.1; fits = rw room-left.1 at room-left.0 }

-- what was put into segments is joined to the bytes that went out
pub round_trip : (f : List ℕ) (n room : ℕ) (b : List ℕ) → written_segments f n room ≡ is b
    → (back : ℕ) → length f ≤ back → joined_file b back ≡ is f
round_trip f n room b e back h =
    let w = written_is f n room b e in
    rw (← w.bytes_are) (joins_back f w.plan w.read_is n w.named.low w.named.high (segments n f) (same_order _) back h)

-- what an accepted joining is: the buffer's segments are complete, and the reader accepts their data in order of sequence number
pub record Joined (b : List ℕ) (room : ℕ) (l : List ℕ) : Type 0 where
  pub found : List Segment
  pub parsed : parse b ≡ some found
  pub complete : complete found ≡ true
  pub data_is : joined found ≡ l
  pub fits : length l ≤ room
  pub plan : Plan
  pub read_is : read l ≡ accepted plan

pub joined_is : (b : List ℕ) (room : ℕ) (l : List ℕ) → joined_file b room ≡ is l → Joined b room l
unfolding joined_file
joined_is b room l e =
    let one = both _ _ e in
    let two = both (fitting room (joined one.value)) accepted_file one.second in
    let whole = complete_is b one.first in
    let room-left = fitting_is room (joined one.value) two.first in
    let file = accepted_is two.value two.second in
    let same : joined one.value ≡ l = room-left.1 ∙ file.same in
    record {
      found = one.value;
      parsed = whole.0;
      complete = whole.1;
      data_is = same;
      fits = rw same at room-left.0;
      plan = file.plan;
      read_is = ap read (sym file.same) ∙ file.read_is;
    }

-- exactly what joining accepts: data of any sizes, numbered from 1 on, its segments in any order, and the reader accepts the data one after another
pub record Segmented (b : List ℕ) (room : ℕ) (l : List ℕ) : Type 0 where
  pub chunks : List (List ℕ)
  pub some_one : 1 ≤ length chunks
  pub short : All Short chunks
  pub found : List Segment
  pub order : Permutation (numbered (length chunks) 1 chunks) found
  pub bytes_are : bytes found ≡ b
  pub data_is : join chunks ≡ l
  pub fits : length l ≤ room
  pub plan : Plan
  pub read_is : read l ≡ accepted plan

segmented : (b : List ℕ) (room : ℕ) (l : List ℕ) → Bytes b → Joined b room l → Segmented b room l
unfolding joined
segmented b room l bs j =
    let parts = (parsed-exactly b bs j.found).0 j.parsed in
    let whole = complete_order j.found j.complete in
    let many = length_from (length j.found) 1 j.found in
    record {
      chunks = chunks_from (length j.found) 1 j.found;
      some_one = omega (arith, whole.0, many);
      short = order_short _ _ _ whole.1 parts.fit;
      found = j.found;
      order = rw many whole.1;
      bytes_are = parts.bytes_are;
      data_is = j.data_is;
      fits = j.fits;
      plan = j.plan;
      read_is = j.read_is;
    }

pub joins_exactly : (b : List ℕ) → Bytes b → (room : ℕ) (l : List ℕ) → (joined_file b room ≡ is l) ↔ Segmented b room l
joins_exactly b bs room l = (λ e. segmented b room l bs (joined_is b room l e), from)
  where
    from : Segmented b room l → joined_file b room ≡ is l
    from s =
        ap (λ (x : List ℕ). joined_file x room) (sym s.bytes_are)
        ∙ joins_any s.chunks s.some_one s.short s.found s.order room (omega (arith, s.fits, ap length s.data_is))
        ∙ ap accepted_file s.data_is ∙ accepted_of l s.read_is

-- ---- each number exactly

abbrev Other : ℕ → ℕ → Type 0
Other n k = ¬ (k ≡ n)

-- writing a file that the reader accepts: 53 exactly if the size is outside 1 to 65,519 or needs more than 255 segments
pub refused_53 : (f : List ℕ) (p : Plan) → read f ≡ accepted p → (n room : ℕ) → (written_segments f n room ≡ refused 53) ↔ (¬ Named n f)
refused_53 f p r n room = (to, written_53 f n room (accepted_of f r))
  where
    to : written_segments f n room ≡ refused 53 → ¬ Named n f
    to e h = refusing (Other 53) (fitting_refusing (Other 53) (λ same. omega arith) room _) (sym (written_sized f n room (accepted_of f r) h) ∙ e) refl

-- and then 55 exactly if the output is shorter than the segments
pub written_55 : (f : List ℕ) (p : Plan) → read f ≡ accepted p → (n : ℕ) → Named n f → (room : ℕ)
    → (written_segments f n room ≡ refused 55) ↔ (room < length (bytes (segments n f)))
written_55 f p r n h room = rw (written_sized f n room (accepted_of f r) h) (fitting_exactly room (bytes (segments n f)))

-- joining: 54 exactly if no complete segments have the buffer's bytes
pub refused_54 : (b : List ℕ) → Bytes b → (room : ℕ)
    → (joined_file b room ≡ refused 54) ↔ ((ss : List Segment) → Parsed b ss → complete ss ≡ true → ⊥)
unfolding joined_file
refused_54 b bs room = (to, λ h. joined_54 b room (complete_not b (λ ss e. h ss ((parsed-exactly b bs ss).0 e))))
  where
    later : (ss : List Segment) → complete_segments b ≡ is ss → Refusing (Other 54) (joined_file b room)
    later ss e =
        rw e
        (by_then (Other 54) (fitting room (joined ss)) accepted_file (fitting_refusing (Other 54) (λ same. omega arith) room (joined ss))
        (accepted_refusing (Other 54) (λ c same. omega (arith, (number_bounds c).1))))

    to : joined_file b room ≡ refused 54 → (ss : List Segment) → Parsed b ss → complete ss ≡ true → ⊥
    to e ss p whole = refusing (Other 54) (later ss (complete_of b ((parsed-exactly b bs ss).1 p) whole)) e refl

-- and then 55 exactly if the output is shorter than the data
pub joined_55 : (b : List ℕ) → Bytes b → (ss : List Segment) → Parsed b ss → complete ss ≡ true → (room : ℕ)
    → (joined_file b room ≡ refused 55) ↔ (room < length (joined ss))
joined_55 b bs ss p whole room = (λ e. lt_of_not-le (to e), joined-short b room there)
  where
    there : complete_segments b ≡ is ss
    there = complete_of b ((parsed-exactly b bs ss).1 p) whole

    to : joined_file b room ≡ refused 55 → ¬ (length (joined ss) ≤ room)
    to e h =
        refusing (Other 55) (accepted_refusing (Other 55) (λ c same. omega (arith, (number_bounds c).1)) (joined ss)) (sym (joined_fitting b room there h) ∙ e) refl

-- a byte a segment is always 53
pub size-one : (f : List ℕ) (p : Plan) → read f ≡ accepted p → ¬ Named 1 f
size-one f p r h = omega (arith, (accepted_owned f p r).1, named_few 1 f h)

-- the bytes of the segments: 18 for each beside the file's own
pub segments_length : (n : ℕ) (f : List ℕ) → 1 ≤ n → length (bytes (segments n f)) ≡ length f + 18 * ((length f + (n - 1)) / n)
segments_length = length-segments
