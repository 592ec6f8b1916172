-- Segments joined (02, order 4): the segments that a buffer is, which of them are complete, and their data in order of sequence number. Assumes nothing.
use Rattle.std.specs.Prelude.{ℕ, zero, suc, ◌+◌, ◌-◌, Bool, true, ◌&&◌, cond, List, [], ◌∷◌, leb, eqb, length, take, drop, get_or}
use Rattle.std.proofs.Math.Option.{Option, none, some}
use Rattle.buffer.specs.Bytes.{same}
use Rattle.words.specs.Words.{word16}
use Rattle.profile.specs.TagTypes.{join}
use Rattle.app2.specs.Segments.{Segment, marker, name}

-- ---- the segments of a buffer

-- the length that a segment at the front of a buffer states
abbrev pub stated : List ℕ → ℕ
stated l = word16 (drop 2 l)

-- a segment stands at the front of a buffer: marker and name are right, and its length is not under 16 and does not pass the buffer's end
unfoldable pub begins : List ℕ → Bool
begins l = same (take 2 l) marker && (same (take 12 (drop 4 l)) name && (leb 16 (stated l) && leb (2 + stated l) (length l)))

-- that segment
unfoldable pub first : List ℕ → Segment
first l = record { sequence = get_or l 16 0; count = get_or l 17 0; chunk = take (stated l - 16) (drop 18 l) }

-- what follows it
unfoldable pub rest : List ℕ → List ℕ
rest l = drop (2 + stated l) l

abbrev pub before : Segment → Option (List Segment) → Option (List Segment)
before s none = none
before s (some ss) = some (s ∷ ss)

-- at most k segments and nothing else
unfoldable pub parse_up_to : ℕ → List ℕ → Option (List Segment)
parse_up_to zero [] = some []
parse_up_to zero (b ∷ l) = none
parse_up_to (suc k) [] = some []
parse_up_to (suc k) (b ∷ l) = cond (begins (b ∷ l)) (before (first (b ∷ l)) (parse_up_to k (rest (b ∷ l)))) none

-- the segments that a buffer is, where it is segments and nothing else. It has no more of them than bytes
unfoldable pub parse : List ℕ → Option (List Segment)
parse l = parse_up_to (length l) l

-- ---- which segments are complete

-- how many segments have the sequence number i
unfoldable pub times : ℕ → List Segment → ℕ
times i [] = 0
times i (s ∷ ss) = cond (eqb s.sequence i) 1 0 + times i ss

-- none of the k sequence numbers from i on is missing or doubled
unfoldable pub each_once : ℕ → ℕ → List Segment → Bool
each_once zero i ss = true
each_once (suc k) i ss = eqb (times i ss) 1 && each_once k (suc i) ss

-- every segment states the count c
unfoldable pub counts : ℕ → List Segment → Bool
counts c [] = true
counts c (s ∷ ss) = eqb s.count c && counts c ss

-- there is a segment, each count is the number of segments, and no sequence number is missing or doubled
unfoldable pub complete : List Segment → Bool
complete ss = leb 1 (length ss) && (counts (length ss) ss && each_once (length ss) 1 ss)

-- ---- their data

-- the data of the segment with the sequence number i
unfoldable pub chunk_of : ℕ → List Segment → List ℕ
chunk_of i [] = []
chunk_of i (s ∷ ss) = cond (eqb s.sequence i) s.chunk (chunk_of i ss)

-- the data of the k sequence numbers from i on, one by one
unfoldable pub chunks_from : ℕ → ℕ → List Segment → List (List ℕ)
chunks_from zero i ss = []
chunks_from (suc k) i ss = chunk_of i ss ∷ chunks_from k (suc i) ss

-- the data in order of sequence number
unfoldable pub joined : List Segment → List ℕ
joined ss = join (chunks_from (length ss) 1 ss)
