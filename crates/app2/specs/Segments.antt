-- A profile in APP2 segments of a JPEG file (02, order 4; ICC.1:2022, annex B, which calls the data of a segment a chunk): what a segment is, its bytes, and
-- the segments of a file. Assumes nothing.
use Rattle.std.specs.Prelude.{ℕ, zero, suc, ◌+◌, List, [], ◌∷◌, ◌++◌, map, length, take, drop}
use Rattle.buffer.specs.Ascii.{ascii}
use Rattle.words.specs.Words.{be16}
use Rattle.profile.specs.TagTypes.{join}

-- a segment: its sequence number, the count of segments that it states, its data
pub record Segment : Type 0 where
  pub sequence : ℕ
  pub count : ℕ
  pub chunk : List ℕ

-- ---- the bytes of segments

abbrev pub marker : List ℕ
marker = 0xFF ∷ 0xE2 ∷ []

-- the letters ICC_PROFILE and a zero byte
abbrev pub name : List ℕ
name = ascii "ICC_PROFILE" ++ (0 ∷ [])

-- what stands in front of n bytes of data: marker, length, name, sequence number, count. The length counts itself and all that follows it
unfoldable pub front : ℕ → ℕ → ℕ → List ℕ
front n i c = join (marker ∷ be16 (16 + n) ∷ name ∷ (i ∷ []) ∷ (c ∷ []) ∷ [])

unfoldable pub segment_bytes : Segment → List ℕ
segment_bytes s = front (length s.chunk) s.sequence s.count ++ s.chunk

-- segments that follow one another
unfoldable pub bytes : List Segment → List ℕ
bytes ss = join (map segment_bytes ss)

-- ---- the segments of a file

-- at most k chunks of n bytes, until nothing is left
unfoldable pub chunks : ℕ → ℕ → List ℕ → List (List ℕ)
chunks zero n l = []
chunks (suc k) n [] = []
chunks (suc k) n (b ∷ l) = take n (b ∷ l) ∷ chunks k n (drop n (b ∷ l))

-- a file cut into chunks of n bytes, the last alone shorter and none empty. It needs no more of them than it has bytes
unfoldable pub cut : ℕ → List ℕ → List (List ℕ)
cut n f = chunks (length f) n f

-- chunks as segments that state the count c, with the sequence numbers from i on
unfoldable pub numbered : ℕ → ℕ → List (List ℕ) → List Segment
numbered c i [] = []
numbered c i (p ∷ ps) = record { sequence = i; count = c; chunk = p } ∷ numbered c (suc i) ps

-- the segments of a file, of n bytes of data each
unfoldable pub segments : ℕ → List ℕ → List Segment
segments n f = numbered (length (cut n f)) 1 (cut n f)
