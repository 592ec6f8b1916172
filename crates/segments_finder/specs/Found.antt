-- What is found of the segments of a buffer: their number, and where each of them stands. Assumes nothing.
use Rattle.std.specs.Prelude.{ℕ, ◌+◌, ◌-◌, ◌≤◌, ◌≡◌, Bool, ◌&&◌, List, leb, eqb, length, take, drop, get_or, Option, None, Some}
use Rattle.buffer.specs.Checked.{is, refused}
use Rattle.words.specs.Words.{word16}
use Rattle.app2.specs.Segments.{Segment}
use Rattle.app2.specs.Joining.{begins, first, chunk_of}
use Rattle.app2.specs.App2.{max_segments, complete_segments}

-- the data of the segment whose length stands at the place p of a buffer b
pub record HasData (b : List ℕ) (p : ℕ) (l : List ℕ) : Type 0 where
  pub low : 16 ≤ word16 (drop p b)
  pub within : p + word16 (drop p b) ≤ length b
  pub chunk : take (word16 (drop p b) - 16) (drop (p + 16) b) ≡ l

-- a buffer is n segments that are complete, and the length of the one with the sequence number i stands at places[i]
pub record Found (b places : List ℕ) (n : ℕ) : Type 0 where
  pub segments : List Segment
  pub are : complete_segments b ≡ is segments
  pub many : n ≡ length segments
  pub few : n ≤ max_segments
  pub known : length places ≡ 256
  pub placed : (i : ℕ) → 1 ≤ i → i ≤ n → HasData b (get_or places i 0) (chunk_of i segments)

-- their number, where a buffer is complete segments
abbrev pub Finds : List ℕ → List ℕ → Option ℕ → Type 0
Finds b places None = complete_segments b ≡ refused 54
Finds b places (Some n) = Found b places n

-- a segment stands at the front of l with the count c, and with a sequence number from 1 to c that has no place yet
unfoldable pub begins_new : ℕ → List ℕ → List ℕ → Bool
begins_new c places l =
    begins l && (eqb (first l).count c && (leb 1 (first l).sequence && (leb (first l).sequence c && eqb (get_or places (first l).sequence 0) 0)))
