-- What the theorems on APP2 segments say of chunks, segments, buffers and sizes. No call's promise cites these. Assumes nothing.
use Rattle.std.specs.Prelude.{ℕ, ◌+◌, ◌-◌, ◌/◌, ◌≤◌, ◌≡◌, List, [], ◌∷◌, length}
use Rattle.buffer.specs.All.{All}
use Rattle.app2.specs.Segments.{Segment, bytes}
use Rattle.app2.specs.App2.{max_data}

-- chunks of n bytes each, the last alone shorter and not empty
pub data Cut (n : ℕ) : List (List ℕ) → Type 0 where
  last : {p : List ℕ} → 1 ≤ length p → length p ≤ n → Cut n (p ∷ [])
  whole : {p : List ℕ} {ps : List (List ℕ)} → length p ≡ n → Cut n ps → Cut n (p ∷ ps)

-- data that one segment can hold: the length field has 16 bits
abbrev pub Short : List ℕ → Type 0
Short p = length p ≤ max_data

pub record Fits (s : Segment) : Type 0 where
  pub short : Short s.chunk

-- a buffer is the bytes of these segments
pub record Parsed (b : List ℕ) (ss : List Segment) : Type 0 where
  pub fit : All Fits ss
  pub bytes_are : bytes ss ≡ b

-- a named size within the limits of 02, of which the file needs no more than 255 segments: its length over the size, rounded up
pub record Named (n : ℕ) (f : List ℕ) : Type 0 where
  pub low : 1 ≤ n
  pub high : n ≤ 65519
  pub few : (length f + (n - 1)) / n ≤ 255
