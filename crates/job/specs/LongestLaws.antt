-- Lemmas of Longest.antt: a count of one byte is below 256. Assumes nothing.
use Rattle.std.specs.Prelude.{ℕ, zero, suc, ◌<◌, List, length, take, drop, get_or}
use Rattle.std.proofs.Common.{arith}
use Rattle.buffer.specs.All.{none, more}
use Rattle.job.specs.Job.{count}
use Rattle.job.specs.CountsLaws.{one_byte}
use Rattle.job.specs.Bounds.{Bytes}

byte_at : {l : List ℕ} → Bytes l → (i : ℕ) → i < length l → get_or l i 0 < 256
byte_at none i h = absurd (omega arith)
byte_at (more p ps) zero h = p
byte_at (more p ps) (suc i) h = byte_at ps i (omega arith)

pub front : (n : ℕ) {l : List ℕ} → Bytes l → Bytes (take n l)
front zero b = none
front (suc n) none = none
front (suc n) (more p ps) = more p (front n ps)

pub small : (l : List ℕ) → Bytes l → (at : ℕ) → at < length l → count 1 (drop at l) < 256
small l b at h = rw (one_byte l at h) (byte_at b at h)
