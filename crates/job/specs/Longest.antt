-- The longest job has 14,283 bytes, so whoever reads a job need not read more than 14,284 bytes: a longer input is refused 42, whatever it holds.
-- Assumes nothing.
use Rattle.std.specs.Prelude.{ℕ, ◌+◌, ◌*◌, ◌<◌, ◌≡◌, refl, List, length, take, drop}
use Rattle.std.proofs.Common.{sym, ◌∙◌, arith, length-take-le}
use Rattle.job.specs.Job.{count, bytes_left, job}
use Rattle.job.specs.JobLaws.{cut_refused}
use Rattle.job.specs.CountsLaws.{bytes_left_lem}
use Rattle.job.specs.Bounds.{Bytes}
use Rattle.job.specs.LongestLaws.{front, small}

pub too_long : (l : List ℕ) → Bytes l → 14283 < length l → job 1 l ≡ bytes_left
too_long l b h =
    let g = count 1 l in
    let hg : g < 256 = small l b 0 (omega arith) in
    let r = count 1 (drop (1 + g * 15) l) in
    let hr : r < 256 = small l b (1 + g * 15) (omega arith) in
    let x = count 1 (drop (1 + g * 15 + 1 + r * 40) l) in
    let hx : x < 256 = small l b (1 + g * 15 + 1 + r * 40) (omega arith) in
    cut_refused 1 l (bytes_left_lem l
    g (record { counted = refl; fits = omega arith; few = hg })
    r (record { counted = refl; fits = omega arith; few = hr })
    x (record { counted = refl; fits = omega arith; few = hx })
    (omega arith))

pub first_bytes : (l : List ℕ) → Bytes l → 14283 < length l → job 1 (take 14284 l) ≡ job 1 l
first_bytes l b h =
    too_long (take 14284 l) (front 14284 b) (rw (length-take-le 14284 l (omega arith)) (omega arith)) ∙ sym (too_long l b h)
