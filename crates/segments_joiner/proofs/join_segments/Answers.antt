-- Each return is a case of `joined_file`. Assumes nothing.
use Rattle.std.proofs.Common.{ℕ, ◌≤◌, ◌<◌, ◌≡◌, ap, ap₂, sym, ◌∙◌, List, length, take, replicate, arith, rules}
use Rattle.buffer.specs.Checked.{refused}
use Rattle.refusals.specs.Refusals.{number, checked}
use Rattle.app2.specs.Joining.{joined}
use Rattle.app2.specs.App2.{accepted_file, joined_file}
use Rattle.app2.proofs.ChecksLaws.{accepted_by, gives_refusal, gives_bytes, joined_54, joined_55, joined_fitting}
use Rattle.segments_finder.specs.Found.{Found}
use Rattle.segments_joiner.specs.Data.{data_of, Gathers}
use Rattle.segments_joiner.specs.GatheringLaws.{data_joined, whole_front, filled_front}
use Rattle.segments_joiner.proofs.join_segments.Goals as goal

-- with the segments found, and their data gathered in an array
module _ {b places : List ℕ} {count : ℕ} (found : Found b places count) (room : ℕ) where
  same_data : joined found.segments ≡ data_of b
  same_data = data_joined b found.are

  too_short : room < length (data_of b) → joined_file b room ≡ refused 55
  too_short h = joined_55 b room found.are (omega (arith, ap length same_data))

  as_read : length (data_of b) ≤ room → joined_file b room ≡ accepted_file (data_of b)
  as_read h = joined_fitting b room found.are (omega (arith, ap length same_data)) ∙ ap accepted_file same_data

-- data that is no longer than any file stands at the front of the array
front_is : {d out : List ℕ} {n : ℕ} → Gathers d (replicate 1240 0) out n → n ≤ 1240 → take n out ≡ d
front_is {d = d} g h = ap₂ (λ (n : ℕ) (l : List ℕ). take n l) g.all g.front ∙ whole_front (replicate 1240 0) d (omega (arith, g.all))

pub returns-in_err-count : goal.returns-in_err-count
returns-in_err-count c =
    let none = rw c.in_err-count.ensures.ok_part at c.find_segments.ensures in
    let same : checked c.from_residual.result ≡ refused 54 = search rules in
    rw same (gives_refusal (joined_54 _ _ none))

pub returns-then-out-n : goal.returns-then-out-n
returns-then-out-n c =
    let found : Found _ _ _ = rw c.in_ok-count.ensures.ok_part at c.find_segments.ensures in
    gives_refusal (too_short found _ (omega (arith, c.gather-n.ensures.all)))

pub returns-then-n-gt-MAX_LENGTH : goal.returns-then-n-gt-MAX_LENGTH
returns-then-n-gt-MAX_LENGTH c =
    let found : Found _ _ _ = rw c.in_ok-count.ensures.ok_part at c.find_segments.ensures in
    let g = c.gather-n.ensures in
    let d = data_of c.args.segments.now in
    let long : 1240 < length d = omega (arith, g.all) in
    let front = g.front ∙ filled_front (replicate 1240 0) d (omega arith) in
    let refuses = c.long_refusal.ensures.refuses d long g.all front in
    gives_refusal (as_read found _ (omega (arith, g.all)) ∙ accepted_by d (sym refuses))

pub returns-in_err-read : goal.returns-in_err-read
returns-in_err-read c =
    let found : Found _ _ _ = rw c.in_ok-count.ensures.ok_part at c.find_segments.ensures in
    let g = c.gather-n.ensures in
    let read = rw (front_is g (omega arith)) at c.in_err-read.ensures in
    let same : checked c.from_residual-in_err-read.result ≡ refused (number c.in_err-read.field-0.0) = search rules in
    rw same (gives_refusal (as_read found _ (omega (arith, g.all)) ∙ accepted_by (data_of c.args.segments.now) read))

pub returns : goal.returns
returns c =
    let found : Found _ _ _ = rw c.in_ok-count.ensures.ok_part at c.find_segments.ensures in
    let g = c.gather-n.ensures in
    let front = front_is g (omega arith) in
    let read = rw front at c.in_ok-read.ensures in
    let put = rw front at c.put_bytes.ensures.bytes in
    gives_bytes (as_read found _ (omega (arith, g.all)) ∙ accepted_by (data_of c.args.segments.now) read) g.all put
