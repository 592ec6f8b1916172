-- The loop's invariant: what was passed and where its data stands (`Walking`). The measure is what is left of the buffer. Assumes nothing.
use Rattle.std.proofs.Common.{◌<◌, ◌≤◌, length, sym, ◌∙◌, arith, rules}
use Rattle.words.specs.WordsLaws.{from_on}
use Rattle.app2.specs.Joining.{first}
use Rattle.app2.proofs.ChecksLaws.{complete_not}
use Rattle.segments_finder.specs.WalkingLaws.{walk, most, near, not_new, new_parts, onward, wrong_number, no_segment, found}
use Rattle.segments_finder.proofs.find_segments.Goals.{then-n-count-via-then-n-count, then-n-count-via-else-n-count+then-n-lt1}
use Rattle.segments_finder.proofs.find_segments.Goals as goal

pub loop-at-init : goal.loop-at-init
loop-at-init c =
    let bytes = c.type_inv.buffer in
    (rw c.requires (walk _ _), search rules, λ i. (bytes i).fits, c.byte_at-count.ensures, omega (arith, c.byte_at-count.ensures, bytes 17))

pub returns-then-not-begins_new : goal.returns-then-not-begins_new
returns-then-not-begins_new c =
    let i = c.loop-at.invariant in
    let tested = rw from_on at c.begins_new.ensures in
    complete_not _ (not_new _ _ _ _ _ i.4 i.0 i.3 (omega arith) (sym tested ∙ c.if-not-begins_new.true))

pub overflow_cast-places : goal.overflow_cast-places
overflow_cast-places c = omega (arith, near _ _ _ _ _ c.loop-at.invariant.4 c.loop-at.invariant.0)

pub overflow_add-n : goal.overflow_add-n
overflow_add-n c = omega (arith, most _ _ _ _ _ c.loop-at.invariant.4 c.loop-at.invariant.0)

pub loop-at-preserved : goal.loop-at-preserved
unfolding first
loop-at-preserved c =
    let i = c.loop-at.invariant in
    let below : c.loop-at.at < length c.args.buffer.now = omega arith in
    let tested = rw from_on at c.begins_new.ensures in
    let sequence = rw from_on at c.byte_at.ensures in
    let stated = rw from_on at c.read_u16_be.ensures in
    let on = onward _ _ _ _ _ i.4 i.0 i.3 below i.2 i.1 (new_parts _ _ _ _ _ i.4 i.0 i.3 below (sym tested ∙ c.if-not-begins_new.false)) in
    (rw (sequence, stated) on, search rules, i.2, i.3, i.4)

pub returns-then-n-count : goal.returns-then-n-count
returns-then-n-count c =
    let i = c.loop-at.invariant in
    let end : length c.args.buffer.now ≤ c.loop-at.at = omega arith in
    elim c.then-n-count.branch [
      | then-n-count-via-then-n-count w ↦ complete_not _ (wrong_number _ _ _ _ _ i.4 i.0 end i.3 w.if-n-count.true)
      | then-n-count-via-else-n-count+then-n-lt1 w ↦ complete_not _ (no_segment _ _ _ _ _ i.4 i.0 end (omega arith))
    ]

pub returns : goal.returns
returns c = let i = c.loop-at.invariant in found _ _ _ _ _ i.4 i.0 (omega arith) c.if-n-count.false i.1 (omega arith)
