-- The loop's invariant: what is put and what is left make up all segments (`Writing`), and what is left is what the chunks have left. Assumes nothing.
use Rattle.std.proofs.Common.{◌∙◌, refl, arith, rules}
use Rattle.app2.specs.ParseLaws.{length-segment}
use Rattle.segments_writer.specs.WritingLaws.{step_of, begin, next, counted, has_room, onward, all_written}
use Rattle.segments_writer.proofs.put_segments.Goals as goal

pub loop-i-init : goal.loop-i-init
loop-i-init c =
    let e = c.into_iter-i-iterator.ensures.into_iter_gives in
    rw (e, c.enumerate-i-items.ensures.source, c.enumerate-i-items.ensures.count, c.chunks.ensures.rest, c.chunks.ensures.size) (begin _ _ _, refl, refl)

pub overflow_cast-i : goal.overflow_cast-i
overflow_cast-i c =
    let i = c.loop-i.invariant in
    let s = c.in-Some.ensures.steps in
    omega (arith, counted _ _ _ c.requires.0 i.0 (step_of i.1 s.0.1))

pub put_segment-at-requires : goal.put_segment-at-requires
put_segment-at-requires c =
    let i = c.loop-i.invariant in
    let s = c.in-Some.ensures.steps in
    let x = step_of i.1 s.0.1 in
    (omega (arith, has_room _ _ _ c.requires.0 i.0 x c.requires.4, length-segment (next _ _ _ c.requires.0 i.0 x)), omega arith)

pub loop-i-preserved : goal.loop-i-preserved
loop-i-preserved c =
    let i = c.loop-i.invariant in
    let s = c.in-Some.ensures.steps in
    let x = step_of i.1 s.0.1 in
    let put = rw (s.1, c.requires.2) at c.put_segment-at.ensures in
    (rw s.2 (onward _ _ _ c.requires.0 i.0 x _ _ put), s.0.0 ∙ i.1, search rules)

pub returns : goal.returns
returns c = all_written _ _ _ c.requires.0 c.loop-i.invariant.0 c.in-None.ensures.steps.0.1.0
