-- The loop's invariant: the data that was passed and what is left (`Gathering`). Assumes nothing.
use Rattle.std.proofs.Common.{drop, get_or, arith, length-take}
use Rattle.words.specs.WordsLaws.{word16_lt, bytes_drop}
use Rattle.segments_joiner.specs.GatheringLaws.{begin, in_room, onward, gathers}
use Rattle.segments_joiner.proofs.gather.Goals as goal

pub loop-i-init : goal.loop-i-init
loop-i-init c = (c.requires, begin _ _ _ c.requires _)

pub overflow_sub-out : goal.overflow_sub-out
overflow_sub-out c = omega (arith, in_room _ _ _ _ _ _ _ _ _ c.loop-i.invariant.1)

pub put_bytes-at-requires : goal.put_bytes-at-requires
put_bytes-at-requires c = let room = in_room _ _ _ _ _ _ _ _ _ c.loop-i.invariant.1 in simp length-take (omega arith)

pub loop-i-preserved : goal.loop-i-preserved
loop-i-preserved c =
    let i = c.loop-i.invariant in
    let small = word16_lt (drop (get_or c.args.places.now c.loop-i.i 0) c.args.buffer.now) (bytes_drop _ _ (λ i. (c.type_inv.buffer i).fits)) in
    let put = rw (c.min-room.ensures, c.loop-i.auto.out) at c.put_bytes-at.ensures in
    (i.0, onward _ _ _ i.0 _ _ _ _ _ i.1 (omega arith) small c.data_at-data.ensures _ _ put)

pub returns : goal.returns
returns c = gathers _ _ _ c.loop-i.invariant.0 _ _ _ _ _ c.loop-i.invariant.1 (omega arith)
