-- The first i parts are put one after another; there is room for the next, since there is room for all. Assumes nothing.
use Rattle.std.proofs.Common.{refl, ◌∙◌, arith}
use Rattle.buffer.specs.PutsLaws.{then, none}
use Rattle.profile.specs.TagTypes.{join}
use Rattle.job_output.proofs.put_parts.Goals as goal

pub loop-i-init : goal.loop-i-init
unfolding join
loop-i-init g c = (none c.args.out.now c.args.start, refl)

pub loop-i-preserved : goal.loop-i-preserved
loop-i-preserved g c =
    let loop = c.loop-i in
    let next = c.entry_of.ensures.next g.S.Stream.part_text in
    (then _ (omega (arith, c.requires.1)) loop.invariant.0 c.put_part-at.ensures next.more, c.put_part-at.auto.out ∙ loop.invariant.1)
