-- The walk over the tags, from where the elements start: the laws of `Walked`.
-- Assumes nothing.
use Rattle.std.proofs.Common.{◌∙◌, arith, ap}
use Rattle.tag_table.specs.Places.{finish}
use Rattle.tag_table.specs.PlacesLaws.{fits_begin, unwalked, walked_fits, walked_next, walked_end}
use Rattle.tag_table.proofs.end_of.Goals as goal

pub begin-place-requires : goal.begin-place-requires
begin-place-requires c = fits_begin c.args.tags.now c.requires

pub loop-tag-init : goal.loop-tag-init
loop-tag-init c = unwalked _ _

pub placed-place-requires : goal.placed-place-requires
placed-place-requires c = walked_fits c.loop-tag.invariant _ c.loop-tag-test.true c.begin-place.ensures c.requires

pub loop-tag-preserved : goal.loop-tag-preserved
loop-tag-preserved c = rw c.placed-place.ensures (walked_next c.loop-tag.invariant _ c.loop-tag-test.true)

pub returns : goal.returns
returns c = walked_end c.loop-tag.invariant (omega arith) ∙ ap (λ p. finish p c.args.tags.now) c.begin-place.ensures
