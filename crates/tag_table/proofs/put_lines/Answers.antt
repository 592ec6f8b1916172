-- The number of tags, and an entry for each tag of the walk: the laws `one_more` and those of `Walked`.
-- Assumes nothing.
use Rattle.std.specs.Prelude.{◌<◌, ◌≡◌, [], length}
use Rattle.std.proofs.Common.{arith}
use Rattle.buffer.specs.PutsLaws.{joined}
use Rattle.profile.specs.Elements.{entry}
use Rattle.elements.specs.EncodingLaws.{begun, one_more, ended}
use Rattle.tag_table.specs.Places.{walk}
use Rattle.tag_table.specs.PlacesLaws.{length-walk, fits_begin, unwalked, walked_fits, walked_next, walked_entry}
use Rattle.tag_table.proofs.Lines.{lines}
use Rattle.tag_table.proofs.put_lines.Goals as goal

pub begin-place-requires : goal.begin-place-requires
begin-place-requires c = fits_begin c.args.tags.now c.requires.0

pub loop-tag-init : goal.loop-tag-init
loop-tag-init c = (unwalked _ _, begun lines _ _ (walk c.begin-place.result c.args.tags.now))

pub placed-place-requires : goal.placed-place-requires
placed-place-requires c = walked_fits c.loop-tag.invariant.0 _ c.loop-tag-test.true c.begin-place.ensures c.requires.0

pub loop-tag-preserved : goal.loop-tag-preserved
loop-tag-preserved c =
    let es = walk c.begin-place.result c.args.tags.now in
    let here : c.loop-tag.tag-index < length es = rw length-walk c.loop-tag-test.true in
    let w = c.loop-tag.invariant.0 in (
      rw c.placed-place.ensures (walked_next w _ c.loop-tag-test.true),
      one_more lines (entry 0 0 []) es (omega (arith, c.put_u32_be-at.ensures.place, c.requires.1)) here c.loop-tag.invariant.1
          (rw (c.placed-place.ensures, walked_entry w _ c.loop-tag-test.true) at c.put_tag-at.ensures),
    )

pub returns : goal.returns
returns c =
    let es = walk c.begin-place.result c.args.tags.now in
    let length-es : length es ≡ length c.args.tags.now = length-walk _ _ in
    let put = joined (omega (arith, c.requires.1)) c.put_u32_be-at.ensures (ended lines es (omega arith) c.loop-tag.invariant.1) in
    rw (length-es, c.begin-place.ensures) at put
