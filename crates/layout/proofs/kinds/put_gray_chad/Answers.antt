-- By whether the white is adapted: the one element, which has no padding, or nothing.
-- Assumes nothing.
use Rattle.std.proofs.Common.{rules, arith, length, ◌≡◌, append-nil}
use Rattle.buffer.specs.PutsLaws.{none}
use Rattle.profile.specs.Elements.{body, body_size, padding}
use Rattle.layout.proofs.kinds.put_gray_chad.Goals as goal

pub create_icc_chad_tag-requires : goal.create_icc_chad_tag-requires
unfolding body_size padding
create_icc_chad_tag-requires c =
    let nine : length c.in-Adapted.chad ≡ 9 = search rules in
    let room = rw c.in-Adapted.is at c.requires in
    omega arith

pub returns-in-Unadapted : goal.returns-in-Unadapted
unfolding body_size body
returns-in-Unadapted c = rw c.in-Unadapted.is (none _ _)

pub returns-in-Adapted : goal.returns-in-Adapted
unfolding body_size padding body
returns-in-Adapted c =
    let nine : length c.in-Adapted.chad ≡ 9 = search rules in
    rw (c.in-Adapted.is, append-nil) (rw nine at c.create_icc_chad_tag.ensures)
