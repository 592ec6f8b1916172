-- By the case of `cicp`: nothing is put, or the one element, which has no padding.
-- Assumes nothing.
use mathlib.Core.Path.{◌≡◌, refl, ap}
use mathlib.Core.List.{append-nil}
use native.Mathlib.Omega.{arith}
use Rattle.buffer.specs.PutsLaws.{none}
use Rattle.profile.specs.Elements.{body, body_size, padding}
use Rattle.profile.specs.Shape.{cicp_slot, has_cicp}
use Rattle.elements.specs.PartsLaws.{whole}
use Rattle.elements.proofs.create_icc_cicp_tag_data.Goals as goal

pub put_cicp-requires : goal.put_cicp-requires
unfolding body_size padding
put_cicp-requires c =
    let present : body_size (cicp_slot (has_cicp c.args.cicp)) ≡ 12 = ap (λ x. body_size (cicp_slot (has_cicp x))) c.in-Some.is in
    omega arith

pub returns-in-None : goal.returns-in-None
unfolding body_size body
returns-in-None c = rw c.in-None.is (none _ _)

pub returns-in-Some : goal.returns-in-Some
unfolding body_size padding body
returns-in-Some c =
    rw (c.in-Some.is, append-nil) (whole c.put_cicp.ensures refl)
