-- Record, text and padding, one after another, are the padded element: the laws `run` and `mluc_parts`.
-- Assumes nothing.
use mathlib.Core.Path.{ap, ◌∙◌}
use native.Mathlib.Omega.{arith}
use Rattle.profile.specs.Elements.{padding}
use Rattle.profile.specs.RunsLaws.{next, done, run}
use Rattle.profile.specs.TagTypesLaws.{length-padded_mluc}
use Rattle.elements.specs.PartsLaws.{mluc_parts}
use Rattle.elements.proofs.create_icc_mluc_tag.Goals as goal

pub returns : goal.returns
returns c =
    let text = c.args.text.now in
    run _ _
    (next c.put_mluc_record-at.ensures
    (next c.put_each-at.ensures
    (next c.put_zeros.ensures
    done))) (omega arith) (mluc_parts text _ (c.padding.ensures ∙ ap padding c.mluc_size.ensures)) (length-padded_mluc text)
