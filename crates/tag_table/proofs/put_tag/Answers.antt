-- Signature, offset and size, one after another: the law `run`.
-- Assumes nothing.
use mathlib.Core.List.{append-nil}
use native.Mathlib.Omega.{arith}
use Rattle.profile.specs.RunsLaws.{next, done, run}
use Rattle.profile.specs.Elements.{entry, entry_bytes}
use Rattle.profile.specs.ElementsLaws.{length-entry_bytes}
use Rattle.profile.specs.TagTypes.{join}
use Rattle.tag_table.proofs.put_tag.Goals as goal

pub returns : goal.returns
unfolding join entry_bytes
returns c =
    run _ _
    (next c.write_icc_tag-at.ensures
    (next c.put_u32_be-at.ensures
    (next c.put_u32_be.ensures
    done))) (omega arith) (rw append-nil) (length-entry_bytes (entry c.args.offset c.args.tag.size c.args.tag.signature) c.write_icc_tag-at.ensures.size)
