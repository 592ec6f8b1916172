-- `compute_md5` meets its contract: the whole blocks of the data, then those of the tail, by the law `in_two`.
use Rattle.std.proofs.Common.{refl, ap, ◌∙◌}
use Rattle.md5_rounds.specs.Rounds.{sine_parts}
use Rattle.md5_digest.specs.Md5.{after_blocks, output}
use Rattle.md5_digest.proofs.Blocks.{in_two}
use Rattle.md5_digest.proofs.compute_md5.Goals as goal

pub process-requires : goal.process-requires
unfolding sine_parts
process-requires c = refl

pub process-requires-2 : goal.process-requires-2
unfolding sine_parts
process-requires-2 c = refl

pub returns : goal.returns
returns c =
    c.digest.ensures ∙ ap output (c.process-2.ensures ∙ ap (after_blocks _ _) c.process.ensures) ∙ in_two c.args.«data».now _ c.pad-end.ensures.1
