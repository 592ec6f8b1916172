-- What the elements hold, with the maker and the model of the header (`numbers_by`).
use mathlib.Core.Path.{refl}
use Rattle.reader_spec.specs.Table.{varying_of}
use Rattle.reader_spec.specs.PlanInLaws.{numbers_by}
use Rattle.plan_in.proofs.numbers_in.Goals as goal

pub returns : goal.returns
unfolding varying_of
returns c =
    rw (c.read_u32_be.ensures, c.read_u32_be-2.ensures, c.content_in.ensures)
    (numbers_by c.args.file.now c.args.shape c.requires.0 c.args.intent c.args.shape.kind c.requires.1 refl)
