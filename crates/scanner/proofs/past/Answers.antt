-- The letters stand there. Assumes nothing.
use Rattle.std.proofs.Common.{sym, ◌∙◌, ◌^◌, arith}
use Rattle.scanner.specs.PlacesLaws.{letters_end}
use Rattle.scanner.proofs.past.Goals as goal

pub overflow_add-result : goal.overflow_add-result
overflow_add-result c =
    omega (arith, letters_end c.args.letters.now c.args.at c.args.text.now (2 ^ 64) (omega arith) (omega arith) (sym c.letters_at.ensures ∙ c.if-letters_at.true))
