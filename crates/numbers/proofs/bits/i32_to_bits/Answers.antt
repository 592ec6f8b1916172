-- The library's conversion is that of two's complement: the law `twos_complement32_is`. Assumes nothing.
use Rattle.std.proofs.Common.{sym, ap, ◌∙◌, w32}
use mir.Val.{of_z}
use mir.ValLaws.{to_z-of_z}
use Rattle.words.specs.WordsLaws.{twos_complement32_is}
use Rattle.numbers.proofs.bits.i32_to_bits.Goals as goal

pub returns : goal.returns
returns c = c.cast_unsigned.ensures ∙ ap (of_z w32) (to_z-of_z w32 c.args.v c.ranges.v) ∙ sym (twos_complement32_is c.args.v)
