-- The library's conversion is that of two's complement: the law `signed32_is`. Assumes nothing.
use Rattle.std.proofs.Common.{sym, ◌∙◌, w32}
use mir.ValLaws.{to_z-of_z}
use Rattle.words.specs.WordsLaws.{signed32_is}
use Rattle.numbers.proofs.bits.i32_from_bits.Goals as goal

pub returns : goal.returns
returns c =
    to_z-of_z w32 c.cast_signed.result (record { sfits = c.cast_signed.type_inv }) ∙ c.cast_signed.ensures ∙ sym (signed32_is c.args.b c.ranges.b.fits)
