-- The lower bound is the upper one negated, computed.
use Rattle.std.proofs.Common.{◌≡◌, refl}
use Rattle.std.specs.Float.{binary32}
use Rattle.std.specs.Float.Ieee.{of_bits, neg}
use Rattle.floats.specs.ContainsLaws.{partial_le_is}
use Rattle.validate.proofs.is_s15_fixed_16.Goals as goal

lower : neg (of_bits binary32 0x46ff_fffd) ≡ of_bits binary32 0xc6ff_fffd
unfolding of_bits neg
lower = refl

pub returns : goal.returns
returns c = simp (c.new.ensures.start, c.new.ensures.end, c.new.ensures.exhausted, partial_le_is, lower) at c.contains.ensures.value
