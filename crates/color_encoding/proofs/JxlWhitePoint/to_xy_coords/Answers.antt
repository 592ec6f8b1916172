-- Each arm knows which case `self` is, and the definition at that case is the answer. E's coordinates are the quotient 1.0 / 3.0, computed.
use mathlib.Core.Path.{sym, ap}
use lib.Ieee.{div, of_bits}
use Rattle.color_encoding.specs.Coordinates.{white_xy}
use Rattle.color_encoding.proofs.JxlWhitePoint.to_xy_coords.Goals as goal

pub returns-in-E : goal.returns-in-E
unfolding div of_bits
returns-in-E c = sym (ap white_xy c.in-E.is)
