-- What the calls ensure, put together. Assumes nothing.
use mathlib.Core.Path.{◌∙◌}
use Rattle.job_entry.specs.Entry.{rgb_encoding}
use Rattle.job_entry.proofs.rgb_encoding.Goals as goal

pub returns : goal.returns
unfolding rgb_encoding
returns c = c.rgb_from_codes.ensures ∙ rw (c.white_at.ensures, c.primaries_at.ensures, c.curve_at.ensures, c.intent_at.ensures)
