-- What the calls ensure, put together. Assumes nothing.
use mathlib.Core.Path.{◌∙◌}
use Rattle.job_entry.specs.Entry.{gray_encoding}
use Rattle.job_entry.proofs.gray_encoding.Goals as goal

pub returns : goal.returns
unfolding gray_encoding
returns c = c.gray_from_codes.ensures ∙ rw (c.white_at.ensures, c.curve_at.ensures, c.intent_at.ensures)
