-- By how many digits lie below a 65536th: none, all, or so many as are cleared (`above-whole`, `below-whole`, `cleared_whole`).
-- Assumes nothing.
use Rattle.numbers.proofs.FixedNumber.{above-whole, below-whole, cleared_whole}
use Rattle.numbers.proofs.fixed.is_whole.Goals as goal

pub returns-then-k-ge133 : goal.returns-then-k-ge133
returns-then-k-ge133 c = above-whole c.args.q c.args.k c.if-k-ge133.true

pub returns-then-d-gt63 : goal.returns-then-d-gt63
returns-then-d-gt63 c = below-whole c.args.q c.args.k c.if-k-ge133.false c.requires.0 c.if-d-gt63.true

pub returns : goal.returns
returns c = cleared_whole c.args.q c.args.k c.if-k-ge133.false c.requires.0
