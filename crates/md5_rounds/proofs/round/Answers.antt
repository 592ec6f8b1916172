-- `round` meets its contract: the operation at the index is the first of those that are left, and behind the last none is left.
use Rattle.std.proofs.Common.{length, drop-cons, arith, add-one, ◌≤◌, rules}
use Rattle.std.proofs.lemmas.List.{drop_all}
use Rattle.md5_rounds.specs.Rounds.{operations}
use Rattle.md5_rounds.proofs.round.Goals as goal

pub loop-k-preserved : goal.loop-k-preserved
unfolding operations
loop-k-preserved g c =
    let l = c.loop-k in
    let next = drop-cons c.args.table.now l.k-index (0, 0, 0) (omega arith) in
    let valid = rw next at l.invariant.valid in
    let same = rw next at l.invariant.same in
    record { valid = rw add-one (search rules); same = rw (add-one, c.operate-w.ensures) (rw c.requires.sine_parts same) }

pub returns : goal.returns
unfolding operations
returns g c =
    let l = c.loop-k in
    let all : length c.args.table.now ≤ l.k-index = omega arith in
    rw drop_all at l.invariant.same
