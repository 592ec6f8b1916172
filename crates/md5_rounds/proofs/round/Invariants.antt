-- What the operations that are left make of the words is what all of them make of the words at the start.
use Rattle.std.proofs.Common.{◌≡◌, IsTrue, drop}
use Rattle.md5_rounds.specs.Rounds.{operations}
use Rattle.md5_rounds.specs.Tables.{are_operations}
use Rattle.md5_rounds.proofs.round.Given as goal

abbrev pub invariant-loop-k : goal.invariant-loop-k
invariant-loop-k g l = record {
  valid : IsTrue (are_operations (drop l.k-index l.table));
  same : operations g.R.Auxiliary.of l.words (drop l.k-index l.table) l.w ≡ operations g.R.Auxiliary.of l.words l.table l.fn.w;
}
