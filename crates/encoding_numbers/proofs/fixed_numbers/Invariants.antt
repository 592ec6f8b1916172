use Rattle.std.proofs.Common.{length, ◌≡◌}
use Rattle.numbers.specs.Fixed.{fixed_or}
use Rattle.numbers.specs.RoundedLaws.{CountedTo}
use Rattle.refusals.specs.Refusals.{number}
use Rattle.encoding_numbers.proofs.Each.{SoFar}
use Rattle.encoding_numbers.proofs.fixed_numbers.Given as goal

abbrev pub invariant-loop-k : goal.invariant-loop-k
invariant-loop-k l = record {
  nine : length l.value ≡ 9;
  so_far : SoFar (fixed_or (number l.refusal)) l.v l.k l.value;
  count : CountedTo l.v l.k l.rounded;
}
