use Prim.Native.Nat.{◌*◌, ◌^◌}
use mathlib.Core.Path.{◌≡◌}
use Rattle.decimal.specs.Parts.{value_of, Proper}
use Rattle.decimal.proofs.shifted.Given as goal

abbrev pub invariant-loop-turn : goal.invariant-loop-turn
invariant-loop-turn l = (value_of l.parts ≡ l.m * 2 ^ l._turn) × Proper l.parts
