use Prim.Native.Nat.{◌-◌, ◌≤◌}
use mathlib.Core.Path.{◌≡◌}
use lib.ListN.{length, get_or}
use Rattle.reader_spec.specs.FitsLaws.{Bytes}
use Rattle.app2.specs.App2.{max_segments}
use Rattle.segments_finder.specs.WalkingLaws.{Walking}
use Rattle.segments_finder.proofs.find_segments.Given as goal

abbrev pub invariant-loop-at : goal.invariant-loop-at
invariant-loop-at l =
    Walking l.buffer l.count l.at l.n l.places × (length l.places ≡ 256) × Bytes l.buffer × (l.count ≡ get_or l.buffer 17 0) × (l.count ≤ max_segments)

abbrev pub decreases-loop-at : goal.decreases-loop-at
decreases-loop-at l = length l.buffer - l.at
