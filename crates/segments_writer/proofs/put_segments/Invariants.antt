use Rattle.std.proofs.Common.{◌+◌, ◌≡◌, length}
use Rattle.segments_writer.specs.WritingLaws.{Writing}
use Rattle.segments_writer.proofs.put_segments.Given as goal

abbrev pub invariant-loop-i : goal.invariant-loop-i
invariant-loop-i l =
    let chunks = l.i-iterator.iter in
    Writing l.size l.file l.fn.out (l.i-iterator.count + 1) chunks.rest.now l.at l.out × (chunks.size ≡ l.size) × (length l.out ≡ length l.fn.out)
