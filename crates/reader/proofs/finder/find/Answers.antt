-- The part that is handed back is the element of the finder's line, which lies within the file (`FinderLaws`).
use native.Mathlib.Nat.{add-sub_cancel_left}
use native.Mathlib.Omega.{arith}
use Rattle.reader_spec.specs.Table.{element_at}
use Rattle.reader_spec.specs.Finder.{find}
use Rattle.reader_spec.proofs.FinderLaws.{found_within}
use Rattle.reader.proofs.finder.find.Goals as goal

pub slice_bounds-result-end : goal.slice_bounds-result-end
slice_bounds-result-end c = let line = c.in-Some.ensures.0 in omega (arith, line.0, line.1, found_within c.args.file.now c.args.signature)

pub returns-in-Some-clause-result_value : goal.returns-in-Some-clause-result_value
unfolding find element_at
returns-in-Some-clause-result_value c =
    let line = c.in-Some.line in
    rw (add-sub_cancel_left line.offset line.size, c.in-Some.ensures.0.0, c.in-Some.ensures.0.1)

pub returns-in-None-clause-result_value : goal.returns-in-None-clause-result_value
unfolding find element_at
returns-in-None-clause-result_value c = rw (← c.in-None.ensures)
