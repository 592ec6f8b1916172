-- The words, then the digits. Assumes nothing.
use mathlib.Core.Path.{refl}
use mathlib.Core.List.{◌++◌}
use native.Mathlib.Omega.{arith}
use Rattle.buffer.specs.PutsLaws.{then, wrote}
use Rattle.digits.specs.Digits.{digits}
use Rattle.line_text.proofs.put_worded.Goals as goal

pub returns : goal.returns
returns c =
    let start = c.args in
    let words = start.words.now in
    then (words ++ digits start.n) (omega arith) (wrote start.out.now start.at words c.put_bytes-number.ensures) c.put_up_to_four.ensures refl
