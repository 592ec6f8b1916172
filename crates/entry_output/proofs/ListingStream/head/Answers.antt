-- The first line in front of 24 zeros. Assumes nothing.
use Rattle.std.proofs.Common.{refl, [], ◌∷◌, ◌++◌, arith, length-append}
use Rattle.buffer.specs.PutsLaws.{then, wrote}
use Rattle.refusals.specs.Refusals.{checked}
use Rattle.line_text.specs.LineText.{first_text}
use Rattle.entry_output.specs.EntryOutputLaws.{first_line_is, length-first, line_is, line_length}
use Rattle.entry_output.proofs.ListingStream.head.Goals as goal

pub put_byte-len-requires : goal.put_byte-len-requires
put_byte-len-requires c =
    let a = checked c.args.answer in
    let call = c.put_first-end in
    let few = length-first a c.requires in
    omega (arith, few, call.ensures.place, line_length (first_text a) (omega (arith, few)) call.ensures)

pub returns : goal.returns
returns c =
    let a = checked c.args.answer in
    let text = first_text a ++ (10 ∷ []) in
    let all = then text (omega arith) c.put_first-end.ensures (wrote c.put_first-end.new.out c.put_first-end.result (10 ∷ []) c.put_byte-len.ensures) refl in
    rw (first_line_is a) (line_is text (rw length-append (omega (arith, length-first a c.requires))) all)
