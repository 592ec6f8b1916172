-- What is put in front of 449 zeros: the law `in_front`.
-- Assumes nothing.
use native.Mathlib.Omega.{arith}
use Rattle.buffer.specs.PutsLaws.{in_front}
use Rattle.text.proofs.get_color_encoding_description.Goals as goal

pub returns : goal.returns
returns c =
    let call = c.put_description-len.ensures in
    let front = in_front 449 call.puts in
    record { is_text = record { len = front.0; short = omega (arith, call.short.any); bytes = front.1 }; short = call.short }
