-- Three runs of bytes in front of 24 zeros. Assumes nothing.
use Rattle.std.proofs.Common.{◌≡◌, ℕ, ◌≤◌, List, [], ◌∷◌, ◌++◌, length, refl, sym, ap, subst, arith, length-append}
use Rattle.buffer.specs.Bytes.{zeros}
use Rattle.buffer.specs.Checked.{Checked}
use Rattle.buffer.specs.Puts.{PutsText}
use Rattle.buffer.specs.PutsLaws.{then, same, wrote}
use Rattle.job.specs.declared.JobEntry.{JobEntry}
use Rattle.encoding_plan.specs.FixedFloats.{counted_plan}
use Rattle.writer.specs.declared.Written.{Written}
use Rattle.entry_output.specs.EntryOutput.{enough, length_or_refusal}
use Rattle.line_text.specs.LineText.{place_text}
use Rattle.entry_output.specs.Steps.{Small}
use Rattle.entry_output.specs.EntryOutputLaws.{small_answer, length-place, length-answer, entry_line_is, line_is, line_length}
use Rattle.entry_output.proofs.entry_line.Goals.{After-put_answer-end}
use Rattle.entry_output.proofs.entry_line.Goals as goal

-- the line without its newline
abbrev front : JobEntry → List ℕ
front e = place_text e.section e.place ++ length_or_refusal (enough (counted_plan e.encoding))

record Texted (e : JobEntry) (r : ℕ) (o : List ℕ) : Type 0 where
  puts : PutsText (zeros 24) 0 (front e) r o
  short : length (front e) ≤ 18
  size : r ≡ length (front e)
  room : length o ≡ 24

texted : (c : After-put_answer-end) → Texted c.args.entry c.put_answer-end.result c.put_answer-end.new.out
texted c =
    let e = c.args.entry in
    let a = enough (counted_plan e.encoding) in
    let few : length (front e) ≤ 18 =
    rw length-append (omega (arith, length-place e.section e.place c.requires.place, length-answer a (small_answer e.encoding c.requires.floats))) in
    let told = same (length_or_refusal a) c.put_answer-end.ensures (ap length_or_refusal (sym c.measure.ensures)) in
    let both = then (front e) (omega arith) c.put_place-at.ensures told refl in
    record {
      puts = both;
      short = few;
      size = omega (arith, both.place);
      room = line_length (front e) (omega (arith, few)) both;
    }

pub put_answer-end-requires : goal.put_answer-end-requires
put_answer-end-requires c =
    let e = c.args.entry in
    let short = length-place e.section e.place c.requires.place in
    let place = c.put_place-at in (
      subst (λ (a : Checked Written). Small a) (sym c.measure.ensures) (small_answer e.encoding c.requires.floats),
      omega (arith, short, place.ensures.place, line_length (place_text e.section e.place) (omega (arith, short)) place.ensures),
    )

pub put_byte-len-requires : goal.put_byte-len-requires
put_byte-len-requires c = let t = texted (goal.at.put_byte-len-requires c).After-put_answer-end in omega (arith, t.room, t.size, t.short)

pub returns : goal.returns
returns c =
    let t = texted (goal.at.returns c).After-put_answer-end in
    let e = c.args.entry in
    let line = front e ++ (10 ∷ []) in
    let all = then line (omega arith) t.puts (wrote c.put_answer-end.new.out c.put_answer-end.result (10 ∷ []) c.put_byte-len.ensures) refl in
    rw (entry_line_is e) (line_is line (rw length-append (omega (arith, t.short))) all)
