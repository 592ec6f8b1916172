-- The loop's invariant: no letter is above 127 exactly if `all` holds and none that is not yet passed is.
use Rattle.std.proofs.Common.{◌≡◌, sym, ap, ◌∙◌, ◌&&◌, ◌+◌, add-one, arith, leb, length, drop, get_or, drop-cons}
use Rattle.std.proofs.Math.Seq.{drop-length}
use Rattle.buffer.specs.Ascii.{is_ascii}
use Rattle.buffer.specs.BoolLaws.{and_true, and_assoc}
use Rattle.buffer.proofs.is_ascii.Goals as goal

pub loop-i-preserved : goal.loop-i-preserved
unfolding is_ascii
loop-i-preserved c =
    let at = c.loop-i in
    let text = c.args.text.now in
    let rest = is_ascii (drop (at.i + 1) text) in
    at.invariant
    ∙ (rw (add-one, drop-cons text at.i 0 (omega arith)))
    ∙ sym (and_assoc at.all (leb (get_or text at.i 0) 127) rest)
    ∙ ap (λ t. t && rest) (sym c.and_ascii-all.ensures)

pub returns : goal.returns
unfolding is_ascii
returns c =
    let i : c.loop-i.i ≡ length c.args.text.now = omega arith in
    sym (c.loop-i.invariant ∙ rw (i, drop-length) (and_true c.loop-i.all))
