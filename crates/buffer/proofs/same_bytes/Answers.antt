-- The loop's invariant: the two slices are the same exactly if `all` holds and what is not yet passed is the same. Slices of two lengths are not.
use Rattle.std.proofs.Common.{◌≡◌, sym, ap, ◌∙◌, ◌&&◌, ◌+◌, add-one, arith, eqb, length, drop, get_or, drop-cons}
use Rattle.std.proofs.Math.Seq.{drop-length}
use Rattle.buffer.specs.Bytes.{same}
use Rattle.buffer.specs.BytesLaws.{same_if}
use Rattle.buffer.specs.BoolLaws.{never, and_true, and_assoc}
use Rattle.buffer.proofs.same_bytes.Goals as goal

pub returns-then-a-b : goal.returns-then-a-b
returns-then-a-b c = sym (never _ (λ e. c.if-a-b.true (ap length (same_if _ _ e))))

pub loop-i-preserved : goal.loop-i-preserved
unfolding same
loop-i-preserved c =
    let at = c.loop-i in
    let a = c.args.a.now in
    let b = c.args.b.now in
    let rest = same (drop (at.i + 1) a) (drop (at.i + 1) b) in
    at.invariant
    ∙ (rw (add-one, drop-cons a at.i 0 (omega arith), drop-cons b at.i 0 (omega arith)))
    ∙ sym (and_assoc at.all (eqb (get_or a at.i 0) (get_or b at.i 0)) rest)
    ∙ ap (λ t. t && rest) (sym c.and_equal-all.ensures)

pub returns : goal.returns
unfolding same
returns c =
    let a = c.args.a.now in
    let b = c.args.b.now in
    let ia : c.loop-i.i ≡ length a = omega arith in
    let ab : length a ≡ length b = omega arith in
    sym (c.loop-i.invariant ∙ rw (ia, drop-length, ab, drop-length) (and_true c.loop-i.all))
