-- With i zeros behind it, the loop has put i: the law `zeros_grown`. Assumes nothing.
use Rattle.std.proofs.Common.{ℕ, ◌+◌, ap, sym, ◌∙◌, List, [], ◌∷◌, arith}
use Rattle.buffer.specs.Buffer.{put}
use Rattle.buffer.specs.BufferLaws.{one_store, put_nothing, zeros_grown}
use Rattle.buffer.proofs.put_zeros.Goals as goal

pub loop-i-init : goal.loop-i-init
loop-i-init c = sym (put_nothing _ _)

pub loop-i-preserved : goal.loop-i-preserved
loop-i-preserved c =
    let at = c.loop-i in
    one_store _ _ _ (omega arith)
    ∙ ap (λ (l : List ℕ). put l (c.args.at + at.i) (0 ∷ [])) at.invariant
    ∙ zeros_grown c.args.out.now c.args.at at.i (omega arith)
