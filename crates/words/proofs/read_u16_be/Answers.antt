-- Each byte of the word is that of its place. Assumes nothing.
use Rattle.std.proofs.Common.{ℕ, ◌≡◌, ◌<◌, lit<, get_or, get_or-drop, drop, sym, ◌∙◌}
use Rattle.words.specs.Words.{word16}
use Rattle.words.proofs.read_u16_be.Goals as goal

pub returns : goal.returns
unfolding word16
returns c =
    let rest = drop c.args.pos c.args.slice.now in
    let at : (i : ℕ) → i < 2 → get_or c.bytes_at.result i 0 ≡ get_or rest i 0 = λ i h. c.bytes_at.ensures i h ∙ sym (get_or-drop c.args.pos c.args.slice.now i 0) in
    c.from_be_bytes.ensures ∙ rw (at 0 (lit< tt), at 1 (lit< tt))
