-- `md5::digest` meets its contract: the four words are stored one behind the other, and fill the list.
-- Assumes nothing.
use Rattle.std.proofs.Common.{◌≡◌, ℕ, List, ◌++◌, refl, ap, ◌∙◌, lit≤}
use Rattle.md5_digest.proofs.Tail.{put_word}
use Rattle.buffer.specs.Buffer.{put}
use Rattle.buffer.specs.BufferLaws.{put_put, put_whole}
use Rattle.buffer.specs.Bytes.{zeros}
use Rattle.md5_rounds.specs.declared.State.{State}
use Rattle.words.specs.Words.{le32}
use Rattle.md5_digest.specs.Md5.{output}
use Rattle.md5_digest.proofs.digest.Goals as goal

-- four words of four bytes fill sixteen
filled : (w : State) → put_word (put_word (put_word (put_word (zeros 16) 0 w.a) 4 w.b) 8 w.c) 12 w.d ≡ output w
filled w =
    let a = le32 w.a in
    let b = le32 w.b in
    let c = le32 w.c in
    let d = le32 w.d in
    ap (λ (l : List ℕ). put (put l 8 c) 12 d) (put_put (zeros 16) 0 a b (lit≤ tt))
    ∙ ap (λ (l : List ℕ). put l 12 d) (put_put (zeros 16) 0 (a ++ b) c (lit≤ tt))
    ∙ put_put (zeros 16) 0 (a ++ b ++ c) d (lit≤ tt)
    ∙ put_whole (zeros 16) (a ++ b ++ c ++ d) refl

pub returns : goal.returns
returns c =
    let w = c.args.w in
    c.put_u32_le-4.ensures.bytes ∙ ap (λ (l : List ℕ). put_word l 12 w.d)
    (c.put_u32_le-3.ensures.bytes ∙ ap (λ (l : List ℕ). put_word l 8 w.c)
    (c.put_u32_le-2.ensures.bytes ∙ ap (λ (l : List ℕ). put_word l 4 w.b)
    c.put_u32_le.ensures.bytes))
    ∙ filled w
