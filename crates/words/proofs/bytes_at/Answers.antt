-- Bytes put into zeros, past which a byte counts 0. Assumes nothing.
use Rattle.std.proofs.Common.{ℕ, ◌≡◌, List, [], ◌∷◌, ◌++◌, zero, suc, refl, get_or, ◌∙◌, get_or-drop}
use Rattle.buffer.specs.Bytes.{zeros}
use Rattle.buffer.specs.BufferLaws.{put_front}
use Rattle.words.specs.WordsLaws.{from_on}
use Rattle.words.proofs.bytes_at.Goals as goal

zero_at : (k i : ℕ) → get_or (zeros k) i 0 ≡ 0
zero_at zero i = refl
zero_at (suc k) zero = refl
zero_at (suc k) (suc i) = zero_at k i

before-zeros : (q : List ℕ) (k i : ℕ) → get_or (q ++ zeros k) i 0 ≡ get_or q i 0
before-zeros [] k i = zero_at k i
before-zeros (b ∷ q) k zero = refl
before-zeros (b ∷ q) k (suc i) = before-zeros q k i

pub returns-then-pos-slice : goal.returns-then-pos-slice
returns-then-pos-slice g c i h =
    let rest = c.args.slice.now in
    rw (c.put_bytes.ensures.bytes, from_on rest c.args.pos, put_front) (before-zeros _ _ i ∙ get_or-drop c.args.pos rest i 0)
