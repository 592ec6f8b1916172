use Rattle.std.proofs.Common.{◌≡◌, length, take}
use Rattle.md5_digest.specs.Md5.{words_of, block_at}
use Rattle.md5_digest.proofs.block_words.Given as goal

abbrev pub invariant-loop-j : goal.invariant-loop-j
invariant-loop-j l = (length l.words ≡ 16) × (take l.j l.words ≡ take l.j (block_at l.i (words_of l.data)))
