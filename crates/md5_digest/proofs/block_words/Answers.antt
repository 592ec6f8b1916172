-- `block_words` meets its contract. The loop's invariant: the first j words are those of the block.
use Rattle.std.proofs.Common.{◌≡◌, ◌<◌, length, set, sym, ◌∙◌, arith, length-set}
use Rattle.md5_digest.proofs.Words.{length-block, word_of_block, one_more}
use Rattle.md5_digest.specs.Md5.{words_of, block_at}
use Rattle.md5_digest.proofs.block_words.Goals as goal

pub loop-j-preserved : goal.loop-j-preserved
loop-j-preserved c =
    let a = c.args in
    let l = a.«data».now in
    let loop = c.loop-j in
    let below : loop.j < 16 = c.loop-j-test.true in
    let length-words : length (set loop.words loop.j c.word.result) ≡ 16 = length-set loop.words loop.j c.word.result ∙ loop.invariant.0 in
    let whole : length (block_at a.i (words_of l)) ≡ 16 = length-block l a.i c.requires in (
      length-words,
      one_more loop.words (block_at a.i (words_of l)) loop.j c.word.result (omega arith) (omega arith) loop.invariant.1
          (c.word.ensures ∙ sym (word_of_block l a.i loop.j below)),
    )
