-- The intent and the id are put within the front that was copied.
use Prim.Native.Nat.{ℕ, ◌+◌, ◌≤◌}
use mathlib.Core.Path.{ap, ◌∙◌}
use mathlib.Core.List.{List}
use native.Mathlib.Omega.{arith}
use lib.ListN.{length, take}
use lib.Seq.{length-take-le}
use Rattle.words.specs.Words.{be32}
use Rattle.words.specs.WordsLaws.{length-be32}
use Rattle.buffer.specs.Buffer.{put}
use Rattle.buffer.specs.BufferLaws.{length-put, put_within}
use Rattle.buffer.specs.Bytes.{zeros}
use Rattle.comparisons.proofs.put_blank_front.Goals as goal

pub returns : goal.returns
returns c =
    let l = c.args.laid.now in
    let f : List ℕ = take c.args.at c.args.file.now in
    let long : 128 ≤ length f = omega (arith, length-take-le c.args.at c.args.file.now c.requires.1, c.requires.0) in
    let within : 64 + length (be32 0) ≤ length f = omega (arith, length-be32 0) in
    c.put_zeros.ensures.bytes
    ∙ ap (λ (x : List ℕ). put x 84 (zeros 16)) (c.put_u32_be.ensures.bytes ∙ ap (λ (x : List ℕ). put x 64 (be32 0)) c.put_bytes.ensures.bytes ∙ put_within l f 64 (be32 0) within)
    ∙ put_within l (put f 64 (be32 0)) 84 (zeros 16) (omega (arith, length-put f 64 (be32 0) within))
