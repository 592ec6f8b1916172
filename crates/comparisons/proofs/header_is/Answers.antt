-- `header_is` meets its contract: the array holds the header of the kind with the file's size, maker, model, intent and id (`Headers`), and the size fits 32 bits, as a word does.
use Prim.Native.Nat.{ℕ}
use mathlib.Core.Path.{sym, ap, ◌∙◌}
use mathlib.Core.List.{List}
use native.Mathlib.Omega.{arith}
use lib.ListN.{length, take, drop, length-drop}
use lib.Seq.{length-take-le}
use Rattle.words.specs.Words.{be32}
use Rattle.words.specs.WordsLaws.{word32_lt}
use Rattle.buffer.specs.Buffer.{put}
use Rattle.profile.specs.Layout.{header}
use Rattle.reader_spec.specs.Table.{varying_of}
use Rattle.buffer.specs.Bytes.{same}
use Rattle.comparisons.proofs.Headers.{laid}
use Rattle.comparisons.proofs.header_is.Goals as goal

pub overflow_cast-file : goal.overflow_cast-file
unfolding varying_of
overflow_cast-file c =
    record { fits = omega (arith, c.requires.1, word32_lt c.args.file.now (λ i. (c.type_inv.file i).fits)) }

pub slice_bounds-same_bytes-end : goal.slice_bounds-same_bytes-end
slice_bounds-same_bytes-end c =
    sym (length-take-le 128 c.args.file.now (omega (arith, c.requires)))

pub returns : goal.returns
unfolding varying_of
returns c =
    let f = c.args.file.now in
    let k = c.args.kind in
    c.same_bytes.ensures
    ∙ ap (same (take 128 f))
    (c.put_bytes.ensures.bytes
    ∙ ap (λ (l : List ℕ). put l 84 (take 16 (drop 84 f)))
    (c.put_u32_be.ensures.bytes
    ∙ ap (λ (l : List ℕ). put l 64 (be32 c.args.intent)) c.create_icc_header.ensures)
    ∙ laid k (length f) c.read_u32_be-maker.result c.read_u32_be-model.result c.args.intent (take 16 (drop 84 f)) (length-take-le 16 (drop 84 f) (simp length-drop (omega (arith, c.requires))))
    ∙ (λ j.
    header k
    (record {
      size = sym c.requires.1 j;
      maker = c.read_u32_be-maker.ensures j;
      model = c.read_u32_be-model.ensures j;
      intent = c.requires.2 j;
      id = take 16 (drop 84 f);
    })))
