-- The size field is another number, or a header by itself tells what the reader answers; it is no file that the reader accepts. Assumes nothing.
use Rattle.std.proofs.Common.{ℕ, ◌≡◌, ap, sym, refl, ◌∙◌, List, ◌++◌, take, drop, replicate, arith}
use Rattle.buffer.specs.Buffer.{put}
use Rattle.words.specs.Words.{be32}
use Rattle.reading.specs.Reading.{reading}
use Rattle.app2.proofs.ChecksLaws.{accepted_by, accepted_bounds}
use Rattle.segments_joiner.specs.LongLaws.{long_22, long_head, long_read}
use Rattle.segments_joiner.proofs.long_refusal.Goals as goal

pub returns-then-read_u32_be-n : goal.returns-then-read_u32_be-n
returns-then-read_u32_be-n c =
    record { refuses = λ l more n same. long_22 _ (λ i. (c.type_inv.front i).fits) l more same (λ e. c.if-read_u32_be-n.true (c.read_u32_be.ensures ∙ e ∙ sym n)) }

pub unreachable-requires : goal.unreachable-requires
unreachable-requires c = omega (arith, (accepted_bounds c.put_bytes.new.out (accepted_by _ c.in_default.ensures)).0)

pub returns : goal.returns
returns c =
    let front = c.args.front.now in
    record {
      refuses = λ l more n same.
          let head : c.put_bytes.new.out ≡ be32 132 ++ take 128 (drop 4 l) =
          c.put_bytes.ensures.bytes
          ∙ ap (λ (z : List ℕ). put z 4 (take 128 (drop 4 front))) c.put_u32_be.ensures.bytes
          ∙ long_head front (λ i. (c.type_inv.front i).fits) l more same (replicate 132 0) refl
          in
          let same_read = long_read front (λ i. (c.type_inv.front i).fits) l more same (sym c.read_u32_be.ensures ∙ c.if-read_u32_be-n.false ∙ n) in
          ap reading (sym same_read) ∙ rw (← head) (sym c.in-Err.ensures);
    }
