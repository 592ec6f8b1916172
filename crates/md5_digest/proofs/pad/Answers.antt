-- `md5::pad` meets its contract: what the stores leave in the tail is the rest of the message, by the law `tail_is`.
-- Assumes nothing.
use Rattle.std.proofs.Common.{◌≡◌, ℕ, ◌+◌, ◌-◌, ◌*◌, ◌/◌, ◌%◌, ◌^◌, List, length, take, drop, set, ap, ◌∙◌, ap₂, arith, length-drop, length-set, take_all}
use Rattle.buffer.specs.Buffer.{put}
use Rattle.md5_digest.proofs.Tail.{put_word, tail_is}
use Rattle.md5_digest.proofs.pad.Goals.{After-put_u32_le}
use Rattle.md5_digest.proofs.pad.Goals as goal

-- the tail keeps its length
length-first : (c : After-put_u32_le) → length c.put_u32_le.new.out ≡ 128
length-first c = c.put_u32_le.auto.out ∙ simp length-set (c.put_bytes.auto.out ∙ ap length c.requires)

pub returns : goal.returns
returns c =
    let m = c.args.«data».now in
    let e = c.tail_end-end.result in
    let h : e ≡ (length m % 64 + 72) / 64 * 64 = c.tail_end-end.ensures in
    let d = drop (length m - length m % 64) m in
    let b = length m * 8 % 2 ^ 64 in
    let part : take (length m - (length m - length m % 64)) d ≡ d =
    take_all (length m - (length m - length m % 64)) d (omega (arith, length-drop (length m - length m % 64) m)) in (
      omega arith,
      ap (take e)
          (c.put_u32_le-2.ensures.bytes ∙ ap (λ (l : List ℕ). put_word l (e - 4) (b / 2 ^ 32))
          (c.put_u32_le.ensures.bytes ∙ ap (λ (l : List ℕ). put_word (set l (length m % 64) 128) (e - 8) (b % 2 ^ 32))
          (c.put_bytes.ensures.bytes ∙ ap₂ (λ (x y : List ℕ). put y 0 x) part c.requires)))
          ∙ tail_is m e h,
    )
