-- The loop's invariant: the first k floats have passed, their numbers are there (`Each`), and so many of them were rounded (`CountedTo`).
use Rattle.std.proofs.Common.{◌≡◌, ℕ, rules, sym, ap, ◌∙◌, arith, w32}
use mir.Val.{to_z, of_z}
use lib.Ieee.{nan}
use Rattle.buffer.specs.Checked.{is}
use Rattle.numbers.specs.Rounded.{counted}
use Rattle.numbers.specs.RoundedLaws.{mark_counts, one_more, all_counted}
use Rattle.encoding_numbers.proofs.Each.{passed, all_passed}
use Rattle.encoding_numbers.proofs.fixed_numbers.Goals as goal

pub loop-k-preserved : goal.loop-k-preserved
loop-k-preserved c =
    let fixed = sym c.to_s15_fixed_16.ensures ∙ c.in_ok-fixed.ensures.ok_part in
    let same : to_z w32 (of_z w32 c.in_ok-fixed.fixed.number) ≡ c.in_ok-fixed.fixed.number = search rules in
    record {
      nine = search rules;
      so_far = passed c.loop-k.invariant.so_far nan _ (search rules) (search rules) (simp (fixed, same));
      count = rw (c.one_if_rounded-rounded.ensures ∙ mark_counts _ fixed) (one_more c.args.v c.loop-k.invariant.count nan (search rules));
    }

pub returns : goal.returns
returns c =
    let v = c.args.v in
    let loop = c.loop-k in
    let k : loop.k ≡ 9 = omega arith in
    sym (ap (counted v) (all_passed loop.invariant.so_far (search rules) (loop.invariant.nine ∙ sym k))
    ∙ ap (λ (n : ℕ). is (record { value = loop.value; rounded = n })) (sym (all_counted v loop.invariant.count (search rules))))
