-- Where an entry stands, by the laws of CountsLaws. Assumes nothing.
use Rattle.std.proofs.Common.{◌≡◌, ℕ, ◌+◌, ◌*◌, ◌-◌, sym, ap, ◌∙◌, arith}
use Rattle.job.specs.Counts.{entry_in}
use Rattle.job.specs.declared.Section.TheVariants.{Xyb}
use Rattle.job.specs.CountsLaws.{in_gray, in_rgb, in_xyb, past_all}
use Rattle.job.specs.JobBoundsLaws.{answers_entry}
use Rattle.job.proofs.entry_by.Goals as goal

pub returns-then-i-counts : goal.returns-then-i-counts
returns-then-i-counts c =
    let a = c.args in
    let n = a.counts in
    answers_entry a.job.now n a.i c.requires (c.entry_in.ensures ∙ sym (in_gray a.job.now n.gray n.rgb n.xyb a.i (omega arith)))

pub returns-then-j-counts : goal.returns-then-j-counts
returns-then-j-counts c =
    let a = c.args in
    let n = a.counts in
    answers_entry a.job.now n a.i c.requires (c.entry_in-then-j-counts.ensures ∙ sym (in_rgb a.job.now n.gray n.rgb n.xyb a.i (omega arith) (omega arith)))

pub returns-then-k-counts : goal.returns-then-k-counts
returns-then-k-counts c =
    let a = c.args in
    let n = a.counts in
    let first : 2 + n.gray * 15 + n.rgb * 40 + 1 ≡ 3 + n.gray * 15 + n.rgb * 40 = omega arith in
    answers_entry a.job.now n a.i c.requires
    (c.entry_in-then-k-counts.ensures
    ∙ ap (λ (s : ℕ). entry_in a.job.now Xyb s (a.i - n.gray - n.rgb)) first
    ∙ sym (in_xyb a.job.now n.gray n.rgb n.xyb a.i (omega arith) (omega arith) (omega arith)))

pub returns : goal.returns
returns c =
    let a = c.args in
    let n = a.counts in
    answers_entry a.job.now n a.i c.requires (sym (past_all a.job.now n.gray n.rgb n.xyb a.i (omega arith) (omega arith) (omega arith)))
