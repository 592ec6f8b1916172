-- A job of bytes has at most 765 entries, each within its bounds; the number of a refused one is at most 43. Assumes nothing.
use Rattle.std.specs.Prelude.{ℕ, ◌+◌, ◌≤◌, ◌≡◌, refl, List, map, length, get_or}
use Rattle.std.proofs.Common.{sym, ap, ◌∙◌, arith}
use Rattle.buffer.specs.Checked.{Checked, is, refused, then, each}
use Rattle.buffer.specs.CheckedLaws.{both, each_length}
use Rattle.job.specs.Job.{Entry, sections, cut, meaning, job, found, absent, entry_alone}
use Rattle.job.specs.JobLaws.{alone_is}
use Rattle.job.specs.Counts.{entries_by}
use Rattle.job.specs.CountsLaws.{length-entries_by}
use Rattle.job.specs.Bounds.{EntryAnswerBounds, Bytes, JobBounds, greatest_refusal}
use Rattle.job.specs.BoundsLaws.{bounds_same}
use Rattle.job.specs.JobBoundsLaws.{bounds_alone, counts, is_one, all_bounds, cut_number, refused_at}
use Rattle.job.specs.declared.JobEntry.{JobEntry}

pub job_bounds : (l : List ℕ) → Bytes l → {xs : List JobEntry} → job 1 l ≡ is xs → JobBounds xs
unfolding job
job_bounds l bytes {xs} h =
    let p = both (cut 1 sections l) (each meaning) h in
    let n = counts l bytes p.first in
    let within : (i : ℕ) → EntryAnswerBounds (get_or (map found xs) i absent) = λ i.
    bounds_same (sym (alone_is 1 l h i) ∙ ap (λ (c : Checked (List Entry)). entry_alone c i) n.whole) (bounds_alone l n.g n.r n.x i n.gray_few n.rgb_few n.xyb_few) in
    let same : p.value ≡ entries_by l n.g n.r n.x = is_one (sym p.first ∙ n.whole) in
    let size : length xs ≡ n.g + n.r + n.x = each_length meaning p.value xs p.second ∙ ap length same ∙ length-entries_by l n.g n.r n.x in
    record { all = all_bounds xs within; few = omega (arith, size, n.gray_few, n.rgb_few, n.xyb_few) }

pub job_refused : (l : List ℕ) → Bytes l → {k : ℕ} → job 1 l ≡ refused k → k ≤ greatest_refusal
unfolding job
job_refused l bytes {k} h = go (cut 1 sections l) refl h
  where
    go : (c : Checked (List Entry)) → cut 1 sections l ≡ c → then c (each meaning) ≡ refused k → k ≤ greatest_refusal
    go (refused n) e h = let same : n ≡ k = cc in omega (arith, cut_number 1 sections l e)
    go (is es) e h =
        let n = counts l bytes e in
        let same : es ≡ entries_by l n.g n.r n.x = is_one (sym e ∙ n.whole) in
        let at = refused_at es h in
        let within = bounds_alone l n.g n.r n.x at.at n.gray_few n.rgb_few n.xyb_few in
        rw (← same, at.found) at within
