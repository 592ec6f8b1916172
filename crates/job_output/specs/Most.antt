-- How long the outputs of a job can be, so that a program can lend one that is long enough: a listing has at most 13 + 765 · 16 bytes, the profiles
-- of a job at most 765 · 1,200. Assumes nothing.
use Rattle.std.specs.Prelude.{ℕ, ◌≤◌, ◌≡◌, refl, List, length}
use Rattle.std.proofs.Common.{arith, length-append}
use Rattle.buffer.specs.Checked.{Checked, is, refused}
use Rattle.digits.specs.DigitsLaws.{length_digits}
use Rattle.profile.specs.TagTypes.{join}
use Rattle.writer.specs.Writer.{max_written}
use Rattle.job.specs.Job.{job}
use Rattle.job.specs.Bounds.{Bytes}
use Rattle.job.specs.JobBounds.{job_bounds, job_refused}
use Rattle.job.specs.declared.JobEntry.{JobEntry}
use Rattle.job_output.specs.JobOutput.{output_of, listing, profiles}
use Rattle.entry_output.specs.EntryOutputLaws.{profile_most, first_line_is}
use Rattle.entry_output.specs.EntryOutput.{entry_line, profile_part}
use Rattle.job_output.specs.MostLaws.{line_most, parts_most}

pub listing_most : (l : List ℕ) → Bytes l → length (listing (job 1 l)) ≤ 12253
unfolding output_of join
listing_most l bytes = go (job 1 l) refl
  where
    go : (j : Checked (List JobEntry)) → job 1 l ≡ j → length (listing j) ≤ 12253
    go (is es) h =
        let within = job_bounds l bytes h in
        rw (first_line_is (is (length es)))
        (simp length-append (omega (arith, length_digits 2 (length es) (omega (arith, within.few)), parts_most entry_line 16 line_most within.all, within.few)))
    go (refused k) h =
        rw (first_line_is (refused k))
        (simp length-append (omega (arith, length_digits 1 k (omega (arith, job_refused l bytes h)))))

pub profiles_most : (l : List ℕ) → Bytes l → length (profiles (job 1 l)) ≤ 918000
unfolding output_of join
profiles_most l bytes = go (job 1 l) refl
  where
    go : (j : Checked (List JobEntry)) → job 1 l ≡ j → length (profiles j) ≤ 918000
    go (is es) h =
        let within = job_bounds l bytes h in
        omega (arith, parts_most profile_part max_written (λ e f. profile_most e.encoding f.floats) within.all, within.few)
    go (refused k) h = omega arith
