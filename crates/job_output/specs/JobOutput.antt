-- What the two job programs write (01, "The listing program"), and the profile of one entry. Assumes nothing.
use Rattle.std.specs.Prelude.{Option, Some, None, ℕ, ◌≡◌, cond, List, [], ◌++◌, map, leb, length}
use Rattle.buffer.specs.Buffer.{put}
use Rattle.buffer.specs.Checked.{Checked, is, refused, then}
use Rattle.profile.specs.TagTypes.{join}
use Rattle.encoding_plan.specs.PlanOf.{plan_of}
use Rattle.encoding_plan.specs.FixedFloats.{counted_plan}
use Rattle.writer.specs.Writer.{answer, output, too_short}
use Rattle.writer.specs.declared.Written.{Written}
use Rattle.job.specs.Job.{job_answer}
use Rattle.job.specs.declared.JobEntry.{JobEntry}
use Rattle.entry_output.specs.EntryOutput.{first_line, entry_line, no_line, profile_part}

-- ---- an output of a job: what comes first, and then the part that each entry adds

abbrev pub parts_of : (JobEntry → List ℕ) → Checked (List JobEntry) → List (List ℕ)
parts_of part (is es) = map part es
parts_of part (refused k) = []

unfoldable pub output_of : (Checked ℕ → List ℕ) → (JobEntry → List ℕ) → Checked (List JobEntry) → List ℕ
output_of head part j = head (job_answer j) ++ join (parts_of part j)

-- the listing of a job, and its profiles one after another
abbrev pub listing : Checked (List JobEntry) → List ℕ
listing j = output_of first_line entry_line j

abbrev pub profiles : Checked (List JobEntry) → List ℕ
profiles j = output_of no_line profile_part j

-- ---- bytes put to the front of an output that is lent; 9, and nothing put, where it is shorter

pub record Lends (bytes before after : List ℕ) (r : Checked ℕ) : Type 0 where
  pub answer : r ≡ cond (leb (length bytes) (length before)) (is (length bytes)) (refused too_short)
  pub output : after ≡ cond (leb (length bytes) (length before)) (put before 0 bytes) before

-- ---- the profile of one entry

abbrev pub from_writer : Checked Written → Checked (Option ℕ)
from_writer c = then c (λ w. is (Some w.length))

-- as the writer answers to an output of n bytes; none, where there is no such entry
abbrev pub profile_answer : Checked (Option JobEntry) → ℕ → Checked (Option ℕ)
profile_answer (is (Some e)) n = from_writer (answer (counted_plan e.encoding) n)
profile_answer (is None) n = is None
profile_answer (refused k) n = refused k

abbrev pub profile_output : Checked (Option JobEntry) → List ℕ → List ℕ
profile_output (is (Some e)) out = output (plan_of e.encoding) out
profile_output (is None) out = out
profile_output (refused k) out = out

-- the promise of a call that writes the profile of an entry, as `Writes` is the writer's: its answer r as `shown` shows it
pub record ProfileOf {A : Type 0} (shown : Checked (Option ℕ) → A) (a : Checked (Option JobEntry)) (before after : List ℕ) (r : A) : Type 0 where
  pub answer : r ≡ shown (profile_answer a (length before))
  pub output : after ≡ profile_output a before
