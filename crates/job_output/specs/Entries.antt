-- What the functions over the entries of a job are told. Assumes nothing.
use Rattle.std.specs.Prelude.{ℕ, ◌+◌, ◌≤◌, ◌≡◌, List, ◌++◌, length, take}
use Rattle.buffer.specs.Checked.{is}
use Rattle.job.specs.Job.{job}
use Rattle.job.specs.Bounds.{most_entries, EntryBounds}
use Rattle.profile.specs.TagTypes.{join}
use Rattle.job_output.specs.JobOutput.{parts_of}
use Rattle.job.specs.declared.JobEntry.{JobEntry}

-- the part p after the first i parts, and the room that is left for it
pub record NextPart (ps : List (List ℕ)) (i : ℕ) (p : List ℕ) : Type 0 where
  pub more : join (take (i + 1) ps) ≡ join (take i ps) ++ p
  pub room : length (join (take i ps)) + length p ≤ length (join ps)

-- an entry at index i of a job: its part stands there, whatever the output
pub record Stands (l : List ℕ) (i : ℕ) (e : JobEntry) : Type 0 where
  pub bounds : EntryBounds e
  pub next : (part : JobEntry → List ℕ) → NextPart (parts_of part (job 1 l)) i (part e)

-- a job with n entries
pub record Entries (l : List ℕ) (n : ℕ) : Type 0 where
  pub entries : List JobEntry
  pub given : job 1 l ≡ is entries
  pub size : length entries ≡ n
  pub small : n ≤ most_entries
