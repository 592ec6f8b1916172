-- What the two job programs write first, and for each entry (01, "The listing program"). Assumes nothing.
use Rattle.std.specs.Prelude.{ℕ, List, [], ◌∷◌, ◌++◌, length}
use Rattle.buffer.specs.Ascii.{ascii}
use Rattle.buffer.specs.Checked.{Checked, is, refused}
use Rattle.numbers.specs.declared.fixed.Counted.{Counted}
use Rattle.digits.specs.Digits.{digits}
use Rattle.profile.specs.TagTypes.{join}
use Rattle.profile.specs.Plan.{Plan}
use Rattle.profile.specs.Layout.{layout}
use Rattle.encoding_plan.specs.PlanOf.{plan_of}
use Rattle.encoding_plan.specs.FixedFloats.{counted_plan}
use Rattle.writer.specs.Writer.{profile}
use Rattle.writer.specs.declared.Written.{Written}
use Rattle.job.specs.Job.{number}
use Rattle.job.specs.declared.JobEntry.{JobEntry}

-- ---- an entry with enough output

-- what the writer answers
abbrev pub enough : Checked (Counted Plan) → Checked Written
enough (is p) = profile (length (layout p.value)) p.rounded
enough (refused k) = refused k

-- its profile; of a refused entry nothing
abbrev pub profile_bytes : Checked Plan → List ℕ
profile_bytes (is p) = layout p
profile_bytes (refused k) = []

-- ---- lines, each with its newline

abbrev newline : List ℕ
newline = 10 ∷ []

abbrev pub length_or_refusal : Checked Written → List ℕ
length_or_refusal (is w) = digits w.length
length_or_refusal (refused k) = ascii "refused " ++ digits k

-- section, entry from 1, and length or refusal
unfoldable pub entry_line : JobEntry → List ℕ
entry_line e = join (digits (number e.section) ∷ ascii " " ∷ digits e.place ∷ ascii " " ∷ length_or_refusal (enough (counted_plan e.encoding)) ∷ newline ∷ [])

-- the number of entries; of a bad job only its refusal
unfoldable pub first_line : Checked ℕ → List ℕ
first_line (is n) = join (ascii "profiles " ∷ digits n ∷ newline ∷ [])
first_line (refused k) = join (ascii "job refused " ∷ digits k ∷ newline ∷ [])

-- ---- the profiles one after another: nothing comes first, and each entry adds its profile

abbrev pub no_line : Checked ℕ → List ℕ
no_line a = []

abbrev pub profile_part : JobEntry → List ℕ
profile_part e = profile_bytes (plan_of e.encoding)
