-- What `maybe_create_profile` answers and what it leaves in the output. Assumes nothing.
use Rattle.std.specs.Prelude.{ℕ, ◌≡◌, cond, List, leb, length}
use Rattle.buffer.specs.Buffer.{put}
use Rattle.profile.specs.Plan.{Plan, FourBytes}
use Rattle.profile.specs.Layout.{layout}
use Rattle.buffer.specs.Checked.{Checked, is, refused, then}
use Rattle.numbers.specs.declared.fixed.Counted.{Counted}
use Rattle.text.specs.Held.{HeldEncoding}
use Rattle.encoding_plan.specs.EncodingPlan.{encoding_plan, counted_encoding_plan}
use Rattle.encoding_plan.specs.declared.Encoding.{Encoding}
use Rattle.writer.specs.declared.Written.{Written}

-- the refusal of an output that is shorter than what is to be written
abbrev pub too_short : ℕ
too_short = 9

-- the most bytes of a written profile (01, "A plan")
abbrev pub max_written : ℕ
max_written = 1200

-- a profile of n bytes, k of whose fixed numbers were rounded
abbrev pub profile : ℕ → ℕ → Checked Written
profile n k = is (record { length = n; rounded = k })

-- the length of the profile and how many of its fixed numbers were rounded, or the first refusal number; the output has n bytes
abbrev pub answer : Checked (Counted Plan) → ℕ → Checked Written
answer (is p) n = cond (leb (length (layout p.value)) n) (profile (length (layout p.value)) p.rounded) (refused too_short)
answer (refused k) n = refused k

-- the output at exit: the profile in front and the rest as it was, or all as it was
abbrev pub output : Checked Plan → List ℕ → List ℕ
output (is p) out = cond (leb (length (layout p)) (length out)) (put out 0 (layout p)) out
output (refused k) out = out

-- the length or the refusal number, as one number
abbrev pub number : Checked Written → ℕ
number (is w) = w.length
number (refused k) = k

-- a count that was k before: that of the answer; a refusal has none and leaves it
abbrev pub count_after : Checked Written → ℕ → ℕ
count_after (is w) k = w.rounded
count_after (refused n) k = k

-- the answer that such a number and a count k stand for: a refusal number is at most 99, a length at least 284 (writer_laws, RefusalNumbers)
abbrev pub profile_by : ℕ → ℕ → Checked Written
profile_by n k = cond (leb n 99) (refused n) (profile n k)

-- the promise of a call that writes the plan of an encoding, or refuses: its answer r is the writer's, as `shown` shows it. Where the encoding comes by
-- codes they may have no meaning
pub record Writes {A : Type 0} (shown : Checked Written → A) (c : Checked Encoding) (before after : List ℕ) (r : A) : Type 0 where
  pub answer : r ≡ shown (answer (then c counted_encoding_plan) (length before))
  pub output : after ≡ output (then c encoding_plan) before

-- the promise of `maybe_create_profile` for the encoding e
pub record Creates (e : Encoding) (before after : List ℕ) (r : Checked Written) : Type 0 where
  pub writes : Writes (λ p. p) (is e) before after r
  -- an encoding in code holds binary32 values and numbers of four bytes, as the theorems about its plan ask
  pub held : HeldEncoding e.color
  pub maker : FourBytes e.maker
  pub model : FourBytes e.model

-- the promise of `profile_length` for the encoding e: what the writer answers on an output of n bytes
pub record MeasuresProfile (e : Encoding) (n : ℕ) (r : Checked Written) : Type 0 where
  pub answer : r ≡ answer (counted_encoding_plan e) n
  pub held : HeldEncoding e.color
