-- The profile of an encoding that comes by codes, which may have no meaning: 43, before all else, as 01 says of the host. What the calls answer, as one
-- number, and what they leave in what they are lent. Assumes nothing.
use Rattle.std.specs.Prelude.{ℕ, ◌≡◌, Bool, true, false, List, [], ◌∷◌, length}
use Rattle.buffer.specs.Checked.{Checked, is, then}
use Rattle.color_encoding.specs.Codes.{from}
use Rattle.color_encoding.specs.declared.JxlColorEncoding.{JxlColorEncoding}
use Rattle.encoding_plan.specs.EncodingPlan.{encoding_as, counted_encoding_plan}
use Rattle.encoding_plan.specs.declared.Encoding.{Encoding}
use Rattle.writer.specs.Writer.{answer, number, count_after, profile_by, Writes}
use Rattle.writer.specs.declared.Written.{Written}

-- ---- the encoding that codes mean

-- with this mark, this maker and this model
abbrev pub coded : Bool → ℕ → ℕ → Checked JxlColorEncoding → Checked Encoding
coded m a b c = then c (λ e. is (encoding_as m a b e))

-- without the mark, maker and model zero
abbrev pub plain : Checked JxlColorEncoding → Checked Encoding
plain c = coded false 0 0 c

-- the mark "adapted" (02, order 9) by its number: 0 off, 1 on
abbrev pub mark_from : ℕ → Checked Bool
mark_from n = from (false ∷ true ∷ []) n

-- with a mark that comes by its number
abbrev pub coded_by : ℕ → ℕ → ℕ → Checked JxlColorEncoding → Checked Encoding
coded_by n a b c = then (mark_from n) (λ m. coded m a b c)

-- ---- the promises

-- the writer's answer to what the codes mean, on an output of n bytes
abbrev pub code_answer : Checked Encoding → ℕ → Checked Written
code_answer c n = answer (then c counted_encoding_plan) n

-- one number tells such an answer but for its count
abbrev pub Told : Checked Written → Type 0
Told r = (k : ℕ) → profile_by (number r) (count_after r k) ≡ r

-- the writer's promise
pub record CreatesCode (c : Checked Encoding) (before after : List ℕ) (r : Checked Written) : Type 0 where
  pub writes : Writes (λ p. p) c before after r
  pub told : Told r

-- its answer on an output of n bytes
pub record MeasuresLength (c : Checked Encoding) (n : ℕ) (r : Checked Written) : Type 0 where
  pub answer : r ≡ code_answer c n
  pub told : Told r

-- the writer's promise, its answer as one number, which tells that answer but for its count
pub record WritesCode (c : Checked Encoding) (before after : List ℕ) (r : ℕ) : Type 0 where
  pub writes : Writes number c before after r
  pub told : (k : ℕ) → profile_by r (count_after (code_answer c (length before)) k) ≡ code_answer c (length before)

-- the writer's answer on an output of n bytes, as one number, which tells it but for its count
pub record MeasuresCode (c : Checked Encoding) (n r : ℕ) : Type 0 where
  pub told : (k : ℕ) → profile_by r (count_after (code_answer c n) k) ≡ code_answer c n
  pub answer : r ≡ number (code_answer c n)

-- both with the count in a lent number, which was k at entry and is m at exit
pub record WritesCounted (c : Checked Encoding) (before after : List ℕ) (k m r : ℕ) : Type 0 where
  pub writes : WritesCode c before after r
  pub rounded : m ≡ count_after (code_answer c (length before)) k

pub record MeasuresCounted (c : Checked Encoding) (n k m r : ℕ) : Type 0 where
  pub measures : MeasuresCode c n r
  pub rounded : m ≡ count_after (code_answer c n) k
