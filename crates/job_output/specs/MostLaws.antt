-- Lemmas of Most.antt: the most bytes of a line, and of the parts of all entries. Assumes nothing.
use Rattle.std.specs.Prelude.{ℕ, List, ◌*◌, ◌≤◌, false, ◌≡◌, refl, map, length}
use Rattle.std.proofs.Common.{arith, length-append}
use Rattle.buffer.specs.All.{All, none, more}
use Rattle.buffer.specs.Checked.{Checked, is, refused}
use Rattle.color_encoding.specs.declared.JxlColorEncoding.{JxlColorEncoding}
use Rattle.numbers.specs.Rounded.{counted}
use Rattle.digits.specs.DigitsLaws.{length_digits}
use Rattle.text.specs.Held.{HeldEncoding}
use Rattle.profile.specs.TagTypes.{join}
use Rattle.profile.specs.Plan.{Plan}
use Rattle.profile.specs.Layout.{layout}
use Rattle.encoding_plan.specs.PlanOf.{plan_of}
use Rattle.encoding_plan.specs.FixedFloats.{fixed_floats, counted_plan}
use Rattle.writer_laws.proofs.WrittenLength.{written_length}
use Rattle.writer_laws.proofs.RefusalNumbers.{refusal_number_lem}
use Rattle.job.specs.Bounds.{EntryBounds}
use Rattle.job.specs.declared.JobEntry.{JobEntry}
use Rattle.entry_output.specs.EntryOutput.{enough, length_or_refusal, entry_line}
use Rattle.entry_output.specs.EntryOutputLaws.{length-place, entry_line_is}

answer_most : (e : JxlColorEncoding) → HeldEncoding e → length (length_or_refusal (enough (counted_plan e))) ≤ 9
answer_most e h = go (plan_of e) refl
  where
    go : (c : Checked Plan) → plan_of e ≡ c → length (length_or_refusal (enough (counted (fixed_floats e) c))) ≤ 9
    go (is p) q = omega (arith, length_digits 3 (length (layout p)) (omega (arith, (written_length false e h q).1)))
    go (refused k) q = simp length-append (omega (arith, length_digits 0 k (omega (arith, (refusal_number_lem false e q).1))))

pub line_most : (e : JobEntry) → EntryBounds e → length (entry_line e) ≤ 16
line_most e f =
    rw (entry_line_is e, length-append, length-append)
    (omega (arith, length-place e.section e.place f.place, answer_most e.encoding f.floats))

-- the parts of entries within their bounds, each of at most k bytes
pub parts_most : (part : JobEntry → List ℕ) (k : ℕ) → ((e : JobEntry) → EntryBounds e → length (part e) ≤ k) → {es : List JobEntry} → All EntryBounds es → length (join (map part es)) ≤ length es * k
unfolding join
parts_most part k h none = omega arith
parts_most part k h (more {a = e} {l = es} f fs) = rw (length-append (part e) (join (map part es))) (omega (arith, h e f, parts_most part k h fs))
