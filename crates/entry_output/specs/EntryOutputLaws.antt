-- Laws of lines, and of the writer's answer with enough output. Assumes nothing.
use Rattle.std.specs.Prelude.{ℕ, ◌+◌, ◌-◌, ◌≤◌, false, ◌≡◌, refl, List, [], ◌∷◌, ◌++◌, Float, length, take, drop, replicate}
use Rattle.std.proofs.Common.{sym, ap, ◌∙◌, append_assoc, append-nil, arith, le-leb, length-append, length-drop, take-append-drop, take_at, take_all}
use Rattle.std.proofs.lemmas.List.{length-replicate}
use Rattle.std.proofs.Math.Seq.{drop-length}
use borrow.Rule.Slice.PartMut.{mid_of, put_mid}
use Rattle.buffer.specs.Buffer.{put}
use Rattle.buffer.specs.Checked.{Checked, is, refused}
use Rattle.buffer.specs.CheckedLaws.{never}
use Rattle.buffer.specs.Puts.{PutsText}
use Rattle.buffer.specs.BufferLaws.{length-put, put_nothing, put_behind}
use Rattle.buffer.specs.PutsLaws.{in_front}
use Rattle.color_encoding.specs.declared.JxlColorEncoding.{JxlColorEncoding}
use Rattle.numbers.specs.Rounded.{counted}
use Rattle.digits.specs.DigitsLaws.{length_digits}
use Rattle.text.specs.Held.{HeldEncoding}
use Rattle.profile.specs.TagTypes.{join}
use Rattle.profile.specs.Plan.{Plan}
use Rattle.profile.specs.Layout.{layout}
use Rattle.encoding_plan.specs.PlanOf.{plan_of}
use Rattle.encoding_plan.specs.FixedFloats.{fixed_floats, counted_plan}
use Rattle.writer.specs.Writer.{answer, output, max_written}
use Rattle.writer.specs.declared.Written.{Written}
use Rattle.writer_laws.proofs.WrittenLength.{written_length}
use Rattle.writer_laws.proofs.RefusalNumbers.{refusal_number_lem}
use Rattle.job.specs.declared.JobEntry.{JobEntry}
use Rattle.job.specs.Job.{number}
use Rattle.job.specs.BoundsLaws.{section_number}
use Rattle.job.specs.declared.Section.{Section}
use Rattle.entry_output.specs.EntryOutput.{enough, profile_bytes, length_or_refusal, entry_line, first_line}
use Rattle.line_text.specs.LineText.{SmallAnswer, place_text, first_text}
use Rattle.entry_output.specs.Steps.{Small}
use Rattle.buffer.specs.Texts.{IsText}
use Rattle.buffer.specs.declared.Text.{Text}

-- ---- 1,200 bytes are enough

pub profile_most : (e : JxlColorEncoding) → HeldEncoding e → length (profile_bytes (plan_of e)) ≤ max_written
profile_most e h = go (plan_of e) refl
  where
    go : (c : Checked Plan) → plan_of e ≡ c → length (profile_bytes c) ≤ max_written
    go (is p) q = (written_length false e h q).1
    go (refused k) q = omega arith

-- an output with room for the profile
room_answer : (xs : List Float) (c : Checked Plan) (n : ℕ) → length (profile_bytes c) ≤ n → answer (counted xs c) n ≡ enough (counted xs c)
room_answer xs (is p) n h = rw (le-leb (length (layout p)) n h)
room_answer xs (refused k) n h = refl

pub enough_answer : (e : JxlColorEncoding) → HeldEncoding e → (n : ℕ) → max_written ≤ n → answer (counted_plan e) n ≡ enough (counted_plan e)
enough_answer e h n g = room_answer (fixed_floats e) (plan_of e) n (omega (arith, profile_most e h))

pub small_answer : (e : JxlColorEncoding) → HeldEncoding e → Small (enough (counted_plan e))
small_answer e h = go (plan_of e) refl
  where
    go : (c : Checked Plan) → plan_of e ≡ c → Small (enough (counted (fixed_floats e) c))
    go (is p) q = omega (arith, (written_length false e h q).1)
    go (refused k) q = omega (arith, (refusal_number_lem false e q).1)

pub written_is : (xs : List Float) (c : Checked Plan) {w : Written} → is w ≡ enough (counted xs c) → w.length ≡ length (profile_bytes c)
written_is xs (is p) h = cc
written_is xs (refused k) h = absurd (never (sym h))

pub refused_is : (xs : List Float) (c : Checked Plan) {k : ℕ} → refused k ≡ enough (counted xs c) → 0 ≡ length (profile_bytes c)
refused_is xs (is p) h = absurd (never h)
refused_is xs (refused k) h = refl

-- ---- how long the parts of a line are

pub length-place : (s : Section) (k : ℕ) → k ≤ 255 → length (place_text s k) ≤ 6
length-place s k b =
    let a = section_number s in
    simp length-append (omega (arith, length_digits 0 (number s) (omega arith), length_digits 2 k (omega arith)))

pub length-answer : (a : Checked Written) → Small a → length (length_or_refusal a) ≤ 12
length-answer (is w) h = omega (arith, length_digits 3 w.length h)
length-answer (refused k) h = simp length-append (omega (arith, length_digits 3 k h))

pub length-first : (a : Checked ℕ) → SmallAnswer a → length (first_text a) ≤ 16
length-first (is n) h = simp length-append (omega (arith, length_digits 3 n h))
length-first (refused k) h = simp length-append (omega (arith, length_digits 3 k h))

-- ---- lines

pub entry_line_is : (e : JobEntry) → entry_line e ≡ place_text e.section e.place ++ length_or_refusal (enough (counted_plan e.encoding)) ++ (10 ∷ [])
unfolding entry_line join
entry_line_is e = simp append_assoc

pub first_line_is : (a : Checked ℕ) → first_line a ≡ first_text a ++ (10 ∷ [])
unfolding first_line join
first_line_is (is n) = simp append_assoc
first_line_is (refused k) = simp append_assoc

-- what was put to the front of 24 zeros
pub line_is : (q : List ℕ) {r : ℕ} {o : List ℕ} → length q ≤ 24 → PutsText (replicate 24 0) 0 q r o → IsText {N = 24} q (record { bytes = o; len = r })
line_is q h p = let f = in_front 24 p in record { len = f.0; short = omega (arith, f.0); bytes = f.1 }

-- the 24 bytes stay 24
pub line_length : (q : List ℕ) {r : ℕ} {o : List ℕ} → length q ≤ 24 → PutsText (replicate 24 0) 0 q r o → length o ≡ 24
line_length q {r} {o} h p = ap length p.bytes ∙ length-put (replicate 24 0) 0 q (rw length-replicate (omega arith)) ∙ length-replicate {A = ℕ} 24 0

pub empty_line : IsText {N = 24} [] (record { bytes = replicate 24 0; len = 0 })
empty_line = record { len = refl; short = omega arith; bytes = refl }

pub line_room : {q : List ℕ} {r : Text 24} → IsText q r → r.len ≤ length r.bytes
line_room {q} {r} h = rw (h.bytes, length-append, length-replicate) (omega (arith, h.len, h.short))

pub line_text : {q : List ℕ} {r : Text 24} → IsText q r → take r.len r.bytes ≡ q
line_text {q} {r} h = rw h.bytes (take_at q (replicate (24 - length q) 0) r.len (sym h.len))

-- ---- a profile written to the part of an output from a place on

module _ (l : List ℕ) (at : ℕ) where
  abbrev lent : List ℕ
  lent = mid_of at (length l - at) l

  lent_is : at ≤ length l → lent ≡ drop at l
  lent_is h = take_all (length l - at) (drop at l) (rw length-drop (omega arith))

  back : (y : List ℕ) → put_mid at (length l - at) l y ≡ take at l ++ y
  back y =
      let past : drop (length l - at) (drop at l) ≡ [] = ap (λ (k : ℕ). drop k (drop at l)) (sym (length-drop at l)) ∙ drop-length (drop at l) in
      ap (λ (r : List ℕ). take at l ++ (y ++ r)) past ∙ ap (λ (r : List ℕ). take at l ++ r) (append-nil y)

  pub lent_answer : (xs : List Float) (c : Checked Plan) → at + length (profile_bytes c) ≤ length l → answer (counted xs c) (length lent) ≡ enough (counted xs c)
  lent_answer xs c h = room_answer xs c (length lent) (rw (lent_is (omega arith), length-drop) (omega arith))

  pub lent_output : (c : Checked Plan) → at + length (profile_bytes c) ≤ length l → put_mid at (length l - at) l (output c lent) ≡ put l at (profile_bytes c)
  lent_output (is p) h =
      let fits : length (layout p) ≤ length lent = rw (lent_is (omega arith), length-drop) (omega arith) in
      rw (le-leb (length (layout p)) (length lent) fits)
      (back (put lent 0 (layout p)) ∙ ap (λ (x : List ℕ). take at l ++ put x 0 (layout p)) (lent_is (omega arith)) ∙ put_behind l at (layout p))
  lent_output (refused k) h =
      back lent ∙ ap (λ (x : List ℕ). take at l ++ x) (lent_is (omega arith)) ∙ take-append-drop at l ∙ sym (put_nothing l at)
