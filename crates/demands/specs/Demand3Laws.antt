-- Lemmas of demand 3: what the reader's struct tells by what `read` answers, what the record of a C call tells, and what stands at the front of the
-- writer's output. Assumes nothing.
use Rattle.std.specs.Prelude.{ℕ, ◌≤◌, ◌≡◌, refl, ◌↔◌, Bool, true, false, cond, List, [], leb, Float, length, take, drop}
use Rattle.std.proofs.Common.{ap, sym, ◌∙◌, arith, le-leb, leb-true}
use Rattle.buffer.specs.Buffer.{put}
use Rattle.buffer.specs.BufferLaws.{put_after, take_put}
use Rattle.buffer.specs.Checked.{Checked, is, refused as refusedBy, value_or}
use Rattle.buffer.specs.CheckedLaws.{never}
use Rattle.profile.specs.Plan.{Plan}
use Rattle.profile.specs.Shape.{min_length, max_length}
use Rattle.profile.specs.Layout.{layout}
use Rattle.numbers.specs.Rounded.{rounded_in, counted}
use Rattle.writer.specs.declared.Written.{Written}
use Rattle.writer.specs.Writer.{number as number_of, count_after, profile, answer, output, too_short}
use Rattle.reader_spec.specs.Exists.{Exists}
use Rattle.reader_spec.specs.RefusalList.{Answer, Answers, Check, FirstFailing, checks, refused, accepted, refuses as by-list, number}
use Rattle.reader_spec.specs.RefusalListLaws.{number_bounds}
use Rattle.reader_spec.specs.Read.{read}
use Rattle.reader_spec.proofs.ReadAnswers.{read_answers, read_is}
use Rattle.reader_spec.specs.Owners.{Owned}
use Rattle.reader_spec.proofs.Accepts.{accepts_exactly, accepted_owned}
use Rattle.reading.specs.Reading.{plan_reading, reading}
use Rattle.reading.specs.declared.Reading.{Reading}
use Rattle.plan_record.specs.PlanRecord.{record_size, plan_record, reading_by}
use Rattle.plan_record.specs.RecordTold.{record_told}
use Rattle.host.specs.Host.{stored, stored_number, ReadsPlan}
use Rattle.demands.specs.Demand2Laws.{written_not_refused}
use Rattle.demands.specs.Told.{told}
use Rattle.demands.specs.ToldLaws.{check_by, check_back, plan_told, refusal_told}

-- ---- the reader

same_plan : {p q : Plan} → is q ≡ is p → q ≡ p
same_plan e = cc

same_number : {c d : Check} → number d ≡ number c → d ≡ c
same_number {c} {d} n = sym (check_back d) ∙ ap check_by n ∙ check_back c

same_check : {c d : Check} → ◌≡◌ {A = Checked Plan} (refusedBy (number d)) (refusedBy (number c)) → d ≡ c
same_check e = same_number (cc)

first_if : {f : List ℕ} {c : Check} → Answers f (refused c) → FirstFailing f checks c
first_if (by-list h) = h

module _ (f : List ℕ) (r : Checked Reading) (h : r ≡ reading (read f)) where
  told_plan : (p : Plan) → read f ≡ accepted p → told r ≡ is p
  told_plan p e = ap told (h ∙ ap reading e) ∙ plan_told p ((accepts_exactly f p).0 e).0.valid

  told_refusal : (c : Check) → read f ≡ refused c → told r ≡ refusedBy (number c)
  told_refusal c e = ap told (h ∙ ap reading e) ∙ refusal_told c

  -- an accepted file's plan
  plan_if : (a : Reading) → r ≡ is a → (p : Plan) × (read f ≡ accepted p)
  plan_if a told = go (read f) refl
    where
      go : (b : Answer) → read f ≡ b → (p : Plan) × (read f ≡ accepted p)
      go (accepted p) e = (p, e)
      go (refused c) e = absurd (never (sym (h ∙ ap reading e) ∙ told))

  pub accepts : ((a : Reading) × (r ≡ is a)) ↔ ((p : Plan) × Exists p × (layout p ≡ f))
  accepts = (
    λ s. let q = plan_if s.0 s.1 in let v = (accepts_exactly f q.0).0 q.1 in (q.0, v.0, v.1),
    λ s. (plan_reading s.0, h ∙ ap reading ((accepts_exactly f s.0).1 (s.1, s.2))),
  )

  pub answers : (p : Plan) → (told r ≡ is p) ↔ (Exists p × (layout p ≡ f))
  answers p = (λ t. go t (read f) refl, λ s. told_plan p ((accepts_exactly f p).1 s))
    where
      go : told r ≡ is p → (a : Answer) → read f ≡ a → Exists p × (layout p ≡ f)
      go t (accepted q) e = let same : q ≡ p = same_plan (sym (told_plan q e) ∙ t) in (accepts_exactly f p).0 (e ∙ ap accepted same)
      go t (refused c) e = absurd (never (sym (told_refusal c e) ∙ t))

  pub refuses : (c : Check) → (told r ≡ refusedBy (number c)) ↔ FirstFailing f checks c
  refuses c = (λ t. go t (read f) refl, λ first. told_refusal c (read_is f (refused c) (by-list first)))
    where
      go : told r ≡ refusedBy (number c) → (a : Answer) → read f ≡ a → FirstFailing f checks c
      go t (accepted q) e = absurd (never (sym t ∙ told_plan q e))
      go t (refused d) e =
          let same : d ≡ c = same_check (sym (told_refusal d e) ∙ t) in
          let listed : Answers f (refused d) = rw e at (read_answers f) in
          rw (← same) (first_if listed)

  pub owned : (a : Reading) → r ≡ is a → Owned f × (min_length ≤ length f) × (length f ≤ max_length)
  owned a e = let q = plan_if a e in accepted_owned f q.0 q.1

-- ---- the reader from C

-- what is left in a record that was `before`
abbrev kept : Checked Reading → List ℕ → Checked (List ℕ)
kept c before = stored record_size plan_record c before

module _ (f before after : List ℕ) (r : ℕ) (h : ReadsPlan (reading (read f)) before after r) where
  answered : (a : Answer) → read f ≡ a → r ≡ stored_number (kept (reading a) before)
  answered a e = h.answer ∙ ap (λ (x : Answer). stored_number (kept (reading x) before)) e

  left : (a : Answer) → read f ≡ a → after ≡ value_or before (kept (reading a) before)
  left a e = h.left ∙ ap (λ (x : Answer). value_or before (kept (reading x) before)) e

  -- an accepted file's plan, and a record that has room
  plan_and_room : r ≡ 0 → ((p : Plan) × (read f ≡ accepted p)) × (record_size ≤ length before)
  plan_and_room zero = go (read f) refl
    where
      room : (p : Plan) (b : Bool) → leb record_size (length before) ≡ b
          → 0 ≡ stored_number (cond b (is (put before 0 (plan_record (plan_reading p)))) (refusedBy too_short)) → record_size ≤ length before
      room p true e z = leb-true record_size (length before) e
      room p false e z = absurd (omega arith)

      go : (a : Answer) → read f ≡ a → ((p : Plan) × (read f ≡ accepted p)) × (record_size ≤ length before)
      go (accepted p) e = ((p, e), room p (leb record_size (length before)) refl (sym zero ∙ answered (accepted p) e))
      go (refused c) e = absurd (omega (arith, (number_bounds c).0, answered (refused c) e, zero))

  -- the record tells the reader's struct
  pub stored_is : r ≡ 0 → is (reading_by after) ≡ reading (read f)
  stored_is zero =
      let q = plan_and_room zero in
      let p = q.0.0 in
      let e = q.0.1 in
      let bytes = plan_record (plan_reading p) in
      let whole = le-leb record_size (length before) q.1 in
      ap is
      (ap reading_by (left (accepted p) e ∙ rw whole refl ∙ put_after [] before bytes 0 refl)
      ∙ record_told p ((accepts_exactly f p).0 e).0.valid (drop (length bytes) before))
      ∙ sym (ap reading e)

  pub accepts_in_c : (r ≡ 0) ↔ (((p : Plan) × Exists p × (layout p ≡ f)) × (record_size ≤ length before))
  accepts_in_c = (
    λ zero. let q = plan_and_room zero in let v = (accepts_exactly f q.0.0).0 q.0.1 in ((q.0.0, v.0, v.1), q.1),
    λ s. answered (accepted s.0.0) ((accepts_exactly f s.0.0).1 (s.0.1, s.0.2)) ∙ rw (le-leb record_size (length before) s.1),
  )

  pub refuses_in_c : (c : Check) → (r ≡ number c) ↔ FirstFailing f checks c
  refuses_in_c c = (λ t. go t (read f) refl, λ first. refused_number c (read_is f (refused c) (by-list first)))
    where
      refused_number : (c : Check) → read f ≡ refused c → r ≡ number c
      refused_number c e = answered (refused c) e

      small : (l : List ℕ) (b : Bool) → stored_number (cond b (is l) (refusedBy too_short)) ≤ 9
      small l true = omega arith
      small l false = omega arith

      go : r ≡ number c → (a : Answer) → read f ≡ a → FirstFailing f checks c
      go t (accepted q) e = absurd (omega (arith, (number_bounds c).0, small (put before 0 (plan_record (plan_reading q))) (leb record_size (length before)), answered (accepted q) e, t))
      go t (refused d) e =
          let same : d ≡ c = same_number (sym (refused_number d e) ∙ t) in
          let listed : Answers f (refused d) = rw e at (read_answers f) in
          rw (← same) (first_if listed)

-- ---- the writer

written_length : {n m j k : ℕ} → profile m j ≡ profile n k → m ≡ n
written_length e = ap number_of e

-- a count that was answered is that of a plan
pub count_of : (xs : List Float) (c : Checked Plan) (room : ℕ) {n k : ℕ} → profile n k ≡ answer (counted xs c) room → (p : Plan) × (c ≡ is p) × (k ≡ rounded_in xs)
count_of xs (refusedBy j) room w = absurd (written_not_refused (sym w))
count_of xs (is p) room {n} {k} w = (p, refl, go (leb (length (layout p)) room) w)
  where
    go : (b : Bool) → profile n k ≡ cond b (profile (length (layout p)) (rounded_in xs)) (refusedBy too_short) → k ≡ rounded_in xs
    go true e = ap (λ (a : Checked Written). count_after a 0) e
    go false e = absurd (written_not_refused (sym e))

-- a plan that was written is the front of the output
pub front_of : (xs : List Float) (c : Checked Plan) {n k : ℕ} (before after : List ℕ) → profile n k ≡ answer (counted xs c) (length before) → after ≡ output c before
    → (p : Plan) × (c ≡ is p) × (take n after ≡ layout p)
front_of xs (refusedBy j) before after w o = absurd (written_not_refused (sym w))
front_of xs (is p) {n} {k} before after w o = (p, refl, go (leb (length (layout p)) (length before)) (sym w) o)
  where
    go : (b : Bool) → cond b (profile (length (layout p)) (rounded_in xs)) (refusedBy too_short) ≡ profile n k → after ≡ cond b (put before 0 (layout p)) before → take n after ≡ layout p
    go true e o =
        ap (take n) o ∙ ap (λ (k : ℕ). take k (put before 0 (layout p))) (sym (written_length e))
        ∙ take_put before 0 (layout p) (length (layout p)) (omega arith) refl
    go false e o = absurd (written_not_refused e)
