-- Parts put one after another, and those of a job's entries. Assumes nothing.
use Rattle.std.specs.Prelude.{ℕ, zero, suc, ◌+◌, ◌≤◌, ◌<◌, length, take, get_or}
use Rattle.std.proofs.Math.Path.{◌≡◌, refl}
use Rattle.std.proofs.Common.{sym, ap, ◌∙◌, zero-add, add-one, arith, le-leb, length-append, take_all}
use mathlib.Core.List.{List, [], ◌∷◌, ◌++◌, map, append-nil, append_assoc}
use Rattle.std.proofs.lemmas.Bool.{lt-leb}
use Rattle.std.proofs.lemmas.List.{length-map}
use Rattle.buffer.specs.Checked.{Checked, is, refused}
use Rattle.buffer.specs.CheckedLaws.{never}
use Rattle.buffer.specs.Puts.{PutsText}
use Rattle.profile.specs.TagTypes.{join}
use Rattle.job.specs.Job.{job, cut, sections, job_answer, found, absent, entry_alone}
use Rattle.job.specs.Bounds.{JobAnswerBounds, AnswersEntry}
use Rattle.job.specs.JobLaws.{alone_is}
use Rattle.job.specs.declared.JobEntry.{JobEntry}
use Rattle.writer.specs.Writer.{too_short}
use Rattle.job_output.specs.JobOutput.{parts_of, output_of, Lends}
use Rattle.line_text.specs.LineText.{SmallAnswer}
use Rattle.job_output.specs.Entries.{NextPart, Entries, Stands}

-- ---- parts

join_more : (ps : List (List ℕ)) (i : ℕ) → i < length ps → join (take (suc i) ps) ≡ join (take i ps) ++ get_or ps i []
unfolding join
join_more [] i h = absurd (omega arith)
join_more (p ∷ ps) zero h = append-nil p
join_more (p ∷ ps) (suc i) h = ap (λ (l : List ℕ). p ++ l) (join_more ps i (omega arith)) ∙ sym (append_assoc p (join (take i ps)) (get_or ps i []))

join_front : (i : ℕ) (ps : List (List ℕ)) → length (join (take i ps)) ≤ length (join ps)
unfolding join
join_front zero ps = omega arith
join_front (suc i) [] = omega arith
join_front (suc i) (p ∷ ps) = simp length-append (omega (arith, join_front i ps))

next_part : (ps : List (List ℕ)) (i : ℕ) {p : List ℕ} → i < length ps → get_or ps i [] ≡ p → NextPart ps i p
next_part ps i {p} h e =
    let more : join (take (i + 1) ps) ≡ join (take i ps) ++ p = rw (add-one, ← e) (join_more ps i h) in
    record { more = more; room = omega (arith, join_front (i + 1) ps, simp length-append at (ap length more)) }

-- ---- the entries of a job that is not refused

record Here (xs : List JobEntry) (i : ℕ) : Type 0 where
  entry : JobEntry
  standing : get_or (map found xs) i absent ≡ found entry
  part : (part : JobEntry → List ℕ) → get_or (map part xs) i [] ≡ part entry

here : (xs : List JobEntry) (i : ℕ) → i < length xs → Here xs i
here [] i h = absurd (omega arith)
here (x ∷ xs) zero h = record { entry = x; standing = refl; part = λ part. refl }
here (x ∷ xs) (suc i) h = let r = here xs i (omega arith) in record { entry = r.entry; standing = r.standing; part = r.part }

module _ (part : JobEntry → List ℕ) {l : List ℕ} {n : ℕ} (good : Entries l n) where
  parts : parts_of part (job 1 l) ≡ map part good.entries
  parts = rw good.given

  length-parts : length (parts_of part (job 1 l)) ≡ n
  length-parts = ap length parts ∙ length-map good.entries part ∙ good.size

  next_of : (i : ℕ) → i < n → {e : JobEntry} → get_or (map part good.entries) i [] ≡ part e → NextPart (parts_of part (job 1 l)) i (part e)
  next_of i h e = next_part (parts_of part (job 1 l)) i (omega (arith, length-parts)) (ap (λ (ps : List (List ℕ)). get_or ps i []) parts ∙ e)

  pub all_parts : (i : ℕ) → n ≤ i → join (take i (parts_of part (job 1 l))) ≡ join (parts_of part (job 1 l))
  all_parts i h = ap join (take_all i (parts_of part (job 1 l)) (omega (arith, length-parts)))

module _ {l : List ℕ} {n i : ℕ} (good : Entries l n) (below : i < n) where
  abbrev one : Here good.entries i
  one = here good.entries i (omega (arith, good.size))

  -- the call for the i-th entry gives an entry
  alone : entry_alone (cut 1 sections l) i ≡ found one.entry
  alone = alone_is 1 l good.given i ∙ one.standing

  pub not_none : absent ≡ entry_alone (cut 1 sections l) i → ⊥
  not_none asked = let z : absent ≡ found one.entry = asked ∙ alone in cc

  pub not-refused : {k : ℕ} → refused k ≡ entry_alone (cut 1 sections l) i → ⊥
  not-refused asked = never (asked ∙ alone)

  pub stands : {e : JobEntry} → AnswersEntry (entry_alone (cut 1 sections l) i) (found e) → Stands l i e
  stands {e} asked =
      let same : one.entry ≡ e = cc (sym alone ∙ sym asked.answer) in
      record { bounds = asked.bounds; next = λ part. next_of part good i below (one.part part ∙ ap part same) }

-- ---- the answer of a job

pub few_small : (a : Checked ℕ) → JobAnswerBounds a → SmallAnswer a
few_small (is n) h = omega arith
few_small (refused k) h = omega arith

pub good_job : {l : List ℕ} {a : Checked ℕ} {n : ℕ} → a ≡ job_answer (job 1 l) → JobAnswerBounds a → a ≡ is n → Entries l n
good_job {l} {a} {n} told few h = go (job 1 l) refl (sym told ∙ h)
  where
    go : (j : Checked (List JobEntry)) → job 1 l ≡ j → job_answer j ≡ is n → Entries l n
    go (is xs) e g = record { entries = xs; given = e; size = cc; small = rw h at few }
    go (refused k) e g = let zero_one : ◌≡◌ {A = ℕ} 0 1 = cc in absurd (omega arith)

module _ (l : List ℕ) (head : Checked ℕ → List ℕ) (part : JobEntry → List ℕ) {a : Checked ℕ} (told : a ≡ job_answer (job 1 l)) where
  -- what comes first, and then the parts; of a refused job there are none
  pub output_is : output_of head part (job 1 l) ≡ head a ++ join (parts_of part (job 1 l))
  unfolding output_of
  output_is = rw (← told) refl

  pub length-output : length (output_of head part (job 1 l)) ≡ length (head a) + length (join (parts_of part (job 1 l)))
  length-output = ap length output_is ∙ length-append (head a) (join (parts_of part (job 1 l)))

  pub refused_output : {k : ℕ} → a ≡ refused k → output_of head part (job 1 l) ≡ head a
  unfolding join
  refused_output {k} h = output_is ∙ go (job 1 l) (sym told ∙ h)
    where
      go : (j : Checked (List JobEntry)) → job_answer j ≡ refused k → head a ++ join (parts_of part j) ≡ head a
      go (is xs) g = let zero_one : ◌≡◌ {A = ℕ} 0 1 = cc in absurd (omega arith)
      go (refused k) g = append-nil (head a)

-- ---- an output that is lent

module _ (bytes before : List ℕ) where
  pub lends_nothing : length before < length bytes → Lends bytes before before (refused too_short)
  lends_nothing h =
      let short = lt-leb (length bytes) (length before) h in
      record { answer = rw short; output = rw short }

  pub lends : {r : ℕ} {after : List ℕ} → length bytes ≤ length before → PutsText before 0 bytes r after → Lends bytes before after (is r)
  lends h p =
      let whole = le-leb (length bytes) (length before) h in
      record { answer = rw whole (ap is (p.place ∙ zero-add (length bytes))); output = rw whole p.bytes }
