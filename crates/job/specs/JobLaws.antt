-- Laws of the job: how it is cut, which is its i-th entry, and when it is refused for one. Assumes nothing.
use Prim.Native.Nat.{ℕ, zero, suc, ◌+◌, ◌*◌, ◌-◌, ◌≤◌, ◌<◌}
use Rattle.std.specs.Prelude.{Option, Some, None, ◌≡◌, refl, length, drop}
use Rattle.std.proofs.Common.{sym, ◌∙◌, le_of_eq, le-leb, drop-drop, take_all}
use Rattle.std.proofs.Math.Path.{ap}
use mathlib.Core.List.{List, [], ◌∷◌, ◌++◌, map}
use native.Mathlib.Omega.{arith}
use Rattle.std.proofs.lemmas.Bool.{lt-leb}
use Rattle.std.proofs.Math.ListN.{take, get_or}
use Rattle.buffer.specs.Checked.{Checked, is, refused, then, each}
use Rattle.buffer.specs.CheckedLaws.{Passes, both, each_cons, each_length}
use Rattle.job.specs.Job.{Entry, size, entries_from, count, ends_early, bytes_left, cut, meaning, job, sections, found, absent, told, job_answer, entry_answer, entry_alone}
use Rattle.job.specs.declared.Section.{Section}
use Rattle.job.specs.declared.JobEntry.{JobEntry}

-- ---- one section and the rest

module _ (w : ℕ) (s : Section) (ss : List Section) (l : List ℕ) where
  pub cut_whole : w + count w l * size s ≤ length l
      → cut w (s ∷ ss) l ≡ then (cut w ss (drop (w + count w l * size s) l)) (λ es. is (entries_from s 1 (count w l) (drop w l) ++ es))
  unfolding cut
  cut_whole h = rw (le-leb _ _ h)

  pub cut_early : length l < w + count w l * size s → cut w (s ∷ ss) l ≡ ends_early
  unfolding cut
  cut_early h = rw (lt-leb _ _ h)

pub cut_end : (w : ℕ) (l : List ℕ) → length l ≡ 0 → cut w [] l ≡ is []
unfolding cut
cut_end w [] h = refl
cut_end w (b ∷ l) h = let no : ◌≡◌ {A = ℕ} 0 1 = omega arith in absurd (omega arith)

pub cut_left : (w : ℕ) (l : List ℕ) → 0 < length l → cut w [] l ≡ bytes_left
unfolding cut
cut_left w [] h = absurd (omega arith)
cut_left w (b ∷ l) h = refl

-- ---- the entries of a section

pub length-entries_from : (s : Section) (k n : ℕ) (l : List ℕ) → length (entries_from s k n l) ≡ n
unfolding entries_from
length-entries_from s k zero l = refl
length-entries_from s k (suc n) l = ap suc (length-entries_from s (suc k) n (drop (size s) l))

-- the entry i places after the first of a section, which has place k
abbrev pub entry_at : Section → ℕ → ℕ → List ℕ → Entry
entry_at s k i l = record { section = s; place = k + i; bytes = take (size s) (drop (i * size s) l) }

module _ {X : Type 0} (h : Entry → X) (d : X) (s : Section) (rest : List Entry) where
  pub in_section : (k n : ℕ) (l : List ℕ) (i : ℕ) → i < n → get_or (map h (entries_from s k n l ++ rest)) i d ≡ h (entry_at s k i l)
  unfolding entries_from
  in_section k zero l i g = absurd (omega arith)
  in_section k (suc n) l zero g = ap (λ (e : Entry). h e) (first k l)
    where
      first : (k : ℕ) (l : List ℕ) → record { section = s; place = k; bytes = take (size s) l } ≡ entry_at s k 0 l
      first k l =
          let place : k + 0 ≡ k = omega arith in
          let start : 0 * size s ≡ 0 = omega arith in
          rw (place, start)
  in_section k (suc n) l (suc i) g =
      in_section (suc k) n (drop (size s) l) i (omega arith)
      ∙ ap (λ (e : Entry). h e) (later k i l)
    where
      later : (k i : ℕ) (l : List ℕ) → entry_at s (suc k) i (drop (size s) l) ≡ entry_at s k (suc i) l
      later k i l =
          let places : suc k + i ≡ k + suc i = omega arith in
          let ends : size s + i * size s ≡ suc i * size s = omega arith in
          rw (drop-drop (i * size s) (size s) l, places, ends)

  pub past_section : (k n : ℕ) (l : List ℕ) (i : ℕ) → n ≤ i → get_or (map h (entries_from s k n l ++ rest)) i d ≡ get_or (map h rest) (i - n) d
  unfolding entries_from
  past_section k zero l i g = ap (λ (j : ℕ). get_or (map h rest) j d) (all i)
    where
      all : (i : ℕ) → i ≡ i - 0
      all i = omega arith
  past_section k (suc n) l zero g = absurd (omega arith)
  past_section k (suc n) l (suc i) g =
      past_section (suc k) n (drop (size s) l) i (omega arith) ∙ ap (λ (j : ℕ). get_or (map h rest) j d) (less i n)
    where
      less : (i n : ℕ) → i - n ≡ suc i - suc n
      less i n = omega arith

-- ---- the i-th entry, and the job

abbrev alone : Entry → Checked (Option JobEntry)
alone e = told (meaning e)

not-refused : {e : JobEntry} {k : ℕ} → found e ≡ refused k → ⊥
not-refused h = let zero_one : ◌≡◌ {A = ℕ} 0 1 = cc in omega arith

told_refused : (c : Checked JobEntry) {k : ℕ} → told c ≡ refused k → c ≡ refused k
told_refused (is e) h = absurd (not-refused h)
told_refused (refused n) h = cc

told_is : (c : Checked JobEntry) {e : JobEntry} → told c ≡ found e → c ≡ is e
told_is (is e) h = cc
told_is (refused n) h = absurd (not-refused (sym h))

-- the first entry without a meaning refuses the job
stops : (es : List Entry) (i : ℕ) {k : ℕ} → get_or (map alone es) i absent ≡ refused k → Passes (each meaning (take i es)) → each meaning es ≡ refused k
stops [] i h p = let zero_one : ◌≡◌ {A = ℕ} 0 1 = cc in absurd (omega arith)
stops (e ∷ es) zero h p = rw (told_refused (meaning e) h)
stops (e ∷ es) (suc i) h p =
    let a = both (meaning e) _ p.given in
    let b = both (each meaning (take i es)) _ a.second in
    rw (a.first, stops es i h (record { value = b.value; given = b.first }))

-- an entry with a meaning goes on
goes_on : (es : List Entry) (i : ℕ) {x : JobEntry} → get_or (map alone es) i absent ≡ found x → Passes (each meaning (take i es))
    → Passes (each meaning (take (suc i) es))
goes_on [] i h p = let zero_one : ◌≡◌ {A = ℕ} 0 1 = cc in absurd (omega arith)
goes_on (e ∷ es) zero {x} h p = record { value = x ∷ []; given = rw (told_is (meaning e) h) }
goes_on (e ∷ es) (suc i) h p =
    let a = both (meaning e) _ p.given in
    let b = both (each meaning (take i es)) _ a.second in
    let q = goes_on es i h (record { value = b.value; given = b.first }) in
    record { value = a.value ∷ q.value; given = each_cons meaning e (take (suc i) es) a.first q.given }

-- no entry is absent among those that the job has
pub present : (es : List Entry) (i : ℕ) → i < length es → get_or (map alone es) i absent ≡ absent → ⊥
present [] i g h = omega arith
present (e ∷ es) zero g h = go (meaning e) h
  where
    go : (c : Checked JobEntry) → told c ≡ absent → ⊥
    go (is x) h = let zero_one : ◌≡◌ {A = ℕ} 0 1 = cc in omega arith
    go (refused n) h = let zero_one : ◌≡◌ {A = ℕ} 0 1 = cc in omega arith
present (e ∷ es) (suc i) g h = present es i (omega arith) h

-- of a job that is not refused, an entry by itself is the entry of the job
one_more : (e : Entry) (es : List Entry) {x : JobEntry} (xs : List JobEntry) → meaning e ≡ is x → map alone es ≡ map found xs → map alone (e ∷ es) ≡ map found (x ∷ xs)
one_more e es xs h g = rw (h, g)

same_entries : (es : List Entry) {xs : List JobEntry} → each meaning es ≡ is xs → map alone es ≡ map found xs
same_entries [] {xs} h = let none : [] ≡ xs = cc in ap (map found) none
same_entries (e ∷ es) {xs} h =
    let a = both (meaning e) _ h in
    let b = both (each meaning es) _ a.second in
    let same : a.value ∷ b.value ≡ xs = cc b.second in
    one_more e es b.value a.first (same_entries es b.first) ∙ ap (map found) same

pub alone_is : (w : ℕ) (l : List ℕ) {xs : List JobEntry} → job w l ≡ is xs → (i : ℕ) → entry_alone (cut w sections l) i ≡ get_or (map found xs) i absent
unfolding job entry_alone
alone_is w l h i =
    let a = both (cut w sections l) _ h in
    rw (a.first, same_entries a.value a.second)

-- ---- the entries in turn

module _ (w : ℕ) (l : List ℕ) (es : List Entry) (cuts : cut w sections l ≡ is es) where
  standing : (i : ℕ) → entry_alone (cut w sections l) i ≡ get_or (map alone es) i absent
  unfolding entry_alone
  standing i = rw cuts

  job_is : job w l ≡ each meaning es
  unfolding job
  job_is = rw cuts

  pub walk_stops : (i k : ℕ) → entry_alone (cut w sections l) i ≡ refused k → Passes (each meaning (take i es)) → job w l ≡ refused k
  walk_stops i k h p = job_is ∙ stops es i (sym (standing i) ∙ h) p

  -- an entry that the job has and that is not refused
  pub walk_goes_on : (i : ℕ) (o : Option JobEntry) → i < length es → entry_alone (cut w sections l) i ≡ is o → Passes (each meaning (take i es))
      → Passes (each meaning (take (suc i) es))
  walk_goes_on i (Some x) g h p = goes_on es i (sym (standing i) ∙ h) p
  walk_goes_on i None g h p = absurd (present es i g (sym (standing i) ∙ h))

  pub walk_ends : (n : ℕ) → length es ≡ n → Passes (each meaning (take n es)) → job_answer (job w l) ≡ is n
  walk_ends n e p =
      let all : each meaning es ≡ is p.value = rw (← take_all n es (le_of_eq e)) p.given in
      rw (job_is, all) (ap is (each_length meaning es p.value all ∙ e))

-- ---- the job's answer

pub cut_refused : (w : ℕ) (l : List ℕ) {k : ℕ} → cut w sections l ≡ refused k → job w l ≡ refused k
unfolding job
cut_refused w l e = rw e

pub entry_of : (w : ℕ) (l : List ℕ) {n : ℕ} → job_answer (job w l) ≡ is n → (i : ℕ) → entry_alone (cut w sections l) i ≡ entry_answer (job w l) i
entry_of w l {n} h i = go (job w l) refl h
  where
    go : (j : Checked (List JobEntry)) → job w l ≡ j → job_answer j ≡ is n → entry_alone (cut w sections l) i ≡ entry_answer (job w l) i
    go (is xs) e h = alone_is w l e i ∙ sym (ap (λ (j : Checked (List JobEntry)). entry_answer j i) e)
    go (refused k) e h = let zero_one : ◌≡◌ {A = ℕ} 0 1 = cc in absurd (omega arith)
