-- Lemmas of JobBounds.antt: each entry of a job, how a job is cut into sections, and which number refuses it. Assumes nothing.
use Rattle.std.specs.Prelude.{Option, ℕ, zero, suc, ◌+◌, ◌*◌, ◌-◌, ◌≤◌, ◌<◌, ◌≡◌, refl, Bool, true, false, cond, List, [], ◌∷◌, ◌++◌, map, ltb, leb, length, take, drop, get_or}
use Rattle.std.proofs.Common.{sym, ap, ◌∙◌, arith, ltb-true, ltb-false, leb-true, length-drop, drop-drop}
use Rattle.buffer.specs.All.{All, none, more}
use Rattle.buffer.specs.Checked.{Checked, is, refused, then, each}
use Rattle.buffer.specs.CheckedLaws.{both, never}
use Rattle.job_entry.specs.Entry.{gray_encoding, rgb_encoding, xyb_encoding}
use Rattle.job.specs.Job.{Entry, size, sections, entries_from, count, ends_early, cut, meaning, found, absent, entry_alone}
use Rattle.job.specs.Counts.{FilledBy, entries_by}
use Rattle.job.specs.declared.Counts as Declared
use Rattle.job.specs.declared.Section.{Section}
use Rattle.job.specs.declared.Section.TheVariants.{Gray, Rgb, Xyb}
use Rattle.job.specs.CountsLaws.{in_gray, in_rgb, in_xyb, past_all, all_there}
use Rattle.job.specs.LongestLaws.{small}
use Rattle.job.specs.Bounds.{EntryBounds, EntryAnswerBounds, AnswersEntry, Bytes}
use Rattle.job.specs.BoundsLaws.{held_gray, held_rgb, held_xyb, bounds_told, bounds_same}
use Rattle.job.specs.declared.JobEntry.{JobEntry}

-- ---- an entry at an index

module _ (l : List ℕ) (g r x i : ℕ) (hg : g < 256) (hr : r < 256) (hx : x < 256) where
  abbrev here : Checked (Option JobEntry)
  here = entry_alone (is (entries_by l g r x)) i

  xyb_bounds : g ≤ i → r ≤ i - g → (b : Bool) → ltb (i - g - r) x ≡ b → EntryAnswerBounds here
  xyb_bounds a d true e =
      let h : i - g - r < x = ltb-true _ _ e in
      bounds_same (in_xyb l g r x i a d h) (bounds_told Xyb (i - g - r + 1) (xyb_encoding (take 1 (drop (3 + g * 15 + r * 40 + (i - g - r) * 1) l))) (omega arith) (held_xyb _))
  xyb_bounds a d false e = bounds_same (past_all l g r x i a d (ltb-false _ _ e)) tt

  rgb_bounds : g ≤ i → (b : Bool) → ltb (i - g) r ≡ b → EntryAnswerBounds here
  rgb_bounds a true e =
      let h : i - g < r = ltb-true _ _ e in
      bounds_same (in_rgb l g r x i a h) (bounds_told Rgb (i - g + 1) (rgb_encoding (take 40 (drop (2 + g * 15 + (i - g) * 40) l))) (omega arith) (held_rgb _))
  rgb_bounds a false e = xyb_bounds a (ltb-false _ _ e) (ltb (i - g - r) x) refl

  gray_bounds : (b : Bool) → ltb i g ≡ b → EntryAnswerBounds here
  gray_bounds true e =
      let h : i < g = ltb-true _ _ e in
      bounds_same (in_gray l g r x i h) (bounds_told Gray (i + 1) (gray_encoding (take 15 (drop (1 + i * 15) l))) (omega arith) (held_gray _))
  gray_bounds false e = rgb_bounds (ltb-false _ _ e) (ltb (i - g) r) refl

  pub bounds_alone : EntryAnswerBounds here
  bounds_alone = gray_bounds (ltb i g) refl

-- what answers the i-th entry is that entry, within its bounds
pub answers_entry : (l : List ℕ) (n : Declared.Counts) (i : ℕ) → FilledBy l n → {a : Checked (Option JobEntry)}
    → a ≡ entry_alone (is (entries_by l n.gray n.rgb n.xyb)) i → AnswersEntry (entry_alone (is (entries_by l n.gray n.rgb n.xyb)) i) a
answers_entry l n i f e = record { answer = e; bounds = bounds_same e (bounds_alone l n.gray n.rgb n.xyb i f.gray_few f.rgb_few f.xyb_few) }

-- ---- a job that is cut into sections

-- the first section of a list and the rest
record CutInto (w : ℕ) (s : Section) (ss : List Section) (l : List ℕ) : Type 0 where
  fits : w + count w l * size s ≤ length l
  rest : List Entry
  next : cut w ss (drop (w + count w l * size s) l) ≡ is rest

cut_into : (w : ℕ) (s : Section) (ss : List Section) (l : List ℕ) {es : List Entry} → cut w (s ∷ ss) l ≡ is es → CutInto w s ss l
unfolding cut
cut_into w s ss l {es} e = go (leb (w + count w l * size s) (length l)) refl e
  where
    go : (b : Bool) → leb (w + count w l * size s) (length l) ≡ b
        → cond b (then (cut w ss (drop (w + count w l * size s) l)) (λ rs. is (entries_from s 1 (count w l) (drop w l) ++ rs))) ends_early ≡ is es
        → CutInto w s ss l
    go true t e = let p = both (cut w ss (drop (w + count w l * size s) l)) _ e in record { fits = leb-true _ _ t; rest = p.value; next = p.first }
    go false t e = absurd (never e)

nothing_left : (w : ℕ) (l : List ℕ) {es : List Entry} → cut w [] l ≡ is es → length l ≡ 0
unfolding cut
nothing_left w [] e = refl
nothing_left w (b ∷ l) e = absurd (never e)

-- the three counts of a job of bytes
pub record Counts (l : List ℕ) : Type 0 where
  pub g : ℕ
  pub r : ℕ
  pub x : ℕ
  pub gray_few : g < 256
  pub rgb_few : r < 256
  pub xyb_few : x < 256
  pub whole : cut 1 sections l ≡ is (entries_by l g r x)

pub counts : (l : List ℕ) → Bytes l → {es : List Entry} → cut 1 sections l ≡ is es → Counts l
counts l bytes e =
    let a = cut_into 1 Gray (Rgb ∷ Xyb ∷ []) l e in
    let g = count 1 l in
    let hg : g < 256 = small l bytes 0 (omega (arith, a.fits)) in
    let b = cut_into 1 Rgb (Xyb ∷ []) (drop (1 + g * 15) l) a.next in
    let r = count 1 (drop (1 + g * 15) l) in
    let fits : 1 + g * 15 + (1 + r * 40) ≤ length l = omega (arith, a.fits, b.fits, length-drop (1 + g * 15) l) in
    let hr : r < 256 = small l bytes (1 + g * 15) (omega arith) in
    let third : 1 + g * 15 + (1 + r * 40) ≡ 1 + g * 15 + 1 + r * 40 = omega arith in
    let same : drop (1 + r * 40) (drop (1 + g * 15) l) ≡ drop (1 + g * 15 + 1 + r * 40) l = drop-drop (1 + r * 40) (1 + g * 15) l ∙ ap (λ (n : ℕ). drop n l) third in
    let d = cut_into 1 Xyb [] (drop (1 + g * 15 + 1 + r * 40) l) (ap (cut 1 (Xyb ∷ [])) (sym same) ∙ b.next) in
    let x = count 1 (drop (1 + g * 15 + 1 + r * 40) l) in
    let left = length-drop (1 + g * 15 + 1 + r * 40) l in
    let ends : 1 + g * 15 + 1 + r * 40 + (1 + x * 1) ≤ length l = omega (arith, d.fits, left) in
    let hx : x < 256 = small l bytes (1 + g * 15 + 1 + r * 40) (omega arith) in
    let none_left = nothing_left 1 _ d.next in
    let all : 3 + g * 15 + r * 40 + x ≡ length l = omega (arith, none_left, length-drop (1 + x * 1) (drop (1 + g * 15 + 1 + r * 40) l), left) in
    record {
      g = g;
      r = r;
      x = x;
      gray_few = hg;
      rgb_few = hr;
      xyb_few = hx;
      whole = all_there l
          g (record { counted = refl; fits = omega arith; few = hg })
          r (record { counted = refl; fits = fits; few = hr })
          x (record { counted = refl; fits = ends; few = hx })
          all;
    }

-- ---- the entries of a job

pub is_one : {a b : List Entry} → ◌≡◌ {A = Checked (List Entry)} (is a) (is b) → a ≡ b
is_one e = cc

pub all_bounds : (es : List JobEntry) → ((i : ℕ) → EntryAnswerBounds (get_or (map found es) i absent)) → All EntryBounds es
all_bounds [] h = none
all_bounds (e ∷ es) h = more (h zero) (all_bounds es (λ i. h (suc i)))

-- ---- the number of a refused job

then_refused : {A B : Type 0} (c : Checked A) (f : A → B) {k : ℕ} → then c (λ a. is (f a)) ≡ refused k → c ≡ refused k
then_refused (is a) f h = absurd (never (sym h))
then_refused (refused n) f h = cc

pub cut_number : (w : ℕ) (ss : List Section) (l : List ℕ) {k : ℕ} → cut w ss l ≡ refused k → k ≤ 42
unfolding cut
cut_number w [] [] h = absurd (never (sym h))
cut_number w [] (b ∷ l) {k} h = let same : 42 ≡ k = cc in omega arith
cut_number w (s ∷ ss) l {k} h = go (cut_number w ss (drop (w + count w l * size s) l)) (leb (w + count w l * size s) (length l)) h
  where
    go : (cut w ss (drop (w + count w l * size s) l) ≡ refused k → k ≤ 42) → (b : Bool)
        → cond b (then (cut w ss (drop (w + count w l * size s) l)) (λ es. is (entries_from s 1 (count w l) (drop w l) ++ es))) ends_early ≡ refused k → k ≤ 42
    go later true h = later (then_refused (cut w ss (drop (w + count w l * size s) l)) _ h)
    go later false h = let same : 41 ≡ k = cc in omega arith

pub record RefusedAt (es : List Entry) (k : ℕ) : Type 0 where
  pub at : ℕ
  pub found : entry_alone (is es) at ≡ refused k

pub refused_at : (es : List Entry) {k : ℕ} → each meaning es ≡ refused k → RefusedAt es k
unfolding entry_alone
refused_at [] h = absurd (never (sym h))
refused_at (e ∷ es) {k} h = go (refused_at es) (meaning e) refl h
  where
    go : (each meaning es ≡ refused k → RefusedAt es k) → (c : Checked JobEntry) → meaning e ≡ c → then c (λ y. then (each meaning es) (λ ys. is (y ∷ ys))) ≡ refused k → RefusedAt (e ∷ es) k
    go later (is y) q h = let r = later (then_refused (each meaning es) _ h) in record { at = suc r.at; found = r.found }
    go later (refused n) q h = let same : n ≡ k = cc in record { at = 0; found = rw q (ap refused same) }
