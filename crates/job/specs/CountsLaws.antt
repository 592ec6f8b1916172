-- The entries of a job from the three counts. Assumes nothing.
use Rattle.std.specs.Prelude.{Option, ℕ, ◌+◌, ◌*◌, ◌-◌, ◌≤◌, ◌<◌, ◌≡◌, List, [], ◌∷◌, ◌++◌, map, length, take, drop, get_or}
use Rattle.std.proofs.Math.Path.{refl}
use Rattle.std.proofs.Common.{ap, ◌∙◌, zero-add, arith, length-append, length-drop, drop-drop, drop-cons}
use Rattle.buffer.specs.Checked.{Checked, is, then}
use Rattle.color_encoding.specs.declared.JxlColorEncoding.{JxlColorEncoding}
use Rattle.job_entry.specs.Entry.{gray_encoding, rgb_encoding, xyb_encoding}
use Rattle.job.specs.Job.{Entry, size, encoding, sections, entries_from, count, ends_early, bytes_left, cut, meaning, absent, told, entry_alone}
use Rattle.job.specs.JobLaws.{cut_whole, cut_early, cut_end, cut_left, length-entries_from, in_section, past_section}
use Rattle.job.specs.Counts.{WholeSection, entries_by, told_of}
use Rattle.job.specs.declared.Section.{Section}
use Rattle.job.specs.declared.Section.TheVariants.{Gray, Rgb, Xyb}
use Rattle.job.specs.declared.JobEntry.{JobEntry}

-- ---- a one-byte count

pub one_byte : (l : List ℕ) (at : ℕ) → at < length l → count 1 (drop at l) ≡ get_or l at 0
one_byte l at h = ap (λ (k : List ℕ). count 1 k) (drop-cons l at 0 h) ∙ zero-add (get_or l at 0)

-- ---- the sections, one after another

module _ (l : List ℕ) where
  at_section : (s : Section) (ss : List Section) (at n start next : ℕ) → at + 1 ≡ start → at + (1 + n * size s) ≡ next → count 1 (drop at l) ≡ n
      → next ≤ length l → cut 1 (s ∷ ss) (drop at l) ≡ then (cut 1 ss (drop next l)) (λ es. is (entries_from s 1 n (drop start l) ++ es))
  at_section s ss at n start next a b e h =
      let room : 1 + count 1 (drop at l) * size s ≤ length (drop at l) = rw (e, length-drop) (omega arith) in
      cut_whole 1 s ss (drop at l) room ∙ rw (e, drop-drop (1 + n * size s) at l, drop-drop 1 at l, a, b)

  early_section : (s : Section) (ss : List Section) (at : ℕ) → length l < at + (1 + count 1 (drop at l) * size s) → cut 1 (s ∷ ss) (drop at l) ≡ ends_early
  early_section s ss at h = cut_early 1 s ss (drop at l) (rw length-drop (omega arith))

  pub early_gray : length l < 0 + (1 + count 1 (drop 0 l) * 15) → cut 1 sections l ≡ ends_early
  early_gray h = early_section Gray (Rgb ∷ Xyb ∷ []) 0 h

  module _ (g : ℕ) (a : WholeSection l 0 15 g) where
    after_gray : cut 1 sections l ≡ then (cut 1 (Rgb ∷ Xyb ∷ []) (drop (1 + g * 15) l)) (λ es. is (entries_from Gray 1 g (drop 1 l) ++ es))
    after_gray = at_section Gray (Rgb ∷ Xyb ∷ []) 0 g 1 (1 + g * 15) refl (omega arith) a.counted (omega arith)

    pub early_rgb : length l < 1 + g * 15 + (1 + count 1 (drop (1 + g * 15) l) * 40) → cut 1 sections l ≡ ends_early
    early_rgb h = after_gray ∙ rw (early_section Rgb (Xyb ∷ []) (1 + g * 15) h)

    module _ (r : ℕ) (b : WholeSection l (1 + g * 15) 40 r) where
      after_rgb : cut 1 (Rgb ∷ Xyb ∷ []) (drop (1 + g * 15) l)
          ≡ then (cut 1 (Xyb ∷ []) (drop (1 + g * 15 + 1 + r * 40) l)) (λ es. is (entries_from Rgb 1 r (drop (2 + g * 15) l) ++ es))
      after_rgb = at_section Rgb (Xyb ∷ []) (1 + g * 15) r (2 + g * 15) (1 + g * 15 + 1 + r * 40) (omega arith) (omega arith) b.counted (omega arith)

      pub early_xyb : length l < 1 + g * 15 + 1 + r * 40 + (1 + count 1 (drop (1 + g * 15 + 1 + r * 40) l) * 1) → cut 1 sections l ≡ ends_early
      early_xyb h = after_gray ∙ rw (after_rgb, early_section Xyb [] (1 + g * 15 + 1 + r * 40) h)

      module _ (x : ℕ) (d : WholeSection l (1 + g * 15 + 1 + r * 40) 1 x) where
        after_xyb : cut 1 (Xyb ∷ []) (drop (1 + g * 15 + 1 + r * 40) l)
            ≡ then (cut 1 [] (drop (3 + g * 15 + r * 40 + x) l)) (λ es. is (entries_from Xyb 1 x (drop (3 + g * 15 + r * 40) l) ++ es))
        after_xyb = at_section Xyb [] (1 + g * 15 + 1 + r * 40) x (3 + g * 15 + r * 40) (3 + g * 15 + r * 40 + x) (omega arith) (omega arith) d.counted (omega arith)

        pub bytes_left_lem : 3 + g * 15 + r * 40 + x < length l → cut 1 sections l ≡ bytes_left
        bytes_left_lem h = after_gray ∙ rw (after_rgb, after_xyb, cut_left 1 (drop (3 + g * 15 + r * 40 + x) l) (rw length-drop (omega arith)))

        pub all_there : 3 + g * 15 + r * 40 + x ≡ length l → cut 1 sections l ≡ is (entries_by l g r x)
        all_there h = after_gray ∙ rw (after_rgb, after_xyb, cut_end 1 (drop (3 + g * 15 + r * 40 + x) l) (rw length-drop (omega arith)))

-- ---- the i-th entry

pub length-entries_by : (l : List ℕ) (g r x : ℕ) → length (entries_by l g r x) ≡ g + r + x
length-entries_by l g r x = simp (length-append, length-entries_from) (omega arith)

-- what a part of m bytes from a place on means, answered as an entry
pub told_part : (s : Section) (k at m : ℕ) (l : List ℕ) {c : Checked JxlColorEncoding}
    → c ≡ encoding s (take (at + m - at) (drop at l)) → told_of s k c ≡ told_of s k (encoding s (take m (drop at l)))
told_part s k at m l h =
    let size : at + m - at ≡ m = omega arith in
    ap (told_of s k) h ∙ ap (λ (j : ℕ). told_of s k (encoding s (take j (drop at l)))) size

abbrev alone : Entry → Checked (Option JobEntry)
alone e = told (meaning e)

-- i places into a section whose first entry stands at a place of the job
placed : (s : Section) (rest : List Entry) (l : List ℕ) (n start i at : ℕ) → i < n → start + i * size s ≡ at
    → get_or (map alone (entries_from s 1 n (drop start l) ++ rest)) i absent ≡ told_of s (i + 1) (encoding s (take (size s) (drop at l)))
placed s rest l n start i at h e =
    let place : 1 + i ≡ i + 1 = omega arith in
    in_section alone absent s rest 1 n (drop start l) i h ∙ rw (drop-drop (i * size s) start l, e, place)

module _ (l : List ℕ) (g r x i : ℕ) where
  abbrev rgbs : List Entry
  rgbs = entries_from Rgb 1 r (drop (2 + g * 15) l) ++ (entries_from Xyb 1 x (drop (3 + g * 15 + r * 40) l) ++ [])

  abbrev xybs : List Entry
  xybs = entries_from Xyb 1 x (drop (3 + g * 15 + r * 40) l) ++ []

  pub in_gray : i < g → entry_alone (is (entries_by l g r x)) i ≡ told_of Gray (i + 1) (gray_encoding (take 15 (drop (1 + i * 15) l)))
  unfolding entry_alone
  in_gray h = placed Gray rgbs l g 1 i (1 + i * 15) h refl

  module _ (a : g ≤ i) where
    past_gray : entry_alone (is (entries_by l g r x)) i ≡ get_or (map alone rgbs) (i - g) absent
    unfolding entry_alone
    past_gray = past_section alone absent Gray rgbs 1 g (drop 1 l) i a

    pub in_rgb : i - g < r → entry_alone (is (entries_by l g r x)) i ≡ told_of Rgb (i - g + 1) (rgb_encoding (take 40 (drop (2 + g * 15 + (i - g) * 40) l)))
    in_rgb h = past_gray ∙ placed Rgb xybs l r (2 + g * 15) (i - g) (2 + g * 15 + (i - g) * 40) h refl

    module _ (b : r ≤ i - g) where
      past_rgb : entry_alone (is (entries_by l g r x)) i ≡ get_or (map alone xybs) (i - g - r) absent
      past_rgb = past_gray ∙ past_section alone absent Rgb xybs 1 r (drop (2 + g * 15) l) (i - g) b

      pub in_xyb : i - g - r < x
          → entry_alone (is (entries_by l g r x)) i ≡ told_of Xyb (i - g - r + 1) (xyb_encoding (take 1 (drop (3 + g * 15 + r * 40 + (i - g - r) * 1) l)))
      in_xyb h = past_rgb ∙ placed Xyb [] l x (3 + g * 15 + r * 40) (i - g - r) (3 + g * 15 + r * 40 + (i - g - r) * 1) h refl

      pub past_all : x ≤ i - g - r → entry_alone (is (entries_by l g r x)) i ≡ absent
      past_all h = past_rgb ∙ past_section alone absent Xyb [] 1 x (drop (3 + g * 15 + r * 40) l) (i - g - r) h
