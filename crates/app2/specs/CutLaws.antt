-- A file that is cut: its chunks make the file again, the last alone may be shorter and none is empty, and there are as many as the length over the size,
-- rounded up. Assumes nothing.
use Prim.Native.Nat.{ℕ, zero, suc, ◌+◌, ◌-◌, ◌*◌, ◌/◌, ◌≤◌, ◌<◌}
use Rattle.std.specs.Prelude.{◌≡◌, ◌↔◌, length, drop}
use Rattle.std.proofs.Math.Path.{refl, ap, sym}
use Rattle.std.proofs.Common.{◌∙◌, arith, div-lt_iff_lt-mul, add-one, length-take, length-drop}
use mathlib.Core.List.{List, [], ◌∷◌, ◌++◌}
use Rattle.std.proofs.Math.Decide.{dec_le}
use Rattle.std.proofs.Math.Nat.{div-eq_of_lt, div-eq_of_lt-le, add-div_right}
use Rattle.std.proofs.Math.ListN.{take, take-append-drop}
use Rattle.profile.specs.TagTypes.{join}
use Rattle.buffer.specs.All.{All, none, more}
use Rattle.app2.specs.Segments.{chunks, cut}
use Rattle.app2.specs.Properties.{Cut, last, whole}

module _ (n : ℕ) (some_size : 1 ≤ n) where
  left : (k b : ℕ) (l : List ℕ) → length (b ∷ l) ≤ suc k → length (drop n (b ∷ l)) ≤ k
  left k b l h = omega (arith, length-drop n (b ∷ l))

  chunks_join : (k : ℕ) (l : List ℕ) → length l ≤ k → join (chunks k n l) ≡ l
  unfolding chunks join
  chunks_join zero [] h = refl
  chunks_join zero (b ∷ l) h = absurd (omega arith)
  chunks_join (suc k) [] h = refl
  chunks_join (suc k) (b ∷ l) h =
      ap (λ (x : List ℕ). take n (b ∷ l) ++ x) (chunks_join k (drop n (b ∷ l)) (left k b l h)) ∙ take-append-drop n (b ∷ l)

  -- the chunks of a file are the file
  pub cut_join : (f : List ℕ) → join (cut n f) ≡ f
  unfolding cut
  cut_join f = chunks_join (length f) f (omega arith)

  -- ---- their sizes

  none_left : (k : ℕ) → chunks k n [] ≡ []
  unfolding chunks
  none_left zero = refl
  none_left (suc k) = refl

  -- one chunk in front of those of what it leaves
  one_more : (k b : ℕ) (l r : List ℕ) → drop n (b ∷ l) ≡ r → length (b ∷ l) ≤ suc k
      → ((c : ℕ) (m : List ℕ) → length (c ∷ m) ≤ k → Cut n (chunks k n (c ∷ m))) → Cut n (take n (b ∷ l) ∷ chunks k n r)
  one_more k b l [] e h others =
      rw (none_left k) (last {p = take n (b ∷ l)} (omega (arith, length-take n (b ∷ l))) (omega (arith, length-take n (b ∷ l))))
  one_more k b l (c ∷ m) e h others =
      let left_over : length (c ∷ m) ≡ length (b ∷ l) - n = ap length (sym e) ∙ length-drop n (b ∷ l) in
      whole (length-take n (b ∷ l) ∙ omega arith) (others c m (omega arith))

  chunks_cut : (k b : ℕ) (l : List ℕ) → length (b ∷ l) ≤ k → Cut n (chunks k n (b ∷ l))
  unfolding chunks
  chunks_cut zero b l h = absurd (omega arith)
  chunks_cut (suc k) b l h = one_more k b l (drop n (b ∷ l)) refl h (chunks_cut k)

  -- the last chunk alone may be shorter, and none is empty
  pub cut_cut : (f : List ℕ) → 1 ≤ length f → Cut n (cut n f)
  unfolding cut
  cut_cut [] h = absurd (omega arith)
  cut_cut (b ∷ l) h = chunks_cut (length (b ∷ l)) b l (omega arith)

  -- ---- one chunk and the rest

  -- more chunks than are needed change nothing
  enough : (j k : ℕ) (l : List ℕ) → length l ≤ j → length l ≤ k → chunks j n l ≡ chunks k n l
  unfolding chunks
  enough zero k [] h g = sym (none_left k)
  enough zero k (b ∷ l) h g = absurd (omega arith)
  enough (suc j) k [] h g = sym (none_left k)
  enough (suc j) zero (b ∷ l) h g = absurd (omega arith)
  enough (suc j) (suc k) (b ∷ l) h g =
      ap (λ (ps : List (List ℕ)). take n (b ∷ l) ∷ ps) (enough j k (drop n (b ∷ l)) (left j b l h) (left k b l g))

  pub cut_more : (l : List ℕ) → 1 ≤ length l → cut n l ≡ take n l ∷ cut n (drop n l)
  unfolding cut chunks
  cut_more [] h = absurd (omega arith)
  cut_more (b ∷ l) h =
      ap (λ (ps : List (List ℕ)). take n (b ∷ l) ∷ ps) (enough (length l) (length (drop n (b ∷ l))) (drop n (b ∷ l)) (left (length l) b l (omega arith)) (omega arith))

  pub cut_none : (l : List ℕ) → length l ≡ 0 → cut n l ≡ []
  unfolding cut chunks
  cut_none [] h = refl
  cut_none (b ∷ l) h = absurd (omega arith)

  -- ---- their number

  -- so many bytes over the size, rounded up
  nothing_over : (n - 1) / n ≡ 0
  nothing_over = div-eq_of_lt (omega arith)

  next : (m : ℕ) → 1 ≤ m → (m - n + (n - 1)) / n + 1 ≡ (m + (n - 1)) / n
  next m h = go (dec_le n m)
    where
      go : Dec (n ≤ m) → (m - n + (n - 1)) / n + 1 ≡ (m + (n - 1)) / n
      go (yes a) =
          let e : m - n + (n - 1) + n ≡ m + (n - 1) = omega arith in
          sym (add-div_right (m - n + (n - 1)) (omega arith)) ∙ ap (λ (x : ℕ). x / n) e
      go (no a) =
          let e : m - n + (n - 1) ≡ n - 1 = omega arith in
          ap (λ (x : ℕ). x / n + 1) e ∙ ap (λ (x : ℕ). x + 1) nothing_over ∙ sym (div-eq_of_lt-le n (omega arith) (omega arith))

  chunks_number : (k : ℕ) (l : List ℕ) → length l ≤ k → length (chunks k n l) ≡ (length l + (n - 1)) / n
  unfolding chunks
  chunks_number zero [] h = sym (ap (λ (x : ℕ). x / n) (omega arith) ∙ nothing_over)
  chunks_number zero (b ∷ l) h = absurd (omega arith)
  chunks_number (suc k) [] h = sym (ap (λ (x : ℕ). x / n) (omega arith) ∙ nothing_over)
  chunks_number (suc k) (b ∷ l) h =
      ap suc (chunks_number k (drop n (b ∷ l)) (left k b l h)
      ∙ ap (λ (x : ℕ). (x + (n - 1)) / n) (length-drop n (b ∷ l)))
      ∙ sym (add-one _)
      ∙ next (length (b ∷ l)) (omega arith)

  -- a file needs as many segments as its length over the size, rounded up
  pub cut_number : (f : List ℕ) → length (cut n f) ≡ (length f + (n - 1)) / n
  unfolding cut
  cut_number f = chunks_number (length f) f (omega arith)

  -- at most 255 are needed exactly if 255 times the size is the length at least: no division
  pub over_few : (m : ℕ) → ((m + (n - 1)) / n ≤ 255) ↔ (m ≤ 255 * n)
  over_few m = (to, from)
    where
      iff : ((m + (n - 1)) / n < 256) ↔ (m + (n - 1) < 256 * n)
      iff = div-lt_iff_lt-mul (omega arith)

      to : (m + (n - 1)) / n ≤ 255 → m ≤ 255 * n
      to h = let a : (m + (n - 1)) / n < 256 = omega arith in omega (arith, iff.0 a)

      from : m ≤ 255 * n → (m + (n - 1)) / n ≤ 255
      from h = let a : m + (n - 1) < 256 * n = omega arith in omega (arith, iff.1 a)

-- no chunk is longer than the size
pub cut_within : {n : ℕ} {ps : List (List ℕ)} → Cut n ps → All (λ (p : List ℕ). length p ≤ n) ps
cut_within (last a b) = more b none
cut_within {n} (whole {p} {ps} e c) = more {a = p} (omega arith) (cut_within c)
