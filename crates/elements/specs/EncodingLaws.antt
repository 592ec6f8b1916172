-- The values of a list put one after another, as a loop puts them. Assumes nothing.
use Rattle.std.specs.Prelude.{ℕ, ◌+◌, ◌*◌, ◌≤◌, ◌<◌, ◌≡◌, refl, List, [], ◌∷◌, ◌++◌, length, take, get_or}
use Rattle.std.proofs.Common.{sym, ◌∙◌, append_assoc, append-nil, mul-zero, mul-suc, add-one, arith, take-suc, take_all}
use Rattle.words.specs.Words.{be16, be32, twos_complement32}
use Rattle.buffer.specs.Puts.{Puts}
use Rattle.buffer.specs.PutsLaws.{none, joined}
use Rattle.profile.specs.TagTypes.{s15_fixed_16s, uint16s, utf16}

-- the values of a list, each by the w bytes `bytes` of it, one after another
pub record Encoding {A : Type 0} (w : ℕ) (bytes : A → List ℕ) (all : List A → List ℕ) : Type 0 where
  pub nil : all [] ≡ []
  pub cons : (a : A) (xs : List A) → all (a ∷ xs) ≡ bytes a ++ all xs

module _ {A : Type 0} {w : ℕ} {bytes : A → List ℕ} {all : List A → List ℕ} (e : Encoding w bytes all) where
  snoc : (xs : List A) (a : A) → all (xs ++ (a ∷ [])) ≡ all xs ++ bytes a
  snoc [] a = e.cons a [] ∙ rw e.nil (append-nil (bytes a))
  snoc (x ∷ xs) a = e.cons x (xs ++ (a ∷ [])) ∙ rw (snoc xs a, e.cons x xs) (sym (append_assoc (bytes x) (all xs) (bytes a)))

  -- before the loop
  pub begun : (l : List ℕ) (at : ℕ) (xs : List A) → Puts l at (w * 0) (all (take 0 xs)) at l
  begun l at xs = rw (e.nil, mul-zero w) (none l at)

  -- a value more
  pub one_more : (d : A) (xs : List A) {l m o : List ℕ} {at i j k : ℕ} → at ≤ length l → i < length xs
      → Puts l at (w * i) (all (take i xs)) j m → Puts m j w (bytes (get_or xs i d)) k o → Puts l at (w * (i + 1)) (all (take (i + 1) xs)) k o
  one_more d xs {i = i} h g p q = rw (add-one i, take-suc xs i d g, snoc (take i xs) (get_or xs i d), mul-suc w i) (joined h p q)

  -- after the loop
  pub ended : (xs : List A) {l o : List ℕ} {at i k : ℕ} → i ≡ length xs → Puts l at (w * i) (all (take i xs)) k o → Puts l at (w * length xs) (all xs) k o
  ended xs h p = rw (h, take_all (length xs) xs (omega arith)) at p

-- a value more has room, where all have
pub room : (w : ℕ) {i n : ℕ} → i < n → w * i + w ≤ w * n
room w {i} {n} h = grind arith

-- ---- the three of them

pub fixed : Encoding 4 (λ z. be32 (twos_complement32 z)) s15_fixed_16s
unfolding s15_fixed_16s
fixed = record { nil = refl; cons = λ z zs. refl }

pub words : Encoding 2 be16 uint16s
unfolding uint16s
words = record { nil = refl; cons = λ n ns. refl }

pub letters : Encoding 2 (λ c. 0 ∷ c ∷ []) utf16
unfolding utf16
letters = record { nil = refl; cons = λ c t. refl }
