-- What stands at a place of a text. Assumes nothing.
use Rattle.std.specs.Prelude.{ℕ, suc, ◌+◌, ◌≤◌, ◌<◌, ◌≡◌, refl, Bool, true, false, cond, ◌&&◌, List, [], ◌∷◌, eqb, Some, None, length, drop}
use Rattle.std.proofs.Common.{arith, sym, ap, ◌∙◌, ne_eqb, length-drop, drop_of_length-le, drop-drop}
use Rattle.std.specs.List.{starts_with as std_starts_with}
use Rattle.buffer.specs.BoolLaws.{holds, both_right}
use Rattle.scanner.specs.Scan.{Found, nothing, starts_with, after}
use Rattle.scanner.specs.Places.{behind}

-- ---- places

pub drop-next : (n : ℕ) (l : List ℕ) → drop 1 (drop n l) ≡ drop (n + 1) l
drop-next n l = drop-drop 1 n l

-- ---- letters at a place

-- where letters stand, the text goes on
starts_within : (n l : List ℕ) → starts_with n l ≡ true → length n ≤ length l
starts_within [] l e = omega arith
starts_within (c ∷ n) [] e = absurd (holds e)
starts_within (c ∷ n) (d ∷ l) e = let g : length n ≤ length l = starts_within n l (both_right (eqb c d) (starts_with n l) e) in omega arith

-- the letters that stand at a place lie within the text
pub letters_within : (n : List ℕ) (at : ℕ) (text : List ℕ) → 0 < length n → starts_with n (drop at text) ≡ true → at + length n ≤ length text
letters_within n at text p e =
    let g = starts_within n (drop at text) e in
    let is = length-drop at text in
    omega arith

-- so the place after them is no larger than the text is long, or the place itself
pub letters_end : (n : List ℕ) (at : ℕ) (text : List ℕ) (k : ℕ) → at < k → length text < k → starts_with n (drop at text) ≡ true → at + length n < k
letters_end [] at text k h g e = omega arith
letters_end (c ∷ n) at text k h g e = let p : 0 < length (c ∷ n) = omega arith in let in_text = letters_within (c ∷ n) at text p e in omega arith

-- no letters stand anywhere, also past the end
pub starts_none : (n : List ℕ) (at : ℕ) (text : List ℕ) → length text < at → eqb (length n) 0 ≡ starts_with n (drop at text)
starts_none n at text h = go n ∙ ap (starts_with n) (sym (drop_of_length-le text {i = at} (omega arith)))
  where
    go : (n : List ℕ) → eqb (length n) 0 ≡ starts_with n []
    go [] = refl
    go (c ∷ n) = ne_eqb (suc (length n)) 0 (some (length n))
      where
        some : (k : ℕ) → suc k ≡ 0 → ⊥
        some k e = omega arith

-- as the library tests it
pub starts_same : (n l : List ℕ) → std_starts_with eqb l n ≡ starts_with n l
starts_same [] l = refl
starts_same (c ∷ n) [] = refl
starts_same (c ∷ n) (d ∷ l) = ap (λ (t : Bool). eqb c d && t) (starts_same n l)

-- ---- behind letters

module _ (n l : List ℕ) {A : Type 0} (f : List ℕ → Found A) where
  pub after_some : {m : List ℕ} → Some m ≡ behind n l → after n f l ≡ f m
  after_some {m} = go (starts_with n l)
    where
      go : (t : Bool) → Some m ≡ cond t (Some (drop (length n) l)) None → cond t (f (drop (length n) l)) nothing ≡ f m
      go true e = cc
      go false e = cc

  pub after_none : None ≡ behind n l → after n f l ≡ nothing
  after_none = go (starts_with n l)
    where
      go : (t : Bool) → None ≡ cond t (Some (drop (length n) l)) None → cond t (f (drop (length n) l)) nothing ≡ nothing
      go true e = cc
      go false e = refl
