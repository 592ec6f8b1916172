-- `each` worked out member by member: what a loop over a list knows before turn k, and how it ends. Assumes nothing.
use Prim.Native.Nat.{ℕ, suc, ◌+◌, ◌<◌}
use mathlib.Core.Path.{◌≡◌, refl, sym, ap, ◌∙◌}
use mathlib.Core.List.{List, [], ◌∷◌, ◌++◌, append_assoc, append-nil}
use native.Mathlib.Numerals.{add-one}
use lib.ListN.{length, take, drop, get_or, set}
use lib.Seq.{drop-cons, take-suc-set, take-length, drop-length}
use Rattle.buffer.specs.Checked.{Checked, is, refused, then, each}

shift : {B : Type 0} (c : Checked (List B)) (a : List B) (y : B) → then (then c (λ zs. is (y ∷ zs))) (λ zs. is (a ++ zs)) ≡ then c (λ zs. is ((a ++ (y ∷ [])) ++ zs))
shift (is zs) a y = ap is (sym (append_assoc a (y ∷ []) zs))
shift (refused n) a y = refl

module _ {A B : Type 0} where
  -- the first k members of v have passed, and the first k of ys are what they gave
  pub record SoFar (f : A → Checked B) (v : List A) (k : ℕ) (ys : List B) : Type 0 where
    pub rest : each f v ≡ then (each f (drop k v)) (λ zs. is (take k ys ++ zs))

  pub none_yet : (f : A → Checked B) (v : List A) (ys : List B) → SoFar f v 0 ys
  none_yet f v ys = record { rest = same (each f v) }
    where
      same : (c : Checked (List B)) → c ≡ then c (λ zs. is zs)
      same (is zs) = refl
      same (refused n) = refl

  module _ {f : A → Checked B} {v : List A} {k : ℕ} {ys : List B} (s : SoFar f v k ys) where
    pub passed : (d : A) (y : B) → k < length v → k < length ys → f (get_or v k d) ≡ is y → SoFar f v (k + 1) (set ys k y)
    passed d y h g e = record { rest = rw (add-one k, take-suc-set ys k y g) (s.rest ∙ rw (drop-cons v k d h, e) (shift (each f (drop (suc k) v)) (take k ys) y)) }

    pub stopped : (d : A) (n : ℕ) → k < length v → f (get_or v k d) ≡ refused n → each f v ≡ refused n
    stopped d n h e = s.rest ∙ rw (drop-cons v k d h, e)

    pub all_passed : length v ≡ k → length ys ≡ k → each f v ≡ is ys
    all_passed h g =
        let none : drop k v ≡ [] = ap (λ (n : ℕ). drop n v) (sym h) ∙ drop-length v in
        let whole : take k ys ≡ ys = ap (λ (n : ℕ). take n ys) (sym g) ∙ take-length ys in
        s.rest ∙ rw (none, whole) (ap is (append-nil ys))
