-- What a check that passed tells: of one after another, and of each member of a list. Assumes nothing.
use Rattle.std.specs.Prelude.{ℕ, suc, ◌≡◌, refl, Bool, true, false, cond, List, [], ◌∷◌, length}
use Rattle.std.proofs.Common.{sym, ap, ◌∙◌, arith}
use Rattle.buffer.specs.All.{All, none, more}
use Rattle.buffer.specs.Checked.{Checked, is, refused, then, each}

-- a check that passed, with what it gave
pub record Passes {A : Type 0} (c : Checked A) : Type 0 where
  pub value : A
  pub given : c ≡ is value

-- two checks that passed, the second after the first
pub record Both {A B : Type 0} (c : Checked A) (f : A → Checked B) (b : B) : Type 0 where
  pub value : A
  pub first : c ≡ is value
  pub second : f value ≡ is b

pub never : {A : Type 0} {n : ℕ} {a : A} → refused n ≡ is a → ⊥
never e = let zero_one : ◌≡◌ {A = ℕ} 0 1 = cc in omega arith

pub both : {A B : Type 0} (c : Checked A) (f : A → Checked B) {b : B} → then c f ≡ is b → Both c f b
both (is a) f e = record { value = a; first = refl; second = e }
both (refused n) f e = absurd (never e)

pub then_assoc : {A B C : Type 0} (c : Checked A) (f : A → Checked B) (g : B → Checked C) → then (then c f) g ≡ then c (λ a. then (f a) g)
then_assoc (is a) f g = refl
then_assoc (refused n) f g = refl

module _ {A B : Type 0} (f : A → Checked B) where
  pub each_cons : (x : A) (xs : List A) {y : B} {ys : List B} → f x ≡ is y → each f xs ≡ is ys → each f (x ∷ xs) ≡ is (y ∷ ys)
  each_cons x xs h g = rw (h, g)

  pub each_length : (xs : List A) (ys : List B) → each f xs ≡ is ys → length ys ≡ length xs
  each_length [] ys e = let none : ys ≡ [] = cc in ap length none
  each_length (x ∷ xs) ys e =
      let p = both (f x) _ e in
      let q = both (each f xs) _ p.second in
      let same : p.value ∷ q.value ≡ ys = cc q.second in
      ap length (sym same) ∙ ap suc (each_length xs q.value q.first)

  pub each_all : (P : B → Type 0) → ((x : A) (y : B) → f x ≡ is y → P y) → (xs : List A) (ys : List B) → each f xs ≡ is ys → All P ys
  each_all P h [] ys e = let same : [] ≡ ys = cc in rw (← same) none
  each_all P h (x ∷ xs) ys e =
      let p = both (f x) _ e in
      let q = both (each f xs) _ p.second in
      let same : p.value ∷ q.value ≡ ys = cc q.second in
      rw (← same) (more (h x p.value p.first) (each_all P h xs q.value q.first))

-- ---- with which numbers a check refuses

-- where it refuses, the number has P
abbrev pub Refusing : {A : Type 0} → (ℕ → Type 0) → Checked A → Type 0
Refusing P (is a) = Unit {0}
Refusing P (refused n) = P n

module _ (P : ℕ → Type 0) where
  pub refusing : {A : Type 0} {c : Checked A} {n : ℕ} → Refusing P c → c ≡ refused n → P n
  refusing r e = rw e at r

  pub by_then : {A B : Type 0} (c : Checked A) (f : A → Checked B) → Refusing P c → ((a : A) → Refusing P (f a)) → Refusing P (then c f)
  by_then (is a) f n m = m a
  by_then (refused k) f n m = n

  pub by_cond : {A : Type 0} (b : Bool) (c d : Checked A) → Refusing P c → Refusing P d → Refusing P (cond b c d)
  by_cond true c d p q = p
  by_cond false c d p q = q
