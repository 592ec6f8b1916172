-- What holds of every member of a list holds of the lists made from it. Assumes nothing.
use Rattle.std.specs.Prelude.{ℕ, zero, suc, List, [], ◌∷◌, ◌++◌, map, take, drop, replicate}
use Rattle.buffer.specs.All.{All, none, more}

module _ {A : Type 0} {P : A → Type 0} where
  pub All-append : {a b : List A} → All P a → All P b → All P (a ++ b)
  All-append none q = q
  All-append (more h p) q = more h (All-append p q)

  pub All-take : (n : ℕ) {l : List A} → All P l → All P (take n l)
  All-take zero h = none
  All-take (suc n) none = none
  All-take (suc n) (more h hs) = more h (All-take n hs)

  pub All-drop : (n : ℕ) {l : List A} → All P l → All P (drop n l)
  All-drop zero h = h
  All-drop (suc n) none = none
  All-drop (suc n) (more h hs) = All-drop n hs

  pub All-replicate : (n : ℕ) (a : A) → P a → All P (replicate n a)
  All-replicate zero a h = none
  All-replicate (suc n) a h = more h (All-replicate n a h)

pub All-map : {A B : Type 0} {P : A → Type 0} {Q : B → Type 0} (f : A → B) {l : List A} → ((a : A) → P a → Q (f a)) → All P l → All Q (map f l)
All-map f h none = none
All-map f h (more {a = a} p ps) = more (h a p) (All-map f h ps)
