-- A text taken apart from its front: what was found there, and the rest. Assumes nothing.
use Rattle.std.specs.Prelude.{ℕ, Bool, true, false, cond, ◌&&◌, List, [], ◌∷◌, eqb, length, drop}

pub data Found (A : Type 0) : Type 0 where
  nothing : Found A
  found : A → List ℕ → Found A

-- what was found, and then what is found in the rest
abbrev pub and_then : {A B : Type 0} → Found A → (A → List ℕ → Found B) → Found B
and_then nothing g = nothing
and_then (found a r) g = g a r

-- the first of two that was found
abbrev pub or_else : {A : Type 0} → Found A → Found A → Found A
or_else nothing y = y
or_else (found a r) y = found a r

-- f of what was found
abbrev pub mapped : {A B : Type 0} → (A → B) → Found A → Found B
mapped f x = and_then x (λ a. found (f a))

-- whether a text starts with these letters
abbrev pub starts_with : List ℕ → List ℕ → Bool
starts_with [] l = true
starts_with (c ∷ letters) [] = false
starts_with (c ∷ letters) (d ∷ l) = eqb c d && starts_with letters l

-- letters, and then what f finds
abbrev pub after : {A : Type 0} → List ℕ → (List ℕ → Found A) → List ℕ → Found A
after letters f l = cond (starts_with letters l) (f (drop (length letters) l)) nothing

-- what f finds, a separator, what g finds
abbrev pub joined : {A B : Type 0} → (List ℕ → Found A) → List ℕ → (List ℕ → Found B) → List ℕ → Found (A × B)
joined f separator g l = and_then (f l) (λ a m. mapped (λ b. (a, b)) (after separator g m))

-- the first of some values whose name stands in front
abbrev pub any_of : {A : Type 0} → (A → List ℕ) → List A → List ℕ → Found A
any_of name [] l = nothing
any_of name (a ∷ rest) l = or_else (after (name a) (found a) l) (any_of name rest l)
