-- A value, or the first number of the refusal list that applies. Assumes nothing.
use Rattle.std.specs.Prelude.{ℕ, List, [], ◌∷◌}

pub data Checked (A : Type 0) : Type 0 where
  is : A → Checked A
  refused : ℕ → Checked A

-- the value, or the other one where it is refused
abbrev pub value_or : {A : Type 0} → A → Checked A → A
value_or other (is a) = a
value_or other (refused n) = other

-- one check after another
abbrev pub then : {A B : Type 0} → Checked A → (A → Checked B) → Checked B
then (is a) f = f a
then (refused n) f = refused n

-- each member of a list in turn
abbrev pub each : {A B : Type 0} → (A → Checked B) → List A → Checked (List B)
each f [] = is []
each f (x ∷ xs) = then (f x) (λ y. then (each f xs) (λ ys. is (y ∷ ys)))
