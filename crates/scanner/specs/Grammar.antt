-- How the texts of a language are made of shorter ones. A language relates values to texts: `F a text` says that the text stands for a.
-- Assumes nothing.
use Rattle.std.specs.Prelude.{ℕ, ◌≡◌, List, ◌++◌}

-- letters, and then a text of F
pub record Headed {A : Type 0} (letters : List ℕ) (F : A → List ℕ → Type 0) (a : A) (text : List ℕ) : Type 0 where
  pub tail : List ℕ
  pub is : F a tail
  pub split : text ≡ letters ++ tail

-- a text of F, a separator, a text of G
pub record Joined {A B : Type 0} (F : A → List ℕ → Type 0) (separator : List ℕ) (G : B → List ℕ → Type 0) (p : A × B) (text : List ℕ) : Type 0 where
  pub first : List ℕ
  pub second : List ℕ
  pub is_first : F p.0 first
  pub is_second : G p.1 second
  pub split : text ≡ first ++ separator ++ second
