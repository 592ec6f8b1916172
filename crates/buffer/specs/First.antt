-- The first check of a list that something does not pass. Assumes nothing.
use Rattle.std.specs.Prelude.{List, ◌∷◌}

pub data First {C : Type 0} (Passed : C → Type 0) : List C → C → Type 0 where
  fails : {c : C} {cs : List C} → ¬ (Passed c) → First Passed (c ∷ cs) c
  later : {c d : C} {cs : List C} → Passed c → First Passed cs d → First Passed (c ∷ cs) d
