-- There is one first check that fails, and none where all pass. Assumes nothing.
use Rattle.std.specs.Prelude.{◌≡◌, refl, List}
use Rattle.buffer.specs.All.{All, none, more}
use Rattle.buffer.specs.First.{First, fails, later}

module _ {C : Type 0} {Passed : C → Type 0} where
  pub first_unique : {cs : List C} {c d : C} → First Passed cs c → First Passed cs d → c ≡ d
  first_unique (fails h) (fails k) = refl
  first_unique (fails h) (later k s) = absurd (h k)
  first_unique (later h s) (fails k) = absurd (k h)
  first_unique (later h s) (later k t) = first_unique s t

  pub first_not_all : {cs : List C} {c : C} → First Passed cs c → All Passed cs → ⊥
  first_not_all (fails h) (more k p) = h k
  first_not_all (later h s) (more k p) = first_not_all s p

  pub first_fails : {cs : List C} {c : C} → First Passed cs c → Passed c → ⊥
  first_fails (fails h) p = h p
  first_fails (later k s) p = first_fails s p
