-- One number after another, by place. Assumes nothing.
use Prim.Native.Nat.{ℕ, zero, suc, ◌+◌, ◌*◌, ◌^◌, ◌<◌}
use mathlib.Core.Path.{◌≡◌, refl, ap, ◌∙◌}
use mathlib.Core.List.{List, [], ◌∷◌, ◌++◌}
use native.Mathlib.Omega.{arith}
use lib.IntN.{ℤ, pos}
use lib.Signed.{mag}
use lib.ListN.{length, drop, get_or}
use lib.Seq.{drop-drop}
use mir.Syntax.{w32}
use mir.Val.{SFits, to_z, of_z, hbits}
use mir.ValLaws.{to_z-of_z}
use borrow.Author.Rules.{sfits_of}
use Rattle.reader_spec.specs.PlanIn.{number_in, numbers_from, numbers_in}

-- a number that a call gave, as it is held
pub held : {z n : ℤ} → mag z < 2 ^ hbits w32 → z ≡ n → to_z w32 (of_z w32 z) ≡ n
held {z} h e = to_z-of_z w32 z (sfits_of h) ∙ e

pub numbers_snoc : (n : ℕ) (l : List ℕ) → numbers_from (suc n) l ≡ numbers_from n l ++ (number_in (drop (4 * n) l) ∷ [])
unfolding numbers_from
numbers_snoc zero l = refl
numbers_snoc (suc n) l =
    let next : 4 + 4 * n ≡ 4 * suc n = omega arith in
    ap (λ (zs : List ℤ). number_in l ∷ zs) (numbers_snoc n (drop 4 l) ∙ rw (drop-drop (4 * n) 4 l, next))

-- ---- the three numbers of an `XYZ ` element

pub three : (b : List ℕ) → numbers_in 3 b ≡ number_in (drop 8 b) ∷ number_in (drop 12 b) ∷ number_in (drop 16 b) ∷ []
unfolding numbers_from
three b = simp drop-drop

-- as they are read from an array
pub read_three : (l r : List ℤ) → length l ≡ 3 → ((i : ℕ) → SFits w32 (get_or l i (pos 0)))
    → to_z w32 (of_z w32 (get_or l 0 (pos 0))) ∷ to_z w32 (of_z w32 (get_or l 1 (pos 0))) ∷ to_z w32 (of_z w32 (get_or l 2 (pos 0))) ∷ r ≡ l ++ r
read_three (x ∷ y ∷ z ∷ []) r e h = λ j. to_z-of_z w32 x (h 0) j ∷ to_z-of_z w32 y (h 1) j ∷ to_z-of_z w32 z (h 2) j ∷ r
read_three [] r e h = absurd (omega arith)
read_three (x ∷ []) r e h = absurd (omega arith)
read_three (x ∷ y ∷ []) r e h = absurd (omega arith)
read_three (x ∷ y ∷ z ∷ w ∷ l) r e h = absurd (omega arith)
