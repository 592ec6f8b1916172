-- Each number of the answer is the two's complement of the one at its place. Assumes nothing.
use Prim.Native.Nat.{ℕ, suc, ◌<◌}
use mathlib.Core.Path.{◌≡◌, refl, ap₂}
use mathlib.Core.List.{List, [], ◌∷◌, map}
use native.Mathlib.Omega.{arith}
use borrow.Author.Rules.{rules}
use lib.IntN.{ℤ, pos}
use lib.ListN.{length, get_or}
use Rattle.words.specs.Words.{twos_complement32}
use Rattle.plan_record.proofs.bits.Goals as goal

mapped : (xs : List ℤ) (ys : List ℕ) → length ys ≡ length xs → ((i : ℕ) → i < length xs → get_or ys i 0 ≡ twos_complement32 (get_or xs i (pos 0)))
    → ys ≡ map twos_complement32 xs
mapped [] [] e h = refl
mapped [] (y ∷ ys) e h = absurd (omega arith)
mapped (x ∷ xs) [] e h = absurd (omega arith)
mapped (x ∷ xs) (y ∷ ys) e h = ap₂ (λ (a : ℕ) (l : List ℕ). a ∷ l) (h 0 (omega arith)) (mapped xs ys (omega arith) (λ i k. h (suc i) (omega arith)))

pub returns : goal.returns
returns c =
    mapped c.args.values c.map.result (omega (arith, c.map.ensures.items.long)) (λ i k. let h = (c.map.ensures.items.at i (pos 0) 0 (omega arith)).2 in search rules)
