-- The chain's answer, `true` where each number is in range and `false` where one is not, is that of the recursion.
use Prim.Native.Nat.{ℕ, zero, suc, ◌<◌}
use mathlib.Core.Path.{◌≡◌, refl, sym}
use mathlib.Core.Bool.{Bool, true, false}
use mathlib.Core.List.{List, [], ◌∷◌}
use native.Mathlib.Omega.{arith}
use borrow.Author.Rules.{rules}
use lib.IntN.{ℤ, pos}
use lib.ListN.{length}
use Rattle.std.specs.Bool.{MatchBool}
use Rattle.std.specs.List.{AllWithin, HoldsAt}
use Rattle.std.proofs.lemmas.Iterator.{cases_from_all, YieldsList-from_slice}
use Rattle.buffer.specs.BoolLaws.{and_false}
use Rattle.reader_spec.specs.Tests.{in_range, all_in_range}
use Rattle.plan_checks.proofs.all_in_range.Goals as goal

abbrev Good : ℤ → Type 0
Good z = in_range z ≡ true

abbrev Bad : ℤ → Type 0
Bad z = in_range z ≡ false

good : (zs : List ℤ) → AllWithin Good zs 0 (length zs) → all_in_range zs ≡ true
unfolding all_in_range
good [] h = refl
good (z ∷ zs) h = rw (h 0 z (omega arith) (omega arith), good zs (λ k d low high. h (suc k) d (omega arith) (omega arith)))

bad : (zs : List ℤ) (k : ℕ) → k < length zs → HoldsAt Bad zs k → all_in_range zs ≡ false
unfolding all_in_range
bad [] k lt h = absurd (omega arith)
bad (z ∷ zs) zero lt h = rw (h (pos 0))
bad (z ∷ zs) (suc k) lt h = rw (bad zs k (omega arith) h) (and_false (in_range z))

answer : (r : Bool) (zs : List ℤ) → MatchBool r (AllWithin Good zs 0 (length zs)) ((k : ℕ) × (k < length zs) × HoldsAt Bad zs k) → r ≡ all_in_range zs
answer true zs h = sym (good zs h)
answer false zs h = sym (bad zs h.0 h.1 h.2)

pub returns : goal.returns
returns c =
    let zs = c.args.numbers.now in
    answer _ zs (cases_from_all _ _ _ Good Bad c.all.ensures.ran (YieldsList-from_slice zs (cc)) (λ x q k. search rules) (λ x q k. search rules))
