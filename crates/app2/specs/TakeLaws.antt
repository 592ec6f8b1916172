-- The first bytes of lists. Assumes nothing.
use Rattle.std.specs.Prelude.{ℕ, zero, suc, ◌-◌, ◌≤◌, min, ◌≡◌, List, [], ◌∷◌, ◌++◌, length, take}
use Rattle.std.proofs.Common.{ap, ◌∙◌, arith, length-take, take_all, take-take}
use Rattle.std.proofs.Math.Decide.{dec_le}

-- of two lists in a row
pub take-append : (n : ℕ) (a b : List ℕ) → take n (a ++ b) ≡ take n a ++ take (n - length a) b
take-append zero a b = let e : 0 ≡ 0 - length a = omega arith in ap (λ (k : ℕ). take k b) e
take-append (suc n) [] b = let e : suc n ≡ suc n - 0 = omega arith in ap (λ (k : ℕ). take k b) e
take-append (suc n) (x ∷ a) b =
    let e : n - length a ≡ suc n - suc (length a) = omega arith in
    ap (λ (l : List ℕ). x ∷ l) (take-append n a b ∙ ap (λ (k : ℕ). take n a ++ take k b) e)

-- of first bytes
pub take_min : (m n : ℕ) (l : List ℕ) → take m (take n l) ≡ take (min n m) l
take_min m n l = go (dec_le m n)
  where
    go : Dec (m ≤ n) → take m (take n l) ≡ take (min n m) l
    go (yes h) = let e : m ≡ min n m = omega arith in take-take m n l h ∙ ap (λ (k : ℕ). take k l) e
    go (no h) = let e : n ≡ min n m = omega arith in take_all m (take n l) (omega (arith, length-take n l)) ∙ ap (λ (k : ℕ). take k l) e
