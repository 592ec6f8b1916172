-- `same` is true exactly if the two lists are one. Assumes nothing.
use Rattle.std.specs.Prelude.{ℕ, zero, suc, ◌≡◌, refl, true, false, List, [], ◌∷◌, eqb}
use Rattle.std.proofs.Common.{ap, ap₂, sym, ◌∙◌, arith, eq-eqb, eqb→eq}
use Rattle.buffer.specs.BoolLaws.{holds, both_left, both_right}
use Rattle.buffer.specs.Bytes.{same}

pub same_if : (a b : List ℕ) → same a b ≡ true → a ≡ b
unfolding same
same_if [] [] e = refl
same_if [] (b ∷ m) e = let z : ◌≡◌ {A = ℕ} 0 1 = cc in absurd (omega arith)
same_if (a ∷ l) [] e = let z : ◌≡◌ {A = ℕ} 0 1 = cc in absurd (omega arith)
same_if (a ∷ l) (b ∷ m) e =
    ap₂ (λ (x : ℕ) (l : List ℕ). x ∷ l) (eqb→eq a b (holds (both_left (eqb a b) (same l m) e))) (same_if l m (both_right (eqb a b) (same l m) e))

same_self : (a : List ℕ) → same a a ≡ true
unfolding same
same_self [] = refl
same_self (a ∷ l) = rw (eq-eqb a a refl) (same_self l)

pub same_of : {a b : List ℕ} → a ≡ b → same a b ≡ true
same_of {a} e = ap (same a) (sym e) ∙ same_self a
