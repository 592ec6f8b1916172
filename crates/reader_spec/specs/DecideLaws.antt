-- What is decided holds, or does not. Assumes nothing.
use Rattle.std.specs.Prelude.{ℕ, ◌≡◌, Bool, List}
use Rattle.std.proofs.Math.Path.{refl}
use Rattle.std.proofs.Common.{sym, ◌∙◌, true≢false}
use Rattle.std.proofs.Math.Bool.{true, false}
use Rattle.buffer.specs.Bytes.{same}
use Rattle.buffer.specs.BytesLaws.{same_if, same_of}
use Rattle.reader_spec.specs.Decide.{decided}

module _ {A : Type 0} (d : Dec A) where
  pub decided_yes : A → decided d ≡ true
  unfolding decided
  decided_yes a = go d
    where
      go : (d : Dec A) → decided d ≡ true
      go (yes b) = refl
      go (no h) = absurd (h a)

  pub decided_no : ¬ A → decided d ≡ false
  unfolding decided
  decided_no n = go d
    where
      go : (d : Dec A) → decided d ≡ false
      go (yes b) = absurd (n b)
      go (no h) = refl

  pub decided_if : decided d ≡ true → A
  unfolding decided
  decided_if e = go d e
    where
      go : (d : Dec A) → decided d ≡ true → A
      go (yes b) e = b
      go (no h) e = absurd (true≢false (sym e))

  pub decided_not : decided d ≡ false → ¬ A
  decided_not e a = true≢false (sym (decided_yes a) ∙ e)

  -- by a test
  pub decided_test : (b : Bool) → (b ≡ true → A) → (A → b ≡ true) → b ≡ decided d
  decided_test true to from = sym (decided_yes (to refl))
  decided_test false to from = sym (decided_no (λ h. true≢false (sym (from h))))

  -- by a comparison of bytes
  pub decided_same : (a b : List ℕ) → (a ≡ b → A) → (A → a ≡ b) → same a b ≡ decided d
  decided_same a b to from = decided_test (same a b) (λ e. to (same_if a b e)) (λ h. same_of (from h))
