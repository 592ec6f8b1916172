-- What the reader answers by its tests: 23 or 24. Assumes nothing.
use Prim.Native.Nat.{ℕ}
use mathlib.Core.Path.{◌≡◌, sym, subst, ◌∙◌}
use mathlib.Core.Bool.{Bool, true, false, true≢false}
use mathlib.Core.List.{List}
use lib.ListN.{take}
use Rattle.buffer.specs.Bytes.{same}
use Rattle.buffer.specs.BytesLaws.{same_if, same_of}
use Rattle.profile.specs.Plan.{GoodIntent}
use Rattle.profile.specs.Layout.{header}
use Rattle.profile.specs.declared.Kind.{Kind}
use Rattle.reader_spec.specs.Table.{varying_of}
use Rattle.reader_spec.specs.RefusalList.{Header, refused, c23, c24}
use Rattle.reader_spec.specs.Read.{read}
use Rattle.reader_spec.specs.Steps.{Sized, Headed}
use Rattle.reader_spec.specs.StepsLaws.{read_23, read_24}

-- a file of a kind with the answer b of `header_is` and the intent i
pub record Tested (k : Kind) (f : List ℕ) (b : Bool) (i : ℕ) : Type 0 where
  pub sized : Sized k f
  pub test : b ≡ same (take 128 f) (header k (varying_of f))
  pub intent : i ≡ (varying_of f).intent

module _ {k : Kind} {f : List ℕ} {b : Bool} {i : ℕ} (t : Tested k f b i) where
  header_of : b ≡ true → Header k f
  unfolding Header
  header_of n = same_if _ _ (sym t.test ∙ n)

  pub headed : b ≡ true → GoodIntent i → Headed k f
  headed n g = record { sized = t.sized; header = header_of n; intent = subst GoodIntent t.intent g }

  pub answer_23 : b ≡ false → read f ≡ refused c23
  unfolding Header
  answer_23 n = read_23 k f t.sized (λ h. true≢false (sym (t.test ∙ same_of h) ∙ n))

  pub answer_24 : b ≡ true → ¬ (GoodIntent i) → read f ≡ refused c24
  answer_24 n g = read_24 k f t.sized (header_of n) (λ h. g (subst GoodIntent (sym t.intent) h))
