-- What the adaptation gives where it is not refused, and where it is. Assumes nothing.
use Rattle.std.specs.Prelude.{◌≡◌, refl, Bool, true, false, List, Float}
use Rattle.std.proofs.Common.{sym, ◌∙◌}
use Rattle.buffer.specs.BoolLaws.{both_left, both_right}
use Rattle.buffer.specs.Checked.{is, refused}
use Rattle.buffer.specs.CheckedLaws.{never}
use Rattle.color_encoding.specs.declared.WhiteXy.{WhiteXy}
use Rattle.color_encoding.specs.Range.{in_range}
use Rattle.white_point.specs.White.{white_xyz, finite_xyz}
use Rattle.icc_matrix.specs.Narrowed.{narrowed}
use Rattle.adaptation.specs.Adapt.{gains, adaptable, adaptation_matrix, adapt_to_xyz_d50, chad_matrix}

module _ (w : WhiteXy) where
  pub chad_given : adaptable w ≡ true → chad_matrix w ≡ is (narrowed (adaptation_matrix (gains w)))
  unfolding adapt_to_xyz_d50 chad_matrix
  chad_given h = simp h

  pub chad_refused : adaptable w ≡ false → chad_matrix w ≡ refused 4
  unfolding adapt_to_xyz_d50 chad_matrix
  chad_refused h = simp h

  pub adaptable_in_range : adaptable w ≡ true → in_range w ≡ true
  unfolding adaptable
  adaptable_in_range h = both_left _ _ (both_left _ _ (both_left _ _ h))

  pub adaptable_finite : adaptable w ≡ true → finite_xyz (white_xyz w) ≡ true
  unfolding adaptable
  adaptable_finite h = both_right (in_range w) _ (both_left _ _ (both_left _ _ h))

  -- a white that is adapted lies in its range
  pub adapted_in_range : {m : List (List Float)} → chad_matrix w ≡ is m → in_range w ≡ true
  adapted_in_range e = go (adaptable w) refl
    where
      go : (b : Bool) → adaptable w ≡ b → in_range w ≡ true
      go true h = adaptable_in_range h
      go false h = absurd (never (sym (chad_refused h) ∙ e))
