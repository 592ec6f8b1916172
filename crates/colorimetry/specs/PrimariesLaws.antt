-- What the conversion gives where it is not refused, and where it is. Assumes nothing.
use Rattle.std.specs.Prelude.{◌≡◌, true, false}
use Rattle.buffer.specs.Checked.{is, refused}
use Rattle.linalg.specs.Linalg.{product}
use Rattle.matrix_inverse.specs.Inverse.{singular}
use Rattle.icc_matrix.specs.Narrowed.{narrowed}
use Rattle.color_encoding.specs.declared.WhiteXy.{WhiteXy}
use Rattle.color_encoding.specs.declared.PrimariesXy.{PrimariesXy}
use Rattle.white_point.specs.White.{white_xyz}
use Rattle.adaptation.specs.Adapt.{gains, adaptable, adaptation_matrix, adapt_to_xyz_d50}
use Rattle.adaptation.specs.AdaptLaws.{adaptable_in_range, adaptable_finite}
use Rattle.colorimetry.specs.Primaries.{primaries_matrix, scaled_primaries, primaries_to_xyz, primaries_to_xyz_d50, create_icc_rgb_matrix}

-- under a white that is adapted, the conversion is refused for its primaries only
module _ (w : WhiteXy) (p : PrimariesXy) (ok : adaptable w ≡ true) where
  pub matrix_given : singular (primaries_matrix p) ≡ false
      → create_icc_rgb_matrix p w ≡ is (narrowed (product (adaptation_matrix (gains w)) (scaled_primaries (primaries_matrix p) (white_xyz w))))
  unfolding create_icc_rgb_matrix primaries_to_xyz_d50 primaries_to_xyz adapt_to_xyz_d50
  matrix_given h = simp (adaptable_in_range w ok, h, adaptable_finite w ok, ok)

  pub matrix_refused : singular (primaries_matrix p) ≡ true → create_icc_rgb_matrix p w ≡ refused 6
  unfolding create_icc_rgb_matrix primaries_to_xyz_d50 primaries_to_xyz
  matrix_refused h = simp (adaptable_in_range w ok, h)
