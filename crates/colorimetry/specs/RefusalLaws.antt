-- With which numbers the definitions refuse. Assumes nothing.
use Rattle.std.specs.Prelude.{ℕ}
use Rattle.std.specs.Float.Ieee.{lt}
use Rattle.floats.specs.Abs.{abs}
use Rattle.matrix_inverse.specs.Inverse.{singular}
use Rattle.color_encoding.specs.declared.WhiteXy.{WhiteXy}
use Rattle.color_encoding.specs.declared.PrimariesXy.{PrimariesXy}
use Rattle.buffer.specs.CheckedLaws.{Refusing, by_then, by_cond}
use Rattle.color_encoding.specs.Range.{in_range}
use Rattle.white_point.specs.White.{white_xyz, finite_xyz}
use Rattle.white_point.specs.GrayWhite.{epsilon, cie_xyz_from_white_cie_xy}
use Rattle.adaptation.specs.Adapt.{adaptable, adapt_to_xyz_d50, chad_matrix}
use Rattle.colorimetry.specs.Primaries.{primaries_matrix, primaries_to_xyz, primaries_to_xyz_d50, create_icc_rgb_matrix}

module _ (P : ℕ → Type 0) where
  pub by_white : P 3 → (w : WhiteXy) → Refusing P (cie_xyz_from_white_cie_xy w)
  unfolding cie_xyz_from_white_cie_xy
  by_white three w = by_cond P (lt (abs w.wy) epsilon) _ _ three tt

  module _ (four : P 4) (w : WhiteXy) where
    by_adaptation : Refusing P (adapt_to_xyz_d50 w)
    unfolding adapt_to_xyz_d50
    by_adaptation = by_cond P (adaptable w) _ _ tt four

    pub by_chad : Refusing P (chad_matrix w)
    unfolding chad_matrix
    by_chad = by_then P (adapt_to_xyz_d50 w) _ by_adaptation (λ m. tt)

    module _ (six : P 6) (p : PrimariesXy) where
      by_primaries : Refusing P (primaries_to_xyz p w)
      unfolding primaries_to_xyz
      by_primaries = by_cond P (in_range w) _ _ (by_cond P (singular (primaries_matrix p)) _ _ six (by_cond P (finite_xyz (white_xyz w)) _ _ tt four)) four

      by_primaries_d50 : Refusing P (primaries_to_xyz_d50 p w)
      unfolding primaries_to_xyz_d50
      by_primaries_d50 = by_then P (primaries_to_xyz p w) _ by_primaries (λ m. by_then P (adapt_to_xyz_d50 w) _ by_adaptation (λ a. tt))

      pub by_rgb_matrix : Refusing P (create_icc_rgb_matrix p w)
      unfolding create_icc_rgb_matrix
      by_rgb_matrix = by_then P (primaries_to_xyz_d50 p w) _ by_primaries_d50 (λ m. tt)
