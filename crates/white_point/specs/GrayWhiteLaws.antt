-- What the white of gray is where it is not refused, and where it is. Assumes nothing.
use Rattle.std.specs.Prelude.{◌≡◌, Bool, true, false, List, [], ◌∷◌, refl, Float}
use Rattle.std.proofs.Common.{sym, ◌∙◌}
use Rattle.std.specs.Float.Ieee.{lt}
use Rattle.floats.specs.Abs.{abs}
use Rattle.floats.specs.Binary32.{◌⊖◌, ◌⊗◌, ◌⊘◌, one}
use Rattle.linalg.specs.Linalg.{component}
use Rattle.buffer.specs.Checked.{is, refused}
use Rattle.buffer.specs.CheckedLaws.{never}
use Rattle.color_encoding.specs.declared.WhiteXy.{WhiteXy}
use Rattle.white_point.specs.GrayWhite.{epsilon, cie_xyz_from_white_cie_xy}

module _ (w : WhiteXy) where
  pub white_given : lt (abs w.wy) epsilon ≡ false
      → cie_xyz_from_white_cie_xy w ≡ is (w.wx ⊗ (one ⊘ w.wy) ∷ one ∷ (one ⊖ w.wx ⊖ w.wy) ⊗ (one ⊘ w.wy) ∷ [])
  unfolding cie_xyz_from_white_cie_xy
  white_given h = simp h

  pub white_refused : lt (abs w.wy) epsilon ≡ true → cie_xyz_from_white_cie_xy w ≡ refused 3
  unfolding cie_xyz_from_white_cie_xy
  white_refused h = simp h

-- Y of a white is 1
pub gray_white_lem : (w : WhiteXy) {v : List Float} → cie_xyz_from_white_cie_xy w ≡ is v → v ≡ component v 0 ∷ one ∷ component v 2 ∷ []
gray_white_lem w {v} e = go (lt (abs w.wy) epsilon) refl
  where
    go : (b : Bool) → lt (abs w.wy) epsilon ≡ b → v ≡ component v 0 ∷ one ∷ component v 2 ∷ []
    go true h = absurd (never (sym (white_refused w h) ∙ e))
    go false h =
        let factor = one ⊘ w.wy in
        let given = white_given w h in
        let same : w.wx ⊗ factor ∷ one ∷ (one ⊖ w.wx ⊖ w.wy) ⊗ factor ∷ [] ≡ v = cc in
        rw (← same) refl
