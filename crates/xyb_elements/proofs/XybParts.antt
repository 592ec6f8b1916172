-- The M curves from the parts that the code puts. Assumes nothing.
use mathlib.Core.Path.{◌≡◌, ap, sym}
use mathlib.Core.List.{List, [], ◌∷◌}
use native.Mathlib.Omega.{arith}
use lib.ListN.{take, drop, length-drop}
use lib.Seq.{take_all}
use lib.IntN.{ℤ}
use Rattle.xyb_constants.proofs.XybNumbersLaws.{length-m_curves}
use Rattle.xyb_constants.specs.XybNumbers as XybNumbers
use Rattle.profile.specs.TagTypes.{join, para}
use Rattle.profile.specs.Xyb

pub m_curves_lem : (ns : List ℤ) → ns ≡ XybNumbers.m_curves → Xyb.m_curves ≡ join (para 3 (take 5 ns) ∷ para 3 (take 5 (drop 5 ns)) ∷ para 3 (take 5 (drop 10 ns)) ∷ [])
unfolding Xyb.m_curves
m_curves_lem ns e =
    rw e (ap (λ (l : List ℤ). join (para 3 (take 5 XybNumbers.m_curves) ∷ para 3 (take 5 (drop 5 XybNumbers.m_curves)) ∷ para 3 l ∷ []))
    (sym (take_all 5 (drop 10 XybNumbers.m_curves) (simp length-drop (omega (arith, length-m_curves))))))
