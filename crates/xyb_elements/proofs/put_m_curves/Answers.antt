-- Three curves, one after another, of five numbers each: the laws `run` and `m_curves_lem`.
-- Assumes nothing.
use native.Mathlib.Omega.{arith}
use Rattle.profile.specs.RunsLaws.{next, done, run}
use Rattle.profile.specs.TagTypesLaws.{length-m_curves}
use Rattle.xyb_elements.proofs.XybParts.{m_curves_lem}
use Rattle.xyb_elements.proofs.put_m_curves.Goals as goal

pub returns : goal.returns
returns c =
    run _ _
    (next c.create_icc_curv_para_tag-at.ensures
    (next c.create_icc_curv_para_tag-at-2.ensures
    (next c.create_icc_curv_para_tag.ensures
    done))) (omega (arith, c.requires)) (m_curves_lem _ c.m_curves-values.ensures) length-m_curves
