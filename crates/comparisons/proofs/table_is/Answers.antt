-- Each test is a part of check 25 (`Tables`).
use mathlib.Core.Path.{sym, ◌∙◌}
use mathlib.Core.Bool.{true≢false}
use Rattle.profile.specs.Shape.{GoodShape}
use Rattle.reader_spec.specs.Decide as Decide
use Rattle.reader_spec.specs.DecideLaws.{decided_no}
use Rattle.comparisons.proofs.Tables.{table_decided}
use Rattle.comparisons.proofs.table_is.Goals.{Else-not-shape_is_good}
use Rattle.comparisons.proofs.table_is.Goals as goal

module _ (c : Else-not-shape_is_good) where
  good : GoodShape c.args.shape
  good = c.shape_is_good.ensures.0 (c.if-not-shape_is_good.false)

pub returns-then-not-shape_is_good : goal.returns-then-not-shape_is_good
returns-then-not-shape_is_good c =
    let test = c.shape_is_good in
    sym (decided_no (Decide.table_is c.args.shape c.args.file.now) (λ t. true≢false (sym (test.ensures.1 t.good) ∙ c.if-not-shape_is_good.true)))

pub returns-then-file-length : goal.returns-then-file-length
returns-then-file-length c =
    let s = c.args in
    sym (decided_no (Decide.table_is s.shape s.file.now) (λ t. c.if-file-length.true (t.length-is ∙ sym c.length.ensures)))

pub returns : goal.returns
returns c =
    c.same_table.ensures ∙ table_decided c.args.shape c.args.file.now c.requires (good (goal.at.returns c).Else-not-shape_is_good) (c.if-file-length.false ∙ c.length.ensures)
