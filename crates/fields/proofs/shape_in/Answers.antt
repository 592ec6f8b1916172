-- By the case of the kind.
use mathlib.Core.Path.{◌∙◌}
use Rattle.reader_spec.specs.PlanIn.{shape_from}
use Rattle.reader_spec.specs.LinesLaws.{length-entries}
use Rattle.fields.proofs.shape_in.Goals as goal

pub returns-in-Gray : goal.returns-in-Gray
unfolding shape_from
returns-in-Gray c =
    c.shape_by_sizes.ensures
    ∙ rw (
      c.in-Gray.is,
      length-entries c.args.file.now,
      c.gray_curve_line.ensures,
      c.tag_count-adapted.ensures,
    )

pub returns-in-Rgb : goal.returns-in-Rgb
unfolding shape_from
returns-in-Rgb c =
    c.shape_by_sizes-in-Rgb.ensures
    ∙ rw (
      c.in-Rgb.is,
      length-entries c.args.file.now,
      c.red_line.ensures.0,
      c.tag_count-cicp.ensures,
    )

pub returns-in-Xyb : goal.returns-in-Xyb
unfolding shape_from
returns-in-Xyb c = rw c.in-Xyb.is
