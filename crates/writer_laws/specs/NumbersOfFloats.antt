-- The floats of order 5 of 02 are those of the file: their fixed numbers are, in order, all those that stand in the elements of an accepted encoding's
-- plan. So they are as many as the file has, and no more can be rounded. Assumes nothing.
use Rattle.std.specs.Prelude.{◌≤◌, ◌≡◌, Bool, map, length}
use Rattle.std.proofs.Common.{sym, ap, ◌∙◌, arith}
use Rattle.std.proofs.lemmas.List.{length-map}
use Rattle.buffer.specs.Checked.{is}
use Rattle.numbers.specs.Fixed.{fixed_number}
use Rattle.numbers.specs.Rounded.{rounded_in}
use Rattle.numbers.specs.RoundedLaws.{rounded_in_most}
use Rattle.color_encoding.specs.declared.JxlColorEncoding.{JxlColorEncoding}
use Rattle.profile.specs.Plan.{Plan}
use Rattle.encoding_plan.specs.PlanOf.{color_plan}
use Rattle.encoding_plan.specs.FixedFloats.{color_floats}
use Rattle.writer_laws.specs.FileNumbers.{fixed_numbers, number_count}
use Rattle.writer_laws.specs.FileNumbersLaws.{number_count_lem, file_numbers}

module _ (a : Bool) (e : JxlColorEncoding) {p : Plan} (h : color_plan a e ≡ is p) where
  pub numbers_of_floats : map fixed_number (color_floats a e) ≡ fixed_numbers p.content
  numbers_of_floats = (file_numbers a e h).0

  pub how_many : length (color_floats a e) ≡ number_count p.content
  how_many = sym (length-map (color_floats a e) fixed_number) ∙ ap length numbers_of_floats ∙ number_count_lem p.content (file_numbers a e h).1

  pub most_rounded : rounded_in (color_floats a e) ≤ number_count p.content
  most_rounded = omega (arith, rounded_in_most (color_floats a e), how_many)
