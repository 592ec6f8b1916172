-- The list of each kind and its flag: the laws `fits`, `room` and `puts_table`.
-- Assumes nothing.
use Rattle.std.proofs.Common.{◌∙◌, true, false}
use Rattle.tag_table.specs.PlacesLaws.{fits, room, puts_table, gray_told, rgb_told, xyb_told}
use Rattle.tag_table.proofs.put_table.Goals as goal

pub put_lines-requires : goal.put_lines-requires
put_lines-requires c =
    let e = c.adapted_gray_tags.ensures ∙ gray_told c.args.shape true c.in-Gray.is c.if-shape.true in
    (fits c.args.shape e c.requires.0, room c.args.shape e c.requires.1)

pub put_lines-requires-in-Gray-2 : goal.put_lines-requires-in-Gray-2
put_lines-requires-in-Gray-2 c =
    let e = c.own_white_gray_tags.ensures ∙ gray_told c.args.shape false c.in-Gray-2.is c.if-shape.false in
    (fits c.args.shape e c.requires.0, room c.args.shape e c.requires.1)

pub put_lines-requires-in-Rgb : goal.put_lines-requires-in-Rgb
put_lines-requires-in-Rgb c =
    let e = c.cicp_rgb_tags.ensures ∙ rgb_told c.args.shape true c.in-Rgb.is c.if-shape-2.true in
    (fits c.args.shape e c.requires.0, room c.args.shape e c.requires.1)

pub put_lines-requires-in-Rgb-2 : goal.put_lines-requires-in-Rgb-2
put_lines-requires-in-Rgb-2 c =
    let e = c.plain_rgb_tags.ensures ∙ rgb_told c.args.shape false c.in-Rgb-2.is c.if-shape-2.false in
    (fits c.args.shape e c.requires.0, room c.args.shape e c.requires.1)

pub put_lines-requires-in-Xyb : goal.put_lines-requires-in-Xyb
put_lines-requires-in-Xyb c =
    let e = c.xyb_tags.ensures ∙ xyb_told c.args.shape c.in-Xyb.is in
    (fits c.args.shape e c.requires.0, room c.args.shape e c.requires.1)

pub returns-in-Gray : goal.returns-in-Gray
returns-in-Gray c = puts_table c.args.shape (c.adapted_gray_tags.ensures ∙ gray_told c.args.shape true c.in-Gray.is c.if-shape.true) c.put_lines.ensures

pub returns-in-Gray-2 : goal.returns-in-Gray-2
returns-in-Gray-2 c = puts_table c.args.shape (c.own_white_gray_tags.ensures ∙ gray_told c.args.shape false c.in-Gray-2.is c.if-shape.false) c.put_lines-in-Gray-2.ensures

pub returns-in-Rgb : goal.returns-in-Rgb
returns-in-Rgb c = puts_table c.args.shape (c.cicp_rgb_tags.ensures ∙ rgb_told c.args.shape true c.in-Rgb.is c.if-shape-2.true) c.put_lines-in-Rgb.ensures

pub returns-in-Rgb-2 : goal.returns-in-Rgb-2
returns-in-Rgb-2 c = puts_table c.args.shape (c.plain_rgb_tags.ensures ∙ rgb_told c.args.shape false c.in-Rgb-2.is c.if-shape-2.false) c.put_lines-in-Rgb-2.ensures

pub returns-in-Xyb : goal.returns-in-Xyb
returns-in-Xyb c = puts_table c.args.shape (c.xyb_tags.ensures ∙ xyb_told c.args.shape c.in-Xyb.is) c.put_lines-in-Xyb.ensures
