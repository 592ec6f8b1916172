-- The list of each kind and its flag: the laws `fits`, `ends`.
-- Assumes nothing.
use Rattle.std.proofs.Common.{◌∙◌, true, false}
use Rattle.tag_table.specs.PlacesLaws.{fits, ends, gray_told, rgb_told, xyb_told}
use Rattle.tag_table.proofs.length.Goals as goal

pub end_of-requires : goal.end_of-requires
end_of-requires c = fits c.args.shape (c.adapted_gray_tags.ensures ∙ gray_told c.args.shape true c.in-Gray.is c.if-shape.true) c.requires

pub end_of-requires-in-Gray-2 : goal.end_of-requires-in-Gray-2
end_of-requires-in-Gray-2 c = fits c.args.shape (c.own_white_gray_tags.ensures ∙ gray_told c.args.shape false c.in-Gray-2.is c.if-shape.false) c.requires

pub end_of-requires-in-Rgb : goal.end_of-requires-in-Rgb
end_of-requires-in-Rgb c = fits c.args.shape (c.cicp_rgb_tags.ensures ∙ rgb_told c.args.shape true c.in-Rgb.is c.if-shape-2.true) c.requires

pub end_of-requires-in-Rgb-2 : goal.end_of-requires-in-Rgb-2
end_of-requires-in-Rgb-2 c = fits c.args.shape (c.plain_rgb_tags.ensures ∙ rgb_told c.args.shape false c.in-Rgb-2.is c.if-shape-2.false) c.requires

pub end_of-requires-in-Xyb : goal.end_of-requires-in-Xyb
end_of-requires-in-Xyb c = fits c.args.shape (c.xyb_tags.ensures ∙ xyb_told c.args.shape c.in-Xyb.is) c.requires

pub returns-in-Gray : goal.returns-in-Gray
returns-in-Gray c = ends c.args.shape (c.adapted_gray_tags.ensures ∙ gray_told c.args.shape true c.in-Gray.is c.if-shape.true) c.end_of.ensures

pub returns-in-Gray-2 : goal.returns-in-Gray-2
returns-in-Gray-2 c = ends c.args.shape (c.own_white_gray_tags.ensures ∙ gray_told c.args.shape false c.in-Gray-2.is c.if-shape.false) c.end_of-in-Gray-2.ensures

pub returns-in-Rgb : goal.returns-in-Rgb
returns-in-Rgb c = ends c.args.shape (c.cicp_rgb_tags.ensures ∙ rgb_told c.args.shape true c.in-Rgb.is c.if-shape-2.true) c.end_of-in-Rgb.ensures

pub returns-in-Rgb-2 : goal.returns-in-Rgb-2
returns-in-Rgb-2 c = ends c.args.shape (c.plain_rgb_tags.ensures ∙ rgb_told c.args.shape false c.in-Rgb-2.is c.if-shape-2.false) c.end_of-in-Rgb-2.ensures

pub returns-in-Xyb : goal.returns-in-Xyb
returns-in-Xyb c = ends c.args.shape (c.xyb_tags.ensures ∙ xyb_told c.args.shape c.in-Xyb.is) c.end_of-in-Xyb.ensures
