-- The common name, of at most ten letters, or runs of bytes one after another. Assumes nothing.
use Rattle.std.proofs.Common.{◌≡◌, refl, sym, ◌∙◌, subst, [], ◌∷◌, ◌++◌, ◌≤◌, length, arith, lit≤, le_trans}
use Rattle.buffer.specs.PutsLaws.{then, same, wrote}
use Rattle.color_encoding.specs.Intent.{intent_name}
use Rattle.text.specs.Held.{InRange, WhiteInRange}
use Rattle.text.specs.Written.{Short}
use Rattle.text.specs.BoundsLaws.{short, short_rgb, length-gray_text, length-xyb_text_lem}
use Rattle.text.specs.Description.{underscore, white_name, primaries_name, transfer_name, rgb_text, gray_text, xyb_text, rgb_description, description}
use Rattle.text.proofs.Described.{described, before_end, is_name}
use Rattle.text.proofs.put_description.Goals as goal

pub returns-in-Some : goal.returns-in-Some
returns-in-Some c =
    let name = is_name c.args.encoding c.in-Some.ensures in
    record {
      puts = same _ c.put_bytes.ensures (name.0 ∙ sym c.as_bytes.ensures.value);
      short = subst (Short (WhiteInRange c.args.encoding)) (sym name.0) (short name.1);
    }

pub returns-in-RgbColorSpace : goal.returns-in-RgbColorSpace
unfolding description rgb_description rgb_text
returns-in-RgbColorSpace c =
    let e = c.in-RgbColorSpace in
    let text = rgb_text e.white_point e.primaries e.transfer_function e.rendering_intent in
    let is : rgb_description e.white_point e.primaries e.transfer_function e.rendering_intent ≡ text = (rw e.is at c.in_default.ensures).named text in
    let room : 0 ≤ length c.args.out.now = omega arith in
    let white = c.put_space-white_end.ensures in
    let white_end = then _ room white.puts (wrote _ c.put_space-white_end.result underscore c.put_byte-primaries_at.ensures) refl in
    let primaries = then _ room white_end c.put_primaries-primaries_end.ensures.puts refl in
    let end = c.put_end.ensures in
    described e.is
    (record {
      puts = same _ (then text room primaries end.puts (before_end ((82 ∷ 71 ∷ 66 ∷ 95 ∷ []) ++ white_name e.white_point ++ underscore ++ primaries_name e.primaries) (intent_name e.rendering_intent) (transfer_name e.transfer_function))) is;
      short = subst (Short (InRange e.white_point)) (sym is) (short_rgb e.white_point e.primaries e.transfer_function e.rendering_intent white.held c.put_primaries-primaries_end.ensures.held end.held);
    })

pub returns-in-GrayscaleColorSpace : goal.returns-in-GrayscaleColorSpace
unfolding description gray_text
returns-in-GrayscaleColorSpace c =
    let e = c.in-GrayscaleColorSpace in
    let white = c.put_space-white_end-in-GrayscaleColorSpace.ensures in
    let end = c.put_end-in-GrayscaleColorSpace.ensures in
    described e.is
    (record {
      puts = then (gray_text e.white_point e.transfer_function e.rendering_intent) (omega arith) white.puts end.puts (before_end ((71 ∷ 114 ∷ 97 ∷ 95 ∷ []) ++ white_name e.white_point) (intent_name e.rendering_intent) (transfer_name e.transfer_function));
      short = short (le_trans (length-gray_text e.white_point e.transfer_function e.rendering_intent white.held end.held) (lit≤ tt));
    })

pub returns-in-XYB : goal.returns-in-XYB
unfolding description xyb_text
returns-in-XYB c =
    let e = c.in-XYB in
    described e.is
    (record {
      puts = then (xyb_text e.rendering_intent) (omega arith) (wrote c.args.out.now 0 (88 ∷ 89 ∷ 66 ∷ 95 ∷ []) c.put_bytes-intent_at.ensures) c.put_intent.ensures refl;
      short = short (le_trans (length-xyb_text_lem e.rendering_intent) (lit≤ tt));
    })
