-- Three runs of bytes, one after another.
-- Assumes nothing.
use Prim.Native.Nat.{ℕ, ◌≤◌}
use mathlib.Core.Path.{◌≡◌, refl}
use mathlib.Core.List.{List, ◌++◌, append_assoc}
use native.Mathlib.Omega.{arith}
use lib.ListN.{length}
use Rattle.buffer.specs.PutsLaws.{then}
use Rattle.encoding_names.specs.Names.{comma, semicolon, pair, primaries_name}
use Rattle.encoding_names.proofs.put_chromaticities.Goals as goal

regroup : (a b c : List ℕ) → a ++ semicolon ++ b ++ semicolon ++ c ≡ a ++ (semicolon ++ b) ++ (semicolon ++ c)
regroup a b c = simp append_assoc

pub returns : goal.returns
unfolding primaries_name
returns c =
    let xy = c.args.xy in
    let room : c.args.at ≤ length c.args.out.now = omega (arith, c.requires) in
    let r = c.put_pair-red.ensures in
    let g = c.put_next_pair-green.ensures in
    let b = c.put_next_pair.ensures in
    record {
      puts = then _ room (then _ room r.puts g.puts refl) b.puts (regroup (pair comma xy.rx xy.ry) (pair comma xy.gx xy.gy) (pair comma xy.bx xy.by));
      most = omega (arith, r.most, g.most, b.most);
      held = (r.held, (g.held, b.held));
    }
