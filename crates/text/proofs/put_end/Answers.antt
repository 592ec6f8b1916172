-- Four runs of bytes, one after another.
-- Assumes nothing.
use Prim.Native.Nat.{◌≤◌}
use mathlib.Core.Path.{refl}
use native.Mathlib.Omega.{arith}
use lib.ListN.{length}
use Rattle.buffer.specs.PutsLaws.{then, wrote}
use Rattle.text.specs.Description.{underscore}
use Rattle.text.proofs.put_end.Goals as goal

pub returns : goal.returns
returns c =
    let room : c.args.at ≤ length c.args.out.now = omega (arith, c.requires) in
    let intent = then _ room c.put_byte-intent_at.ensures c.put_intent-intent_end.ensures refl in
    let intent_end = then _ room intent (wrote _ c.put_intent-intent_end.result underscore c.put_byte-transfer_at.ensures) refl in
    let transfer = c.put_transfer.ensures in
    record {
      puts = then _ room intent_end transfer.puts refl;
      most = omega (arith, c.put_byte-intent_at.ensures.place, c.put_intent-intent_end.ensures.place, c.put_byte-transfer_at.ensures.place, transfer.most);
      held = transfer.held;
    }
