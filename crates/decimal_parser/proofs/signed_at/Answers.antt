-- The digits are below 10 ^ 9. Assumes nothing.
use Rattle.std.proofs.Common.{sym, drop}
use Rattle.decimal_parser.specs.FloatLaws.{unsigned_holds}
use Rattle.decimal_parser.proofs.signed_at.Goals as goal

pub nearest_f32-requires : goal.nearest_f32-requires
nearest_f32-requires c = (unsigned_holds c.in_ok-q.q (drop c.args.at c.args.text.now) (drop c.in_ok-q.next c.args.text.now) (sym c.in_ok-q.ensures)).0
