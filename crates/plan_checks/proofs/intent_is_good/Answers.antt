-- `intent_is_good` meets its contract: what the comparison shows is what is decided.
use lib.Dec.{leb}
use borrow.Author.Tests.{leb-true, le-leb}
use Rattle.reader_spec.specs.Decide as Decide
use Rattle.reader_spec.specs.DecideLaws.{decided_test}
use Rattle.plan_checks.proofs.intent_is_good.Goals as goal

pub returns : goal.returns
returns c = let i = c.args.intent in decided_test (Decide.intent i) (leb i 3) (leb-true i 3) (le-leb i 3)
