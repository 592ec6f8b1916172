-- The first and the third number of the white's element, or `chad`.
use lib.IntN.{pos}
use lib.ListN.{get_or}
use mir.Syntax.{w32}
use mir.Val.{SFits}
use mir.ValLaws.{to_z-of_z}
use borrow.Author.Rules.{rules}
use Rattle.plan_in.proofs.Numbers.{three}
use Rattle.plan_in.proofs.white_in.Goals as goal

pub returns : goal.returns
returns c =
    let white = c.numbers_at-2.result in
    let x : SFits w32 (get_or white 0 (pos 0)) = search rules in
    let z : SFits w32 (get_or white 2 (pos 0)) = search rules in
    rw (to_z-of_z w32 (get_or white 0 (pos 0)) x, to_z-of_z w32 (get_or white 2 (pos 0)) z, c.if-adapted.false, c.numbers_at-2.ensures, three)
