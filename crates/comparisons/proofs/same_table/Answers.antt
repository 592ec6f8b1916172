-- The table was put into the array from byte 128 on, and is compared to where it ends.
use mathlib.Core.Path.{◌∙◌}
use native.Mathlib.Omega.{arith}
use borrow.Author.Rules.{rules}
use Rattle.comparisons.proofs.Tables.{starts, laid_table}
use Rattle.comparisons.proofs.same_table.Goals as goal

pub put_table-at-requires : goal.put_table-at-requires
put_table-at-requires c = (c.requires.0, omega (arith, starts c.args.shape))

pub slice_bounds-same_bytes-end : goal.slice_bounds-same_bytes-end
slice_bounds-same_bytes-end c = omega (arith, c.put_table-at.ensures.place, starts c.args.shape, c.requires.1)

pub slice_bounds-same_bytes-end-2 : goal.slice_bounds-same_bytes-end-2
slice_bounds-same_bytes-end-2 c = omega (arith, c.put_table-at.ensures.place, starts c.args.shape, c.put_table-at.auto.out)

pub returns : goal.returns
returns c =
    c.same_bytes.ensures ∙ laid_table c.args.shape c.args.file.now _ (search rules) c.put_table-at.ensures
