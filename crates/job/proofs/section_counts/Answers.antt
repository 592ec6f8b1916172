-- The three sections one after another, by the laws of CountsLaws. Assumes nothing.
use Rattle.std.proofs.Common.{◌≡◌, ◌+◌, ◌*◌, length, arith, lit≤}
use Rattle.std.proofs.lemmas.Result.{err_from_is_err_and}
use Rattle.job.specs.CountsLaws.{early_gray, early_rgb, early_xyb, bytes_left_lem, all_there}
use Rattle.job.proofs.section_counts.Goals as goal

pub returns-in_err-gray : goal.returns-in_err-gray
returns-in_err-gray c =
    let p = err_from_is_err_and c.from_residual.result c.from_residual.ensures.1 in
    rw (p.1, p.2, c.in_err-gray.ensures.number) (record { by = early_gray c.args.job.now c.in_err-gray.ensures.early; filled = lit≤ tt })

pub returns-in_err-rgb : goal.returns-in_err-rgb
returns-in_err-rgb c =
    let p = err_from_is_err_and c.from_residual-in_err-rgb.result c.from_residual-in_err-rgb.ensures.1 in
    rw (p.1, p.2, c.in_err-rgb.ensures.number) (record { by = early_rgb c.args.job.now _ c.in_ok-gray.ensures c.in_err-rgb.ensures.early; filled = lit≤ tt })

pub returns-in_err-xyb : goal.returns-in_err-xyb
returns-in_err-xyb c =
    let p = err_from_is_err_and c.from_residual-in_err-xyb.result c.from_residual-in_err-xyb.ensures.1 in
    rw (p.1, p.2, c.in_err-xyb.ensures.number)
    (record { by = early_xyb c.args.job.now _ c.in_ok-gray.ensures _ c.in_ok-rgb.ensures c.in_err-xyb.ensures.early; filled = lit≤ tt })

pub returns-then-xyb_at-xyb : goal.returns-then-xyb_at-xyb
returns-then-xyb_at-xyb c =
    record { by = bytes_left_lem c.args.job.now _ c.in_ok-gray.ensures _ c.in_ok-rgb.ensures _ c.in_ok-xyb.ensures (omega arith); filled = lit≤ tt }

pub returns : goal.returns
returns c =
    let all : 3 + c.in_ok-gray.gray * 15 + c.in_ok-rgb.rgb * 40 + c.in_ok-xyb.xyb ≡ length c.args.job.now = omega (arith, c.in_ok-xyb.ensures.fits) in
    record {
      by = all_there c.args.job.now _ c.in_ok-gray.ensures _ c.in_ok-rgb.ensures _ c.in_ok-xyb.ensures all;
      filled = record { all = all; gray_few = c.in_ok-gray.ensures.few; rgb_few = c.in_ok-rgb.ensures.few; xyb_few = c.in_ok-xyb.ensures.few };
    }
