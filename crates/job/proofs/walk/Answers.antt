-- The entries before the i-th have a meaning. Assumes nothing.
use Rattle.std.proofs.Common.{◌≡◌, List, length, take, sym, ap, ◌∙◌, add-one, arith}
use Rattle.std.proofs.lemmas.Result.{err_from_is_err_and}
use Rattle.buffer.specs.Checked.{Checked, is, each}
use Rattle.buffer.specs.CheckedLaws.{Passes}
use Rattle.job.specs.Job.{Entry, meaning, job_answer}
use Rattle.job.specs.JobLaws.{walk_stops, walk_goes_on, walk_ends}
use Rattle.job.proofs.walk.Goals as goal

is_one : {a b : List Entry} → ◌≡◌ {A = Checked (List Entry)} (is a) (is b) → a ≡ b
is_one e = cc

pub returns-in_err-entry_alone : goal.returns-in_err-entry_alone
returns-in_err-entry_alone c =
    let p = err_from_is_err_and c.from_residual.result c.from_residual.ensures.1 in
    let e = c.in_err-entry_alone.ensures in
    let w = c.requires in
    rw (p.1, p.2)
    (record { answer = sym (ap job_answer (walk_stops 1 c.args.job.now w.entries w.given c.loop-i.i _ (sym e.answer) (c.loop-i.invariant w.entries w.given))); bounds = e.bounds })

pub loop-i-preserved : goal.loop-i-preserved
loop-i-preserved c = λ es cuts.
    let all = ap length (is_one (sym c.requires.given ∙ cuts)) in
    rw (add-one c.loop-i.i)
    (walk_goes_on 1 c.args.job.now es cuts c.loop-i.i _ (omega (arith, c.requires.size, all)) (sym c.in_ok-entry_alone.ensures.answer) (c.loop-i.invariant es cuts))

pub returns : goal.returns
returns c =
    let w = c.requires in
    let all : c.loop-i.i ≡ c.args.n = omega arith in
    let passes : Passes (each meaning (take c.args.n w.entries)) = rw (← all) (c.loop-i.invariant w.entries w.given) in
    record { answer = sym (walk_ends 1 c.args.job.now w.entries w.given c.args.n w.size passes); bounds = w.small }
