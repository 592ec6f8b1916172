-- What a caller learns of a lent output. Assumes nothing.
use Rattle.std.specs.Prelude.{ℕ, ◌≤◌, ◌≡◌, refl, Bool, true, false, cond, List, leb, length}
use Rattle.std.proofs.Common.{sym, ◌∙◌, arith, leb-true}
use Rattle.writer.specs.Writer.{too_short}
use Rattle.job_output.specs.JobOutput.{Lends}
use Rattle.buffer.specs.Checked.{Checked, is, refused}

-- what is written fits the output
pub fits : {bytes before after : List ℕ} {r : Checked ℕ} {n : ℕ} → Lends bytes before after r → r ≡ is n → n ≤ length before
fits {bytes} {before} {after} {r} {n} l e = go (leb (length bytes) (length before)) refl (sym e ∙ l.answer)
  where
    go : (b : Bool) → leb (length bytes) (length before) ≡ b → is n ≡ cond b (is (length bytes)) (refused too_short) → n ≤ length before
    go true t h = let m : n ≡ length bytes = cc in omega (arith, leb-true (length bytes) (length before) t)
    go false t h = let z : ◌≡◌ {A = ℕ} 0 1 = cc in absurd (omega arith)
