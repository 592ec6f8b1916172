-- `xyb_text` meets its contract: each arm knows the intent, and the last has the name that stands for every other number.
-- Assumes nothing.
use Rattle.std.proofs.Common.{ℕ, zero, suc, ◌≡◌, ◌≢◌, refl, arith}
use Rattle.buffer.specs.Ascii.{ascii}
use Rattle.profile.specs.Layout.{xyb_text}
use Rattle.profile.proofs.xyb_text.Goals as goal

other : (n : ℕ) → n ≢ 1 → n ≢ 2 → n ≢ 3 → ascii "XYB_Per" ≡ xyb_text n
unfolding xyb_text
other zero a b c = refl
other (suc zero) a b c = absurd (a refl)
other (suc (suc zero)) a b c = absurd (b refl)
other (suc (suc (suc zero))) a b c = absurd (c refl)
other (suc (suc (suc (suc n)))) a b c = refl

pub returns-in_default : goal.returns-in_default
returns-in_default c = other c.args.intent (omega arith) (omega arith) (omega arith)
