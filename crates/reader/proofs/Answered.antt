-- What code answers tells of the reader's answer. Assumes nothing.
use Prim.Native.Nat.{ℕ}
use mathlib.Core.Path.{◌≡◌, refl}
use Rattle.buffer.specs.Checked as Checked
use Rattle.profile.specs.Plan.{Plan}
use Rattle.reader_spec.specs.RefusalList.{Answer, refused, accepted, Check, marked}
use Rattle.reading.specs.declared.Reading.{Reading}
use Rattle.reading.specs.Reading.{reading}

-- a refusal is the same beside the mark and beside the plan
pub refused_by : (a : Answer) {n : ℕ} → Checked.refused n ≡ marked a → Checked.refused n ≡ reading a
refused_by (refused c) e = cc
refused_by (accepted p) e = cc

pub was_refused : (a : Answer) {n : ℕ} → Checked.refused n ≡ reading a → (c : Check) × (a ≡ refused c)
was_refused (refused c) e = (c, refl)
was_refused (accepted p) e = cc

pub was_accepted : (a : Answer) {r : Reading} → Checked.is r ≡ reading a → (p : Plan) × (a ≡ accepted p)
was_accepted (refused c) e = cc
was_accepted (accepted p) e = (p, refl)
