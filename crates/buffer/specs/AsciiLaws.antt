-- `is_ascii` is true exactly if no code is above 127. Assumes nothing.
use Rattle.std.specs.Prelude.{ℕ, ◌≡◌, refl, true, List, [], ◌∷◌, leb}
use Rattle.std.proofs.Common.{le-leb, leb→le}
use Rattle.buffer.specs.All.{none, more}
use Rattle.buffer.specs.Ascii.{Ascii, is_ascii}
use Rattle.buffer.specs.BoolLaws.{holds, both_left, both_right}

pub ascii_if : (t : List ℕ) → is_ascii t ≡ true → Ascii t
unfolding is_ascii
ascii_if [] e = none
ascii_if (c ∷ t) e = more (leb→le c 127 (holds (both_left (leb c 127) (is_ascii t) e))) (ascii_if t (both_right (leb c 127) (is_ascii t) e))

pub ascii_of : {t : List ℕ} → Ascii t → is_ascii t ≡ true
unfolding is_ascii
ascii_of none = refl
ascii_of (more {a = c} h hs) = rw (le-leb c 127 h) (ascii_of hs)
