-- The numbers that four bytes hold fit 32 bits. Assumes nothing.
use Rattle.std.specs.Prelude.{ℕ, zero, suc, Bool, true, false, List, drop, get_or}
use Rattle.std.specs.Int.{w32}
use Rattle.std.proofs.Common.{SFits}
use Rattle.words.specs.Words.{Byte}
use Rattle.words.specs.WordsLaws.{bytes_drop, number_fits}
use Rattle.buffer.specs.All.{All, none, more}
use Rattle.profile.specs.Plan.{GoodCurve}
use Rattle.reader_spec.specs.PlanIn.{numbers_from, curve_in}

-- every element is a byte
abbrev pub Bytes : List ℕ → Type 0
Bytes f = (i : ℕ) → Byte (get_or f i 0)

pub numbers_fit : (n : ℕ) (l : List ℕ) → Bytes l → All (SFits w32) (numbers_from n l)
unfolding numbers_from
numbers_fit zero l h = none
numbers_fit (suc n) l h = more (number_fits l h) (numbers_fit n (drop 4 l) (bytes_drop 4 l h))

pub curve_fits : (g : Bool) (l : List ℕ) → Bytes l → GoodCurve (SFits w32) (curve_in g l)
curve_fits true l h = number_fits (drop 12 l) (bytes_drop 12 l h)
curve_fits false l h = tt
