-- A fraction of whole numbers rounded to a whole number. To the nearest, a tie to the even one, is the library's `closest` (IEEE 754,
-- roundTiesToEven). Assumes nothing.
use Rattle.std.specs.Prelude.{ℕ, ◌+◌, ◌*◌, ◌/◌}

-- num / den to the nearest whole number, halves up
abbrev pub halves_up : ℕ → ℕ → ℕ
halves_up num den = (2 * num + den) / (2 * den)
