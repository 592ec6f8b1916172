-- The front of an entry's line, and the first line without its newline. Assumes nothing.
use Rattle.std.specs.Prelude.{ℕ, ◌^◌, ◌<◌, List, ◌++◌}
use Rattle.buffer.specs.Ascii.{ascii}
use Rattle.buffer.specs.Checked.{Checked, is, refused}
use Rattle.digits.specs.Digits.{digits}
use Rattle.job.specs.Job.{number}
use Rattle.job.specs.declared.Section.{Section}

-- numbers of up to four digits
abbrev pub SmallAnswer : Checked ℕ → Type 0
SmallAnswer (is n) = n < 10 ^ 4
SmallAnswer (refused k) = k < 10 ^ 4

-- the front of an entry's line
abbrev pub place_text : Section → ℕ → List ℕ
place_text s k = digits (number s) ++ (ascii " " ++ digits k) ++ ascii " "

-- the first line without its newline
abbrev pub first_text : Checked ℕ → List ℕ
first_text (is n) = ascii "profiles " ++ digits n
first_text (refused k) = ascii "job refused " ++ digits k
