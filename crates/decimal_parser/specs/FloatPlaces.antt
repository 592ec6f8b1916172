-- The digit at the front of a text. Assumes nothing.
use Rattle.std.specs.Prelude.{ℕ, ◌-◌, cond, List, [], ◌∷◌, Option, Some, None}
use Rattle.decimal_parser.specs.ParseFloat.{is_digit}

abbrev pub front_digit : List ℕ → Option ℕ
front_digit [] = None
front_digit (c ∷ l) = cond (is_digit c) (Some (c - 48)) None
