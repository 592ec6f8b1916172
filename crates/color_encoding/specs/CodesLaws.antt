-- A number past the list of meanings has none. Assumes nothing.
use Rattle.std.specs.Prelude.{ℕ, ◌≤◌, ◌≡◌, List, map, length}
use Rattle.std.proofs.Common.{sym}
use Rattle.std.proofs.lemmas.List.{length-map}
use Rattle.std.proofs.Math.ListN.{get_or-eq_default}
use Rattle.buffer.specs.Checked.{is}
use Rattle.color_encoding.specs.Codes.{unknown, from}

pub past_all : {A : Type 0} (meanings : List A) (n : ℕ) → length meanings ≤ n → unknown ≡ from meanings n
past_all meanings n h = sym (get_or-eq_default (map is meanings) unknown {n = n} (rw length-map h))
