-- The entries of a tag table, each of 12 bytes. Assumes nothing.
use mathlib.Core.Path.{refl}
use Rattle.profile.specs.Elements.{entry_bytes, entries_bytes}
use Rattle.elements.specs.EncodingLaws.{Encoding}

pub lines : Encoding 12 entry_bytes entries_bytes
unfolding entries_bytes
lines = record { nil = refl; cons = λ e es. refl }
