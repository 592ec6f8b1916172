-- A text as its ASCII codes. Assumes nothing.
use Rattle.std.specs.Prelude.{ℕ, ◌≤◌, Bool, true, ◌&&◌, List, [], ◌∷◌, leb}
use Prim.Native.Char.{code}
use Prim.Native.String.{String, [] as empty, ◌∷◌ as ◌then◌}
use Rattle.buffer.specs.All.{All}

abbrev pub ascii : String → List ℕ
ascii empty = []
ascii (c then s) = code c ∷ ascii s

-- no code is above 127
abbrev pub Ascii : List ℕ → Type 0
Ascii l = All (λ (c : ℕ). c ≤ 127) l

-- the same as a test
unfoldable pub is_ascii : List ℕ → Bool
is_ascii [] = true
is_ascii (c ∷ t) = leb c 127 && is_ascii t
