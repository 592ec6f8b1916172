-- What a function that writes into a lent slice does: the bytes q, of which there are n, put into l from the place `at` on, leave out, and r is
-- the place after them. Assumes nothing.
use Rattle.std.specs.Prelude.{ℕ, ◌+◌, ◌≡◌, List, length}
use Rattle.buffer.specs.Buffer.{put}

pub record Puts (l : List ℕ) (at n : ℕ) (q : List ℕ) (r : ℕ) (out : List ℕ) : Type 0 where
  pub size : length q ≡ n
  pub place : r ≡ at + n
  pub bytes : out ≡ put l at q

-- the same of bytes whose number has no shorter name
abbrev pub PutsText : List ℕ → ℕ → List ℕ → ℕ → List ℕ → Type 0
PutsText l at q r out = Puts l at (length q) q r out
