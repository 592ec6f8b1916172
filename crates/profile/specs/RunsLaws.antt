-- Runs of bytes put one after another are one run. Assumes nothing.
use Rattle.std.specs.Prelude.{ℕ, ◌≤◌, ◌≡◌, List, [], ◌∷◌, length}
use Rattle.std.proofs.Common.{arith}
use Rattle.buffer.specs.BufferLaws.{put_end}
use Rattle.buffer.specs.Puts.{Puts, PutsText}
use Rattle.buffer.specs.PutsLaws.{none, wrote, joined}
use Rattle.profile.specs.TagTypes.{join}

-- from the list l and the place i, the runs qs lead to the list out and the place k
pub data Runs : List ℕ → ℕ → List (List ℕ) → List ℕ → ℕ → Type 0 where
  done : {l : List ℕ} {i : ℕ} → Runs l i [] l i
  next : {l mid out q : List ℕ} {qs : List (List ℕ)} {i j k n : ℕ} → Puts l i n q j mid → Runs mid j qs out k → Runs l i (q ∷ qs) out k

past : {l out q : List ℕ} {i n k : ℕ} → i ≤ length l → Puts l i n q k out → k ≤ length out
past {l} {out} {q} {i} {n} {k} h p = rw p.bytes (omega (arith, put_end l i q h, p.size, p.place))

pub runs : {l out : List ℕ} {qs : List (List ℕ)} {i k : ℕ} → Runs l i qs out k → i ≤ length l → PutsText l i (join qs) k out
unfolding join
runs {l = l} {i = i} done h = none l i
runs (next p r) h = wrote _ _ _ (joined h p (runs r (past h p)))

-- the same by the number of bytes, and by another name
pub run : {l out : List ℕ} {qs : List (List ℕ)} {i k : ℕ} (n : ℕ) (q : List ℕ) → Runs l i qs out k → i ≤ length l → q ≡ join qs → length q ≡ n → Puts l i n q k out
run n q r h e s =
    let p = runs r h in
    record { size = s; place = rw (← s, e) p.place; bytes = rw e p.bytes }
