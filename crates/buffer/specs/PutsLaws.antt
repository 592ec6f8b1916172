-- Runs of bytes written one after another.
-- Assumes nothing.
use Rattle.std.specs.Prelude.{ℕ, ◌+◌, ◌-◌, ◌≤◌, ◌≡◌, refl, List, [], ◌∷◌, ◌++◌, length, set, replicate}
use Rattle.std.proofs.Common.{sym, ◌∙◌, add-zero, zero-add, arith, length-append}
use Rattle.buffer.specs.BufferLaws.{put_nothing, put_front, put_put, one_store}
use Rattle.buffer.specs.Puts.{Puts, PutsText}

-- q and then r are one run
pub joined : {l m o q r : List ℕ} {at i j n k : ℕ} → at ≤ length l → Puts l at n q i m → Puts m i k r j o → Puts l at (n + k) (q ++ r) j o
joined {l} {m} {o} {q} {r} {at} {i} {j} {n} {k} h a b =
    let to : i ≡ at + length q = omega arith in
    record {
      size = length-append q r ∙ omega arith;
      place = omega arith;
      bytes = b.bytes ∙ rw (a.bytes, to) (put_put l at q r h);
    }

-- the same of bytes by another name, without a count
pub then : {l m o q r : List ℕ} {at i j n k : ℕ} (s : List ℕ) → at ≤ length l → Puts l at n q i m → Puts m i k r j o → s ≡ q ++ r → PutsText l at s j o
then s h a b e =
    let p = joined h a b in
    record { size = refl; place = rw e (omega (arith, p.size)); bytes = rw e p.bytes }

-- the same bytes by another name
pub same : {l o q : List ℕ} {at i : ℕ} (s : List ℕ) → PutsText l at q i o → s ≡ q → PutsText l at s i o
same s a e = rw e a

-- nothing written
pub none : (l : List ℕ) (at : ℕ) → Puts l at 0 [] at l
none l at = record { size = refl; place = sym (add-zero at); bytes = sym (put_nothing l at) }

-- without the count
pub wrote : (l : List ℕ) (at : ℕ) (q : List ℕ) {n r : ℕ} {o : List ℕ} → Puts l at n q r o → PutsText l at q r o
wrote l at q p = record { size = refl; place = omega (arith, p.size, p.place); bytes = p.bytes }

-- a store
pub store : (l : List ℕ) (at b : ℕ) → at + 1 ≤ length l → Puts l at 1 (b ∷ []) (at + 1) (set l at b)
store l at b h = record { size = refl; place = refl; bytes = one_store l at b h }

-- bytes put in front of zeros
pub in_front : (n : ℕ) {q o : List ℕ} {r : ℕ} → PutsText (replicate n 0) 0 q r o → (r ≡ length q) × (o ≡ q ++ replicate (n - length q) 0)
in_front n {q} p = (p.place ∙ zero-add (length q), p.bytes ∙ put_front n q)
