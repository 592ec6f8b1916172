-- What the loop of `read_letters` has put, with one letter more. Assumes nothing.
use Prim.Native.Nat.{ℕ, suc, ◌+◌, ◌*◌, ◌-◌, ◌≤◌, ◌<◌}
use mathlib.Core.Path.{◌≡◌, refl, ap, sym, ◌∙◌}
use mathlib.Core.List.{List, [], ◌∷◌, ◌++◌}
use native.Mathlib.Omega.{arith}
use native.Mathlib.Numerals.{add-one}
use lib.ListN.{length, take, drop, set, get_or}
use lib.Seq.{length-take-le, take-add, drop-cons}
use Rattle.buffer.specs.Buffer.{put}
use Rattle.buffer.specs.BufferLaws.{one_store, put_put, length-put}
use Rattle.reader_spec.specs.PlanIn.{low_bytes}
use Rattle.reader_spec.specs.PlanInLaws.{length-low}

low-append : (p q : List ℕ) (n : ℕ) → length p ≡ 2 * n → low_bytes (p ++ q) ≡ low_bytes p ++ low_bytes q
unfolding low_bytes
low-append [] q n e = refl
low-append (x ∷ []) q n e = absurd (omega arith)
low-append (x ∷ (y ∷ p)) q n e = ap (λ (l : List ℕ). y ∷ l) (low-append p q (n - 1) (omega arith))

-- the low byte of the pair at a place
low-pair : (l : List ℕ) (k : ℕ) → k + 2 ≤ length l → low_bytes (take 2 (drop k l)) ≡ get_or l (k + 1) 0 ∷ []
unfolding low_bytes
low-pair l k h = rw (add-one k, drop-cons l k 0 (omega arith), drop-cons l (suc k) 0 (omega arith))

module _ (text l : List ℕ) (i : ℕ) (room : i < length text) (more : 2 * i + 2 ≤ length l) where
  low-more : low_bytes (take (2 * (i + 1)) l) ≡ low_bytes (take (2 * i) l) ++ (get_or l (2 * i + 1) 0 ∷ [])
  low-more =
      let n : 2 * (i + 1) ≡ 2 * i + 2 = omega arith in
      rw (n, take-add (2 * i) 2 l, low-append _ (take 2 (drop (2 * i) l)) i (length-take-le (2 * i) l (omega arith)), low-pair l (2 * i) more)

  pub one_more : set (put text 0 (low_bytes (take (2 * i) l))) i (get_or l (2 * i + 1) 0) ≡ put text 0 (low_bytes (take (2 * (i + 1)) l))
  one_more =
      let p = low_bytes (take (2 * i) l) in
      let low = get_or l (2 * i + 1) 0 ∷ [] in
      let n : i ≡ 0 + length p = omega (arith, length-low i l (omega arith)) in
      one_store (put text 0 p) i _ (omega (arith, length-put text 0 p (omega arith)))
      ∙ ap (λ (k : ℕ). put (put text 0 p) k low) n
      ∙ put_put text 0 p low (omega arith)
      ∙ ap (put text 0) (sym low-more)
