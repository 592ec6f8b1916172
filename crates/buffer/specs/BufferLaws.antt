-- Laws of `put`, by which a run of writes is shown to leave one list of bytes.
-- Assumes nothing.
use Rattle.std.specs.Prelude.{ℕ, zero, suc, ◌+◌, ◌-◌, ◌≤◌, ◌≡◌, refl, List, [], ◌∷◌, ◌++◌, length, take, drop, set}
use Rattle.std.proofs.Common.{ap, sym, ◌∙◌, append_assoc, append-nil, add-zero, zero-add, add_assoc, arith, add-one, length-append, length-drop, take-append-drop, take_at, drop_at, drop-drop, length-take-le}
use Rattle.std.proofs.Math.Numerals.{add-two, add-three}
use Rattle.std.proofs.lemmas.List.{length-replicate, replicate-append-replicate, take-append-le, drop-append-le, set_at}
use Rattle.std.proofs.Math.Seq.{drop-length, drop-append-add, paste, take-length}
use Rattle.std.proofs.lemmas.List.Edits.{sets, sets-eq}
use Rattle.buffer.specs.Buffer.{put}
use Rattle.buffer.specs.Bytes.{zeros}

-- ---- `put`

pub length-put : (l : List ℕ) (i : ℕ) (q : List ℕ) → i + length q ≤ length l → length (put l i q) ≡ length l
unfolding put
length-put l i q h = simp (length-append, length-drop) (omega (arith, length-take-le i l (omega arith)))

pub put_nothing : (l : List ℕ) (i : ℕ) → put l i [] ≡ l
unfolding put
put_nothing l i = rw add-zero (take-append-drop i l)

-- bytes put where a front ends
pub put_after : (p d r : List ℕ) (n : ℕ) → length p ≡ n → put (p ++ d) n r ≡ p ++ (r ++ drop (length r) d)
unfolding put
put_after p d r n e = rw (← e, take_at p d (length p) refl, drop-append-add p d (length r))

-- bytes put from a place within a list end within what is left
pub put_end : (l : List ℕ) (i : ℕ) (q : List ℕ) → i ≤ length l → i + length q ≤ length (put l i q)
unfolding put
put_end l i q h = simp (length-append, length-drop) (omega (arith, length-take-le i l h))

-- as many bytes as there are, put from the front on
pub put_whole : (l q : List ℕ) → length q ≡ length l → put l 0 q ≡ q
unfolding put
put_whole l q h = rw (zero-add (length q), h, drop-length) (append-nil q)

-- bytes put in front of zeros
drop-zeros : (k n : ℕ) → drop k (zeros n) ≡ zeros (n - k)
drop-zeros zero n = ap zeros (all n)
  where
    all : (n : ℕ) → n ≡ n - 0
    all n = omega arith
drop-zeros (suc k) zero = ap zeros (none_left k)
  where
    none_left : (k : ℕ) → 0 ≡ 0 - suc k
    none_left k = omega arith
drop-zeros (suc k) (suc n) = drop-zeros k n ∙ ap zeros (both n k)
  where
    both : (n k : ℕ) → n - k ≡ suc n - suc k
    both n k = omega arith

pub put_front : (n : ℕ) (q : List ℕ) → put (zeros n) 0 q ≡ q ++ zeros (n - length q)
unfolding put
put_front n q = rw (zero-add (length q)) (ap (λ (l : List ℕ). q ++ l) (drop-zeros (length q) n))

-- bytes put behind the first ones
pub put_behind : (l : List ℕ) (at : ℕ) (q : List ℕ) → take at l ++ put (drop at l) 0 q ≡ put l at q
unfolding put
put_behind l at q = rw (zero-add (length q), drop-drop (length q) at l)

-- bytes put over as many others
pub put_over : (p o r q : List ℕ) (i : ℕ) → length p ≡ i → length q ≡ length o → put (p ++ (o ++ r)) i q ≡ p ++ (q ++ r)
put_over p o r q i e h = put_after p (o ++ r) q i e ∙ ap (λ (s : List ℕ). p ++ (q ++ s)) (drop_at o r (length q) (sym h))

-- the first bytes, put where they are
pub put_back : (l q : List ℕ) (n : ℕ) → take n l ≡ q → put l 0 q ≡ l
put_back l q n e =
    ap (λ (x : List ℕ). put x 0 q) (sym (take-append-drop n l))
    ∙ put_over [] (take n l) (drop n l) q 0 refl (ap length (sym e))
    ∙ ap (λ (x : List ℕ). x ++ drop n l) (sym e)
    ∙ take-append-drop n l

-- bytes put over fewer, from the front on
pub put_longer : (l q r : List ℕ) → length q ≤ length r → put (put l 0 q) 0 r ≡ put l 0 r
put_longer l q r h =
    let k : ℕ = length r - length q in
    let split : length r ≡ length q + k = omega arith in
    let rest : drop (length r) (q ++ drop (length q) l) ≡ drop (length r) l =
    ap (λ (n : ℕ). drop n (q ++ drop (length q) l)) split
    ∙ drop-append-add q (drop (length q) l) k ∙ drop-drop k (length q) l
    ∙ ap (λ (n : ℕ). drop n l) (sym split)
    in
    ap (λ (x : List ℕ). put x 0 r) (put_after [] l q 0 refl)
    ∙ put_after [] (q ++ drop (length q) l) r 0 refl
    ∙ ap (λ (x : List ℕ). r ++ x) rest
    ∙ sym (put_after [] l r 0 refl)

-- bytes put in again, within what was put at the front
pub put_within : (l p : List ℕ) (i : ℕ) (q : List ℕ) → i + length q ≤ length p → put (put l 0 p) i q ≡ put l 0 (put p i q)
unfolding put
put_within l p i q h =
    rw (
      length-put p i q h,
      zero-add (length p),
      take-append-le i p (drop (length p) l) (omega arith),
      drop-append-le (i + length q) p (drop (length p) l) h,
    )
    (simp append_assoc)

-- the first of the bytes that were put, written over
pub set-put : (l rest : List ℕ) (at y b : ℕ) → at ≤ length l → set (put l at (y ∷ rest)) at b ≡ put l at (b ∷ rest)
unfolding put
set-put l rest at y b h = set_at (take at l) y (rest ++ drop (at + length (y ∷ rest)) l) b at (length-take-le at l h)

-- one run of bytes and then the next
pub put_put : (l : List ℕ) (i : ℕ) (q r : List ℕ) → i ≤ length l → put (put l i q) (i + length q) r ≡ put l i (q ++ r)
unfolding put
put_put l i q r h =
    let ends : length (take i l ++ q) ≡ i + length q = length-append (take i l) q ∙ ap (λ (n : ℕ). n + length q) (length-take-le i l h) in
    ap (λ (x : List ℕ). put x (i + length q) r) (sym (append_assoc (take i l) q (drop (i + length q) l)))
    ∙ put_after (take i l ++ q) (drop (i + length q) l) r (i + length q) ends
    ∙ simp (append_assoc, drop-drop, length-append, add_assoc)

-- what stands where bytes were put
pub take_put : (l : List ℕ) (i : ℕ) (q : List ℕ) (n : ℕ) → i ≤ length l → length q ≡ n → take n (drop i (put l i q)) ≡ q
unfolding put
take_put l i q n h e = ap (take n) (drop_at (take i l) _ i (length-take-le i l h)) ∙ take_at q _ n e

-- stores at one place after another
pub stores : (q l : List ℕ) (i : ℕ) → i + length q ≤ length l → sets l i q ≡ put l i q
unfolding put
stores q l i h = sets-eq q l i h ∙ append_assoc (take i l) q (drop (i + length q) l)

pub one_store : (l : List ℕ) (i a : ℕ) → i + 1 ≤ length l → set l i a ≡ put l i (a ∷ [])
one_store l i a h = stores (a ∷ []) l i h

pub two_stores : (l : List ℕ) (i a b : ℕ) → i + 2 ≤ length l → set (set l i a) (i + 1) b ≡ put l i (a ∷ b ∷ [])
two_stores l i a b h = rw add-one (stores (a ∷ b ∷ []) l i h)

pub four_stores : (l : List ℕ) (i a b c d : ℕ) → i + 4 ≤ length l
    → set (set (set (set l i a) (i + 1) b) (i + 2) c) (i + 3) d ≡ put l i (a ∷ b ∷ c ∷ d ∷ [])
four_stores l i a b c d h = rw (add-one, add-two, add-three) (stores (a ∷ b ∷ c ∷ d ∷ []) l i h)

-- a copy of the whole of q
pub copied : (l : List ℕ) (i : ℕ) (q : List ℕ) → paste l i q (length q) ≡ put l i q
unfolding put
copied l i q = simp (take-length, append_assoc)

-- a run of bytes that grows
pub grown : (l : List ℕ) (i : ℕ) (p q r : List ℕ) (k : ℕ) → i ≤ length l → k ≡ i + length p → r ≡ p ++ q → put (put l i p) k q ≡ put l i r
grown l i p q r k h e f = rw (e, f) (put_put l i p q h)

pub zeros_grown : (l : List ℕ) (at i : ℕ) → at ≤ length l → put (put l at (zeros i)) (at + i) (0 ∷ []) ≡ put l at (zeros (i + 1))
zeros_grown l at i h = grown l at (zeros i) (0 ∷ []) _ (at + i) h (rw length-replicate) (sym (replicate-append-replicate i 1 0))
