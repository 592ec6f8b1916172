-- Laws of `after_blocks`: blocks of two lists of words, one behind the other. From them, MD5 by the whole blocks of a message and then by the
-- blocks that are left.
-- Assumes nothing.
use Rattle.std.proofs.Common.{◌≡◌, ℕ, zero, suc, ◌+◌, ◌-◌, ◌*◌, ◌/◌, ◌%◌, ◌≤◌, List, ◌∷◌, ◌++◌, length, take, drop, replicate, sym, refl, ap, ◌∙◌, ap₂, add-zero, arith, length-append, length-drop, take-append-drop, length-take-le}
use lib.Seq.{take-append-le, drop-append-le, drop-append-add}
use Rattle.md5_rounds.specs.declared.State.{State}
use Rattle.md5_digest.specs.Md5.{words_of, message, length_bytes, buffer, after_block, block_at, after_blocks, output, md5}
use Rattle.md5_digest.proofs.Words.{length-words, words_append}

-- a block that lies within the first list
block_front : (k : ℕ) (M N : List ℕ) → k * 16 + 16 ≤ length M → block_at k (M ++ N) ≡ block_at k M
block_front k M N h =
    let room : 16 ≤ length (drop (k * 16) M) = omega (arith, length-drop (k * 16) M) in
    ap (take 16) (drop-append-le (k * 16) M N (omega arith)) ∙ take-append-le 16 (drop (k * 16) M) N room

-- a block of the second list
block_back : (k j : ℕ) (M N : List ℕ) → length M ≡ k * 16 → block_at (k + j) (M ++ N) ≡ block_at j N
block_back k j M N h =
    let e : (k + j) * 16 ≡ length M + j * 16 = omega arith in
    ap (λ (n : ℕ). take 16 (drop n (M ++ N))) e ∙ ap (take 16) (drop-append-add M N (j * 16))

pub after_front : (k : ℕ) (M N : List ℕ) (w : State) → k * 16 ≤ length M → after_blocks k (M ++ N) w ≡ after_blocks k M w
unfolding after_blocks
after_front zero M N w h = refl
after_front (suc k) M N w h =
    ap₂ after_block (block_front k M N (omega arith)) (after_front k M N w (omega arith))

pub after_back : (k j : ℕ) (M N : List ℕ) (w : State) → length M ≡ k * 16 → after_blocks (k + j) (M ++ N) w ≡ after_blocks j N (after_blocks k M w)
unfolding after_blocks
after_back k zero M N w h =
    ap (λ (n : ℕ). after_blocks n (M ++ N) w) (add-zero k) ∙ after_front k M N w (omega arith)
after_back k (suc j) M N w h =
    let e : k + suc j ≡ suc (k + j) = omega arith in
    ap (λ (n : ℕ). after_blocks n (M ++ N) w) e ∙ ap₂ after_block (block_back k j M N h) (after_back k j M N w h)

-- the message begins with the message before it was padded
pub take-message : (n : ℕ) (m : List ℕ) → n ≤ length m → take n (message m) ≡ take n m
unfolding message
take-message n m h =
    let zeros : List ℕ = replicate ((119 - length m % 64) % 64) 0 in
    take-append-le n (m ++ 128 ∷ zeros) (length_bytes m) (omega (arith, length-append m (128 ∷ zeros))) ∙ take-append-le n m (128 ∷ zeros) h

pub md5_is : (m : List ℕ) → md5 m ≡ output (after_blocks (length (words_of (message m)) / 16) (words_of (message m)) buffer)
unfolding md5
md5_is m = refl

-- where t is what is left of the message past the whole blocks of m: the whole blocks of m, then those of t, are the blocks of the message
pub in_two : (m t : List ℕ) → t ≡ drop (length m / 64 * 64) (message m)
    → output (after_blocks (length t / 64) (words_of t) (after_blocks (length m / 64) (words_of m) buffer)) ≡ md5 m
in_two m t e =
    let k = length m / 64 in
    let p = take (k * 64) m in
    let in_m : k * 64 ≤ length m = omega arith in
    let length-p : length p ≡ k * 64 = length-take-le (k * 64) m in_m in
    let fours : length p % 4 ≡ 0 = omega arith in
    let length-P : length (words_of p) ≡ k * 16 = omega (arith, length-words p) in
    let whole : message m ≡ p ++ t =
    sym (take-append-drop (k * 64) (message m)) ∙ ap₂ (λ (x y : List ℕ). x ++ y) (take-message (k * 64) m in_m) (sym e) in
    let words_m : words_of m ≡ words_of p ++ words_of (drop (k * 64) m) =
    ap words_of (sym (take-append-drop (k * 64) m)) ∙ words_append p (drop (k * 64) m) fours in
    let words_message : words_of (message m) ≡ words_of p ++ words_of t = ap words_of whole ∙ words_append p t fours in
    let front : after_blocks k (words_of m) buffer ≡ after_blocks k (words_of p) buffer =
    ap (λ (M : List ℕ). after_blocks k M buffer) words_m ∙ after_front k (words_of p) (words_of (drop (k * 64) m)) buffer (omega arith) in
    let count : length (words_of (message m)) / 16 ≡ k + length t / 64 =
    omega (arith, ap length words_message, length-append (words_of p) (words_of t), length-words t) in
    ap (λ (w : State). output (after_blocks (length t / 64) (words_of t) w)) front
    ∙ ap output (sym (after_back k (length t / 64) (words_of p) (words_of t) buffer length-P))
    ∙ ap₂ (λ (n : ℕ) (M : List ℕ). output (after_blocks n M buffer)) (sym count) (sym words_message)
    ∙ sym (md5_is m)
