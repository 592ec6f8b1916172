-- What is left of a message past its whole blocks, padded, as the code lays it into an array of zeros: the bytes that are left, the byte
-- 128, and the two words of the length at the end of the first or the second block.
-- Assumes nothing.
use Rattle.std.proofs.Common.{◌≡◌, ℕ, suc, ◌+◌, ◌-◌, ◌*◌, ◌/◌, ◌%◌, ◌^◌, ◌<◌, ◌≤◌, List, ◌∷◌, ◌++◌, length, take, drop, set, replicate, sym, ap, ◌∙◌, ap₂, append_assoc, arith, length-append, length-drop, take_at}
use lib.ListN.{length-replicate, replicate-append-replicate}
use lib.Seq.{set-append_seam, drop-append-le}
use Rattle.buffer.specs.Buffer.{put}
use Rattle.buffer.specs.BufferLaws.{put_front, put_after}
use Rattle.buffer.specs.Bytes.{zeros}
use Rattle.words.specs.Words.{le32}
use Rattle.md5_digest.specs.Md5.{message, length_bytes}

-- the four bytes of a word, stored at a place of a list
abbrev pub put_word : List ℕ → ℕ → ℕ → List ℕ
put_word l at w = put l at (le32 w)

-- d, then zeros, with 128 behind d
marked : (d : List ℕ) → length d < 128 → set (put (zeros 128) 0 d) (length d) 128 ≡ d ++ 128 ∷ zeros (127 - length d)
marked d h =
    let e : 128 - length d ≡ suc (127 - length d) = omega arith in
    ap (λ (l : List ℕ). set l (length d) 128) (put_front 128 d ∙ ap (λ (n : ℕ). d ++ zeros n) e) ∙ set-append_seam d 0 (zeros (127 - length d)) 128

-- d, 128, zeros, and two words that end at e
laid : (d : List ℕ) (lo hi e : ℕ) → length d + 9 ≤ e → e ≤ 128
    → take e (put_word (put_word (d ++ 128 ∷ zeros (127 - length d)) (e - 8) lo) (e - 4) hi)
    ≡ d ++ 128 ∷ zeros (e - 9 - length d) ++ (le32 lo ++ le32 hi)
laid d lo hi e h k =
    let n = e - 9 - length d in
    let u : List ℕ = d ++ 128 ∷ zeros n in
    let rest : List ℕ = zeros (136 - e) in
    let sum : 127 - length d ≡ n + (136 - e) = omega arith in
    let whole : d ++ 128 ∷ zeros (127 - length d) ≡ u ++ rest =
    ap (λ (i : ℕ). d ++ 128 ∷ zeros i) sum ∙ ap (λ (l : List ℕ). d ++ 128 ∷ l) (sym (replicate-append-replicate n (136 - e) 0))
    ∙ sym (append_assoc d (128 ∷ zeros n) rest) in
    let length-u : length u ≡ e - 8 = omega (arith, length-append d (128 ∷ zeros n), length-replicate {A = ℕ} n 0) in
    let length-v : length (u ++ le32 lo) ≡ e - 4 = omega (arith, length-append u (le32 lo), length-u) in
    let one : put_word (u ++ rest) (e - 8) lo ≡ (u ++ le32 lo) ++ drop 4 rest =
    put_after u rest (le32 lo) (e - 8) length-u ∙ sym (append_assoc u (le32 lo) (drop 4 rest)) in
    let two : put_word ((u ++ le32 lo) ++ drop 4 rest) (e - 4) hi ≡ ((u ++ le32 lo) ++ le32 hi) ++ drop 4 (drop 4 rest) =
    put_after (u ++ le32 lo) (drop 4 rest) (le32 hi) (e - 4) length-v ∙ sym (append_assoc (u ++ le32 lo) (le32 hi) (drop 4 (drop 4 rest))) in
    ap (λ (l : List ℕ). take e (put_word (put_word l (e - 8) lo) (e - 4) hi)) whole
    ∙ ap (λ (l : List ℕ). take e (put_word l (e - 4) hi)) one
    ∙ ap (take e) two
    ∙ take_at ((u ++ le32 lo) ++ le32 hi) (drop 4 (drop 4 rest)) e (omega (arith, length-append (u ++ le32 lo) (le32 hi), length-v))
    ∙ append_assoc u (le32 lo) (le32 hi)

-- the message from its n-th byte on, which is one of m
drop-message : (n : ℕ) (m : List ℕ) → n ≤ length m
    → drop n (message m) ≡ drop n m ++ 128 ∷ replicate ((119 - length m % 64) % 64) 0 ++ length_bytes m
unfolding message
drop-message n m h =
    let zeros : List ℕ = replicate ((119 - length m % 64) % 64) 0 in
    drop-append-le n (m ++ 128 ∷ zeros) (length_bytes m) (omega (arith, length-append m (128 ∷ zeros)))
    ∙ ap (λ (l : List ℕ). l ++ length_bytes m) (drop-append-le n m (128 ∷ zeros) h)

-- the message past the whole blocks of m, as it is laid into 128 zeros: e is the end of the first block that has room for the bytes that are
-- left, the byte 128 and the eight bytes of the length
pub tail_is : (m : List ℕ) (e : ℕ) → e ≡ (length m % 64 + 72) / 64 * 64
    → (let d = drop (length m - length m % 64) m in
    let b = length m * 8 % 2 ^ 64 in
    take e (put_word (put_word (set (put (replicate 128 0) 0 d) (length m % 64) 128) (e - 8) (b % 2 ^ 32)) (e - 4) (b / 2 ^ 32))
    ≡ drop (length m / 64 * 64) (message m))
unfolding length_bytes
tail_is m e h =
    let d = drop (length m - length m % 64) m in
    let b = length m * 8 % 2 ^ 64 in
    let lo = b % 2 ^ 32 in
    let hi = b / 2 ^ 32 in
    let whole : length m - length m % 64 ≡ length m / 64 * 64 = omega arith in
    let length-d : length d ≡ length m % 64 = length-drop (length m - length m % 64) m ∙ omega arith in
    let count : e - 9 - length d ≡ (119 - length m % 64) % 64 = omega arith in
    ap (λ (i : ℕ). take e (put_word (put_word (set (put (replicate 128 0) 0 d) i 128) (e - 8) lo) (e - 4) hi)) (sym length-d)
    ∙ ap (λ (l : List ℕ). take e (put_word (put_word l (e - 8) lo) (e - 4) hi)) (marked d (omega arith))
    ∙ laid d lo hi e (omega arith) (omega arith)
    ∙ ap₂ (λ (l : List ℕ) (n : ℕ). l ++ 128 ∷ replicate n 0 ++ (le32 lo ++ le32 hi)) (ap (λ (n : ℕ). drop n m) whole) count
    ∙ sym (drop-message (length m / 64 * 64) m (omega arith))
