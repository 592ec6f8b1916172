-- Laws of `words_of`, and a word by its four bytes.
-- Assumes nothing.
use Rattle.std.proofs.Common.{◌≡◌, ℕ, zero, suc, ◌+◌, ◌*◌, ◌/◌, ◌%◌, ◌^◌, ◌<◌, ◌≤◌, List, [], ◌∷◌, ◌++◌, length, get_or, take, drop, set, sym, refl, ap, ◌∙◌, ap₂, add-zero, add-one, arith, length-drop, length-take-le, get_or-drop, drop-cons, get_or-take, take-suc, take-suc-set}
use Rattle.md5_digest.specs.Md5.{words_of, block_at}

-- the words from the k-th on are those of the bytes from the 4k-th on
drop-four : (k : ℕ) (l : List ℕ) → ((m : List ℕ) → drop k (words_of m) ≡ words_of (drop (k * 4) m)) → drop (suc k) (words_of l) ≡ words_of (drop (suc (suc (suc (suc (k * 4))))) l)
unfolding words_of
drop-four k [] h = refl
drop-four k (a ∷ []) h = refl
drop-four k (a ∷ b ∷ []) h = refl
drop-four k (a ∷ b ∷ c ∷ []) h = refl
drop-four k (a ∷ b ∷ c ∷ d ∷ l) h = h l

pub drop-words : (k : ℕ) (l : List ℕ) → drop k (words_of l) ≡ words_of (drop (k * 4) l)
drop-words zero l = refl
drop-words (suc k) l =
    let e : suc (suc (suc (suc (k * 4)))) ≡ suc k * 4 = omega arith in
    drop-four k l (λ m. drop-words k m) ∙ ap (λ (n : ℕ). words_of (drop n l)) e

pub length-words : (l : List ℕ) → length (words_of l) ≡ length l / 4
unfolding words_of
length-words [] = refl
length-words (a ∷ []) = refl
length-words (a ∷ b ∷ []) = refl
length-words (a ∷ b ∷ c ∷ []) = refl
length-words (a ∷ b ∷ c ∷ d ∷ l) =
    let e : length (words_of l) ≡ length l / 4 = length-words l in
    omega arith

pub words_append : (p t : List ℕ) → length p % 4 ≡ 0 → words_of (p ++ t) ≡ words_of p ++ words_of t
unfolding words_of
words_append [] t h = refl
words_append (a ∷ []) t h = absurd (omega arith)
words_append (a ∷ b ∷ []) t h = absurd (omega arith)
words_append (a ∷ b ∷ c ∷ []) t h = absurd (omega arith)
words_append (a ∷ b ∷ c ∷ d ∷ p) t h =
    let g : length p % 4 ≡ 0 = omega arith in
    ap (λ (r : List ℕ). (a + b * 2 ^ 8 + c * 2 ^ 16 + d * 2 ^ 24) ∷ r) (words_append p t g)

drop-next : (l : List ℕ) (i j : ℕ) → i < length l → suc i ≡ j → drop i l ≡ get_or l i 0 ∷ drop j l
drop-next l i j h e = drop-cons l i 0 h ∙ ap (λ (k : ℕ). get_or l i 0 ∷ drop k l) e

-- the first word of the bytes from i on
pub first_word : (l : List ℕ) (i : ℕ) → i + 4 ≤ length l
    → get_or (words_of (drop i l)) 0 0 ≡ get_or l i 0 + get_or l (i + 1) 0 * 2 ^ 8 + get_or l (i + 2) 0 * 2 ^ 16 + get_or l (i + 3) 0 * 2 ^ 24
unfolding words_of
first_word l i h =
    let e₀ : drop i l ≡ get_or l i 0 ∷ drop (i + 1) l = drop-next l i (i + 1) (omega arith) (omega arith) in
    let e₁ : drop (i + 1) l ≡ get_or l (i + 1) 0 ∷ drop (i + 2) l = drop-next l (i + 1) (i + 2) (omega arith) (omega arith) in
    let e₂ : drop (i + 2) l ≡ get_or l (i + 2) 0 ∷ drop (i + 3) l = drop-next l (i + 2) (i + 3) (omega arith) (omega arith) in
    let e₃ : drop (i + 3) l ≡ get_or l (i + 3) 0 ∷ drop (i + 4) l = drop-next l (i + 3) (i + 4) (omega arith) (omega arith) in
    rw (e₀, e₁, e₂, e₃)

-- a block within the bytes has sixteen words
pub length-block : (l : List ℕ) (i : ℕ) → i * 64 + 64 ≤ length l → length (block_at i (words_of l)) ≡ 16
length-block l i h = length-take-le 16 (drop (i * 16) (words_of l)) (omega (arith, length-drop (i * 16) (words_of l), length-words l))

-- word j of block i
pub word_of_block : (l : List ℕ) (i j : ℕ) → j < 16 → get_or (block_at i (words_of l)) j 0 ≡ get_or (words_of (drop (i * 64 + j * 4) l)) 0 0
word_of_block l i j h =
    let n = i * 16 + j in
    let e : n * 4 ≡ i * 64 + j * 4 = omega arith in
    get_or-take 16 (drop (i * 16) (words_of l)) j 0 h ∙ get_or-drop (i * 16) (words_of l) j 0
    ∙ sym (get_or-drop n (words_of l) 0 0 ∙ ap (λ (k : ℕ). get_or (words_of l) k 0) (add-zero n))
    ∙ ap (λ (r : List ℕ). get_or r 0 0) (drop-words n l ∙ ap (λ (k : ℕ). words_of (drop k l)) e)

-- a list that is filled from its start on with the elements of another
pub one_more : (x y : List ℕ) (j v : ℕ) → j < length x → j < length y → take j x ≡ take j y → v ≡ get_or y j 0 → take (j + 1) (set x j v) ≡ take (j + 1) y
one_more x y j v hx hy e f =
    rw add-one
    (take-suc-set x j v hx ∙ ap₂ (λ (l : List ℕ) (n : ℕ). l ++ (n ∷ [])) e f ∙ sym (take-suc y j 0 hy))
