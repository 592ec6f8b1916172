-- Numbers in a C struct read back, and the bytes of a plan by value. Assumes nothing.
use Rattle.std.specs.Prelude.{ℕ, ◌+◌, ◌*◌, ◌/◌, ◌%◌, ◌^◌, ◌<◌, ◌≡◌, refl, ℤ, length, take, drop}
use Rattle.std.proofs.Common.{ap, ap₂, sym, ◌∙◌, arith, SFits}
use mathlib.Core.List.{List, [], ◌∷◌, ◌++◌, append_assoc, append-nil, map}
use Rattle.std.proofs.Math.ListN.{length-append}
use Rattle.std.proofs.lemmas.List.{length-map}
use Rattle.std.specs.Int.{w32}
use Rattle.buffer.specs.All.{All, none, more}
use Rattle.words.specs.Words.{le32, twos_complement32, signed32}
use Rattle.words.specs.WordsLaws.{signed32_twos_complement32}
use Rattle.profile.specs.Plan.{max_letters}
use Rattle.profile.specs.TagTypes.{join}
use Rattle.reading.specs.declared.Reading.{Reading}
use Rattle.elements.specs.EncodingLaws.{Encoding}
use Rattle.plan_record.specs.PlanRecord.{le32s, word32le, words32le, number_count, record_size, record_numbers, plan_record}

-- a uint32_t
abbrev pub Word : ℕ → Type 0
Word n = n < 2 ^ 32

-- ---- numbers put one after another

pub unsigned : Encoding 4 le32 le32s
unfolding le32s
unsigned = record { nil = refl; cons = λ n ns. refl }

pub signed : Encoding 4 (λ z. le32 (twos_complement32 z)) (λ zs. le32s (map twos_complement32 zs))
unfolding le32s
signed = record { nil = refl; cons = λ z zs. refl }

le32s_append : (a b : List ℕ) → le32s (a ++ b) ≡ le32s a ++ le32s b
unfolding le32s
le32s_append [] b = refl
le32s_append (n ∷ a) b = ap (λ (l : List ℕ). le32 n ++ l) (le32s_append a b) ∙ sym (append_assoc (le32 n) (le32s a) (le32s b))

pub length-le32s : (ns : List ℕ) → length (le32s ns) ≡ 4 * length ns
unfolding le32s
length-le32s [] = refl
length-le32s (n ∷ ns) = omega (arith, length-le32s ns)

-- ---- numbers read back

word32le_le32 : (n : ℕ) (r : List ℕ) → Word n → word32le (le32 n ++ r) ≡ n
unfolding word32le
word32le_le32 n r h =
    let second : n / 256 ≡ n / 65536 * 256 + n / 256 % 256 = omega arith in
    let third : n / 65536 ≡ n / 16777216 * 256 + n / 65536 % 256 = omega arith in
    let fourth : n / 16777216 % 256 ≡ n / 16777216 = omega arith in
    omega arith

past_le32 : (n : ℕ) (r : List ℕ) → drop 4 (le32 n ++ r) ≡ r
past_le32 n r = refl

pub words_back : (ns r : List ℕ) → All Word ns → words32le (length ns) (le32s ns ++ r) ≡ ns
unfolding le32s words32le
words_back [] r none = refl
words_back (n ∷ ns) r (more h hs) =
    rw (append_assoc (le32 n) (le32s ns) r, word32le_le32 n (le32s ns ++ r) h, past_le32 n (le32s ns ++ r)) (ap (λ (l : List ℕ). n ∷ l) (words_back ns r hs))

pub signeds_back : (zs : List ℤ) → All (SFits w32) zs → map signed32 (map twos_complement32 zs) ≡ zs
signeds_back [] none = refl
signeds_back (z ∷ zs) (more h hs) = ap₂ (λ (x : ℤ) (l : List ℤ). x ∷ l) (signed32_twos_complement32 z h) (signeds_back zs hs)

-- ---- the bytes of a plan by value

module _ (r : Reading) where
  -- as the code puts them
  pub record_parts : plan_record r
      ≡ join
      (le32s (take 11 (record_numbers r)) ∷ le32s (map twos_complement32 r.chad) ∷ le32s (map twos_complement32 r.columns) ∷ le32 r.letters ∷ r.text ∷ [])
  unfolding plan_record record_numbers join
  record_parts =
      rw (le32s_append (take 11 (record_numbers r)) (map twos_complement32 r.chad ++ (map twos_complement32 r.columns ++ (r.letters ∷ []))))
      (simp (le32s_append, append_assoc, append-nil, unsigned.cons, unsigned.nil))

  module _ (chad : length r.chad ≡ 9) (columns : length r.columns ≡ 9) where
    pub length-numbers : length (record_numbers r) ≡ number_count
    unfolding record_numbers
    length-numbers = simp (length-append, length-map) (omega arith)

    pub length-record : length r.text ≡ max_letters → length (plan_record r) ≡ record_size
    unfolding plan_record
    length-record text = length-append (le32s (record_numbers r)) r.text ∙ rw (length-le32s (record_numbers r), length-numbers, text)
