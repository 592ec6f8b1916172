-- The plan by value as the bytes of a C struct, `struct merqyduk_plan` of include/merqyduk.h: numbers of 32 bits without gaps between them, and then the
-- letters. Assumes nothing.
use Rattle.std.specs.Prelude.{ℕ, zero, suc, ◌+◌, ◌*◌, List, [], ◌∷◌, ◌++◌, map, take, drop, get_or}
use Rattle.words.specs.Words.{le32, twos_complement32, signed32}
use Rattle.profile.specs.Plan.{max_letters}
use Rattle.reading.specs.declared.Reading.{Reading}

-- ---- numbers in a C struct

-- numbers of a uint32_t each, one after another, as x86-64 holds them
unfoldable pub le32s : List ℕ → List ℕ
le32s [] = []
le32s (n ∷ ns) = le32 n ++ le32s ns

-- the number that the first four bytes of a list make; bytes past its end count 0
unfoldable pub word32le : List ℕ → ℕ
word32le l = get_or l 0 0 + get_or l 1 0 * 256 + get_or l 2 0 * 65536 + get_or l 3 0 * 16777216

-- the first n numbers that a list of bytes holds
unfoldable pub words32le : ℕ → List ℕ → List ℕ
words32le zero l = []
words32le (suc n) l = word32le l ∷ words32le n (drop 4 l)

-- ---- the struct

-- how many numbers there are, and how many bytes numbers and letters have
abbrev pub number_count : ℕ
number_count = 30

abbrev pub record_size : ℕ
record_size = 4 * number_count + max_letters

-- the numbers in the order of the struct; an int32_t is held by its two's complement
unfoldable pub record_numbers : Reading → List ℕ
record_numbers r =
    r.kind ∷ r.intent ∷ r.maker ∷ r.model ∷ r.id_not_computed ∷ r.curve ∷ twos_complement32 r.gamma ∷ r.cicp ∷ r.adapted
    ∷ twos_complement32 r.white_x ∷ twos_complement32 r.white_z
    ∷ (map twos_complement32 r.chad ++ (map twos_complement32 r.columns ++ (r.letters ∷ [])))

unfoldable pub plan_record : Reading → List ℕ
plan_record r = le32s (record_numbers r) ++ r.text

-- ---- the way back

abbrev pub reading_of : List ℕ → List ℕ → Reading
reading_of numbers text =
    record {
      kind = get_or numbers 0 0;
      intent = get_or numbers 1 0;
      maker = get_or numbers 2 0;
      model = get_or numbers 3 0;
      id_not_computed = get_or numbers 4 0;
      curve = get_or numbers 5 0;
      gamma = signed32 (get_or numbers 6 0);
      cicp = get_or numbers 7 0;
      adapted = get_or numbers 8 0;
      white_x = signed32 (get_or numbers 9 0);
      white_z = signed32 (get_or numbers 10 0);
      chad = map signed32 (take 9 (drop 11 numbers));
      columns = map signed32 (take 9 (drop 20 numbers));
      letters = get_or numbers 29 0;
      text = text;
    }

-- the answer by value that the bytes of a struct tell
unfoldable pub reading_by : List ℕ → Reading
reading_by l = reading_of (words32le number_count l) (take max_letters (drop (4 * number_count) l))
