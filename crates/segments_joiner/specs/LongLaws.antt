-- The reader's number of more bytes than any file has: it is that of a header by itself. Assumes nothing.
use Rattle.std.specs.Prelude.{ℕ, zero, suc, ◌+◌, ◌-◌, ◌≤◌, ◌<◌, ◌≡◌, refl, drop}
use Rattle.std.proofs.Math.Path.{ap, ap₂, sym}
use Rattle.std.proofs.Common.{◌∙◌, arith, length-append, take_at, drop_at, take-take, get_or-take, drop-drop}
use mathlib.Core.List.{List, [], ◌∷◌, ◌++◌}
use Rattle.std.proofs.Math.Decide.{dec_le, ℕ_discrete}
use Rattle.std.proofs.Math.ListN.{length, take, length-take, length-drop}
use Rattle.std.proofs.Math.Seq.{take-add}
use Rattle.buffer.specs.Buffer.{put}
use Rattle.buffer.specs.BufferLaws.{put_put, put_whole}
use Rattle.buffer.specs.Checked.{refused}
use Rattle.words.specs.Words.{be32, word32}
use Rattle.words.specs.WordsLaws.{word32_be32, be32_front, length-be32}
use Rattle.profile.specs.declared.Kind.{Kind}
use Rattle.profile.specs.PlanLaws.{at_least, at_most}
use Rattle.profile.specs.Shape.{max_length}
use Rattle.profile.specs.TagTypes.{join}
use Rattle.profile.specs.Layout.{Varying, header}
use Rattle.reader_spec.specs.FitsLaws.{Bytes}
use Rattle.reader_spec.specs.Table.{varying_of}
use Rattle.reader_spec.specs.PlanIn.{kind_from, shape_in}
use Rattle.reader_spec.specs.RefusalList as Reader
use Rattle.reader_spec.specs.Decide as Decide
use Rattle.reader_spec.specs.StepsLaws.{read_22, table_25}
use Rattle.reader_spec.specs.Read.{check, from_table, read}
use Rattle.reading.specs.Reading.{reading}

-- ---- steps of the reader

-- a check that two files pass together
together : {A B : Type 0} (d : Dec A) (e : Dec B) → (A → B) → (B → A) → (c : Reader.Check) {r s : Reader.Answer} → (A → r ≡ s) → check d c r ≡ check e c s
unfolding check
together (yes a) (yes b) to from c h = h a
together (yes a) (no b) to from c h = absurd (b (to a))
together (no a) (yes b) to from c h = absurd (a (from b))
together (no a) (no b) to from c h = refl

-- no plan's file is as short or as long
no_table : (f : List ℕ) → ¬ ((284 ≤ length f) × (length f ≤ max_length)) → from_table f ≡ Reader.refused Reader.c25
no_table f h =
    table_25 (shape_in f) f refl
    (λ t. h (omega (arith, t.length-is, at_least (shape_in f) t.good.some-letter), omega (arith, t.length-is, at_most (shape_in f) t.good.short)))

-- ---- the header but for its size

abbrev after_size : Kind → Varying → List ℕ
after_size k v = drop 4 (header k v)

header_parts : (k : Kind) (v : Varying) → header k v ≡ be32 v.size ++ after_size k v
unfolding header join be32
header_parts k v = refl

same_after : (k : Kind) (v w : Varying) → v.maker ≡ w.maker → v.model ≡ w.model → v.intent ≡ w.intent → v.id ≡ w.id → after_size k v ≡ after_size k w
unfolding header join be32
same_after k v w a b e f = λ j. drop 4 (header k (record { size = 0; maker = a j; model = b j; intent = e j; id = f j }))

module _ (k : Kind) (f : List ℕ) (e : take 4 f ≡ be32 (varying_of f).size) where
  header_rest : Reader.Header k f → take 124 (drop 4 f) ≡ after_size k (varying_of f)
  unfolding Reader.Header be32
  header_rest h = ap (drop 4) (ap (λ (x : List ℕ). x ++ take 124 (drop 4 f)) (sym e) ∙ sym (take-add 4 124 f) ∙ h)

  header_of : take 124 (drop 4 f) ≡ after_size k (varying_of f) → Reader.Header k f
  unfolding Reader.Header
  header_of h = take-add 4 124 f ∙ ap₂ (λ (x y : List ℕ). x ++ y) e h ∙ sym (header_parts k (varying_of f))

-- ---- parts of a file's first bytes

part_of_front : (n m k : ℕ) (l : List ℕ) → n + m ≤ k → take m (drop n (take k l)) ≡ take m (drop n l)
part_of_front zero m k l h = take-take m k l (omega arith)
part_of_front (suc n) m zero l h = absurd (omega arith)
part_of_front (suc n) m (suc k) [] h = refl
part_of_front (suc n) m (suc k) (b ∷ l) h = part_of_front n m k l (omega arith)

word_front : (l : List ℕ) → word32 l ≡ word32 (take 4 l)
unfolding word32
word_front l = rw (get_or-take 4 l 0 0 (omega arith), get_or-take 4 l 1 0 (omega arith), get_or-take 4 l 2 0 (omega arith), get_or-take 4 l 3 0 (omega arith))

-- ---- a header by itself

module _ (front : List ℕ) (bs : Bytes front) (l : List ℕ) (more : max_length < length l) (same : front ≡ take max_length l) where
  -- the first 132 bytes, with 132 in the size field
  abbrev head : List ℕ
  head = be32 132 ++ take 128 (drop 4 l)

  length-head : length head ≡ 132
  length-head = length-append (be32 132) (take 128 (drop 4 l)) ∙ omega (arith, length-be32 132, length-take 128 (drop 4 l), length-drop 4 l)

  -- past the size field it has what the whole has
  same_part : (n m : ℕ) → 4 ≤ n → n + m ≤ 132 → take m (drop n head) ≡ take m (drop n l)
  same_part n m low high =
      let k = n - 4 in
      let split : n ≡ 4 + (n - 4) = omega arith in
      ap (λ (x : ℕ). take m (drop x head)) split ∙ ap (take m) (sym (drop-drop (n - 4) 4 head))
      ∙ ap (λ (x : List ℕ). take m (drop (n - 4) x)) (drop_at (be32 132) (take 128 (drop 4 l)) 4 (length-be32 132))
      ∙ part_of_front (n - 4) m 128 (drop 4 l) (omega arith)
      ∙ ap (take m) (drop-drop (n - 4) 4 l) ∙ ap (λ (x : ℕ). take m (drop x l)) (sym split)

  same_kind : kind_from head ≡ kind_from l
  unfolding kind_from
  same_kind = rw (same_part 12 4 (omega arith) (omega arith), same_part 16 4 (omega arith) (omega arith))

  same_word : (n : ℕ) → 4 ≤ n → n + 4 ≤ 132 → word32 (drop n head) ≡ word32 (drop n l)
  same_word n low high = word_front (drop n head) ∙ ap word32 (same_part n 4 low high) ∙ sym (word_front (drop n l))

  same_maker : (varying_of head).maker ≡ (varying_of l).maker
  unfolding varying_of
  same_maker = same_word 48 (omega arith) (omega arith)

  same_model : (varying_of head).model ≡ (varying_of l).model
  unfolding varying_of
  same_model = same_word 52 (omega arith) (omega arith)

  same_intent : (varying_of head).intent ≡ (varying_of l).intent
  unfolding varying_of
  same_intent = same_word 64 (omega arith) (omega arith)

  same_id : (varying_of head).id ≡ (varying_of l).id
  unfolding varying_of
  same_id = same_part 84 16 (omega arith) (omega arith)

  -- the size fields
  size-head : (varying_of head).size ≡ 132
  unfolding varying_of
  size-head = word32_be32 132 (take 128 (drop 4 l)) (omega arith)

  four_head : take 4 head ≡ be32 (varying_of head).size
  four_head = take_at (be32 132) (take 128 (drop 4 l)) 4 (length-be32 132) ∙ ap be32 (sym size-head)

  four_front : take 4 front ≡ take 4 l
  four_front = ap (take 4) same ∙ take-take 4 max_length l (omega arith)

  size-front : word32 front ≡ (varying_of l).size
  unfolding varying_of
  size-front = word_front front ∙ ap word32 four_front ∙ sym (word_front l)

  four_there : take 4 l ≡ be32 (varying_of l).size
  four_there = sym four_front ∙ sym (be32_front front bs (omega (arith, ap length same, length-take max_length l))) ∙ ap be32 size-front

  module _ (k : Kind) where
    after_is : after_size k (varying_of head) ≡ after_size k (varying_of l)
    after_is = same_after k (varying_of head) (varying_of l) same_maker same_model same_intent same_id

    rest_is : take 124 (drop 4 head) ≡ take 124 (drop 4 l)
    rest_is = same_part 4 124 (omega arith) (omega arith)

    header_to : Reader.Header k head → Reader.Header k l
    header_to h = header_of k l four_there (sym rest_is ∙ header_rest k head four_head h ∙ after_is)

    header_from : Reader.Header k l → Reader.Header k head
    header_from h = header_of k head four_head (rest_is ∙ header_rest k l four_there h ∙ sym after_is)

  read_head : (varying_of l).size ≡ length l → read head ≡ read l
  unfolding read
  read_head sized =
      let no_head : from_table head ≡ Reader.refused Reader.c25 = no_table head (λ b. omega (arith, length-head, b.0)) in
      let no_whole : from_table l ≡ Reader.refused Reader.c25 = no_table l (λ b. omega (arith, b.1)) in
      together (dec_le 132 (length head)) (dec_le 132 (length l)) (λ h. omega arith) (λ h. omega (arith, length-head)) Reader.c21
      (λ h. together (ℕ_discrete _ _) (ℕ_discrete _ _) (λ e. sized) (λ e. size-head ∙ sym length-head) Reader.c22
      (λ e. rw (same_kind, same_intent)
      (together (Decide.header_is (kind_from l) head) (Decide.header_is (kind_from l) l) (header_to (kind_from l)) (header_from (kind_from l)) Reader.c23
      (λ g. together (Decide.intent (varying_of l).intent) (Decide.intent (varying_of l).intent) (λ x. x) (λ x. x) Reader.c24
      (λ i. no_head ∙ sym no_whole)))))

  -- ---- as code has it

  pub long_22 : (word32 front ≡ length l → ⊥) → reading (read l) ≡ refused 22
  long_22 h = ap reading (read_22 l (omega arith) (λ e. h (size-front ∙ e)))

  pub long_head : (z : List ℕ) → length z ≡ 132 → put (put z 0 (be32 132)) 4 (take 128 (drop 4 front)) ≡ head
  unfolding be32
  long_head z n =
      let part : take 128 (drop 4 front) ≡ take 128 (drop 4 l) = ap (λ (x : List ℕ). take 128 (drop 4 x)) same ∙ part_of_front 4 128 max_length l (omega arith) in
      put_put z 0 (be32 132) (take 128 (drop 4 front)) (omega arith)
      ∙ put_whole z (be32 132 ++ take 128 (drop 4 front)) (omega (arith, ap length part, length-take 128 (drop 4 l), length-drop 4 l))
      ∙ ap (λ (x : List ℕ). be32 132 ++ x) part

  pub long_read : word32 front ≡ length l → read head ≡ read l
  long_read h = read_head (sym size-front ∙ h)
