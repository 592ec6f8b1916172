-- The loop that puts segments: what it has put and what is left of the file. Assumes nothing.
use Rattle.std.specs.Prelude.{ℕ, suc, ◌+◌, ◌≤◌, ◌<◌, min, ◌≡◌, refl, List, [], ◌∷◌, ◌++◌, length, take, drop}
use Rattle.std.proofs.Common.{ap, sym, ◌∙◌, arith, add-one, append_assoc, length-append, take_at, drop_at}
use Rattle.std.proofs.lemmas.List.{take_min, drop_min}
use mathlib.Core.List.{append-nil}
use Rattle.buffer.specs.Puts.{PutsText}
use Rattle.buffer.specs.PutsLaws as PutsLaws
use Rattle.profile.specs.TagTypes.{join}
use Rattle.app2.specs.Segments.{Segment, segment_bytes, bytes, cut, numbered, segments}
use Rattle.app2.specs.CutLaws.{cut_more, cut_none}

-- a chunk of at most n bytes is next, and then the rest
pub record Step (n : ℕ) (left chunk rest : List ℕ) : Type 0 where
  pub parts : left ≡ chunk ++ rest
  pub long : length chunk ≡ min n (length left)
  pub some : 0 < length left

-- as an iterator of chunks says it
pub step_of : {n k : ℕ} {left chunk rest : List ℕ} → k ≡ n → (left ≡ chunk ++ rest) × (length chunk ≡ min k (length left)) × (0 < length left) → Step n left chunk rest
step_of e x = record { parts = x.0; long = rw (← e) x.1; some = x.2 }

module _ (n : ℕ) (f out₀ : List ℕ) where
  abbrev pub count : ℕ
  count = length (cut n f)

  -- the bytes of the segments of what is left of the file, of which the first has the sequence number i
  abbrev pub to_put : ℕ → List ℕ → List ℕ
  to_put i left = bytes (numbered count i (cut n left))

  -- with so much of the file left, the segment of sequence number i is next, and goes to the place `at`
  pub record Writing (i : ℕ) (left : List ℕ) (at : ℕ) (out : List ℕ) : Type 0 where
    pub written : List ℕ
    pub wrote : PutsText out₀ 0 written at out
    pub whole : written ++ to_put i left ≡ bytes (segments n f)
    pub numbers : i + length (cut n left) ≡ 1 + count

  pub begin : Writing 1 f 0 out₀
  unfolding segments
  begin = record { written = []; wrote = PutsLaws.none out₀ 0; whole = refl; numbers = refl }

  module _ (some_size : 1 ≤ n) {i : ℕ} {left : List ℕ} {at : ℕ} {out : List ℕ} (w : Writing i left at out) where
    module _ {chunk rest : List ℕ} (x : Step n left chunk rest) where
      abbrev pub next : Segment
      next = record { sequence = i; count = count; chunk = chunk }

      chunk_is : take n left ≡ chunk
      chunk_is = sym (take_min n left) ∙ ap (λ (k : ℕ). take k left) (sym x.long) ∙ ap (take (length chunk)) x.parts ∙ take_at chunk rest (length chunk) refl

      rest_is : drop n left ≡ rest
      rest_is = sym (drop_min n left) ∙ ap (λ (k : ℕ). drop k left) (sym x.long) ∙ ap (drop (length chunk)) x.parts ∙ drop_at chunk rest (length chunk) refl

      more : cut n left ≡ chunk ∷ cut n rest
      more = cut_more n some_size left x.some ∙ rw (chunk_is, rest_is)

      -- its number is at most the count
      pub counted : i ≤ count
      counted = omega (arith, w.numbers, ap length more)

      to_put_is : to_put i left ≡ segment_bytes next ++ to_put (suc i) rest
      unfolding bytes join numbered
      to_put_is = rw more

      whole_is : (w.written ++ segment_bytes next) ++ to_put (suc i) rest ≡ bytes (segments n f)
      whole_is = append_assoc w.written (segment_bytes next) (to_put (suc i) rest) ∙ ap (λ (l : List ℕ). w.written ++ l) (sym to_put_is) ∙ w.whole

      -- there is room for it where there is room for all
      pub has_room : length (bytes (segments n f)) ≤ length out₀ → at + length (segment_bytes next) ≤ length out₀
      has_room room =
          omega (
            arith,
            ap length whole_is,
            w.wrote.place,
            length-append (w.written ++ segment_bytes next) (to_put (suc i) rest),
            length-append w.written (segment_bytes next),
          )

      pub onward : (at' : ℕ) (out' : List ℕ) → PutsText out at (segment_bytes next) at' out' → Writing (i + 1) rest at' out'
      onward at' out' p =
          record {
            written = w.written ++ segment_bytes next;
            wrote = PutsLaws.then _ (omega arith) w.wrote p refl;
            whole = rw add-one whole_is;
            numbers = omega (arith, w.numbers, ap length more);
          }

    -- where nothing is left, all is put
    pub all_written : length left ≡ 0 → PutsText out₀ 0 (bytes (segments n f)) at out
    unfolding bytes join numbered
    all_written h =
        let nothing : cut n left ≡ [] = cut_none n some_size left h in
        let rest : to_put i left ≡ [] = rw nothing in
        PutsLaws.same _ w.wrote (sym (sym (append-nil w.written) ∙ ap (λ (l : List ℕ). w.written ++ l) (sym rest) ∙ w.whole))
