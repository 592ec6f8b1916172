-- The loop over the sequence numbers: the data that it has passed and what is left. Assumes nothing.
use Prim.Native.Nat.{ℕ, zero, suc, ◌+◌, ◌-◌, ◌*◌, ◌≤◌, ◌<◌, min}
use Rattle.std.specs.Prelude.{◌≡◌, refl, take, drop, get_or}
use Rattle.std.proofs.Math.Path.{ap, ap₂}
use Rattle.std.proofs.Common.{sym, ◌∙◌, add-one, length-append, length-take, length-drop, take_at, take_all, length-take-le}
use Rattle.std.proofs.lemmas.List.{take_min}
use mathlib.Core.List.{List, [], ◌∷◌, ◌++◌, append_assoc, append-nil}
use native.Mathlib.Omega.{arith}
use Rattle.std.proofs.Math.ListN.{length}
use Rattle.std.proofs.Math.Seq.{take-nil}
use Rattle.buffer.specs.Buffer.{put}
use Rattle.buffer.specs.BufferLaws.{put_whole}
use Rattle.buffer.specs.Puts.{PutsText}
use Rattle.buffer.specs.PutsLaws as PutsLaws
use Rattle.buffer.specs.Checked.{is}
use Rattle.words.specs.Words.{word16}
use Rattle.profile.specs.TagTypes.{join}
use Rattle.app2.specs.Segments.{Segment}
use Rattle.app2.specs.App2.{complete_segments}
use Rattle.app2.specs.Joining.{chunks_from, joined}
use Rattle.app2.specs.TakeLaws.{take-append}
use Rattle.segments_finder.specs.Found.{Found}
use Rattle.segments_joiner.specs.Data.{data_of, Gathers}

-- the data of the segments that were found
pub data_joined : (b : List ℕ) {ss : List Segment} → complete_segments b ≡ is ss → joined ss ≡ data_of b
unfolding data_of
data_joined b e = rw e

module _ (b places : List ℕ) (n : ℕ) (w : Found b places n) where
  -- what is left from the sequence number i on
  abbrev left : ℕ → List ℕ
  left i = join (chunks_from (n + 1 - i) i w.segments)

  at_first : left 1 ≡ data_of b
  unfolding joined
  at_first =
      let all : n + 1 - 1 ≡ length w.segments = omega (arith, w.many) in
      ap (λ (k : ℕ). join (chunks_from k 1 w.segments)) all ∙ data_joined b w.are

  at_last : left (n + 1) ≡ []
  unfolding chunks_from join
  at_last = let no_more : n + 1 - (n + 1) ≡ 0 = omega arith in ap (λ (k : ℕ). join (chunks_from k (n + 1) w.segments)) no_more

  -- the data of the number i, as it stands in the buffer
  abbrev pub place : ℕ → ℕ
  place i = get_or places i 0

  abbrev pub size : ℕ → ℕ
  size i = word16 (drop (place i) b) - 16

  abbrev pub part : ℕ → List ℕ
  part i = take (size i) (drop (place i + 16) b)

  at_next : (i : ℕ) → 1 ≤ i → i ≤ n → left i ≡ part i ++ left (i + 1)
  unfolding chunks_from join
  at_next i low high =
      let k : n + 1 - i ≡ suc (n - i) = omega arith in
      let j : n - i ≡ n + 1 - (i + 1) = omega arith in
      ap (λ (m : ℕ). join (chunks_from m i w.segments)) k
      ∙ ap₂ (λ (x y : List ℕ). x ++ y) (sym (w.placed i low high).chunk) (ap₂ (λ (m o : ℕ). join (chunks_from m o w.segments)) j (sym (add-one i)))

  length_part : (i : ℕ) → 1 ≤ i → i ≤ n → length (part i) ≡ size i
  length_part i low high =
      let p = w.placed i low high in
      omega (arith, length-take (size i) (drop (place i + 16) b), length-drop (place i + 16) b, p.low, p.within)

  -- with the numbers below i passed
  pub record Gathering (out₀ : List ℕ) (i total at : ℕ) (out : List ℕ) : Type 0 where
    pub from_one : 1 ≤ i
    pub up_to : i ≤ n + 1
    pub bound : total ≤ 65519 * i
    passed : List ℕ
    all_is : passed ++ left i ≡ data_of b
    total_is : total ≡ length passed
    wrote : PutsText out₀ 0 (take (length out₀) passed) at out

  module _ (out₀ : List ℕ) where
    pub begin : Gathering out₀ 1 0 0 out₀
    begin =
        record {
          from_one = omega arith;
          up_to = omega arith;
          bound = omega arith;
          passed = [];
          all_is = at_first;
          total_is = refl;
          wrote = PutsLaws.same _ (PutsLaws.none out₀ 0) (take-nil (length out₀));
        }

    module _ (i total at : ℕ) (out : List ℕ) (g : Gathering out₀ i total at out) where
      -- its place is within the output
      pub in_room : at ≤ length out₀
      in_room = omega (arith, g.wrote.place, length-take (length out₀) g.passed)

      same_room : length out₀ - length g.passed ≡ length out₀ - at
      same_room = omega (arith, g.wrote.place, length-take (length out₀) g.passed)

      -- the data of the number i is passed, and as much of it is put as there is room for
      pub onward : i ≤ n → word16 (drop (place i) b) < 65536 → {d : List ℕ} → d ≡ part i → (at' : ℕ) (out' : List ℕ)
          → PutsText out at (take (min (length out₀ - at) (length d)) d) at' out' → Gathering out₀ (i + 1) (total + length d) at' out'
      onward h small {d} e at' out' p =
          record {
            from_one = omega arith;
            up_to = omega arith;
            bound = omega (arith, g.bound, ap length e, length_part i g.from_one h);
            passed = g.passed ++ d;
            all_is = append_assoc g.passed d (left (i + 1)) ∙ ap (λ (l : List ℕ). g.passed ++ l) (ap (λ (l : List ℕ). l ++ left (i + 1)) e ∙ sym (at_next i g.from_one h)) ∙ g.all_is;
            total_is = omega (arith, g.total_is, length-append g.passed d);
            wrote = PutsLaws.then _ (omega arith) g.wrote p
                (take-append (length out₀) g.passed d
                ∙ ap (λ (l : List ℕ). take (length out₀) g.passed ++ l) (ap (λ (k : ℕ). take k d) same_room ∙ sym (take_min (length out₀ - at) d)));
          }

      pub gathers : n < i → Gathers (data_of b) out₀ out total
      gathers h =
          let last : i ≡ n + 1 = omega (arith, g.up_to) in
          let all : g.passed ≡ data_of b = sym (append-nil g.passed) ∙ ap (λ (l : List ℕ). g.passed ++ l) (sym (ap left last ∙ at_last)) ∙ g.all_is in
          record { all = g.total_is ∙ ap length all; front = g.wrote.bytes ∙ ap (λ (l : List ℕ). put out₀ 0 (take (length out₀) l)) all }

-- data that the output holds whole is its front
pub whole_front : (z d : List ℕ) → length d ≤ length z → take (length d) (put z 0 (take (length z) d)) ≡ d
unfolding put
whole_front z d h =
    ap (λ (x : List ℕ). take (length d) (x ++ drop (0 + length x) z)) (take_all (length z) d h) ∙ take_at d _ (length d) refl

-- and more data than it holds fills it
pub filled_front : (z d : List ℕ) → length z ≤ length d → put z 0 (take (length z) d) ≡ take (length z) d
filled_front z d h = put_whole z (take (length z) d) (length-take-le (length z) d h)
