-- The layout from header, tag table, elements, and then the intent and the id. Assumes nothing.
use Prim.Native.Nat.{ℕ, ◌+◌, ◌*◌, ◌≤◌}
use mathlib.Core.Path.{◌≡◌, refl, ap, ap₂, sym, ◌∙◌}
use mathlib.Core.Bool.{false}
use mathlib.Core.List.{List, ◌++◌, append_assoc}
use native.Mathlib.Nat.{zero-add}
use native.Mathlib.Omega.{arith}
use lib.ListN.{length, take}
use lib.Seq.{length-take-le}
use Rattle.words.specs.Words.{be32}
use Rattle.words.specs.WordsLaws.{length-be32}
use Rattle.buffer.specs.Buffer.{put}
use Rattle.buffer.specs.BufferLaws.{length-put, take_put, put_put, put_back, put_longer, put_within}
use Rattle.buffer.specs.Bytes.{zeros}
use Rattle.buffer.specs.Puts.{Puts}
use Rattle.buffer.specs.PutsLaws.{joined}
use Rattle.md5_digest.specs.Md5.{md5}
use Rattle.md5_digest.specs.Md5Laws.{length-md5}
use Rattle.profile.specs.Elements.{Slot, tag_count, table, start, body, body_size, file, file_length}
use Rattle.profile.specs.ElementsLaws.{length-file}
use Rattle.profile.specs.Plan.{Plan, with_mark, kind, max_letters}
use Rattle.profile.specs.PlanLaws.{Nines, slots_shape, at_most}
use Rattle.profile.specs.Layout.{blank_header, elements, with_id, blanked, layout}
use Rattle.profile.specs.LayoutLaws.{length-header, plan_fours, length-layout, blanked_with_id, layout_last}
use Rattle.profile.specs.Shape.{shape, slots_of, max_length}
use Rattle.layout.specs.Begun.{Begun}

-- the header while the intent and the id are zero
abbrev pub blank : Plan → ℕ → List ℕ
blank p n = blank_header (kind p) n p.maker p.model

-- what a caller that has room for the layout knows of its parts
pub record Fits (p : Plan) (n : ℕ) : Type 0 where
  pub header : start (slots_of (shape p)) ≡ 128 + (4 + 12 * tag_count (slots_of (shape p)))
  pub whole : start (slots_of (shape p)) + body_size (slots_of (shape p)) ≤ n
  pub parts : file_length (slots_of (shape p)) ≡ start (slots_of (shape p)) + body_size (slots_of (shape p))
  pub small : file_length (slots_of (shape p)) ≤ max_length

pub fits : (p : Plan) (n : ℕ) → length (layout p) ≤ n → Nines p.content → (shape p).letters ≤ max_letters → Fits p n
unfolding file_length start slots_of
fits p n room h g =
    record {
      header = omega arith;
      whole = rw (length-layout p h) at room;
      parts = refl;
      small = at_most (shape p) g;
    }

-- the file with its three fields blank, from its parts
blank_parts : (p : Plan) → Nines p.content → (n : ℕ) → n ≡ file_length (slots_of (shape p))
    → (blank p n ++ table (slots_of (shape p))) ++ body (elements p) ≡ blanked (with_id (zeros 16) p)
unfolding file
blank_parts p h n e =
    append_assoc (blank p n) (table (slots_of (shape p))) (body (elements p))
    ∙ ap₂ (λ (n : ℕ) (ss : List Slot). blank p n ++ (table ss ++ body (elements p))) (e ∙ ap file_length (sym (slots_shape p h))) (sym (slots_shape p h))
    ∙ sym (blanked_with_id p (zeros 16) refl)

length-blanked : (p : Plan) → Nines p.content → length (blanked (with_id (zeros 16) p)) ≡ file_length (slots_of (shape p))
length-blanked p h =
    ap length (blanked_with_id p (zeros 16) refl)
    ∙ length-file _ (elements p) (length-header (kind p) _ refl) (plan_fours p h)
    ∙ ap file_length (slots_shape p h)

at_least_header : (ss : List Slot) → 128 ≤ file_length ss
unfolding file_length start
at_least_header ss = omega arith

-- the header and the table, as calls leave them
pub begun : (p : Plan) (l : List ℕ) {a b : List ℕ} {n s : ℕ} → Fits p (length l) → n ≡ file_length (slots_of (shape p)) → a ≡ put l 0 (blank p n)
    → Puts a 128 (4 + 12 * tag_count (slots_of (shape p))) (table (slots_of (shape p))) s b
    → Begun p b s n × (b ≡ put l 0 (blank p n ++ table (slots_of (shape p))))
begun p l {a} {b} {n} {s} f hn ha hb =
    let both = joined (omega arith) (record { size = length-header (kind p) _ refl; place = refl; bytes = ha }) hb in
    let q : List ℕ = blank p n ++ table (slots_of (shape p)) in
    let ends : s ≡ start (slots_of (shape p)) = omega (arith, both.place, f.header) in
    let kept : length b ≡ length l = ap length both.bytes ∙ length-put l 0 q (omega (arith, both.size, both.place, ends, f.whole)) in (
      record {
        place = ends;
        size = hn;
        room = omega (arith, kept, f.parts, f.whole);
        front = ap (take s) both.bytes ∙ take_put l 0 q s (omega arith) (omega (arith, both.size, both.place));
      },
      both.bytes,
    )

-- the elements behind them, and then the intent and the id: the code computes it, so the plan has no mark
pub finished : (p : Plan) → Nines p.content → (l : List ℕ) {d out : List ℕ} {at n k r : ℕ} → Begun p l at n
    → Puts l at k (body (elements p)) r d → out ≡ put (put d 64 (be32 p.intent)) 84 (md5 (take n d))
    → out ≡ put l 0 (layout (with_mark false p))
unfolding file_length
finished p h l {d} {out} {at} {n} b hd ho =
    let f : List ℕ = blanked (with_id (zeros 16) p) in
    let q : List ℕ = blank p n ++ table (slots_of (shape p)) in
    let behind : at ≡ 0 + length q = sym (length-take-le at l (omega (arith, b.place, b.size, b.room))) ∙ ap length b.front ∙ sym (zero-add (length q)) in
    let at_front : d ≡ put l 0 f =
    hd.bytes ∙ ap₂ (λ (x : List ℕ) (i : ℕ). put x i (body (elements p))) (sym (put_back l q at b.front)) behind
    ∙ put_put l 0 q (body (elements p)) (omega arith) ∙ ap (put l 0) (blank_parts p h n b.size)
    in
    let whole : length f ≡ n = length-blanked p h ∙ sym b.size in
    let hash : take n d ≡ f = ap₂ take (sym whole) at_front ∙ take_put l 0 f (length f) (omega arith) refl in
    let long : 128 ≤ length f = rw (length-blanked p h) (at_least_header (slots_of (shape p))) in
    let g : List ℕ = put f 64 (be32 p.intent) in
    let intent : 64 + length (be32 p.intent) ≤ length f = omega (arith, length-be32 p.intent) in
    ho ∙ ap₂ (λ (x y : List ℕ). put (put x 64 (be32 p.intent)) 84 (md5 y)) at_front hash
    ∙ ap (λ (x : List ℕ). put x 84 (md5 f)) (put_within l f 64 (be32 p.intent) intent)
    ∙ put_within l g 84 (md5 f) (omega (arith, length-md5 f, length-put f 64 (be32 p.intent) intent))
    ∙ ap (put l 0) (layout_last p)

-- the layout covers what was in front
pub covered : (p : Plan) → Nines p.content → (l : List ℕ) {b : List ℕ} {s n : ℕ} → Begun p b s n → b ≡ put l 0 (blank p n ++ table (slots_of (shape p)))
    → put b 0 (layout p) ≡ put l 0 (layout p)
unfolding file_length
covered p h l {b} {s} {n} g e =
    let front : length (blank p n ++ table (slots_of (shape p))) ≡ s = ap length (sym g.front) ∙ length-take-le s b (omega (arith, g.place, g.size, g.room)) in
    ap (λ (x : List ℕ). put x 0 (layout p)) e ∙ put_longer l _ (layout p) (omega (arith, front, g.place, length-layout p h))
