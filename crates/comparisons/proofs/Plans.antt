-- The layout of the one plan that a file can have: it is as long as the file, and how it lies in an array. Assumes nothing.
use Prim.Native.Nat.{ℕ, ◌+◌, ◌*◌, ◌-◌, ◌≤◌}
use mathlib.Core.Path.{◌≡◌, refl, ap, ap₂, sym, ◌∙◌}
use mathlib.Core.Bool.{true}
use mathlib.Core.List.{List, [], ◌++◌, append_assoc}
use native.Mathlib.Omega.{arith}
use lib.ListN.{length, take, drop, length-drop, length-append, length-replicate}
use lib.Seq.{take_at, take-append-le, drop-append-le}
use mir.Syntax.{w32}
use mir.Val.{SFits}
use Rattle.words.specs.Words.{be32}
use Rattle.buffer.specs.Bytes.{zeros}
use Rattle.buffer.specs.Buffer.{put}
use Rattle.buffer.specs.BufferLaws.{length-put, take_put, put_after}
use Rattle.profile.specs.Elements.{start, table, file_length}
use Rattle.profile.specs.ElementsLaws.{length-table}
use Rattle.profile.specs.Plan.{Content, gray, rgb, xyb, kind_of, kind, max_letters}
use Rattle.profile.specs.PlanLaws.{good_nines, at_most, fours}
use Rattle.profile.specs.Numbers.{plan_of}
use Rattle.profile.specs.Layout.{Varying, header, blank_header, layout}
use Rattle.profile.specs.LayoutLaws.{with_intent, length-header, length-layout, header_put_intent, header_put_id}
use Rattle.profile.specs.Shape.{shape_of, shape, slots_of, max_length}
use Rattle.layout.specs.Begun.{Begun}
use Rattle.profile.specs.declared.Kind.{Kind}
use Rattle.profile.specs.declared.Shape.{Shape}
use Rattle.profile.specs.declared.Numbers.{Numbers}
use Rattle.reader_spec.specs.RefusalList.{Ok21}
use Rattle.reader_spec.specs.RefusalListLaws.{id_length, after_header, regions}
use Rattle.reader_spec.specs.Table.{varying_of, tags_of, body_of}
use Rattle.reader_spec.specs.PlanIn.{free_letters, shape_in, plan_in}
use Rattle.reader_spec.specs.PlanInLaws.{free_short, text_by}
use Rattle.reader_spec.specs.FitsLaws.{Bytes}
use Rattle.reader_spec.specs.ShapeLaws.{start_if}
use Rattle.reader_spec.specs.Steps.{Candidate}
use Rattle.reader_spec.specs.Tests.{letters_and_cicp_good}
use Rattle.reader_spec.specs.CandidateLaws.{letters_are, plan_is, shape_is, content}

front_length : (k : Kind) (v : Varying) (s : Shape) → length v.id ≡ 16 → length (header k v ++ table (slots_of s)) ≡ start (slots_of s)
unfolding start
front_length k v s h = simp (length-append, length-header k v h, length-table (slots_of s) (fours s)) (omega arith)

module _ (f : List ℕ) (p : Numbers) (t : List ℕ) (c : Candidate f p t) where
  shape_of_lem : shape (plan_of p t) ≡ shape_in f
  shape_of_lem = ap shape (plan_is f p t c) ∙ shape_is f p t c

  -- elements and padding start where the plan's do
  pub start_is : 132 + 12 * tags_of f ≡ start (slots_of (shape (plan_of p t)))
  start_is =
      let t = c.tabled in
      start_if f t.headed.sized.long (shape_in f) t.table_is.good.short t.table_is.table ∙ ap (λ s. start (slots_of s)) (sym shape_of_lem)

  pub text_short : length t ≤ max_letters
  text_short =
      let s = shape_in f in
      let letters : length t ≡ free_letters s.kind s.letters =
      ap length (c.text ∙ sym (text_by f s refl)) ∙ letters_are s f c.tabled
      in
      omega (arith, letters, free_short s.kind s.letters, c.tabled.table_is.good.short)

  pub start_inside : start (slots_of (shape (plan_of p t))) ≤ length f
  unfolding file_length
  start_inside = rw shape_of_lem (omega (arith, c.tabled.table_is.length-is))

  pub at_most_1240 : length f ≤ 1240
  at_most_1240 = omega (arith, c.tabled.table_is.length-is, at_most (shape_in f) c.tabled.table_is.good.short)

  pub as_long : Bytes f → letters_and_cicp_good p t ≡ true → length (layout (plan_of p t)) ≡ length f
  as_long bytes good =
      ap (λ q. length (layout q)) (plan_is f p t c)
      ∙ length-layout (plan_in f) (good_nines (SFits w32) (plan_in f).content (content f p t c bytes good))
      ∙ ap (λ s. file_length (slots_of s)) (shape_is f p t c) ∙ sym c.tabled.table_is.length-is

  kind_is : kind (plan_of p t) ≡ (shape_in f).kind
  kind_is = of_content (plan_of p t).content ∙ ap (λ s. s.kind) shape_of_lem
    where
      of_content : (c : Content) → kind_of c ≡ (shape_of c).kind
      of_content (gray g) = refl
      of_content (rgb g) = refl
      of_content xyb = refl

  device_is : (p.maker ≡ (varying_of f).maker) × (p.model ≡ (varying_of f).model)
  unfolding plan_in
  device_is = (ap (λ (n : Numbers). n.maker) c.numbers, ap (λ (n : Numbers). n.model) c.numbers)

  -- header and tag table of the file, with the intent and the id zero, are those of the plan
  blank_front : (at : ℕ) → at ≡ start (slots_of (shape (plan_of p t)))
      → put (put (take at f) 64 (be32 0)) 84 (zeros 16)
      ≡ blank_header (kind (plan_of p t)) (length f) p.maker p.model ++ table (slots_of (shape (plan_of p t)))
  blank_front at e =
      let s = shape_in f in
      let k = s.kind in
      let v = varying_of f in
      let h = c.tabled.headed in
      let ok21 : Ok21 f = record { long = h.sized.long } in
      let here : f ≡ (header k v ++ table (slots_of s)) ++ body_of f =
      after_header f ok21 k h.header ∙ ap (λ x. header k v ++ x) (regions f ok21 ∙ ap (λ x. x ++ body_of f) c.tabled.table_is.table)
      ∙ sym (append_assoc (header k v) (table (slots_of s)) (body_of f))
      in
      let ends : length (header k v ++ table (slots_of s)) ≡ at =
      front_length k v s (id_length f ok21) ∙ ap (λ s. start (slots_of s)) (sym shape_of_lem) ∙ sym e
      in
      ap (λ x. put (put x 64 (be32 0)) 84 (zeros 16)) (ap (take at) here ∙ take_at (header k v ++ table (slots_of s)) (body_of f) at ends)
      ∙ ap (λ x. put x 84 (zeros 16)) (header_put_intent k v 0 (table (slots_of s)))
      ∙ header_put_id k (with_intent 0 v) (zeros 16) (table (slots_of s)) (id_length f ok21) refl
      ∙ ap₂ (λ (n : ℕ) (k : Kind). blank_header k n v.maker v.model ++ table (slots_of s)) h.sized.size (sym kind_is)
      ∙ ap₂ (λ (a b : ℕ). blank_header (kind (plan_of p t)) (length f) a b ++ table (slots_of s)) (sym device_is.0) (sym device_is.1)
      ∙ ap (λ s. blank_header (kind (plan_of p t)) (length f) p.maker p.model ++ table (slots_of s)) (sym shape_of_lem)

  -- put into the front of zeros, they begin the layout of the plan
  pub starts_layout : (at : ℕ) (l : List ℕ) → at ≡ start (slots_of (shape (plan_of p t)))
      → l ≡ put (zeros max_length) 0 (put (put (take at f) 64 (be32 0)) 84 (zeros 16)) → Begun (plan_of p t) l at (length f)
  starts_layout at l e h =
      let p = plan_of p t in
      let b = blank_front at e in
      let q : List ℕ = blank_header (kind p) (length f) p.maker p.model ++ table (slots_of (shape p)) in
      let here : l ≡ put (zeros max_length) 0 q = h ∙ ap (put (zeros max_length) 0) b in
      let ends : length q ≡ at = front_length (kind p) _ (shape p) refl ∙ sym e in
      let fits : 0 + length q ≤ length (zeros max_length) = rw length-replicate (omega (arith, ends, e, start_inside, at_most_1240)) in
      record {
        place = e;
        size = c.tabled.table_is.length-is ∙ ap (λ s. file_length (slots_of s)) (sym shape_of_lem);
        room = rw (here, length-put (zeros max_length) 0 q fits, length-replicate) at_most_1240;
        front = ap (take at) here ∙ take_put (zeros max_length) 0 q at (omega arith) ends;
      }

-- ---- bytes put into the front of an array

module _ (z l : List ℕ) {o : List ℕ} (e : o ≡ put z 0 l) where
  pub from_place : (at n : ℕ) → length l ≡ n → at ≤ n → take (n - at) (drop at o) ≡ drop at l
  from_place at n h g =
      rw (e, put_after [] z l 0 refl, drop-append-le at l (drop (length l) z) (omega arith)) (take_at (drop at l) (drop (length l) z) (n - at) (simp length-drop (omega arith)))

  pub within : (at n : ℕ) → at + n ≤ length l → take n (drop at o) ≡ take n (drop at l)
  within at n h =
      rw (e, put_after [] z l 0 refl, drop-append-le at l (drop (length l) z) (omega arith)) (take-append-le n (drop at l) (drop (length l) z) (simp length-drop (omega arith)))
