-- The layout is as long as the file, and the parts of the array that are compared are those of the layout (`Plans`).
use Prim.Native.Nat.{ℕ, ◌-◌, ◌≤◌}
use mathlib.Core.Path.{◌≡◌, ap, ap₂, ◌∙◌}
use mathlib.Core.List.{List}
use native.Mathlib.Omega.{arith}
use lib.ListN.{length, take, drop}
use borrow.Author.Rules.{part_to_end}
use Rattle.buffer.specs.Buffer.{put}
use Rattle.buffer.specs.Bytes.{same}
use Rattle.profile.specs.Elements.{start}
use Rattle.profile.specs.Numbers.{plan_of}
use Rattle.profile.specs.Layout.{layout}
use Rattle.profile.specs.Shape.{shape, slots_of}
use Rattle.profile.specs.declared.Numbers.{Numbers}
use Rattle.comparisons.proofs.Plans.{start_is, text_short, start_inside, at_most_1240, as_long, starts_layout, from_place, within}
use Rattle.comparisons.proofs.compared.Goals.{After-elements_start-at, After-put_elements_and_id}
use Rattle.comparisons.proofs.compared.Goals as goal

module _ (c : After-elements_start-at) where
  abbrev file : List ℕ
  file = c.args.file.now

  abbrev plan : Numbers
  plan = c.args.plan

  abbrev text : List ℕ
  text = c.args.text.now

  abbrev laid : List ℕ
  laid = layout (plan_of plan text)

  abbrev place : ℕ
  place = start (slots_of (shape (plan_of plan text)))

  size : length laid ≡ length file
  size = as_long file plan text c.requires.0 (λ i. (c.type_inv.file i).fits) c.requires.1

  at_most : length file ≤ 1240
  at_most = at_most_1240 file plan text c.requires.0

  at_start : c.elements_start-at.result ≡ place
  at_start = c.elements_start-at.ensures ∙ start_is file plan text c.requires.0

  inside : c.elements_start-at.result ≤ length file
  inside = omega (arith, at_start, start_inside file plan text c.requires.0)

module _ (c : After-put_elements_and_id) where
  abbrev first : After-elements_start-at
  first = (goal.at.After-put_elements_and_id c).After-elements_start-at

  array : c.put_elements_and_id.new.out ≡ put c.put_blank_front.new.laid 0 (laid first)
  array = c.put_elements_and_id.ensures

  -- elements and padding of the layout
  elements : take (length (file first) - c.elements_start-at.result) (drop c.elements_start-at.result c.put_elements_and_id.new.out) ≡ drop (place first) (laid first)
  elements =
      from_place _ (laid first) array c.elements_start-at.result (length (file first)) (size first) (inside first) ∙ ap (λ (k : ℕ). drop k (laid first)) (at_start first)

  id : take 16 (drop 84 c.put_elements_and_id.new.out) ≡ take 16 (drop 84 (laid first))
  id = within _ (laid first) array 84 16 (omega (arith, size first, c.requires.0.tabled.headed.sized.long))

  fits : length (file first) ≤ length c.put_elements_and_id.new.out
  fits = omega (arith, at_most first, c.put_elements_and_id.auto.out, c.put_blank_front.auto.laid)

pub put_blank_front-requires : goal.put_blank_front-requires
put_blank_front-requires c =
    let first = (goal.at.put_blank_front-requires c).After-elements_start-at in
    (omega (arith, c.elements_start-at.ensures), inside first, omega (arith, inside first, at_most first))

-- the front of the array is that of the layout
pub put_elements_and_id-requires : goal.put_elements_and_id-requires
put_elements_and_id-requires c =
    let first = (goal.at.put_elements_and_id-requires c).After-elements_start-at in
    (text_short (file first) (plan first) (text first) c.requires.0, starts_layout (file first) (plan first) (text first) c.requires.0 _ _ (at_start first) c.put_blank_front.ensures)

pub slice_bounds-same_bytes-count : goal.slice_bounds-same_bytes-count
slice_bounds-same_bytes-count c = inside (goal.at.slice_bounds-same_bytes-count c).After-elements_start-at

pub slice_bounds-same_bytes-start : goal.slice_bounds-same_bytes-start
slice_bounds-same_bytes-start c = omega (arith, inside (goal.at.slice_bounds-same_bytes-start c).After-elements_start-at)

pub slice_bounds-same_bytes-count-2 : goal.slice_bounds-same_bytes-count-2
slice_bounds-same_bytes-count-2 c = inside (goal.at.slice_bounds-same_bytes-count-2 c).After-elements_start-at

pub slice_bounds-same_bytes-start-2 : goal.slice_bounds-same_bytes-start-2
slice_bounds-same_bytes-start-2 c = omega (arith, inside (goal.at.slice_bounds-same_bytes-start-2 c).After-elements_start-at)

pub slice_bounds-same_bytes-end-2 : goal.slice_bounds-same_bytes-end-2
slice_bounds-same_bytes-end-2 c = omega (arith, fits (goal.at.slice_bounds-same_bytes-end-2 c).After-put_elements_and_id)

pub returns-clause-elements_value : goal.returns-clause-elements_value
returns-clause-elements_value c =
    let put = (goal.at.returns-clause-elements_value c).After-put_elements_and_id in
    c.same_bytes.ensures ∙ ap₂ same (simp part_to_end (ap (λ (k : ℕ). drop k c.args.file.now) (at_start (first put)))) (elements put)

pub returns-clause-id_value : goal.returns-clause-id_value
returns-clause-id_value c = c.same_bytes-2.ensures ∙ ap (same _) (id (goal.at.returns-clause-id_value c).After-put_elements_and_id)
