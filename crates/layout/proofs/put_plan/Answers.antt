-- Header and table begin the layout (`begun`), which then covers them (`covered`). What fits is known from the sizes (`fits`).
-- Assumes nothing.
use Prim.Native.Nat.{◌≤◌}
use mathlib.Core.Path.{◌≡◌, refl, sym, ◌∙◌}
use mathlib.Core.List.{◌++◌}
use native.Mathlib.Nat.{zero-add}
use native.Mathlib.Omega.{arith}
use lib.ListN.{length}
use Rattle.buffer.specs.Buffer.{put}
use Rattle.profile.specs.Elements.{table, file_length}
use Rattle.profile.specs.Numbers.{plan_of}
use Rattle.profile.specs.Plan.{Plan, max_letters}
use Rattle.profile.specs.PlanLaws.{Nines, kind_by_lem, letters_by, nines_by}
use Rattle.profile.proofs.HeldContent.{held_numbers}
use Rattle.profile.specs.LayoutLaws.{length-layout}
use Rattle.profile.specs.Shape.{shape, slots_of}
use Rattle.layout.specs.Begun.{Begun}
use Rattle.layout.proofs.Finish.{Fits, fits, blank, begun as begun-with, covered}
use Rattle.layout.proofs.put_plan.Goals.{After-put_table-at, After-shape_of-shape, Start}
use Rattle.layout.proofs.put_plan.Goals as goal

module _ (s : Start) where
  abbrev plan : Plan
  plan = plan_of s.args.plan s.args.text.now

  nines : Nines plan.content
  nines = nines_by s.args.plan s.args.text.now (held_numbers s.args.plan _ s.well_formed.1.0)

  letters : (shape plan).letters ≤ max_letters
  letters = letters_by s.args.plan s.args.text.now s.requires.0

  size : s.args.size ≡ file_length (slots_of (shape plan))
  size = s.requires.1 ∙ length-layout plan nines

  room : Fits plan (length s.args.out.now)
  room = fits plan _ (omega (arith, s.requires)) nines letters

shape_is : (c : After-shape_of-shape) → c.shape_of-shape.result ≡ shape (plan (goal.at.After-shape_of-shape c).Start)
shape_is c = c.shape_of-shape.ensures ((goal.at.After-shape_of-shape c).Start).args.text.now refl

module _ (c : After-put_table-at) where
  front : Begun (plan (goal.at.After-put_table-at c).Start) c.put_table-at.new.out c.put_table-at.result c.args.size
      × (c.put_table-at.new.out ≡ put c.args.out.now 0 (blank (plan (goal.at.After-put_table-at c).Start) c.args.size ++ table (slots_of (shape (plan (goal.at.After-put_table-at c).Start)))))
  front =
      begun-with (plan (goal.at.After-put_table-at c).Start) c.args.out.now (room (goal.at.After-put_table-at c).Start) (size (goal.at.After-put_table-at c).Start) (rw (kind_by_lem c.args.plan c.args.text.now, ← c.kind-kind.ensures) c.create_icc_header.ensures)
      (rw (shape_is (goal.at.After-put_table-at c).After-shape_of-shape) at c.put_table-at.ensures)

pub overflow_cast-size : goal.overflow_cast-size
overflow_cast-size c = omega (arith, size (goal.at.overflow_cast-size c).Start, room (goal.at.overflow_cast-size c).Start)

pub create_icc_header-requires : goal.create_icc_header-requires
create_icc_header-requires c = omega (arith, room (goal.at.create_icc_header-requires c).Start)

pub put_table-at-requires : goal.put_table-at-requires
put_table-at-requires c =
    rw (shape_is (goal.at.put_table-at-requires c).After-shape_of-shape) (letters (goal.at.put_table-at-requires c).Start, omega (arith, room ((goal.at.put_table-at-requires c).Start)))

pub put_elements_and_id-requires : goal.put_elements_and_id-requires
put_elements_and_id-requires c = (c.requires.0, (front (goal.at.put_elements_and_id-requires c).After-put_table-at).0)

pub returns : goal.returns
returns c =
    record {
      size = refl;
      place = c.requires.1 ∙ sym (zero-add _);
      bytes = c.put_elements_and_id.ensures ∙ covered (plan (goal.at.returns c).Start) (nines (goal.at.returns c).Start) c.args.out.now (front (goal.at.returns c).After-put_table-at).0 (front (goal.at.returns c).After-put_table-at).1;
    }
