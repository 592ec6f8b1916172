-- Elements, intent and id complete what is begun: the law `finished`.
-- Assumes nothing.
use native.Mathlib.Omega.{arith}
use Rattle.profile.specs.Elements.{start, file_length}
use Rattle.profile.specs.Numbers.{plan_of}
use Rattle.profile.specs.Plan.{Plan}
use Rattle.profile.specs.PlanLaws.{Nines, nines_by}
use Rattle.profile.proofs.HeldContent.{held_numbers}
use Rattle.layout.proofs.Finish.{finished}
use Rattle.layout.proofs.put_elements_and_id.Goals.{Start}
use Rattle.layout.proofs.put_elements_and_id.Goals as goal

module _ (s : Start) where
  abbrev plan : Plan
  plan = plan_of s.args.plan s.args.text.now

  nines : Nines plan.content
  nines = nines_by s.args.plan s.args.text.now (held_numbers s.args.plan _ s.well_formed.1.1.1.0)

pub put_elements-requires : goal.put_elements-requires
unfolding file_length
put_elements-requires c = (c.requires.0, omega (arith, c.requires.1.place, c.requires.1.size, c.requires.1.room))

pub put_intent_and_id-requires : goal.put_intent_and_id-requires
unfolding file_length start
put_intent_and_id-requires c =
    omega (arith, c.put_elements.auto.out, c.requires.1.size, c.requires.1.room)

pub returns : goal.returns
returns c =
    finished (plan (goal.at.returns c).Start) (nines (goal.at.returns c).Start) c.args.out.now c.requires.1 c.put_elements.ensures c.put_intent_and_id.ensures.bytes
