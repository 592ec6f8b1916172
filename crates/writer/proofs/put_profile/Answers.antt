-- The text is the description, and `layout` lays its plan out. Assumes nothing.
use Prim.Native.Nat.{ℕ, ◌-◌, ◌≤◌}
use mathlib.Core.Path.{◌≡◌, sym, ap, ◌∙◌}
use mathlib.Core.List.{List, ◌++◌}
use lib.ListN.{length, take, replicate}
use Rattle.buffer.specs.Buffer.{put as put_front}
use Rattle.buffer.specs.PutsLaws.{in_front}
use Rattle.text.specs.Description.{description}
use Rattle.profile.specs.Plan.{max_letters}
use Rattle.profile.specs.Numbers.{plan_of}
use Rattle.profile.specs.Layout.{layout}
use Rattle.writer.proofs.Laying.{letters}
use Rattle.writer.proofs.put_profile.Goals.{After-put_description-len, Start}
use Rattle.writer.proofs.put_profile.Goals as goal

module _ (c : After-put_description-len) where
  abbrev text : List ℕ
  text = description c.args.encoding

  abbrev written : List ℕ
  written = take c.put_description-len.result c.put_description-len.new.out

  -- the text in front of zeros
  front : (c.put_description-len.result ≡ length text) × (c.put_description-len.new.out ≡ text ++ replicate (449 - length text) 0)
  front = in_front 449 c.put_description-len.ensures.puts

  text-is : written ≡ text
  text-is = letters text (449 - length text) front.0 front.1

  short : length text ≤ max_letters
  short = c.put_description-len.ensures.short.accepted c.requires.0

pub put_plan-requires : goal.put_plan-requires
put_plan-requires c =
    (rw (text-is (goal.at.put_plan-requires c).After-put_description-len) (short (goal.at.put_plan-requires c).After-put_description-len), c.requires.1 ∙ sym (ap (λ t. length (layout (plan_of ((goal.at.put_plan-requires c).Start).args.plan t))) (text-is (goal.at.put_plan-requires c).After-put_description-len)), c.requires.2)

pub returns : goal.returns
returns c =
    c.put_plan.ensures.bytes ∙ ap (λ t. put_front c.args.out.now 0 (layout (plan_of ((goal.at.returns c).Start).args.plan t))) (text-is (goal.at.returns c).After-put_description-len)
