-- The writer has room for the profile, and puts it where the part begins. Assumes nothing.
use Rattle.std.proofs.Common.{ℕ, ◌+◌, ◌-◌, length, refl, ap, ◌∙◌, arith}
use borrow.Rule.Slice.PartMut.{put_mid}
use Rattle.encoding_plan.specs.PlanOf.{plan_of}
use Rattle.encoding_plan.specs.FixedFloats.{fixed_floats}
use Rattle.writer.specs.WriterLaws.{plain_writes}
use Rattle.entry_output.specs.EntryOutputLaws.{written_is, refused_is, lent_answer, lent_output}
use Rattle.entry_output.proofs.put_profile.Goals as goal

pub returns-in-Ok : goal.returns-in-Ok
returns-in-Ok c =
    let call = plain_writes c.into.ensures c.in-Ok.ensures in
    let p = plan_of c.args.encoding in
    let xs = fixed_floats c.args.encoding in
    let told = call.0 ∙ lent_answer c.args.out.now c.args.at xs p c.requires in
    record {
      size = refl;
      place = ap (λ (n : ℕ). c.args.at + n) (written_is xs p told);
      bytes = ap (put_mid c.args.at (length c.args.out.now - c.args.at) c.args.out.now) call.1 ∙ lent_output c.args.out.now c.args.at p c.requires;
    }

pub returns-in-Err : goal.returns-in-Err
returns-in-Err c =
    let call = plain_writes c.into.ensures c.in-Err.ensures in
    let p = plan_of c.args.encoding in
    let xs = fixed_floats c.args.encoding in
    let told = call.0 ∙ lent_answer c.args.out.now c.args.at xs p c.requires in
    record {
      size = refl;
      place = omega (arith, refused_is xs p told);
      bytes = ap (put_mid c.args.at (length c.args.out.now - c.args.at) c.args.out.now) call.1 ∙ lent_output c.args.out.now c.args.at p c.requires;
    }
