-- The letters read from the element of the first line are the text of the plan.
use mathlib.Core.Path.{ap, sym, ◌∙◌}
use native.Mathlib.Omega.{arith}
use Rattle.reader_spec.specs.CandidateLaws.{text_within, letters_are}
use Rattle.reader_spec.specs.PlanInLaws.{free_short, text_by}
use Prim.Native.Nat.{◌+◌, ◌*◌}
use mathlib.Core.Path.{◌≡◌, refl}
use native.Mathlib.Nat.{zero-add}
use lib.ListN.{length, take, drop}
use lib.Seq.{drop-drop}
use Rattle.profile.specs.Numbers.{text_of}
use Rattle.reader_spec.specs.Table.{line_in}
use Rattle.reader_spec.specs.PlanIn.{low_bytes, free_letters, text_in, plan_in}
use Rattle.plan_in.proofs.text_in.Goals as goal

pub read_letters-requires : goal.read_letters-requires
read_letters-requires c =
    let within = text_within c.args.shape c.args.file.now c.requires.0 in (
      omega (arith, within, c.offset_at.ensures, c.free_letters-letters.ensures),
      omega (
        arith,
        c.requires.1,
        c.requires.0.table_is.good.short,
        c.free_letters-letters.ensures,
        free_short c.args.shape.kind c.args.shape.letters,
      ),
    )

pub returns : goal.returns
unfolding text_in
returns c =
    let f = c.args.file.now in
    let s = c.args.shape in
    let letters = c.free_letters-letters.ensures in
    let text : low_bytes (take (2 * free_letters s.kind s.letters) (drop ((line_in f 0).offset + 28) f)) ≡ text_of (plan_in f) =
    rw (← drop-drop 28 (line_in f 0).offset f) (text_by f s (sym c.requires.0.shape_is))
    in
    record {
      size = refl;
      place = letters ∙ sym (letters_are s f c.requires.0) ∙ ap length (text_by f s (sym c.requires.0.shape_is)) ∙ sym (zero-add _);
      bytes = c.read_letters.ensures ∙ rw (letters, c.offset_at.ensures, text);
    }
