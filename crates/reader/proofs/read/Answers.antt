-- Each answer is that of the check that its test makes (`Headers`, `Tables`).
use Prim.Native.Nat.{ℕ}
use mathlib.Core.Path.{◌≡◌, ap, sym, ◌∙◌, subst}
use mathlib.Core.List.{List}
use native.Mathlib.Omega.{arith}
use Rattle.profile.specs.declared.Kind.{Kind}
use Rattle.profile.specs.declared.Shape.{Shape}
use Rattle.reader_spec.specs.Table.{varying_of, entries_of}
use Rattle.reader_spec.specs.PlanIn.{shape_from, shape_in}
use Rattle.reader_spec.specs.PlanInLaws.{shape_kind}
use Rattle.reader_spec.specs.DecideLaws.{decided_if, decided_not}
use Rattle.reader_spec.specs.Steps.{Headed, Tabled}
use Rattle.reader_spec.specs.StepsLaws.{read_21, read_22, read_table, table_25, table_body}
use Rattle.reader.proofs.HeaderTests.{Tested, headed, answer_23, answer_24}
use Rattle.reader.proofs.read.Goals.{After-header_is, After-read_u32_be-intent, After-shape_in-shape, Else-not-intent_is_good, Else-not-table_is}
use Rattle.reader.proofs.read.Goals as goal

module _ (c : After-read_u32_be-intent) where
  abbrev file : List ℕ
  file = c.args.file.now

  abbrev kind : Kind
  kind = c.kind_of-kind.result

  abbrev intent : ℕ
  intent = c.read_u32_be-intent.result

tested : (c : After-header_is) → Tested (kind (goal.at.After-header_is c).After-read_u32_be-intent) (file (goal.at.After-header_is c).After-read_u32_be-intent) c.header_is.result (intent (goal.at.After-header_is c).After-read_u32_be-intent)
unfolding varying_of
tested c =
    record {
      sized =
          record { long = c.if-file-lt-SHORTEST.false; size = sym c.read_u32_be-size.ensures ∙ c.if-size-file.false; kind_is = sym c.kind_of-kind.ensures };
      test = c.header_is.ensures;
      intent = c.read_u32_be-intent.ensures;
    }

module _ (c : Else-not-intent_is_good) where
  passed : Headed (kind (goal.at.Else-not-intent_is_good c).After-read_u32_be-intent) (file (goal.at.Else-not-intent_is_good c).After-read_u32_be-intent)
  passed = headed (tested (goal.at.Else-not-intent_is_good c).After-header_is) c.if-not-header_is.false (decided_if _ (sym c.intent_is_good.ensures ∙ c.if-not-intent_is_good.false))

shape_is : (c : After-shape_in-shape) → shape_in (file (goal.at.After-shape_in-shape c).After-read_u32_be-intent) ≡ c.shape_in-shape.result
unfolding shape_in
shape_is c =
    sym (c.shape_in-shape.ensures ∙ ap (λ (x : Kind). shape_from x (entries_of (file (goal.at.After-shape_in-shape c).After-read_u32_be-intent))) c.kind_of-kind.ensures)

tabled : (c : Else-not-table_is) → Tabled c.shape_in-shape.result (file (goal.at.Else-not-table_is c).After-read_u32_be-intent)
tabled c =
    record {
      headed =
          subst (λ (x : Kind). Headed x (file (goal.at.Else-not-table_is c).After-read_u32_be-intent)) (sym (ap (λ (s : Shape). s.kind) c.shape_in-shape.ensures ∙ shape_kind (kind (goal.at.Else-not-table_is c).After-read_u32_be-intent) (entries_of (file (goal.at.Else-not-table_is c).After-read_u32_be-intent)))) (passed (goal.at.Else-not-table_is c).Else-not-intent_is_good);
      shape_is = shape_is (goal.at.Else-not-table_is c).After-shape_in-shape;
      table_is = decided_if _ (sym c.table_is.ensures ∙ c.if-not-table_is.false);
    }

pub returns-then-file-lt-SHORTEST : goal.returns-then-file-lt-SHORTEST
returns-then-file-lt-SHORTEST c = rw (read_21 c.args.file.now (λ h. omega arith))

pub returns-then-size-file : goal.returns-then-size-file
unfolding varying_of
returns-then-size-file c = rw (read_22 c.args.file.now c.if-file-lt-SHORTEST.false (λ e. c.if-size-file.true (c.read_u32_be-size.ensures ∙ e)))

pub header_is-requires : goal.header_is-requires
unfolding varying_of
header_is-requires c =
    (c.if-file-lt-SHORTEST.false, sym c.read_u32_be-size.ensures ∙ c.if-size-file.false, c.read_u32_be-intent.ensures)

pub returns-then-not-header_is : goal.returns-then-not-header_is
returns-then-not-header_is c = rw (answer_23 (tested (goal.at.returns-then-not-header_is c).After-header_is) c.if-not-header_is.true)

pub returns-then-not-intent_is_good : goal.returns-then-not-intent_is_good
returns-then-not-intent_is_good c =
    let t = tested (goal.at.returns-then-not-intent_is_good c).After-header_is in
    rw (answer_24 t c.if-not-header_is.false (decided_not _ (sym c.intent_is_good.ensures ∙ c.if-not-intent_is_good.true)))

pub returns-then-not-table_is : goal.returns-then-not-table_is
returns-then-not-table_is c =
    let f = c.args.file.now in
    let is = shape_is (goal.at.returns-then-not-table_is c).After-shape_in-shape in
    rw (
      read_table _ f (passed (goal.at.returns-then-not-table_is c).Else-not-intent_is_good),
      table_25 c.shape_in-shape.result f is (decided_not _ (sym c.table_is.ensures ∙ c.if-not-table_is.true)),
    )

pub read_elements-requires : goal.read_elements-requires
unfolding varying_of
read_elements-requires c = (tabled (goal.at.read_elements-requires c).Else-not-table_is, c.read_u32_be-intent.ensures)

pub returns : goal.returns
returns c =
    let f = c.args.file.now in
    rw (
      read_table _ f (passed (goal.at.returns c).Else-not-intent_is_good),
      table_body c.shape_in-shape.result f (tabled (goal.at.returns c).Else-not-table_is),
    ) c.read_elements.ensures
