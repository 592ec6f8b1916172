-- The tag table of a shape, by its place in the file. Assumes nothing.
use Rattle.std.specs.Prelude.{ℕ, ◌+◌, ◌*◌, ◌^◌, ◌≤◌, ◌<◌, ◌≡◌, List, ◌++◌, length, take, drop}
use Rattle.std.proofs.Math.Path.{ap}
use Rattle.std.proofs.Common.{sym, ◌∙◌, arith, take-append-drop, take_at}
use Rattle.profile.specs.Elements.{line_start, tag_count, table, entries, start, file_length}
use Rattle.profile.specs.ElementsLaws.{length-table}
use Rattle.profile.specs.Plan.{max_letters}
use Rattle.profile.specs.PlanLaws.{fours, at_most}
use Rattle.profile.specs.Shape.{slots_of}
use Rattle.profile.specs.declared.Shape.{Shape}
use Rattle.reader_spec.specs.Table.{tags_of, table_of, body_of, entries_of}
use Rattle.reader_spec.specs.TableLaws.{tags_are, table_is, entries_are}
use Rattle.reader_spec.specs.RefusalListLaws.{regions}

module _ (f : List ℕ) (long : 132 ≤ length f) (s : Shape) (short : s.letters ≤ max_letters) where
  small : file_length (slots_of s) < 2 ^ 32
  small = omega (arith, at_most s short)

  from_128 : table_of f ≡ table (slots_of s) → drop 128 f ≡ table (slots_of s) ++ body_of f
  from_128 e = regions f (record { long = long }) ∙ ap (λ x. x ++ body_of f) e

  -- it stands from byte 128 on
  pub region_if : table_of f ≡ table (slots_of s) → take (4 + 12 * tag_count (slots_of s)) (drop 128 f) ≡ table (slots_of s)
  region_if e =
      ap (take (4 + 12 * tag_count (slots_of s))) (from_128 e) ∙ take_at (table (slots_of s)) (body_of f) _ (length-table (slots_of s) (fours s))

  pub table_if : take (4 + 12 * tag_count (slots_of s)) (drop 128 f) ≡ table (slots_of s) → table_of f ≡ table (slots_of s)
  table_if e =
      let rest : List ℕ = drop (4 + 12 * tag_count (slots_of s)) (drop 128 f) in
      let here : drop 128 f ≡ table (slots_of s) ++ rest =
      sym (take-append-drop (4 + 12 * tag_count (slots_of s)) (drop 128 f)) ∙ ap (λ x. x ++ rest) e
      in
      table_is f (slots_of s) rest here (fours s) small

  pub entries_if : table_of f ≡ table (slots_of s) → entries_of f ≡ entries (start (slots_of s)) (slots_of s)
  entries_if e = entries_are f (slots_of s) (body_of f) (from_128 e) (fours s) small

  pub start_if : table_of f ≡ table (slots_of s) → line_start (tags_of f) ≡ start (slots_of s)
  unfolding start
  start_if e = ap (λ (n : ℕ). line_start n) (tags_are f (slots_of s) (body_of f) (from_128 e) (fours s) small)
