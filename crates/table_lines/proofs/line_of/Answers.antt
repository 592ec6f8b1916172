-- The loop's invariant: the first line with the signature is the first among the lines not yet passed (`FinderLaws`).
use Prim.Native.Nat.{◌+◌, ◌*◌, ◌<◌}
use mathlib.Core.Path.{◌≡◌, refl, ap, sym, ◌∙◌}
use native.Mathlib.Nat.{add-sub_cancel_left}
use native.Mathlib.Omega.{arith}
use lib.ListN.{take, drop}
use Rattle.buffer.specs.Bytes.{same}
use Rattle.reader_spec.specs.Table.{tags_of, entries_of, absent}
use Rattle.reader_spec.specs.Finder.{line_of}
use Rattle.reader_spec.specs.LinesLaws.{from_first, line_in_lem}
use Rattle.reader_spec.proofs.FinderLaws.{line_is, line_later, line_none}
use Rattle.table_lines.proofs.line_of.Goals.{After-same_bytes}
use Rattle.table_lines.proofs.line_of.Goals as goal

module _ (c : After-same_bytes) where
  inside : c.loop-i.i < tags_of c.args.file.now
  inside = omega arith

  compared : c.same_bytes.result ≡ same (take 4 (drop (132 + 12 * c.loop-i.i) c.args.file.now)) c.args.signature
  compared = c.same_bytes.ensures ∙ rw (add-sub_cancel_left (132 + 12 * c.loop-i.i) 4)

pub loop-i-init : goal.loop-i-init
loop-i-init c = ap (λ es. line_of c.args.signature es absent) (from_first c.args.file.now)

pub returns-then-same_bytes : goal.returns-then-same_bytes
returns-then-same_bytes c =
    let b = (goal.at.returns-then-same_bytes c).After-same_bytes in
    let f = c.args.file.now in
    let is : line_of c.args.signature (entries_of f) absent ≡ _ =
    c.loop-i.invariant ∙ line_is _ _ _ (inside b) (sym (compared b) ∙ c.if-same_bytes.true) ∙ sym (line_in_lem f c.loop-i.i (inside b))
    in
    rw is (c.line_at.ensures, rw (line_in_lem f c.loop-i.i (inside b)) (sym (compared b) ∙ c.if-same_bytes.true))

pub loop-i-preserved : goal.loop-i-preserved
loop-i-preserved c =
    let b = (goal.at.loop-i-preserved c).After-same_bytes in
    c.loop-i.invariant ∙ line_later _ _ _ (inside b) (sym (compared b) ∙ c.if-same_bytes.false)

pub returns : goal.returns
returns c =
    let f = c.args.file.now in
    let all : c.loop-i.i ≡ tags_of f = omega arith in
    rw (c.loop-i.invariant, all, line_none f c.args.signature) refl
