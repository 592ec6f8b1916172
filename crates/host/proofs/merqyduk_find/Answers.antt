-- By whether the finder's line has bytes (`HostLaws`). Assumes nothing.
use Rattle.std.proofs.Common.{◌≡◌, refl, ap, ◌∙◌}
use Rattle.buffer.specs.BufferLaws.{put_whole}
use Rattle.profile.specs.Elements.{Entry}
use Rattle.words.specs.Words.{be32}
use Rattle.words.specs.WordsLaws.{length-be32}
use Rattle.reader_spec.specs.Finder.{found}
use Rattle.host.specs.HostLaws.{element_found, element_absent}
use Rattle.host.proofs.merqyduk_find.Goals.{After-find_line}
use Rattle.host.proofs.merqyduk_find.Goals as goal

module _ (c : After-find_line) where
  abbrev line : Entry
  line = found c.args.file.now (be32 c.args.signature)

  -- the four bytes that the finder is asked for
  signed : found c.args.file.now c.put_u32_be.new.out ≡ line
  signed =
      ap (found c.args.file.now) (c.put_u32_be.ensures.bytes ∙ put_whole _ _ (length-be32 c.args.signature))

pub returns-in_default : goal.returns-in_default
returns-in_default c =
    let same = signed (goal.at.returns-in_default c).After-find_line in
    element_absent (ap (λ (e : Entry). e.size) (c.in_default.ensures ∙ same)) refl

pub returns-then-line-ne0 : goal.returns-then-line-ne0
returns-then-line-ne0 c =
    let same = signed (goal.at.returns-then-line-ne0 c).After-find_line in
    element_found (c.in-Some.ensures.0.1 ∙ ap (λ (e : Entry). e.size) same) c.if-line-ne0.true (c.in-Some.ensures.0.0 ∙ ap (λ (e : Entry). e.offset) same)

pub returns-else-line-ne0 : goal.returns-else-line-ne0
returns-else-line-ne0 c =
    let same = signed (goal.at.returns-else-line-ne0 c).After-find_line in
    element_absent (c.in-Some.ensures.0.1 ∙ ap (λ (e : Entry). e.size) same) c.if-line-ne0.false
