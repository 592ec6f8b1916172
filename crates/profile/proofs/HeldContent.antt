-- What owning the numbers of a plan tells: each array of their content has nine. Assumes nothing.
use mathlib.Core.List.{List}
use mir.Val.{Val}
use denote.Laws.{Is}
use denote.Enum.Declared.{row}
use denote.Struct.Declared as Struct
use denote.Enum.Laws.{owed}
use Rattle.profile.specs.declared.GrayWhite.{GrayWhite}
use Rattle.profile.specs.declared.Content.{Content}
use Rattle.profile.specs.declared.Content.TheVariants.{Gray, Rgb, Xyb}
use Rattle.profile.specs.declared.Numbers.{Numbers}
use Rattle.profile.specs.Plan.{unadapted, adapted}
use Rattle.profile.specs.contracts.GrayWhite as White
use Rattle.profile.proofs.GrayWhite.TheLaws as WhiteLaws
use Rattle.profile.specs.contracts.Content as Contents
use Rattle.profile.proofs.Content.TheLaws as ContentLaws
use Rattle.profile.specs.contracts.Numbers as Plans
use Rattle.profile.specs.PlanLaws.{WhiteNines, NinesIn}

pub held_white : (w : GrayWhite) (vs : List Val) → Is (row White.the_type) w vs → WhiteNines w
held_white (unadapted x z) vs p = tt
held_white (adapted m) vs p = (owed White.the_type WhiteLaws.the_laws (adapted m) vs p).0.1.0.1

pub held_content : (c : Content) (vs : List Val) → Is (row Contents.the_type) c vs → NinesIn c
held_content (Gray c w) vs p = let f = owed Contents.the_type ContentLaws.the_laws (Gray c w) vs p in held_white w _ f.1.0
held_content (Rgb c v m k) vs p = let f = owed Contents.the_type ContentLaws.the_laws (Rgb c v m k) vs p in (f.1.1.0.1.0.1, f.1.1.1.0.1.0.1)
held_content Xyb vs p = tt

-- the content is the fourth field
pub held_numbers : (p : Numbers) (vs : List Val) → Is (Struct.row Plans.the_type) p vs → NinesIn p.content
held_numbers p vs f = held_content p.content _ f.1.1.1.1.1.0
