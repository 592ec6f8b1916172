-- The reader's tests as code makes them: each is true exactly if what it tests holds (`TestsLaws`). Assumes nothing.
use Rattle.std.specs.Prelude.{ℕ, Bool, true, ◌&&◌, ◌||◌, List, [], ◌∷◌, eqb, ℤ, Option, Some, None}
use Rattle.buffer.specs.Ascii.{is_ascii}
use Rattle.profile.specs.declared.Numbers.{Numbers}
use Rattle.profile.specs.declared.GrayWhite.{GrayWhite}
use Rattle.profile.specs.declared.GrayWhite.TheVariants.{Unadapted, Adapted}
use Rattle.profile.specs.declared.Content.{Content}
use Rattle.profile.specs.declared.Content.TheVariants.{Gray, Rgb, Xyb}
use Rattle.profile.specs.declared.Curve.{Curve}
use Rattle.profile.specs.declared.Curve.TheVariants.{Named, Gamma}
use Rattle.reader_spec.specs.Decide.{decided, in_range_lem}

-- a number lies within its range
abbrev pub in_range : ℤ → Bool
in_range z = decided (in_range_lem z)

unfoldable pub all_in_range : List ℤ → Bool
all_in_range [] = true
all_in_range (z ∷ zs) = in_range z && all_in_range zs

abbrev pub curve_in_range : Curve → Bool
curve_in_range (Named n) = true
curve_in_range (Gamma g) = in_range g

-- a primaries value that a plan has
abbrev pub cicp_good : Option ℕ → Bool
cicp_good None = true
cicp_good (Some v) = eqb v 1 || (eqb v 9 || (eqb v 11 || eqb v 12))

-- ---- a plan in code

abbrev pub white_in_range : GrayWhite → Bool
white_in_range (Unadapted x z) = in_range x && in_range z
white_in_range (Adapted m) = all_in_range m

abbrev pub content_in_range : Content → Bool
content_in_range (Gray c w) = curve_in_range c && white_in_range w
content_in_range (Rgb c v m k) = curve_in_range c && (all_in_range m && all_in_range k)
content_in_range Xyb = true

-- every number is in range
unfoldable pub numbers_in_range : Numbers → Bool
numbers_in_range p = content_in_range p.content

abbrev pub cicp_of : Content → Option ℕ
cicp_of (Gray c w) = None
cicp_of (Rgb c v m k) = v
cicp_of Xyb = None

-- the letters and the `cicp` value are those of a plan
unfoldable pub letters_and_cicp_good : Numbers → List ℕ → Bool
letters_and_cicp_good p t = is_ascii t && cicp_good (cicp_of p.content)
