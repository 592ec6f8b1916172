-- The shape of a plan: its kind, the letters of its text, whether its curve is a gamma, whether it has `cicp` and whether it is gray with its white adapted
-- to D50. The tag table of a plan is that of its shape (PlanLaws). Assumes nothing.
use Rattle.std.specs.Prelude.{ℕ, ◌+◌, ◌*◌, ◌≤◌, Bool, true, false, List, [], ◌∷◌, ◌++◌, length, Option, Some, None}
use Rattle.profile.specs.Signatures as Sig
use Rattle.profile.specs.Elements.{Slot}
use Rattle.profile.specs.Plan.{Plan, GrayWhite, unadapted, adapted, Content, gray, rgb, xyb, max_letters}
use Rattle.profile.specs.declared.Kind.{Kind}
use Rattle.profile.specs.declared.Kind.TheVariants.{Gray, Rgb, Xyb}
use Rattle.profile.specs.declared.Shape.{Shape}
use Rattle.profile.specs.declared.Curve.{Curve}
use Rattle.profile.specs.declared.Curve.TheVariants.{Named, Gamma}

abbrev pub is_gamma : Curve → Bool
is_gamma (Named n) = false
is_gamma (Gamma g) = true

abbrev pub has_cicp : Option ℕ → Bool
has_cicp None = false
has_cicp (Some v) = true

abbrev pub is_adapted : GrayWhite → Bool
is_adapted (unadapted x z) = false
is_adapted (adapted m) = true

-- the letters of an XYB plan's text: `XYB_` and the three of its intent's name
abbrev pub xyb_letters : ℕ
xyb_letters = 7

abbrev pub xyb_shape : Shape
xyb_shape = record { kind = Xyb; letters = xyb_letters; gamma = false; cicp = false; adapted = false }

abbrev pub shape_of : Content → Shape
shape_of (gray g) = record { kind = Gray; letters = length g.text; gamma = is_gamma g.curve; cicp = false; adapted = is_adapted g.white }
shape_of (rgb g) = record { kind = Rgb; letters = length g.text; gamma = is_gamma g.curve; cicp = has_cicp g.cicp; adapted = false }
shape_of xyb = xyb_shape

abbrev pub shape : Plan → Shape
shape p = shape_of p.content

-- ---- which shapes there are

-- `cicp` stands beside a named curve only
abbrev pub NotBoth : Bool → Bool → Type 0
NotBoth true true = ⊥
NotBoth true false = Unit {0}
NotBoth false b = Unit {0}

pub record GoodShape (s : Shape) : Type 0 where
  pub some-letter : 1 ≤ s.letters
  pub short : s.letters ≤ max_letters
  pub pair : NotBoth s.cicp s.gamma

-- the fewest and the most bytes of a profile (01, "A plan")
abbrev pub min_length : ℕ
min_length = 284

abbrev pub max_length : ℕ
max_length = 1240

-- ---- sizes (01, "The layout")

abbrev pub mluc_size : ℕ → ℕ
mluc_size n = 28 + 2 * n

-- of three numbers, and of nine
abbrev pub xyz_size : ℕ
xyz_size = 20

abbrev pub chad_size : ℕ
chad_size = 44

-- of function type 0 and of type 3
abbrev pub curve_size : Bool → ℕ
curve_size true = 16
curve_size false = 32

abbrev pub cicp_size : ℕ
cicp_size = 12

abbrev pub a2b0_size : ℕ
a2b0_size = 292

abbrev pub b2a0_size : ℕ
b2a0_size = 80

abbrev pub sized : List (List ℕ) → ℕ → Slot
sized s n = record { signatures = s; size = n }

abbrev pub one : List ℕ → ℕ → Slot
one s n = sized (s ∷ []) n

-- ---- the elements of each kind, in tag order (01, "The layout")

abbrev pub cicp_slot : Bool → List Slot
cicp_slot true = one Sig.cicp cicp_size ∷ []
cicp_slot false = []

-- of gray
abbrev pub chad_slot : Bool → List Slot
chad_slot true = one Sig.chad chad_size ∷ []
chad_slot false = []

-- the columns of an RGB profile and its one curve, of n bytes
abbrev pub color_slots : ℕ → List Slot
color_slots n = one Sig.r_xyz xyz_size ∷ one Sig.g_xyz xyz_size ∷ one Sig.b_xyz xyz_size ∷ sized (Sig.r_trc ∷ Sig.g_trc ∷ Sig.b_trc ∷ []) n ∷ []

-- each profile begins so
abbrev pub first_slots : ℕ → List Slot
first_slots n = one Sig.desc (mluc_size n) ∷ one Sig.cprt (mluc_size 3) ∷ one Sig.wtpt xyz_size ∷ []

abbrev pub slots_for : Kind → Shape → List Slot
slots_for Gray s = first_slots s.letters ++ (chad_slot s.adapted ++ (one Sig.k_trc (curve_size s.gamma) ∷ []))
slots_for Rgb s = first_slots s.letters ++ (one Sig.chad chad_size ∷ (cicp_slot s.cicp ++ color_slots (curve_size s.gamma)))
slots_for Xyb s = first_slots xyb_letters ++ (one Sig.chad chad_size ∷ one Sig.A2B0 a2b0_size ∷ one Sig.B2A0 b2a0_size ∷ [])

unfoldable pub slots_of : Shape → List Slot
slots_of s = slots_for s.kind s
