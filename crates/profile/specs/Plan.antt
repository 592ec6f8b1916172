-- A plan (the plan of 01): a kind, an intent, maker and model (02, order 6), the mark "id not computed" (02, order 7) and what a profile of that kind
-- holds, in whole numbers; and which plans there are, their mark aside (`Exists` of `reader_spec`).
-- Assumes nothing.
use Rattle.std.specs.Prelude.{ℕ, ◌^◌, ◌≤◌, ◌<◌, ◌≡◌, ◌⊎◌, Bool, false, List, length, Option, Some, None, ℤ, nat_abs}
use Rattle.std.proofs.Common.{SFits}
use Rattle.std.specs.Int.{w32}
use Rattle.numbers.specs.Fixed.{largest}
use Rattle.buffer.specs.All.{All}
use Rattle.buffer.specs.Ascii.{Ascii}
use Rattle.profile.specs.declared.Kind.{Kind}
use Rattle.profile.specs.declared.Kind.TheVariants.{Gray, Rgb, Xyb}
use Rattle.profile.specs.declared.Curve.{Curve}
use Rattle.profile.specs.declared.Curve.TheVariants.{Named, Gamma}
-- the white of a gray plan (02, order 9): its own, X and Z, as Y is 65536; or adapted to D50, the nine numbers of `chad`, by rows
pub use Rattle.profile.specs.declared.GrayWhite.{GrayWhite}
pub use Rattle.profile.specs.declared.GrayWhite.TheVariants.{Unadapted as unadapted, Adapted as adapted}

pub record GrayContent : Type 0 where
  pub text : List ℕ
  pub curve : Curve
  pub white : GrayWhite

pub record RgbContent : Type 0 where
  pub text : List ℕ
  pub curve : Curve
  -- nine numbers by rows
  pub chad : List ℤ
  -- nine numbers in file order: the red, the green and the blue column
  pub columns : List ℤ
  -- the `cicp` primaries value
  pub cicp : Option ℕ

pub data Content : Type 0 where
  gray : GrayContent → Content
  rgb : RgbContent → Content
  xyb : Content

pub record Plan : Type 0 where
  pub intent : ℕ
  -- the device's manufacturer and its model (7.2.12, 7.2.13): four bytes each as one number, the first byte the most significant
  pub maker : ℕ
  pub model : ℕ
  -- the mark: sixteen zero bytes stand in place of the id, which ICC.1:2022 takes as not computed (7.2.18)
  pub id_not_computed : Bool
  pub content : Content

-- the plan of this intent and content whose maker and model are zero and whose id is computed
abbrev pub plain_plan : ℕ → Content → Plan
plain_plan i c = record { intent = i; maker = 0; model = 0; id_not_computed = false; content = c }

-- the plan with this maker and this model
abbrev pub with_device : ℕ → ℕ → Plan → Plan
with_device a b p = record { intent = p.intent; maker = a; model = b; id_not_computed = p.id_not_computed; content = p.content }

-- the plan with the mark, or without it
abbrev pub with_mark : Bool → Plan → Plan
with_mark m p = record { intent = p.intent; maker = p.maker; model = p.model; id_not_computed = m; content = p.content }

-- ---- the three kinds

abbrev pub kind_of : Content → Kind
kind_of (gray g) = Gray
kind_of (rgb g) = Rgb
kind_of xyb = Xyb

abbrev pub kind : Plan → Kind
kind p = kind_of p.content

-- ---- which plans there are; N is what each free number has to be

-- the most letters of a text
abbrev pub max_letters : ℕ
max_letters = 372

pub record GoodText (t : List ℕ) : Type 0 where
  pub some-letter : 1 ≤ length t
  pub short : length t ≤ max_letters
  pub ascii : Ascii t

abbrev pub GoodCurve : (ℤ → Type 0) → Curve → Type 0
GoodCurve N (Named n) = Unit {0}
GoodCurve N (Gamma g) = N g

-- ColourPrimaries values of H.273
abbrev pub CicpPrimaries : ℕ → Type 0
CicpPrimaries v = (v ≡ 1) ⊎ ((v ≡ 9) ⊎ ((v ≡ 11) ⊎ (v ≡ 12)))

-- `cicp` stands beside a named curve only
abbrev pub GoodCicp : Curve → Option ℕ → Type 0
GoodCicp c None = Unit {0}
GoodCicp (Named n) (Some v) = CicpPrimaries v
GoodCicp (Gamma g) (Some v) = ⊥

abbrev pub GoodWhite : (ℤ → Type 0) → GrayWhite → Type 0
GoodWhite N (unadapted x z) = N x × N z
GoodWhite N (adapted m) = (length m ≡ 9) × All N m

pub record GoodGray (N : ℤ → Type 0) (g : GrayContent) : Type 0 where
  pub text : GoodText g.text
  pub curve : GoodCurve N g.curve
  pub white : GoodWhite N g.white

pub record GoodRgb (N : ℤ → Type 0) (g : RgbContent) : Type 0 where
  pub text : GoodText g.text
  pub curve : GoodCurve N g.curve
  pub chad_nine : length g.chad ≡ 9
  pub chad : All N g.chad
  pub columns_nine : length g.columns ≡ 9
  pub columns : All N g.columns
  pub cicp : GoodCicp g.curve g.cicp

abbrev pub GoodContent : (ℤ → Type 0) → Content → Type 0
GoodContent N (gray g) = GoodGray N g
GoodContent N (rgb g) = GoodRgb N g
GoodContent N xyb = Unit {0}

-- each kind has the four rendering intents (7.2.15)
abbrev pub GoodIntent : ℕ → Type 0
GoodIntent i = i ≤ 3

-- any four bytes
abbrev pub FourBytes : ℕ → Type 0
FourBytes n = n < 2 ^ 32

pub record Good (N : ℤ → Type 0) (p : Plan) : Type 0 where
  pub intent : GoodIntent p.intent
  pub maker : FourBytes p.maker
  pub model : FourBytes p.model
  pub content : GoodContent N p.content

-- each number of a plan lies within ±2147483264, the range of fixed numbers
abbrev pub InRange : ℤ → Type 0
InRange z = nat_abs z ≤ largest

abbrev pub Valid : Plan → Type 0
Valid = Good InRange

-- a plan but for the range of its numbers: each is any signed 32-bit number, so its four bytes are any four bytes
abbrev pub Wide : Plan → Type 0
Wide = Good (SFits w32)
