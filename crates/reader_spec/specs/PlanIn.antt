-- The plan that a file can only have, its mark aside, read from the bytes of its header, its tag table and its elements. Assumes nothing.
use Rattle.std.specs.Prelude.{ℕ, zero, suc, ◌+◌, ◌*◌, ◌/◌, ◌-◌, Bool, true, false, cond, ◌&&◌, List, [], ◌∷◌, ◌++◌, eqb, ℤ, pos, nat_abs, length, take, drop, get_or, Option, Some, None}
use Rattle.words.specs.Words.{word32, signed32}
use Rattle.buffer.specs.Bytes.{same}
use Rattle.profile.specs.Elements.{Entry}
use Rattle.profile.specs.Plan.{Plan, Content, gray, rgb, xyb, plain_plan, with_device}
use Rattle.profile.specs.declared.GrayWhite.{GrayWhite}
use Rattle.profile.specs.declared.GrayWhite.TheVariants.{Unadapted, Adapted}
use Rattle.profile.specs.declared.Kind.{Kind}
use Rattle.profile.specs.declared.Kind.TheVariants.{Gray, Rgb, Xyb}
use Rattle.profile.specs.TagTypes.{parameters}
use Rattle.profile.specs.Layout.{class, space}
use Rattle.profile.specs.Shape.{xyb_shape, mluc_size, curve_size}
use Rattle.profile.specs.declared.Shape.{Shape}
use Rattle.profile.specs.declared.CurveName.{CurveName}
use Rattle.profile.specs.declared.CurveName.TheVariants as Name
use Rattle.profile.specs.declared.Curve.{Curve}
use Rattle.profile.specs.declared.Curve.TheVariants.{Named, Gamma}
use Rattle.reader_spec.specs.Table.{varying_of, entries_of, absent, line_in}

-- ---- the kind, by class and space, bytes 12 to 15 and 16 to 19 of the header

abbrev pub is_of : Kind → List ℕ → Bool
is_of k f = same (take 4 (drop 12 f)) (class k) && same (take 4 (drop 16 f)) (space k)

-- a pair that is not listed is held against RGB's header, and refused
unfoldable pub kind_from : List ℕ → Kind
kind_from f = cond (is_of Xyb f) Xyb (cond (is_of Gray f) Gray Rgb)

-- ---- the shape, by the lines of the tag table

abbrev pub size_at : List Entry → ℕ → ℕ
size_at es i = (get_or es i absent).size

-- the letters of a text whose `desc` has so many bytes
abbrev pub letters_for : ℕ → ℕ
letters_for size = (size - mluc_size 0) / 2

-- the number of tags of an RGB profile with `cicp`
abbrev pub cicp_tags : ℕ
cicp_tags = 11

-- the line of the red column; those of the green and the blue column and of the curve follow
abbrev pub red_line_of : Bool → ℕ
red_line_of cicp = cond cicp 5 4

-- the number of tags of a gray profile whose white is adapted, and the line of the curve of gray
abbrev pub adapted_tags : ℕ
adapted_tags = 5

abbrev pub gray_curve_line : Bool → ℕ
gray_curve_line a = cond a 4 3

-- the first line is that of `desc`
unfoldable pub shape_from : Kind → List Entry → Shape
shape_from Gray es =
    let a = eqb (length es) adapted_tags in
    record { kind = Gray; letters = letters_for (size_at es 0); gamma = eqb (size_at es (gray_curve_line a)) (curve_size true); cicp = false; adapted = a }
shape_from Rgb es =
    let v = eqb (length es) cicp_tags in
    record { kind = Rgb; letters = letters_for (size_at es 0); gamma = eqb (size_at es (red_line_of v + 3)) (curve_size true); cicp = v; adapted = false }
shape_from Xyb es = xyb_shape

unfoldable pub shape_in : List ℕ → Shape
shape_in f = shape_from (kind_from f) (entries_of f)

-- ---- what an element holds, its bytes at the front of a list

-- a number of four bytes
abbrev pub number_in : List ℕ → ℤ
number_in l = signed32 (word32 l)

unfoldable pub numbers_from : ℕ → List ℕ → List ℤ
numbers_from zero l = []
numbers_from (suc n) l = number_in l ∷ numbers_from n (drop 4 l)

-- n numbers of an `XYZ ` or `sf32` element
abbrev pub numbers_in : ℕ → List ℕ → List ℤ
numbers_in n b = numbers_from n (drop 8 b)

-- the low bytes of UTF-16BE
unfoldable pub low_bytes : List ℕ → List ℕ
low_bytes [] = []
low_bytes (x ∷ []) = []
low_bytes (x ∷ (y ∷ l)) = y ∷ low_bytes l

-- the n letters of an `mluc` element
unfoldable pub text_in : ℕ → List ℕ → List ℕ
text_in n b = low_bytes (take (2 * n) (drop (mluc_size 0) b))

-- the first number of a named curve, by which it is told from the others
abbrev pub first_number : CurveName → ℕ
first_number n = nat_abs (get_or (parameters n) 0 (pos 0))

unfoldable pub name_by : ℕ → CurveName
name_by g =
    cond (eqb g (first_number Name.SRGB)) Name.SRGB
    (cond (eqb g (first_number Name.BT709)) Name.BT709 (cond (eqb g (first_number Name.Linear)) Name.Linear Name.DCI))

-- a gamma, or the named curve
abbrev pub curve_in : Bool → List ℕ → Curve
curve_in true b = Gamma (number_in (drop 12 b))
curve_in false b = Named (name_by (word32 (drop 12 b)))

abbrev pub cicp_in : Bool → List ℕ → Option ℕ
cicp_in true b = Some (get_or b 8 0)
cicp_in false b = None

-- ---- the plan, from its shape and its elements: e i is the element that line i names

-- the three columns, of which the red one has line i
abbrev pub columns_in : (ℕ → List ℕ) → ℕ → List ℤ
columns_in e i = numbers_in 3 (e i) ++ (numbers_in 3 (e (i + 1)) ++ numbers_in 3 (e (i + 2)))

-- the white of gray: X and Z of `wtpt`, or, adapted, `chad`
abbrev pub white_in : Bool → (ℕ → List ℕ) → GrayWhite
white_in true e = Adapted (numbers_in 9 (e 3))
white_in false e = Unadapted (number_in (drop 8 (e 2))) (number_in (drop 16 (e 2)))

unfoldable pub content_from : Kind → Shape → (ℕ → List ℕ) → Content
content_from Gray s e =
    gray (record {
      text = text_in s.letters (e 0);
      curve = curve_in s.gamma (e (gray_curve_line s.adapted));
      white = white_in s.adapted e;
    })
content_from Rgb s e =
    let red = red_line_of s.cicp in
    rgb (record {
      text = text_in s.letters (e 0);
      curve = curve_in s.gamma (e (red + 3));
      chad = numbers_in 9 (e 3);
      columns = columns_in e red;
      cicp = cicp_in s.cicp (e 4);
    })
content_from Xyb s e = xyb

-- the letters of a shape's free text: XYB has none
abbrev pub free_letters : Kind → ℕ → ℕ
free_letters Gray n = n
free_letters Rgb n = n
free_letters Xyb n = 0

-- the file from the first byte of the element that line i names on
abbrev pub element_in : List ℕ → ℕ → List ℕ
element_in f i = drop (line_in f i).offset f

unfoldable pub plan_in : List ℕ → Plan
plan_in f =
    let s = shape_in f in
    let v = varying_of f in
    with_device v.maker v.model (plain_plan v.intent (content_from s.kind s (element_in f)))
