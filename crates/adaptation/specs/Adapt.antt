-- The chromatic adaptation of a white point to D50 by the Bradford matrices: `adapt_to_xyz_d50` of api/color.rs, and its narrowing, the
-- `chad_matrix` of `maybe_create_profile`. Assumes nothing.
use Rattle.std.specs.Prelude.{ℕ, Bool, ◌&&◌, ◌||◌, not, cond, List, [], ◌∷◌, Float}
use Rattle.std.specs.Float.{binary64}
use Rattle.std.specs.Float.Ieee.{of_bits, eq}
use Rattle.buffer.specs.Checked.{Checked, is, refused, then}
use Rattle.floats.specs.Binary64.{◌⊘◌, zero, one}
use Rattle.linalg.specs.Linalg.{three, component, applied, product}
use Rattle.icc_matrix.specs.Narrowed.{narrowed}
use Rattle.color_encoding.specs.declared.WhiteXy.{WhiteXy}
use Rattle.color_encoding.specs.Range.{in_range}
use Rattle.white_point.specs.White.{white_xyz, finite, finite_xyz}

abbrev b64 : ℕ → Float
b64 n = of_bits binary64 n

-- K_BRADFORD:
--  0.8951  0.2664 -0.1614
-- -0.7502  1.7135  0.0367
--  0.0389 -0.0685  1.0296
abbrev pub bradford : List (List Float)
bradford =
    (b64 0x3fec_a4a8_c154_c986 ∷ b64 0x3fd1_0cb2_95e9_e1b1 ∷ b64 0xbfc4_a8c1_54c9_85f0 ∷ [])
    ∷ (b64 0xbfe8_01a3_6e2e_b1c4 ∷ b64 0x3ffb_6a7e_f9db_22d1 ∷ b64 0x3fa2_ca57_a786_c227 ∷ [])
    ∷ (b64 0x3fa3_eab3_67a0_f909 ∷ b64 0xbfb1_8937_4bc6_a7f0 ∷ b64 0x3ff0_793d_d97f_62b7 ∷ [])
    ∷ []

-- K_BRADFORD_INV:
--  0.9869929 -0.1470543  0.1599627
--  0.4323053  0.5183603  0.0492912
-- -0.0085287  0.0400428  0.9684867
abbrev pub bradford_inv : List (List Float)
bradford_inv =
    (b64 0x3fef_9572_225c_4b5a ∷ b64 0xbfc2_d2ac_e09e_3ae9 ∷ b64 0x3fc4_79a8_628a_38d4 ∷ [])
    ∷ (b64 0x3fdb_aae3_d958_cc4a ∷ b64 0x3fe0_9668_5701_6e95 ∷ b64 0x3fa9_3cb2_37f6_1093 ∷ [])
    ∷ (b64 0xbf81_777e_bc9e_8160 ∷ b64 0x3fa4_807d_68e1_6aea ∷ b64 0x3fee_fdd7_d1e3_8d03 ∷ [])
    ∷ []

-- X, Y and Z of D50: 0.96422, 1, 0.82521
abbrev pub d50 : List Float
d50 = b64 0x3fee_dae3_e6c4_c597 ∷ one ∷ b64 0x3fea_681e_cd4a_a10e ∷ []

abbrev pub diagonal : List Float → List (List Float)
diagonal v =
    (component v 0 ∷ zero ∷ zero ∷ []) ∷ (zero ∷ component v 1 ∷ zero ∷ []) ∷ (zero ∷ zero ∷ component v 2 ∷ []) ∷ []

-- Rust's `contains(&0.0)`: -0 is equal to 0
unfoldable pub has_zero : List Float → Bool
has_zero v = eq (component v 0) zero || eq (component v 1) zero || eq (component v 2) zero

unfoldable pub all_finite : List Float → Bool
all_finite v = finite (component v 0) && finite (component v 1) && finite (component v 2)

-- the cone responses L, M and S of an XYZ
unfoldable pub lms : List Float → List Float
lms xyz = applied bradford xyz

-- what each cone response is multiplied by: that of D50 divided by that of the white
unfoldable pub gains : WhiteXy → List Float
gains w = three (λ i. component (lms d50) i ⊘ component (lms (white_xyz w)) i)

-- the tests, in their order: the coordinates are in range, X and Z are finite, no cone response is zero, every gain is finite
unfoldable pub adaptable : WhiteXy → Bool
adaptable w = in_range w && finite_xyz (white_xyz w) && not (has_zero (lms (white_xyz w))) && all_finite (gains w)

-- to cone responses, each by its gain, and back
unfoldable pub adaptation_matrix : List Float → List (List Float)
adaptation_matrix g = product bradford_inv (product (diagonal g) bradford)

-- 4 of the refusal list of 01
abbrev pub invalid_white_point : {A : Type 0} → Checked A
invalid_white_point = refused 4

unfoldable pub adapt_to_xyz_d50 : WhiteXy → Checked (List (List Float))
adapt_to_xyz_d50 w = cond (adaptable w) (is (adaptation_matrix (gains w))) invalid_white_point

-- ---- the matrix of the element `chad`

unfoldable pub chad_matrix : WhiteXy → Checked (List (List Float))
chad_matrix w = then (adapt_to_xyz_d50 w) (λ m. is (narrowed m))
