-- The constants and the functions of api/xyb_constants.rs, in its names. All but the last are f32. Constants stand by their bits.
-- Assumes nothing.
use Rattle.std.specs.Prelude.{ℕ, zero, suc, List, [], ◌∷◌, ◌++◌, pos, get_or, Float}
use Rattle.std.specs.Float.{nan, binary32, binary64}
use Rattle.std.specs.Float.Ieee.{of_bits, of_int, neg}
use Rattle.floats.specs.Binary32.{◌⊕◌, ◌⊖◌, ◌⊗◌, ◌⊘◌, zero as zero32, one}

abbrev b32 : ℕ → Float
b32 n = of_bits binary32 n

abbrev b64 : ℕ → Float
b64 n = of_bits binary64 n

-- element i of an array
abbrev pub at : List Float → ℕ → Float
at l i = get_or l i nan

-- 0.0037930732552754493
abbrev pub opsin_absorbance_bias : Float
opsin_absorbance_bias = b32 0x3b789536

abbrev pub neg_opsin_absorbance_bias_rgb : List Float
neg_opsin_absorbance_bias_rgb = neg opsin_absorbance_bias ∷ neg opsin_absorbance_bias ∷ neg opsin_absorbance_bias ∷ []

-- 0.1559542, the cube root of the bias: `cbrt` of the negated bias is this, negated. CubeRoot says how near the exact root lies.
abbrev pub cbrt_opsin_absorbance_bias : Float
cbrt_opsin_absorbance_bias = b32 0x3e1fb275

-- 0.015386134, 0.0, 0.27770459
abbrev pub scaled_xyb_offset : List Float
scaled_xyb_offset = b32 0x3c7c1620 ∷ zero32 ∷ b32 0x3e8e2f4c ∷ []

-- 22.995788804, 1.183000077, 1.502141333
abbrev pub scaled_xyb_scale : List Float
scaled_xyb_scale = b32 0x41b7f760 ∷ b32 0x3f976c8c ∷ b32 0x3fc0462b ∷ []

abbrev pub reciprocal_sum : Float → Float → Float
reciprocal_sum r1 r2 = (r1 ⊗ r2) ⊘ (r1 ⊕ r2)

abbrev pub xyb_offset : List Float
xyb_offset =
    (at scaled_xyb_offset 0 ⊕ at scaled_xyb_offset 1)
    ∷ (at scaled_xyb_offset 1 ⊖ at scaled_xyb_offset 0 ⊕ one ⊘ at scaled_xyb_scale 0)
    ∷ (at scaled_xyb_offset 1 ⊕ at scaled_xyb_offset 2)
    ∷ []

abbrev pub xyb_scale : List Float
xyb_scale =
    reciprocal_sum (at scaled_xyb_scale 0) (at scaled_xyb_scale 1)
    ∷ reciprocal_sum (at scaled_xyb_scale 0) (at scaled_xyb_scale 1)
    ∷ reciprocal_sum (at scaled_xyb_scale 1) (at scaled_xyb_scale 2)
    ∷ []

abbrev pub xyb_corner : ℕ → ℕ → ℕ → ℕ → Float
xyb_corner x y b idx =
    let val = get_or (x ∷ y ∷ b ∷ []) idx 0 in
    of_int binary32 (pos val) ⊘ at scaled_xyb_scale idx ⊖ at scaled_xyb_offset idx

abbrev pub scaled_a2b_corner : ℕ → ℕ → ℕ → ℕ → Float
scaled_a2b_corner x y b zero = xyb_corner x y b 1 ⊕ xyb_corner x y b 0
scaled_a2b_corner x y b (suc zero) = xyb_corner x y b 1 ⊖ xyb_corner x y b 0
scaled_a2b_corner x y b (suc (suc n)) = xyb_corner x y b 2 ⊕ xyb_corner x y b 1

abbrev pub unscaled_a2b_corner : ℕ → ℕ → ℕ → List Float
unscaled_a2b_corner x y b =
    ((scaled_a2b_corner x y b 0 ⊕ at xyb_offset 0) ⊗ at xyb_scale 0)
    ∷ ((scaled_a2b_corner x y b 1 ⊕ at xyb_offset 1) ⊗ at xyb_scale 1)
    ∷ ((scaled_a2b_corner x y b 2 ⊕ at xyb_offset 2) ⊗ at xyb_scale 2)
    ∷ []

-- the 24 values in the order of the Rust's nested arrays
unfoldable pub unscaled_a2b_cube_full : List Float
unscaled_a2b_cube_full =
    unscaled_a2b_corner 0 0 0 ++ unscaled_a2b_corner 0 0 1
    ++ unscaled_a2b_corner 0 1 0 ++ unscaled_a2b_corner 0 1 1
    ++ unscaled_a2b_corner 1 0 0 ++ unscaled_a2b_corner 1 0 1
    ++ unscaled_a2b_corner 1 1 0 ++ unscaled_a2b_corner 1 1 1

-- 1.5170095, -1.1065225, 0.071623, -0.050022, 0.5683655, -0.018344, -1.387676, 1.1145555, 0.6857255, as f64
abbrev pub xyb_icc_matrix : List Float
xyb_icc_matrix =
    b64 0x3ff845abc0e38a7e ∷ b64 0xbff1b450efdc9c4e ∷ b64 0x3fb255e28aa43351
    ∷ b64 0xbfa99c7bcc2938de ∷ b64 0x3fe2300cd855970b ∷ b64 0xbf92c8c5004fb118
    ∷ b64 0xbff633ebbfd71b04 ∷ b64 0x3ff1d53825e13b19 ∷ b64 0x3fe5f1769a91105e
    ∷ []
