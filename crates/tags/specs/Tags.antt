-- The tags of a profile, in the order of its table. Assumes nothing.
use Rattle.std.specs.Prelude.{ℕ, ◌-◌, Bool, true, false, List, [], ◌∷◌, ◌++◌, map, length, replicate}
use Rattle.buffer.specs.Bytes.{zeros}
use Rattle.profile.specs.Elements.{Slot}
use Rattle.profile.specs.Shape.{xyb_shape, slots_for}
use Rattle.profile.specs.declared.Kind.TheVariants.{Gray, Rgb, Xyb}
use Rattle.profile.specs.declared.Shape.{Shape}
use Rattle.tags.specs.declared.Tag.{Tag}
use Rattle.tags.specs.declared.Tags.{Tags}

-- the first tag that names an element of n bytes, and one that shares the element of the tag before it
abbrev pub first : ℕ → List ℕ → Tag
first n s = record { signature = s; size = n; shared = false }

abbrev pub other : ℕ → List ℕ → Tag
other n s = record { signature = s; size = n; shared = true }

-- the tags of one element
abbrev pub naming : ℕ → List (List ℕ) → List Tag
naming n [] = []
naming n (s ∷ ss) = first n s ∷ map (other n) ss

unfoldable pub tags : List Slot → List Tag
tags [] = []
tags (s ∷ ss) = naming s.size s.signatures ++ tags ss

-- the most tags of a profile
abbrev pub max_tags : ℕ
max_tags = 11

-- tags in an array of so many; the others are unused
unfoldable pub listed : List Tag → Tags
listed ts = record { count = length ts; tags = ts ++ replicate (max_tags - length ts) (first 0 (zeros 4)) }

-- ---- the elements of each kind: of gray by whether the white is adapted, of RGB by whether there is `cicp`

abbrev with : Bool → Bool → Shape → Shape
with v a s = record { kind = s.kind; letters = s.letters; gamma = s.gamma; cicp = v; adapted = a }

abbrev pub gray_slots : Bool → Shape → List Slot
gray_slots a s = slots_for Gray (with s.cicp a s)

abbrev pub rgb_slots : Bool → Shape → List Slot
rgb_slots v s = slots_for Rgb (with v s.adapted s)

-- the same for each shape
abbrev pub xyb_slots : List Slot
xyb_slots = slots_for Xyb xyb_shape
