-- A description as it is put: by a common name, by the variant of its encoding, with the end behind what stands before it. Assumes nothing.
use Rattle.std.proofs.Common.{◌≡◌, ℕ, ◌≤◌, List, ◌++◌, length, Some, append_assoc, arith}
use Rattle.color_encoding.specs.declared.JxlColorEncoding.{JxlColorEncoding}
use Rattle.color_encoding.specs.declared.JxlColorEncoding.TheVariants.{RgbColorSpace, GrayscaleColorSpace, XYB}
use Rattle.common_names.specs.Common.{IsNamed}
use Rattle.text.specs.Held.{WhiteInRange}
use Rattle.text.specs.Written.{PutsDescription}
use Rattle.text.specs.Description.{underscore, rgb_text, rgb_description, description}

-- what a name tells: it is the description, and short
pub is_name : (e : JxlColorEncoding) {name : List ℕ} → IsNamed e (Some name) → (description e ≡ name) × (length name ≤ 372)
unfolding description rgb_description
is_name (RgbColorSpace w p t i) h = (h.named (rgb_text w p t i), omega (arith, h.room))
is_name (GrayscaleColorSpace w t i) h = cc
is_name (XYB i) h = cc

-- the description of the same encoding
pub described : {e v : JxlColorEncoding} {l out : List ℕ} {r : ℕ} → e ≡ v → PutsDescription (WhiteInRange v) (description v) l r out → PutsDescription (WhiteInRange e) (description e) l r out
described e p = rw e p

pub before_end : (a intent transfer : List ℕ) → a ++ underscore ++ intent ++ underscore ++ transfer ≡ a ++ (underscore ++ intent ++ underscore ++ transfer)
before_end a intent transfer = simp append_assoc
