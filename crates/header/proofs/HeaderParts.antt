-- The header from the parts that the code puts. Assumes nothing.
use Prim.Native.Nat.{ℕ}
use mathlib.Core.Path.{◌≡◌, refl, ap, sym, ◌∙◌}
use mathlib.Core.List.{List, [], ◌∷◌, ◌++◌, append_assoc, append-nil}
use lib.ListN.{length, length-append}
use Rattle.words.specs.Words.{be16, be32}
use Rattle.words.specs.WordsLaws.{length-be32}
use Rattle.buffer.specs.Bytes.{zeros}
use Rattle.profile.specs.Layout.{D50, class, space, header, blank_header}
use Rattle.profile.specs.Signatures as Sig
use Rattle.profile.specs.TagTypes.{join, s15_fixed_16s}
use Rattle.profile.specs.TagTypesLaws.{length-s15_fixed_16s}
use Rattle.profile.specs.declared.Kind.{Kind}
use Rattle.profile.specs.declared.Kind.TheVariants.{Gray, Rgb, Xyb}

abbrev class_and_space : Kind → List (List ℕ)
class_and_space k = Sig.jxl ∷ (4 ∷ 64 ∷ 0 ∷ 0 ∷ []) ∷ class k ∷ space k ∷ Sig.XYZ ∷ []

abbrev date_and_platform : List (List ℕ)
date_and_platform = be16 2019 ∷ be16 12 ∷ be16 1 ∷ zeros 6 ∷ Sig.acsp ∷ Sig.APPL ∷ []

abbrev device : ℕ → ℕ → List (List ℕ)
device a b = zeros 4 ∷ be32 a ∷ be32 b ∷ zeros 8 ∷ []

abbrev last_fields : List (List ℕ)
last_fields = be32 0 ∷ s15_fixed_16s D50 ∷ Sig.jxl ∷ zeros 16 ∷ zeros 28 ∷ []

pub length-class_and_space : (k : Kind) → length (join (class_and_space k)) ≡ 20
unfolding join
length-class_and_space Gray = refl
length-class_and_space Rgb = refl
length-class_and_space Xyb = refl

pub length-device : (a b : ℕ) → length (join (device a b)) ≡ 20
unfolding join
length-device a b = simp (length-append, length-be32)

pub length-last_fields : length (join last_fields) ≡ 64
unfolding join
length-last_fields = simp (length-append, length-be32, length-s15_fixed_16s)

join_append : (a b : List (List ℕ)) → join (a ++ b) ≡ join a ++ join b
unfolding join
join_append [] b = refl
join_append (x ∷ a) b = ap (λ (l : List ℕ). x ++ l) (join_append a b) ∙ sym (append_assoc x (join a) (join b))

nested : (x : List ℕ) (a b c d : List (List ℕ)) → join (x ∷ join (a ++ b) ∷ (c ++ d)) ≡ join (x ∷ join a ∷ join b ∷ join c ∷ join d ∷ [])
unfolding join
nested x a b c d = simp (join_append, append_assoc, append-nil)

pub header_parts : (k : Kind) (n a b : ℕ)
    → blank_header k n a b ≡ join (be32 n ∷ join (class_and_space k) ∷ join date_and_platform ∷ join (device a b) ∷ join last_fields ∷ [])
unfolding header
header_parts k n a b = nested (be32 n) (class_and_space k) date_and_platform (device a b) last_fields
