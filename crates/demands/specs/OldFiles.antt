-- The files before order 6 of 02, and how files with maker and model are told from them. Assumes nothing.
use Rattle.std.specs.Prelude.{ℕ, ◌≤◌, ◌<◌, ◌⊎◌, List, [], ◌∷◌, ◌++◌}
use Rattle.words.specs.Words.{be32}
use Rattle.buffer.specs.Buffer.{put}
use Rattle.buffer.specs.Bytes.{zeros}
use Rattle.profile.specs.Signatures as Sig
use Rattle.profile.specs.Elements.{file, file_length}
use Rattle.profile.specs.Plan.{Plan, kind}
use Rattle.profile.specs.TagTypes.{join, s15_fixed_16s}
use Rattle.profile.specs.Layout.{D50, front, elements, slots, maker_at, id_at, profile_id}

-- ---- the layout of 01: manufacturer, model and attributes are sixteen zeros of the header

unfoldable pub old_with_id : List ℕ → Plan → List ℕ
old_with_id id p =
    file
    (join (be32 (file_length (slots p)) ∷ front (kind p) ∷ zeros 4 ∷ zeros 16 ∷ be32 p.intent ∷ s15_fixed_16s D50 ∷ Sig.jxl ∷ id ∷ zeros 28 ∷ []))
    (elements p)

unfoldable pub old_layout : Plan → List ℕ
old_layout p = old_with_id (profile_id (old_with_id (zeros 16) p)) p

-- ---- "with these eight bytes and the id changed"

-- a file with this maker and model in bytes 48 to 55, and then the id of that file
abbrev pub patched : ℕ → ℕ → List ℕ → List ℕ
patched maker model f = let g = put f maker_at (be32 maker ++ be32 model) in put g id_at (profile_id g)

-- a place of neither these eight bytes nor the id
abbrev pub Elsewhere : ℕ → Type 0
Elsewhere i = (i < 48) ⊎ (((56 ≤ i) × (i < 84)) ⊎ (100 ≤ i))
