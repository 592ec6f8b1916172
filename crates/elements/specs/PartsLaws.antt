-- The elements from the parts that the code puts. Assumes nothing.
use Rattle.std.specs.Prelude.{ℕ, ◌+◌, ◌*◌, ◌%◌, ◌≡◌, refl, List, [], ◌∷◌, ◌++◌, length}
use Rattle.std.proofs.Common.{ap, sym, ◌∙◌, append_assoc, append-nil}
use Rattle.words.specs.Words.{be32}
use Rattle.buffer.specs.Ascii.{ascii}
use Rattle.buffer.specs.Bytes.{zeros}
use Rattle.buffer.specs.Puts.{Puts}
use Rattle.profile.specs.Elements.{padding, padded}
use Rattle.profile.specs.ElementsLaws.{padded_whole}
use Rattle.profile.specs.TagTypes.{join, mluc, utf16}
use Rattle.profile.specs.TagTypesLaws.{length-mluc}
use Rattle.profile.specs.Signatures as Sig

-- an element of n bytes, a multiple of 4, is put with its padding, which is none
pub whole : {l o q : List ℕ} {at n r : ℕ} → Puts l at n q r o → n % 4 ≡ 0 → Puts l at n (padded q) r o
whole {q = q} p h = rw (padded_whole q (ap (λ (k : ℕ). k % 4) p.size ∙ h)) p

join_snoc : (qs : List (List ℕ)) (q : List ℕ) → join (qs ++ (q ∷ [])) ≡ join qs ++ q
unfolding join
join_snoc [] q = append-nil q
join_snoc (p ∷ qs) q = ap (λ (l : List ℕ). p ++ l) (join_snoc qs q) ∙ sym (append_assoc p (join qs) q)

-- the first parts as one, with those that follow
first_joined : (qs rs : List (List ℕ)) → join (join qs ∷ rs) ≡ join (qs ++ rs)
unfolding join
first_joined [] rs = refl
first_joined (q ∷ qs) rs = append_assoc q (join qs) (join rs) ∙ ap (λ (l : List ℕ). q ++ l) (first_joined qs rs)

pub mluc_parts : (t : List ℕ) (n : ℕ) → n ≡ padding (28 + 2 * length t)
    → padded (mluc t) ≡ join (join (Sig.mluc ∷ zeros 4 ∷ be32 1 ∷ be32 12 ∷ ascii "enUS" ∷ be32 (2 * length t) ∷ be32 28 ∷ []) ∷ utf16 t ∷ zeros n ∷ [])
unfolding padded mluc
mluc_parts t n e =
    ap (λ (k : ℕ). mluc t ++ zeros k) (ap padding (length-mluc t) ∙ sym e)
    ∙ sym (join_snoc (Sig.mluc ∷ zeros 4 ∷ be32 1 ∷ be32 12 ∷ ascii "enUS" ∷ be32 (2 * length t) ∷ be32 28 ∷ utf16 t ∷ []) (zeros n))
    ∙ sym (first_joined _ _)
