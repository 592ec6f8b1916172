-- What `parse` answers, by what the text describes: one answer for each text. Assumes nothing.
use Rattle.std.specs.Prelude.{ℕ, suc, ◌≡◌, refl, ◌⊎◌, Bool, true, false, cond, List, [], ◌∷◌, length}
use Rattle.std.proofs.Common.{sym, ap, ◌∙◌, subst, inl, inr, append-nil, arith}
use Rattle.buffer.specs.BoolLaws.{true≢false}
use Rattle.buffer.specs.Checked.{Checked, is, refused}
use Rattle.color_encoding.specs.declared.JxlColorEncoding.{JxlColorEncoding}
use Rattle.scanner.specs.Scan.{Found, nothing, found}
use Rattle.scanner.specs.ScanLaws.{nothing≢found, same_rest, Front, one_value}
use Rattle.description_parser.specs.Language.{Describes, InLanguage, zero_gamma}
use Rattle.description_parser.specs.Parse.{encoding, not_in_language, gamma_is_zero, answer, parse}
use Rattle.description_laws.specs.EncodingLaws.{Described, encoding_exact}

-- the answer that a text gets
pub data Answer (text : List ℕ) : Checked JxlColorEncoding → Type 0 where
  outside : ¬ InLanguage text → Answer text (refused not_in_language)
  zero : {e : JxlColorEncoding} → Describes text e → zero_gamma e ≡ true → Answer text (refused gamma_is_zero)
  read : {e : JxlColorEncoding} → Describes text e → zero_gamma e ≡ false → Answer text (is e)

-- ---- a text gets one answer at most

pub reading : (text : List ℕ) (d e : JxlColorEncoding) → Describes text d → Describes text e → d ≡ e
reading text d e h g = one_value encoding_exact text d e h g

one_answer : (text : List ℕ) (a b : Checked JxlColorEncoding) → Answer text a → Answer text b → a ≡ b
one_answer text a b (outside o) (outside o') = refl
one_answer text a b (outside o) (zero {e} h z) = absurd (o (e, h))
one_answer text a b (outside o) (read {e} h z) = absurd (o (e, h))
one_answer text a b (zero {e} h z) (outside o) = absurd (o (e, h))
one_answer text a b (zero h z) (zero h' z') = refl
one_answer text a b (zero {e = d} h z) (read {e} h' z') = absurd (true≢false (sym z ∙ ap zero_gamma (reading text d e h h') ∙ z'))
one_answer text a b (read {e} h z) (outside o) = absurd (o (e, h))
one_answer text a b (read {e = d} h z) (zero {e} h' z') = absurd (true≢false (sym z' ∙ ap zero_gamma (reading text e d h' h) ∙ z))
one_answer text a b (read {e = d} h z) (read {e} h' z') = ap is (reading text d e h h')

-- ---- `parse` gives it

-- what is found in a text of the language
whole : (text : List ℕ) (e : JxlColorEncoding) → Describes text e → encoding text ≡ found e []
whole text e h = ap encoding (sym (append-nil text)) ∙ encoding_exact.finds e text [] h

answered : (text : List ℕ) → Answer text (parse text)
unfolding parse
answered text = go (encoding text) refl
  where
    more : (n : ℕ) → 0 ≡ suc n → ⊥
    more n e = omega arith

    inside : (e : JxlColorEncoding) → Describes text e → (b : Bool) → zero_gamma e ≡ b → Answer text (cond b (refused gamma_is_zero) (is e))
    inside e h true z = zero h z
    inside e h false z = read h z

    go : (x : Found JxlColorEncoding) → encoding text ≡ x → Answer text (answer x)
    go nothing p = outside (λ i. nothing≢found (sym p ∙ whole text i.0 i.1))
    go (found e (c ∷ l)) p = outside (λ i. more (length l) (ap length (same_rest (sym (whole text i.0 i.1) ∙ p))))
    go (found e []) p =
        let x : Front Described e text [] = encoding_exact.holds text e [] p in
        inside e (subst (λ (t : List ℕ). Describes t e) (sym (x.split ∙ append-nil x.text)) x.is) (zero_gamma e) refl

pub gives : (text : List ℕ) {a : Checked JxlColorEncoding} → Answer text a → parse text ≡ a
gives text {a} h = one_answer text (parse text) a (answered text) h

-- ---- what an answer tells

pub given : (text : List ℕ) {a : Checked JxlColorEncoding} → parse text ≡ a → Answer text a
given text p = subst (Answer text) p (answered text)

pub told_encoding : (text : List ℕ) (e : JxlColorEncoding) → Answer text (is e) → Describes text e × (zero_gamma e ≡ false)
told_encoding text e (read h z) = (h, z)

pub told_51 : (text : List ℕ) → Answer text (refused not_in_language) → ¬ InLanguage text
told_51 text (outside o) = o

pub told_52 : (text : List ℕ) → Answer text (refused gamma_is_zero) → (e : JxlColorEncoding) × Describes text e × (zero_gamma e ≡ true)
told_52 text (zero {e} h z) = (e, h, z)

pub told_number : (text : List ℕ) (n : ℕ) → Answer text (refused n) → (n ≡ not_in_language) ⊎ (n ≡ gamma_is_zero)
told_number text n (outside o) = inl refl
told_number text n (zero h z) = inr refl
