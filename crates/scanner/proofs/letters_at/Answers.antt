-- In the rest of the text, or past its end. Assumes nothing.
use Rattle.std.proofs.Common.{◌∙◌, ap, ◌<◌, length, drop, arith, take_all, length-drop, inl, inr}
use Rattle.scanner.specs.Scan.{starts_with}
use Rattle.scanner.specs.PlacesLaws.{starts_none, starts_same}
use Rattle.scanner.proofs.letters_at.Goals as goal

pub returns-in-Some : goal.returns-in-Some
returns-in-Some c =
    let s = c.args in
    let whole = take_all _ (drop s.at s.text.now) (omega (arith, length-drop s.at s.text.now)) in
    c.starts_with.ensures.value ∙ starts_same s.letters.now c.in-Some.rest.now ∙ ap (starts_with s.letters.now) (c.in-Some.ensures.lookup.0.2 ∙ whole)

pub returns-in-None : goal.returns-in-None
returns-in-None c =
    let s = c.args in
    let past : length s.text.now < s.at = elim c.in-None.ensures.lookup.0 [ inl h ↦ h | inr h ↦ absurd (omega (arith, h)) ] in
    c.is_empty.ensures ∙ starts_none s.letters.now s.at s.text.now past
