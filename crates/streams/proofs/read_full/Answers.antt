-- A read puts its bytes behind those that are there, and takes them from the input.
use Rattle.std.proofs.Common.{rules, ◌≡◌, ℕ, ◌+◌, ◌≤◌, List, ◌++◌, length, take, sym, ap, ◌∙◌, subst}
use Rattle.std.proofs.Math.Seq.{take-append-add}
use Rattle.std.proofs.lemmas.List.{length-take-le, take-append-le}
use Rattle.std.specs.Io.KnownBytes.{Consumes}
use Rattle.std.proofs.KnownBytes.{Consumes-trans}
use Rattle.streams.proofs.read_full.Goals as goal

-- the front of xs, and behind it that of ys
front : (a n : ℕ) (xs ys rest : List ℕ) → a ≤ length xs → n ≤ length ys → take a xs ++ take n ys ≡ take (a + n) (take a xs ++ (ys ++ rest))
front a n xs ys rest within fits =
    let there : take (length (take a xs) + n) (take a xs ++ (ys ++ rest)) ≡ take a xs ++ take n (ys ++ rest) = take-append-add _ _ _ in
    let short : take n (ys ++ rest) ≡ take n ys = take-append-le n ys rest fits in
    let long : length (take a xs) ≡ a = length-take-le a xs within in
    sym (ap (λ m. take (m + n) (take a xs ++ (ys ++ rest))) (sym long) ∙ there ∙ ap (λ l. take a xs ++ l) short)

pub loop-done-preserved : goal.loop-done-preserved
loop-done-preserved g c = record {
  within = search rules;
  bytes = subst (Consumes _ _) (front c.loop-done.done c.in-Ok.n c.loop-done.buf c.read.new.buf _ c.loop-done.invariant.within c.in-Ok.ensures.bound.0) (Consumes-trans _ _ _ _ _ c.loop-done.invariant.bytes c.in-Ok.ensures.bytes.0);
}
