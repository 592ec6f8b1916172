-- What the writer answers to a plan, and what it lays out, from what `text` and `layout` ensure. Assumes nothing.
use Prim.Native.Nat.{ℕ, ◌≤◌, ◌<◌}
use mathlib.Core.Path.{◌≡◌, refl, sym, ap, ◌∙◌, subst}
use mathlib.Core.Bool.{Bool, true, false, cond}
use mathlib.Core.List.{List, ◌++◌}
use native.Mathlib.Omega.{arith}
use lib.Dec.{T, leb, leb→le}
use lib.Ieee.{Float}
use lib.ListN.{length, take, replicate, length-append}
use lib.Seq.{take_at}
use mir.Syntax.{w32}
use mir.Val.{Fits}
use borrow.Author.Tests.{le-leb, lt-leb}
use Rattle.buffer.specs.Buffer.{put}
use Rattle.buffer.specs.Checked.{Checked, is, refused}
use Rattle.buffer.specs.CheckedLaws.{never}
use Rattle.numbers.specs.declared.fixed.Counted.{Counted}
use Rattle.numbers.specs.Rounded.{rounded_in, counted}
use Rattle.profile.specs.Plan.{Plan, max_letters}
use Rattle.profile.specs.Shape.{shape}
use Rattle.profile.specs.PlanLaws.{Nines, at_most}
use Rattle.profile.specs.Layout.{layout}
use Rattle.profile.specs.LayoutLaws.{length-layout}
use Rattle.writer.specs.Writer.{profile, answer, output, number, too_short}
use Rattle.writer.specs.declared.Written.{Written}

-- the letters of a description that stands in front of zeros
pub letters : (d : List ℕ) {bytes : List ℕ} (z : ℕ) {n : ℕ} → n ≡ length d → bytes ≡ d ++ replicate z 0 → take n bytes ≡ d
letters d {bytes} z {n} e h = ap (take n) h ∙ take_at d _ n (sym e)

pub letters_within : (d : List ℕ) {bytes : List ℕ} (z : ℕ) {n : ℕ} → n ≡ length d → bytes ≡ d ++ replicate z 0 → n ≤ length bytes
letters_within d {bytes} z {n} e h = rw (h, e, length-append) (omega arith)

-- a layout's length fits 32 bits
pub short_layout : (p : Plan) → Nines p.content → (shape p).letters ≤ max_letters → {r : ℕ} → r ≡ length (layout p) → Fits w32 r
short_layout p h s {r} e = record { fits = omega (arith, e, length-layout p h, at_most (shape p) s) }

-- ---- the answer on an output of n bytes, where the layout has `size`

pub too_short_lem : (p : Counted Plan) (n size : ℕ) → size ≡ length (layout p.value) → n < size → refused too_short ≡ answer (is p) n
too_short_lem p n size e h = let less : n < length (layout p.value) = rw e at h in simp (lt-leb _ _ less)

pub enough : (p : Counted Plan) (n size : ℕ) → size ≡ length (layout p.value) → size ≤ n → profile size p.rounded ≡ answer (is p) n
enough p n size e h = let room : length (layout p.value) ≤ n = rw e at h in ap (λ (m : ℕ). profile m p.rounded) e ∙ simp (le-leb _ _ room)

-- ---- what an answer tells

-- of a plan that is written: the length is that of its layout, and fits
pub fits : (xs : List Float) {c : Checked Plan} {p : Plan} (n : ℕ) {w : Written} → c ≡ is p → is w ≡ answer (counted xs c) n
    → (w.length ≡ length (layout p)) × (length (layout p) ≤ n)
fits xs {c} {p} n {w} h e = go (leb (length (layout p)) n) refl (e ∙ ap (λ (d : Checked Plan). answer (counted xs d) n) h)
  where
    go : (b : Bool) → leb (length (layout p)) n ≡ b → is w ≡ cond b (profile (length (layout p)) (rounded_in xs)) (refused too_short)
        → (w.length ≡ length (layout p)) × (length (layout p) ≤ n)
    go true t e = (ap number e, leb→le (length (layout p)) n (subst T (sym t) tt))
    go false t e = absurd (never (sym e))

-- ---- what is left in the output

pub laid_out : {c : Checked Plan} {p : Plan} (out left : List ℕ) → c ≡ is p → length (layout p) ≤ length out → left ≡ put out 0 (layout p) → left ≡ output c out
laid_out out left e room h = rw e (h ∙ simp (le-leb _ _ room))

-- on a refusal nothing is
pub untouched : (xs : List Float) (c : Checked Plan) (out : List ℕ) {k : ℕ} → refused k ≡ answer (counted xs c) (length out) → out ≡ output c out
untouched xs (refused j) out e = refl
untouched xs (is p) out {k} e = go (leb (length (layout p)) (length out)) e
  where
    go : (b : Bool) → refused k ≡ cond b (profile (length (layout p)) (rounded_in xs)) (refused too_short) → out ≡ cond b (put out 0 (layout p)) out
    go true e = absurd (never e)
    go false e = refl
