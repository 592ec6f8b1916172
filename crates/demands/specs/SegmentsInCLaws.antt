-- What the number that a C call on segments answers tells of what the call gives. Assumes nothing.
use Rattle.std.specs.Prelude.{ℕ, ◌≤◌, ◌≡◌, refl, List, length, take, drop}
use Rattle.std.proofs.Common.{ap, sym, ◌∙◌, zero-add, arith, le-leb, drop_at, take_at}
use Rattle.std.proofs.lemmas.Bool.{lt-leb}
use Rattle.buffer.specs.Buffer.{put}
use Rattle.buffer.specs.Checked.{Checked, is, refused}
use Rattle.buffer.specs.CheckedLaws.{never}
use Rattle.profile.specs.Shape.{min_length}
use Rattle.app2.specs.App2 as App2
use Rattle.host.specs.Host.{GivesNumber}

-- a number from 284 on is the length of bytes that were written
pub record Wrote (c : Checked (List ℕ)) (before after : List ℕ) (r : ℕ) : Type 0 where
  pub written : List ℕ
  pub gives : c ≡ is written
  pub length-is : r ≡ length written
  pub output : after ≡ put before 0 written

pub wrote : (c : Checked (List ℕ)) (before after : List ℕ) (r : ℕ) → GivesNumber c before after r → min_length ≤ r → Wrote c before after r
wrote (is l) before after r g h = record { written = l; gives = refl; length-is = g.answer; output = g.output }
wrote (refused k) before after r g h =
    let high : App2.output_by r ≡ is r = rw (lt-leb r 99 (omega arith)) in
    absurd (never (sym (sym high ∙ g.told)))

-- a number up to 99 is a refusal
pub refused_with_lem : (c : Checked (List ℕ)) (before after : List ℕ) (r : ℕ) → GivesNumber c before after r → r ≤ 99 → (c ≡ refused r) × (after ≡ before)
refused_with_lem (refused k) before after r g h = (ap refused (sym g.answer), g.output)
refused_with_lem (is l) before after r g h =
    let low : App2.output_by r ≡ refused r = rw (le-leb r 99 h) in
    absurd (never (sym low ∙ g.told))

-- the front of an output, and the rest
pub put_parts : (l q : List ℕ) (n : ℕ) → n ≡ length q → (take n (put l 0 q) ≡ q) × (drop n (put l 0 q) ≡ drop n l)
unfolding put
put_parts l q n e = (take_at q _ n (sym e), drop_at q _ n (sym e) ∙ rw (e, zero-add (length q)))
