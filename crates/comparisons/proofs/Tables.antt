-- What the tests of the tag table and the length decide. Assumes nothing.
use Prim.Native.Nat.{ℕ, ◌+◌, ◌*◌, ◌-◌, ◌≤◌}
use mathlib.Core.Path.{◌≡◌}
use mathlib.Core.Bool.{Bool, true, false}
use mathlib.Core.List.{List}
use native.Mathlib.Omega.{arith}
use lib.ListN.{length, take, drop}
use Rattle.buffer.specs.Puts.{Puts}
use Rattle.buffer.specs.BufferLaws.{take_put}
use Rattle.profile.specs.Elements.{start, tag_count, table, file_length}
use Rattle.profile.specs.Shape.{GoodShape, slots_for, slots_of}
use Rattle.profile.specs.declared.Kind.{Kind}
use Rattle.profile.specs.declared.Kind.TheVariants.{Gray, Rgb, Xyb}
use Rattle.profile.specs.declared.Shape.{Shape}
use Rattle.reader_spec.specs.Decide.{decided}
use Rattle.reader_spec.specs.Decide as Decide
use Rattle.reader_spec.specs.DecideLaws.{decided_same}
use Rattle.buffer.specs.Bytes.{same}
use Rattle.reader_spec.specs.ShapeLaws.{region_if, table_if}

count : (k : Kind) (s : Shape) → tag_count (slots_for k s) ≤ 11
unfolding tag_count
count Gray s = gray s.adapted s
  where
    gray : (a : Bool) (s : Shape) → tag_count (slots_for Gray (record { kind = Gray; letters = s.letters; gamma = s.gamma; cicp = s.cicp; adapted = a })) ≤ 11
    gray true s = unfold tag_count in omega arith
    gray false s = unfold tag_count in omega arith
count Rgb s = rgb s.cicp s
  where
    rgb : (v : Bool) (s : Shape) → tag_count (slots_for Rgb (record { kind = Rgb; letters = s.letters; gamma = s.gamma; cicp = v; adapted = s.adapted })) ≤ 11
    rgb true s = unfold tag_count in omega arith
    rgb false s = unfold tag_count in omega arith
count Xyb s = omega arith

-- where the elements start: past the table
pub record Starts (s : Shape) : Type 0 where
  pub below : start (slots_of s) ≤ 264
  pub inside : start (slots_of s) ≤ file_length (slots_of s)
  pub tags : start (slots_of s) ≡ 128 + (4 + 12 * tag_count (slots_of s))

pub starts : (s : Shape) → Starts s
unfolding slots_of start file_length
starts s =
    let few = count s.kind s in
    record { below = omega arith; inside = omega arith; tags = omega arith }

-- the table was put into `z`, which gave `l`
pub laid_table : (s : Shape) (f z : List ℕ) {l : List ℕ} {at : ℕ} → 128 ≤ length z → Puts z 128 (4 + 12 * tag_count (slots_of s)) (table (slots_of s)) at l
    → same (take (at - 128) (drop 128 f)) (take (at - 128) (drop 128 l)) ≡ same (take (4 + 12 * tag_count (slots_of s)) (drop 128 f)) (table (slots_of s))
laid_table s f z {l} {at} room p =
    let n : ℕ = 4 + 12 * tag_count (slots_of s) in
    let places : at - 128 ≡ n = omega (arith, p.place) in
    let laid : take n (drop 128 l) ≡ table (slots_of s) = rw p.bytes (take_put z 128 (table (slots_of s)) n room p.size) in
    rw (places, laid)

pub table_decided : (s : Shape) (f : List ℕ) → 132 ≤ length f → GoodShape s → length f ≡ file_length (slots_of s)
    → same (take (4 + 12 * tag_count (slots_of s)) (drop 128 f)) (table (slots_of s)) ≡ decided (Decide.table_is s f)
table_decided s f long good len =
    decided_same (Decide.table_is s f) (take (4 + 12 * tag_count (slots_of s)) (drop 128 f)) (table (slots_of s))
    (λ e. record { good = good; table = table_if f long s good.short e; length-is = len })
    (λ t. region_if f long s good.short t.table)
