-- Laws of the count of rounded numbers. Assumes nothing.
use Rattle.std.specs.Prelude.{ℕ, ◌+◌, ◌≤◌, ◌<◌, ◌≡◌, Bool, true, false, List, [], ◌∷◌, ◌++◌, ℤ, Float, length, drop, get_or}
use Rattle.std.proofs.Common.{sym, ◌∙◌, zero-add, arith, add-one, drop-cons}
use Rattle.std.proofs.Math.Path.{ap}
use Rattle.std.proofs.Math.Seq.{drop-length}
use Rattle.buffer.specs.Checked.{Checked, is, refused}
use Rattle.buffer.specs.CheckedLaws.{never}
use Rattle.numbers.specs.Fixed.{some_number, s15_fixed16, whole}
use Rattle.numbers.specs.FixedLaws.{mark_is}
use Rattle.numbers.specs.Rounded.{one_if_rounded, rounded_in, Counted, counted}

pub rounded_in_append : (xs ys : List Float) → rounded_in (xs ++ ys) ≡ rounded_in xs + rounded_in ys
unfolding rounded_in
rounded_in_append [] ys = sym (zero-add (rounded_in ys))
rounded_in_append (x ∷ xs) ys = omega (arith, rounded_in_append xs ys)

pub most_one : (w : Bool) → one_if_rounded w ≤ 1
most_one true = omega arith
most_one false = omega arith

-- of a float that has a fixed number, by the mark beside the number
pub mark_counts : (x : Float) {z : ℤ} {w : Bool} → s15_fixed16 x ≡ some_number z w → one_if_rounded w ≡ one_if_rounded (whole x)
mark_counts x e = ap one_if_rounded (mark_is x e)

pub rounded_in_one : (x : Float) → rounded_in (x ∷ []) ≡ one_if_rounded (whole x)
unfolding rounded_in
rounded_in_one x = omega arith

pub rounded_in_most : (xs : List Float) → rounded_in xs ≤ length xs
unfolding rounded_in
rounded_in_most [] = omega arith
rounded_in_most (x ∷ xs) = omega (arith, most_one (whole x), rounded_in_most xs)

-- ---- a count made float by float: so many in the first k

module _ (v : List Float) where
  pub record CountedTo (k n : ℕ) : Type 0 where
    pub rest : n + rounded_in (drop k v) ≡ rounded_in v
    pub most : n ≤ k

  pub none-counted : CountedTo 0 0
  none-counted = record { rest = zero-add (rounded_in v); most = omega arith }

  module _ {k n : ℕ} (c : CountedTo k n) where
    pub one_more : (d : Float) → k < length v → CountedTo (k + 1) (n + one_if_rounded (whole (get_or v k d)))
    unfolding rounded_in
    one_more d h =
        let here = ap rounded_in (drop-cons v k d h) in
        record { rest = rw (add-one k) (omega (arith, here, c.rest)); most = omega (arith, most_one (whole (get_or v k d)), c.most) }

    pub all_counted : length v ≡ k → n ≡ rounded_in v
    unfolding rounded_in
    all_counted e = let none = ap (λ (j : ℕ). rounded_in (drop j v)) (sym e) ∙ ap rounded_in (drop-length v) in omega (arith, none, c.rest)

-- ---- what a counted value tells

module _ {A : Type 0} (xs : List Float) where
  pub counted_value : (c : Checked A) {v : Counted A} → is v ≡ counted xs c → c ≡ is v.value
  counted_value (is a) e = ap is (sym (ap value_of e))
    where
      value_of : Checked (Counted A) → A
      value_of (is v) = v.value
      value_of (refused n) = a
  counted_value (refused n) e = absurd (never (sym e))

  pub counted_rounded : (c : Checked A) {v : Counted A} → is v ≡ counted xs c → v.rounded ≡ rounded_in xs
  counted_rounded (is a) e = ap rounded_of e
    where
      rounded_of : Checked (Counted A) → ℕ
      rounded_of (is v) = v.rounded
      rounded_of (refused n) = 0
  counted_rounded (refused n) e = absurd (never (sym e))

  pub counted_refused : (c : Checked A) {n : ℕ} → refused n ≡ counted xs c → c ≡ refused n
  counted_refused (is a) e = absurd (never e)
  counted_refused (refused m) e = sym (ap number_of e)
    where
      number_of : Checked (Counted A) → Checked A
      number_of (is v) = is v.value
      number_of (refused n) = refused n
