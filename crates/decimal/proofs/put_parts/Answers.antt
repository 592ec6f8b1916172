-- The law `next_part`, from the highest part on. Assumes nothing.
use Rattle.std.proofs.Common.{◌≡◌, refl, sym, ap, ◌∙◌, suc, ℕ, ◌+◌, ◌-◌, ◌*◌, ◌^◌, List, drop, get_or, arith, drop_of_length-le, ltb}
use Rattle.buffer.specs.PutsLaws.{same, none}
use Rattle.decimal.specs.Parts.{shown, value_of}
use Rattle.decimal.specs.PartsLaws.{next_part, shown_none, shown_some, length-part}
use Rattle.decimal.proofs.Doubling.{value-drop}
use Rattle.decimal.proofs.put_parts.Goals as goal

pub loop-i-init : goal.loop-i-init
loop-i-init c =
    let nothing = ap (λ (l : List ℕ). shown (value_of l)) (drop_of_length-le c.args.parts {i = 5} (omega arith)) ∙ shown_none 0 refl in
    (same _ (none c.args.out.now c.args.at) nothing, omega arith)

pub put_part-next-requires : goal.put_part-next-requires
put_part-next-requires c = (c.requires.0.0.below (4 - c.loop-i.i), omega arith)

pub loop-i-preserved : goal.loop-i-preserved
loop-i-preserved c =
    let parts = c.args.parts in
    let i = c.loop-i.i in
    let put = c.put_part-next.ensures in
    let part = get_or parts (4 - i) 0 in
    let small = c.requires.0.0.below (4 - i) in
    let down : 5 - (i + 1) ≡ 4 - i = omega arith in
    let up : suc (4 - i) ≡ 5 - i = omega arith in
    let value =
    ap (λ (n : ℕ). value_of (drop n parts)) down ∙ value-drop parts (4 - i) (omega arith)
    ∙ ap (λ (n : ℕ). value_of (drop n parts) * 10 ^ 8 + part) up in
    (same _ (next_part (value_of (drop (5 - i) parts)) part (omega arith) small c.loop-i.invariant.0 put) (ap shown value), omega (arith, put.place, length-part (ltb c.args.at c.loop-i.next) part small))

pub returns : goal.returns
returns c =
    let parts = c.args.parts in
    let all : 5 - c.loop-i.i ≡ 0 = omega arith in
    same _ c.loop-i.invariant.0 (sym (ap (λ (n : ℕ). shown (value_of (drop n parts))) all ∙ shown_some (value_of parts) c.requires.0.1))
