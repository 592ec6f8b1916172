-- What the reader answers where a check fails, and where it goes on. Assumes nothing.
use Rattle.std.specs.Prelude.{ℕ, ◌≤◌, ◌≡◌, refl, Bool, List, length}
use Rattle.std.proofs.Math.Path.{ap}
use Rattle.std.proofs.Common.{sym, ◌∙◌, subst, SFits}
use Rattle.std.proofs.Math.Bool.{true, false}
use Rattle.std.specs.Int.{w32}
use Rattle.buffer.specs.Bytes.{zeros, same}
use Rattle.buffer.specs.Checked.{is, value_or}
use Rattle.profile.specs.Plan.{Plan, with_mark, GoodContent, GoodIntent, InRange, Wide}
use Rattle.profile.specs.declared.Kind.{Kind}
use Rattle.profile.specs.Layout.{profile_id, computed_id, layout}
use Rattle.profile.specs.LayoutLaws.{length-computed, layout_computed}
use Rattle.profile.specs.declared.Shape.{Shape}
use Rattle.reader_spec.specs.Table.{varying_of}
use Rattle.reader_spec.specs.PlanIn.{shape_in, plan_in}
use Rattle.reader_spec.specs.FileLaws.{varying_with_id}
use Rattle.reader_spec.specs.RefusalList
use Rattle.reader_spec.specs.RefusalListLaws.{has_id}
use Rattle.reader_spec.specs.Decide as Decide
use Rattle.reader_spec.specs.Decide.{TableIs, BodyIs}
use Rattle.reader_spec.specs.Read.{check, by_id, from_id, from_range, from_body, from_table, read}
use Rattle.reader_spec.specs.Steps.{Sized, Headed, Tabled}

passed : {A : Type 0} (d : Dec A) (c : RefusalList.Check) (r : RefusalList.Answer) → A → check d c r ≡ r
unfolding check
passed (yes a) c r h = refl
passed (no k) c r h = absurd (k h)

failed : {A : Type 0} (d : Dec A) (c : RefusalList.Check) (r : RefusalList.Answer) → ¬ A → check d c r ≡ RefusalList.refused c
unfolding check
failed (yes a) c r h = absurd (h a)
failed (no k) c r h = refl

-- ---- 21 to 24

pub read_21 : (f : List ℕ) → ¬ (132 ≤ length f) → read f ≡ RefusalList.refused RefusalList.c21
unfolding read
read_21 f h = failed _ _ _ h

pub read_22 : (f : List ℕ) → 132 ≤ length f → ¬ ((varying_of f).size ≡ length f) → read f ≡ RefusalList.refused RefusalList.c22
unfolding read
read_22 f l h = passed _ _ _ l ∙ failed _ _ _ h

module _ (k : Kind) (f : List ℕ) (s : Sized k f) where
  to_header : read f ≡ check (Decide.header_is k f) RefusalList.c23 (check (Decide.intent (varying_of f).intent) RefusalList.c24 (from_table f))
  unfolding read
  to_header =
      passed _ _ _ s.long ∙ passed _ _ _ s.size
      ∙ ap (λ x. check (Decide.header_is x f) RefusalList.c23 (check (Decide.intent (varying_of f).intent) RefusalList.c24 (from_table f))) s.kind_is

  pub read_23 : ¬ (RefusalList.Header k f) → read f ≡ RefusalList.refused RefusalList.c23
  read_23 h = to_header ∙ failed _ _ _ h

  pub read_24 : RefusalList.Header k f → ¬ (GoodIntent (varying_of f).intent) → read f ≡ RefusalList.refused RefusalList.c24
  read_24 g h = to_header ∙ passed _ _ _ g ∙ failed _ _ _ h

pub read_table : (k : Kind) (f : List ℕ) → Headed k f → read f ≡ from_table f
read_table k f h = to_header k f h.sized ∙ passed _ _ _ h.header ∙ passed _ _ _ h.intent

-- ---- 25

pub table_25 : (s : Shape) (f : List ℕ) → shape_in f ≡ s → ¬ (TableIs s f) → from_table f ≡ RefusalList.refused RefusalList.c25
unfolding from_table
table_25 s f e h = failed _ _ _ (λ t. h (subst (λ x. TableIs x f) e t))

pub table_body : (s : Shape) (f : List ℕ) → Tabled s f → from_table f ≡ from_body f
unfolding from_table
table_body s f t = passed _ _ _ (subst (λ x. TableIs x f) (sym t.shape_is) t.table_is)

-- ---- 26 to 28, with the plan that is read from the file

module _ (p : Plan) (f : List ℕ) (e : plan_in f ≡ p) where
  pub body_26 : ¬ (BodyIs p f) → from_body f ≡ RefusalList.refused RefusalList.c26
  unfolding from_body
  body_26 h = failed _ _ _ (λ b. h (subst (λ x. BodyIs x f) e b))

  pub body_range : BodyIs p f → from_body f ≡ from_range f
  unfolding from_body
  body_range b = passed _ _ _ (subst (λ x. BodyIs x f) (sym e) b)

  pub range_27 : ¬ (GoodContent InRange p.content) → from_range f ≡ RefusalList.refused RefusalList.c27
  unfolding from_range
  range_27 h = failed _ _ _ (λ c. h (subst (λ x. GoodContent InRange x.content) e c))

  pub range_id : GoodContent InRange p.content → from_range f ≡ from_id f
  unfolding from_range
  range_id c = passed _ _ _ (subst (λ x. GoodContent InRange x.content) (sym e) c)

-- the id of a file that has a plan's regions is the one in the plan's layout
pub laid_id : (k : Kind) (f : List ℕ) (p : Plan) → Headed k f → Wide p → RefusalList.Has p f → (varying_of (layout (with_mark false p))).id ≡ profile_id f
laid_id k f p h w has =
    ap (λ l. (varying_of l).id) (layout_computed p) ∙ ap (λ v. v.id) (varying_with_id (SFits w32) p w (computed_id p) (length-computed p))
    ∙ sym (has_id f (record { long = h.sized.long }) (record { size = h.sized.size }) p w has)

-- what is accepted from 26 on is that plan, with the mark or without it
pub accepted_plan : (f : List ℕ) (m : Bool) → RefusalList.marked (from_body f) ≡ is m → from_body f ≡ RefusalList.accepted (with_mark m (plan_in f))
unfolding from_body from_range from_id check
accepted_plan f m e =
    let id = (varying_of f).id in
    let p = plan_in f in
    go (Decide.body_is p f) (Decide.content InRange Decide.in_range_lem p.content) (same id (profile_id f)) (same id (zeros 16)) p e
  where
    go : {A B : Type 0} (a : Dec A) (b : Dec B) (correct zero : Bool) (p : Plan)
        → let r = check a RefusalList.c26 (check b RefusalList.c27 (by_id correct zero p)) in
        RefusalList.marked r ≡ is m → r ≡ RefusalList.accepted (with_mark m p)
    go (yes a) (yes b) true zero p e = ap (λ k. RefusalList.accepted (with_mark (value_or m k) p)) e
    go (yes a) (yes b) false true p e = ap (λ k. RefusalList.accepted (with_mark (value_or m k) p)) e
    go (yes a) (yes b) false false p e = cc
    go (yes a) (no b) correct zero p e = cc
    go (no a) b correct zero p e = cc
