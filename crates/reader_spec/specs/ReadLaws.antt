-- Each test of `read` is its check of the refusal list. Assumes nothing.
use Rattle.std.specs.Prelude.{ℕ, ◌≡◌, Bool, List, [], ◌∷◌, ◌++◌, length}
use Rattle.std.proofs.Math.Path.{refl, ap, subst}
use Rattle.std.proofs.Common.{sym, ◌∙◌, true≢false}
use Rattle.std.proofs.Math.Logic.{inl, inr, ⊎_elim}
use Rattle.std.proofs.Math.Bool.{true, false}
use Rattle.std.proofs.Math.Decide.{dec_le, ℕ_discrete}
use Rattle.std.proofs.Math.ListN.{drop}
use Rattle.buffer.specs.First.{fails, later}
use Rattle.profile.specs.Elements.{start, table, entries, file_length}
use Rattle.buffer.specs.Bytes.{zeros, same}
use Rattle.buffer.specs.BytesLaws.{same_if, same_of}
use Rattle.profile.specs.Plan.{Plan, with_mark, kind, GoodContent, GoodIntent, InRange}
use Rattle.profile.specs.declared.Kind.{Kind}
use Rattle.profile.specs.PlanLaws.{good_nines, good_shape, slots_shape}
use Rattle.profile.specs.Layout.{elements, slots, profile_id, computed_id, layout}
use Rattle.profile.specs.Shape.{shape}
use Rattle.profile.specs.declared.Shape.{Shape}
use Rattle.reader_spec.specs.Exists.{Exists}
use Rattle.reader_spec.specs.Table.{varying_of, body_of, entries_of}
use Rattle.reader_spec.specs.TableLaws.{entries_are}
use Rattle.reader_spec.specs.PlanIn.{kind_from, shape_from, shape_in, element_in, plan_in}
use Rattle.reader_spec.specs.PlanInLaws.{content_kind, shape_back, shape_kind}
use Rattle.reader_spec.specs.FileLaws.{header_kind, fours, small, valid_wide, computed_exists, marked_exists}
use Rattle.reader_spec.specs.ShapesLaws.{plain, plain_valid, plain_kind, plain_slots}
use Rattle.reader_spec.specs.RefusalList
use Rattle.reader_spec.specs.RefusalListLaws.{after_header, header_device, regions, has_plan_in, has_id, has_computed, has_zeros}
use Rattle.reader_spec.specs.Decide as Decide
use Rattle.reader_spec.specs.Decide.{TableIs, BodyIs}
use Rattle.reader_spec.specs.Read.{check, by_id, from_id, from_range, from_body, from_table, read}

-- ---- what is left to answer where the checks before cs are passed

data From (f : List ℕ) : List RefusalList.Check → RefusalList.Answer → Type 0 where
  one_fails : {cs : List RefusalList.Check} {c : RefusalList.Check} → RefusalList.FirstFailing f cs c → From f cs (RefusalList.refused c)
  all_pass : {cs : List RefusalList.Check} (p : Plan) → Exists p → layout p ≡ f → From f cs (RefusalList.accepted p)

onward : {f : List ℕ} {c : RefusalList.Check} {cs : List RefusalList.Check} {r : RefusalList.Answer} → RefusalList.Passed c f → From f cs r → From f (c ∷ cs) r
onward h (one_fails s) = one_fails (later h s)
onward h (all_pass p v e) = all_pass p v e

-- one step, whose test is the check
step : {A : Type 0} (f : List ℕ) (d : Dec A) (c : RefusalList.Check) (cs : List RefusalList.Check) (r : RefusalList.Answer)
    → (A → RefusalList.Passed c f) → (RefusalList.Passed c f → A) → (RefusalList.Passed c f → From f cs r) → From f (c ∷ cs) (check d c r)
unfolding check
step f (yes a) c cs r to from k = onward (to a) (k (to a))
step f (no h) c cs r to from k = one_fails (fails (λ p. h (from p)))

different : {a b : List ℕ} → same a b ≡ false → ¬ (a ≡ b)
different e h = true≢false (sym (same_of h) ∙ e)

-- ---- each test is its check

module _ (f : List ℕ) (ok21 : RefusalList.Ok21 f) where
  pub kind_is : (k : Kind) → RefusalList.Header k f → kind_from f ≡ k
  kind_is k h = ap kind_from (after_header f ok21 k h) ∙ header_kind k (varying_of f) (drop 128 f)

  from_23 : RefusalList.Ok23 f → RefusalList.Header (kind_from f) f
  from_23 a = rw (kind_is a.kind a.header) a.header

  kind_of_shape : (shape_in f).kind ≡ kind_from f
  unfolding shape_in
  kind_of_shape = shape_kind (kind_from f) (entries_of f)

  to_25 : RefusalList.Header (kind_from f) f → TableIs (shape_in f) f → RefusalList.Ok25 f
  unfolding shape_in
  to_25 h t =
      let s : Shape = shape_from (kind_from f) (entries_of f) in
      let k : kind (plain s) ≡ kind_from f = plain_kind s ∙ shape_kind (kind_from f) (entries_of f) in
      record {
        plan = plain s;
        valid = plain_valid s t.good;
        header = subst (λ x. RefusalList.Header x f) (sym k) h;
        table = t.table ∙ ap table (sym (plain_slots s t.good));
        length-is = t.length-is ∙ ap file_length (sym (plain_slots s t.good));
      }

  shape_is : (a : RefusalList.Ok25 f) → shape_in f ≡ shape a.plan
  unfolding shape_in
  shape_is a =
      let p : Plan = a.plan in
      let here : drop 128 f ≡ table (slots p) ++ body_of f = regions f ok21 ∙ ap (λ x. x ++ body_of f) a.table in
      let es : entries_of f ≡ entries (start (slots p)) (slots p) =
      entries_are f (slots p) (body_of f) here (fours InRange p a.valid) (small InRange p a.valid)
      in
      rw (kind_is (kind p) a.header, es, slots_shape p (good_nines InRange p.content a.valid.content)) (shape_back _ p.content)

  from_25 : RefusalList.Ok25 f → TableIs (shape_in f) f
  from_25 a =
      let same = slots_shape a.plan (good_nines InRange a.plan.content a.valid.content) in
      rw (shape_is a)
      (record {
        good = good_shape InRange a.plan.content a.valid.content;
        table = a.table ∙ ap table same;
        length-is = a.length-is ∙ ap file_length same;
      })

  module _ (ok22 : RefusalList.Ok22 f) where
    to_26 : RefusalList.Header (kind_from f) f → GoodIntent (varying_of f).intent → BodyIs (plan_in f) f → RefusalList.Ok26 f
    unfolding plan_in
    to_26 h i b =
        let s : Shape = shape_in f in
        let fits = header_device f ok21 (kind_from f) h in
        let k : kind (plan_in f) ≡ kind_from f = content_kind s.kind s (element_in f) ∙ kind_of_shape in
        record {
          plan = plan_in f;
          wide = record { intent = i; maker = fits.0; model = fits.1; content = b.good };
          has = record { header = subst (λ x. RefusalList.Header x f) (sym k) h; maker = refl; model = refl; intent = refl; table = b.table; body = b.body };
        }

    plan_is : (a : RefusalList.Ok26 f) → plan_in f ≡ with_mark false a.plan
    plan_is a = has_plan_in f ok21 ok22 a.plan a.wide a.has

    from_26 : RefusalList.Ok26 f → BodyIs (plan_in f) f
    unfolding elements
    from_26 a = rw (plan_is a) (record { good = a.wide.content; table = a.has.table; body = a.has.body })

    to_27 : RefusalList.Ok26 f → GoodContent InRange (plan_in f).content → RefusalList.Ok27 f
    to_27 a c =
        let d : GoodContent InRange a.plan.content = rw (plan_is a) at c in
        record { plan = a.plan; valid = record { intent = a.wide.intent; maker = a.wide.maker; model = a.wide.model; content = d }; has = a.has }

    abbrev wide_27 : RefusalList.Ok27 f → RefusalList.Ok26 f
    wide_27 a = record { plan = a.plan; wide = valid_wide a.plan a.valid; has = a.has }

    from_27 : RefusalList.Ok27 f → GoodContent InRange (plan_in f).content
    from_27 a = rw (plan_is (wide_27 a)) a.valid.content

    -- the id is the correct one, or zeros that are not
    module _ (a : RefusalList.Ok27 f) where
      computed : (varying_of f).id ≡ profile_id f → From f [] (RefusalList.accepted (with_mark false (plan_in f)))
      computed e =
          let p = a.plan in
          rw (plan_is (wide_27 a))
          (all_pass (with_mark false p) (computed_exists p a.valid) (has_computed f ok21 ok22 p (valid_wide p a.valid) a.has e))

      not-computed : ¬ ((varying_of f).id ≡ profile_id f) → (varying_of f).id ≡ zeros 16 → From f [] (RefusalList.accepted (with_mark true (plan_in f)))
      not-computed h e =
          let p = a.plan in
          let w = valid_wide p a.valid in
          let nonzero : ¬ (computed_id p ≡ zeros 16) = λ z. h (e ∙ sym (has_id f ok21 ok22 p w a.has ∙ z)) in
          rw (plan_is (wide_27 a))
          (all_pass (with_mark true p) (marked_exists p a.valid nonzero) (has_zeros f ok21 ok22 p w a.has e))

    -- ---- from each check on

    from_id_lem : RefusalList.Ok27 f → From f (RefusalList.c28 ∷ []) (from_id f)
    unfolding from_id
    from_id_lem a = go _ _ refl refl
      where
        go : (c z : Bool) → same (varying_of f).id (profile_id f) ≡ c → same (varying_of f).id (zeros 16) ≡ z → From f (RefusalList.c28 ∷ []) (by_id c z (plan_in f))
        go true z e h = let id = same_if _ _ e in onward (record { id = inl id }) (computed a id)
        go false true e h = let id = same_if _ _ h in onward (record { id = inr id }) (not-computed a (different e) id)
        go false false e h =
            let neither : ¬ (RefusalList.Ok28 f) = λ b. ⊎_elim (different e) (different h) b.id in
            one_fails (fails {c = RefusalList.c28} neither)

    from_range_lem : RefusalList.Ok26 f → From f (RefusalList.c27 ∷ RefusalList.c28 ∷ []) (from_range f)
    unfolding from_range
    from_range_lem a = step f (Decide.content InRange Decide.in_range_lem (plan_in f).content) RefusalList.c27 _ _ (to_27 a) from_27 from_id_lem

    from_body_lem : RefusalList.Header (kind_from f) f → GoodIntent (varying_of f).intent → From f (RefusalList.c26 ∷ RefusalList.c27 ∷ RefusalList.c28 ∷ []) (from_body f)
    unfolding from_body
    from_body_lem h i = step f (Decide.body_is (plan_in f) f) RefusalList.c26 _ _ (to_26 h i) from_26 from_range_lem

    from_table_lem : RefusalList.Header (kind_from f) f → GoodIntent (varying_of f).intent
        → From f (RefusalList.c25 ∷ RefusalList.c26 ∷ RefusalList.c27 ∷ RefusalList.c28 ∷ []) (from_table f)
    unfolding from_table
    from_table_lem h i = step f (Decide.table_is (shape_in f) f) RefusalList.c25 _ _ (to_25 h) from_25 (λ a. from_body_lem h i)

answers : (f : List ℕ) (r : RefusalList.Answer) → From f RefusalList.checks r → RefusalList.Answers f r
answers f r (one_fails s) = RefusalList.refuses s
answers f r (all_pass p v e) = RefusalList.accepts p v e

pub answered : (f : List ℕ) → RefusalList.Answers f (read f)
unfolding read
answered f =
    answers f _
    (step f (dec_le 132 (length f)) RefusalList.c21 _ _ (λ h. record { long = h }) (λ a. a.long) (λ a1.
    step f (ℕ_discrete (varying_of f).size (length f)) RefusalList.c22 _ _ (λ h. record { size = h }) (λ a. a.size) (λ a2.
    step f (Decide.header_is (kind_from f) f) RefusalList.c23 _ _ (λ h. record { kind = kind_from f; header = h }) (from_23 f a1) (λ a3.
    step f (Decide.intent (varying_of f).intent) RefusalList.c24 _ _ (λ h. record { intent = h }) (λ a. a.intent) (λ a4.
    from_table_lem f a1 a2 (from_23 f a1 a3) a4.intent)))))
