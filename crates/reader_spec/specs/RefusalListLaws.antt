-- The reader accepts exactly the files that plans lay out to, and has one answer to each file. Assumes nothing.
use Rattle.std.specs.Prelude.{ℕ, ◌+◌, ◌*◌, ◌≤◌, ◌≡◌, ◌⊎◌, Bool, cond, ℤ}
use Rattle.std.proofs.Math.Path.{refl, ap, ap₂, sym, subst}
use Rattle.std.proofs.Common.{◌∙◌, lit≤, take-append-drop, take_at, SFits}
use Rattle.std.proofs.Math.Logic.{inl, inr}
use Rattle.std.proofs.Math.Bool.{true, false}
use mathlib.Core.List.{List, [], ◌∷◌, ◌++◌}
use native.Mathlib.Omega.{arith}
use Rattle.std.proofs.Math.ListN.{length, drop, length-append, length-drop}
use Rattle.std.proofs.Math.Seq.{drop-drop, length-take-le}
use Rattle.std.specs.Int.{w32}
use Rattle.buffer.specs.All.{All, none, more}
use Rattle.words.specs.Words.{word32}
use Rattle.profile.specs.Elements.{line_start, start, table, body, file, file_length}
use Rattle.profile.specs.ElementsLaws.{length-table, length-body}
use Rattle.profile.specs.Plan.{Plan, with_mark, kind, FourBytes, Good, Valid, Wide}
use Rattle.profile.specs.declared.Kind.{Kind}
use Rattle.buffer.specs.Bytes.{zeros}
use Rattle.profile.specs.Layout.{header, varying, elements, slots, with_id, profile_id, computed_id, id_for, layout}
use Rattle.profile.specs.LayoutLaws.{length-id_for, layout_bounds, any_id, layout_computed, layout_marked}
use Rattle.reader_spec.specs.Table.{varying_of, tags_of, table_of, body_of}
use Rattle.reader_spec.specs.PlanIn.{plan_in}
use Rattle.reader_spec.specs.FileLaws.{device_fits, fours, header_128, length-slots, length-file, table_with_id, body_with_id, varying_with_id, varying_layout, plan_in_with_id, valid_wide}
use Rattle.reader_spec.specs.RefusalList

-- ---- the numbers of the checks

pub number_bounds : (c : RefusalList.Check) → (21 ≤ RefusalList.number c) × (RefusalList.number c ≤ 28)
number_bounds RefusalList.c21 = (lit≤ tt, lit≤ tt)
number_bounds RefusalList.c22 = (lit≤ tt, lit≤ tt)
number_bounds RefusalList.c23 = (lit≤ tt, lit≤ tt)
number_bounds RefusalList.c24 = (lit≤ tt, lit≤ tt)
number_bounds RefusalList.c25 = (lit≤ tt, lit≤ tt)
number_bounds RefusalList.c26 = (lit≤ tt, lit≤ tt)
number_bounds RefusalList.c27 = (lit≤ tt, lit≤ tt)
number_bounds RefusalList.c28 = (lit≤ tt, lit≤ tt)

-- ---- a plan that has a file's regions has the file

module _ (f : List ℕ) (ok21 : RefusalList.Ok21 f) where
  pub id_length : length (varying_of f).id ≡ 16
  unfolding varying_of
  id_length = length-take-le 16 (drop 84 f) (simp length-drop (omega (arith, ok21.long)))

  -- a header of some kind, and what follows it
  pub after_header : (k : Kind) → RefusalList.Header k f → f ≡ header k (varying_of f) ++ drop 128 f
  unfolding RefusalList.Header
  after_header k h = sym (take-append-drop 128 f) ∙ ap (λ x. x ++ drop 128 f) h

  -- whatever four bytes a header has for maker and model, they are numbers of four bytes
  pub header_device : (k : Kind) → RefusalList.Header k f → FourBytes (varying_of f).maker × FourBytes (varying_of f).model
  unfolding varying_of
  header_device k h =
      let fits = device_fits k (varying_of f) (drop 128 f) in
      (subst (λ l. FourBytes (word32 (drop 48 l))) (sym (after_header k h)) fits.0, subst (λ l. FourBytes (word32 (drop 52 l))) (sym (after_header k h)) fits.1)

  pub regions : drop 128 f ≡ table_of f ++ body_of f
  unfolding body_of table_of
  regions =
      let e : line_start (tags_of f) ≡ 128 + (4 + 12 * tags_of f) = omega arith in
      rw (e, ← drop-drop (4 + 12 * tags_of f) 128 f, take-append-drop)

  module _ (ok22 : RefusalList.Ok22 f) (p : Plan) (w : Wide p) (h : RefusalList.Has p f) where
    has_rest : drop 128 f ≡ table (slots p) ++ body (elements p)
    has_rest = regions ∙ ap₂ ◌++◌ h.table h.body

    has_length : length f ≡ file_length (slots p)
    unfolding file_length start
    has_length =
        omega (
          arith,
          ok21.long,
          simp (length-drop, length-append, length-body, length-table (slots p) (fours (SFits w32) p w)) at (ap length has_rest),
        )

    has_varying : varying_of f ≡ varying (file_length (slots p)) (varying_of f).id p
    has_varying = λ i. record { size = (ok22.size ∙ has_length) i; maker = h.maker i; model = h.model i; intent = h.intent i; id = (varying_of f).id }

    pub has_with_id : f ≡ with_id (varying_of f).id p
    unfolding with_id file
    has_with_id = after_header (kind p) h.header ∙ ap₂ ◌++◌ (ap (header (kind p)) has_varying) has_rest

    -- so it is the one that is read from the file, its mark aside
    pub has_plan_in : plan_in f ≡ with_mark false p
    has_plan_in = ap plan_in has_with_id ∙ plan_in_with_id p w (varying_of f).id id_length

    -- the id of the file is the plan's
    pub has_id : profile_id f ≡ computed_id p
    has_id = ap profile_id has_with_id ∙ any_id p (varying_of f).id id_length

    -- with the correct id the file is the layout of the plan without the mark, with zeros that of the plan with it
    pub has_computed : (varying_of f).id ≡ profile_id f → layout (with_mark false p) ≡ f
    has_computed e = layout_computed p ∙ ap (λ d. with_id d p) (sym (e ∙ has_id)) ∙ sym has_with_id

    pub has_zeros : (varying_of f).id ≡ zeros 16 → layout (with_mark true p) ≡ f
    has_zeros e = layout_marked p ∙ ap (λ d. with_id d p) (sym e) ∙ sym has_with_id

-- ---- what a plan lays out to passes every check

module _ (N : ℤ → Type 0) (p : Plan) (g : Good N p) (id : List ℕ) (sixteen : length id ≡ 16) where
  header_of : RefusalList.Header (kind p) (with_id id p)
  unfolding RefusalList.Header
  header_of =
      rw (varying_with_id N p g id sixteen)
      (unfold with_id file in (take_at (header (kind p) (varying (file_length (slots p)) id p)) _ 128 (header_128 N p g id sixteen)))

  has_of : RefusalList.Has p (with_id id p)
  has_of =
      record {
        header = header_of;
        maker = ap (λ v. v.maker) (varying_with_id N p g id sixteen);
        model = ap (λ v. v.model) (varying_with_id N p g id sixteen);
        intent = ap (λ v. v.intent) (varying_with_id N p g id sixteen);
        table = table_with_id N p g id sixteen;
        body = body_with_id N p g id sixteen;
      }

abbrev pub AllPassed : List ℕ → List RefusalList.Check → Type 0
AllPassed f = All (λ (c : RefusalList.Check). RefusalList.Passed c f)

-- those before the check of the id, whatever stands in its place
abbrev pub before_id : List RefusalList.Check
before_id =
    RefusalList.c21 ∷ RefusalList.c22 ∷ RefusalList.c23 ∷ RefusalList.c24 ∷ RefusalList.c25 ∷ RefusalList.c26 ∷ RefusalList.c27 ∷ []

pub passes_before : (p : Plan) → Valid p → (id : List ℕ) → length id ≡ 16 → AllPassed (with_id id p) before_id
passes_before p v id sixteen =
    let f : List ℕ = with_id id p in
    let w : Wide p = valid_wide p v in
    let h : RefusalList.Has p f = has_of (SFits w32) p w id sixteen in
    let n : length f ≡ file_length (slots p) = length-file (SFits w32) p w id sixteen in
    let a1 : RefusalList.Ok21 f = record { long = omega (arith, n, length-slots (SFits w32) p w, layout_bounds (SFits w32) p w) } in
    let a2 : RefusalList.Ok22 f = record { size = ap (λ v. v.size) (varying_with_id (SFits w32) p w id sixteen) ∙ sym n } in
    let a3 : RefusalList.Ok23 f = record { kind = kind p; header = h.header } in
    let a4 : RefusalList.Ok24 f = record { intent = rw h.intent v.intent } in
    let a5 : RefusalList.Ok25 f = record { plan = p; valid = v; header = h.header; table = h.table; length-is = n } in
    let a6 : RefusalList.Ok26 f = record { plan = p; wide = w; has = h } in
    let a7 : RefusalList.Ok27 f = record { plan = p; valid = v; has = h } in
    more a1 (more a2 (more a3 (more a4 (more a5 (more a6 (more a7 none))))))

pub passes_id : (p : Plan) → Wide p → RefusalList.Ok28 (layout p)
passes_id p w =
    let stands : (varying_of (layout p)).id ≡ id_for p = ap (λ v. v.id) (varying_layout p w) in
    let correct : profile_id (layout p) ≡ computed_id p = unfold layout in any_id p (id_for p) (length-id_for p) in
    record { id = rw (stands, correct) (unfold id_for in either p.id_not_computed) }
  where
    either : (m : Bool) → (cond m (zeros 16) (computed_id p) ≡ computed_id p) ⊎ (cond m (zeros 16) (computed_id p) ≡ zeros 16)
    either true = inr refl
    either false = inl refl
