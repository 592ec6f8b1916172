-- Laws of files with other bytes in place of their id. Assumes nothing.
use Rattle.std.specs.Prelude.{ℕ, ◌≡◌, ◌↔◌, Bool, false, List, length}
use Rattle.std.proofs.Math.Path.{refl, sym}
use Rattle.std.proofs.Common.{ap, ◌∙◌, subst}
use Rattle.std.proofs.Math.Bool.{true, cond}
use Rattle.buffer.specs.Buffer.{put}
use Rattle.buffer.specs.Bytes.{zeros}
use Rattle.buffer.specs.Checked.{is, refused as refusedBy, Checked}
use Rattle.profile.specs.Plan.{Plan, Valid, with_mark}
use Rattle.profile.specs.PlanLaws.{unmarked}
use Rattle.profile.specs.Layout.{elements, with_id, profile_id, computed_id, id_for, layout}
use Rattle.profile.specs.LayoutLaws.{length-id_for, put_id, any_id, layout_computed}
use Rattle.reader_spec.specs.Exists.{Exists}
use Rattle.reader_spec.specs.Table.{varying_of}
use Rattle.reader_spec.specs.FileLaws.{varying_layout, valid_wide, mark_valid, computed_exists}
use Rattle.reader_spec.specs.RefusalList.{accepted, refused, c28}
use Rattle.reader_spec.specs.Read.{read}
use Rattle.reader_spec.proofs.Accepts.{accepts_exactly}
use Rattle.reader_spec.proofs.AcceptsLaws.{reads_correct, reads_zeros, reads_28}
use Rattle.reader_spec.specs.Finder.{find}
use Rattle.reader_spec.proofs.Finds.{finds}
use Rattle.reading.specs.Reading.{reading}
use Rattle.reading.specs.declared.Reading.{Reading}
use Rattle.demands.specs.Told.{told}
use Rattle.demands.specs.ToldLaws.{plan_told, refusal_told}

-- ---- the file of a plan

module _ (f : List ℕ) (p : Plan) (x : Exists p) (laid : layout p ≡ f) where
  its_id : profile_id f ≡ computed_id p
  its_id = ap profile_id (sym laid) ∙ (unfold layout in any_id p (id_for p) (length-id_for p))

  stands : (varying_of f).id ≡ id_for p
  stands = ap (λ l. (varying_of l).id) (sym laid) ∙ ap (λ v. v.id) (varying_layout p (valid_wide p x.valid))

  under : (d : List ℕ) → length d ≡ 16 → put f 84 d ≡ with_id d p
  under d h = ap (λ l. put l 84 d) (sym laid) ∙ (unfold layout in put_id p (id_for p) d (length-id_for p) h)

  module _ (d : List ℕ) (sixteen : length d ≡ 16) where
    put_correct : d ≡ profile_id f → read (put f 84 d) ≡ accepted (with_mark false p)
    put_correct e = ap read (under d sixteen) ∙ reads_correct p x.valid d sixteen (e ∙ its_id)

    module _ (other : ¬ (d ≡ profile_id f)) where
      put_zeros : d ≡ zeros 16 → read (put f 84 d) ≡ accepted (with_mark true p)
      put_zeros e = ap read (under d sixteen) ∙ reads_zeros p x.valid d sixteen (λ i. other (i ∙ sym its_id)) e

      put_28 : ¬ (d ≡ zeros 16) → read (put f 84 d) ≡ refused c28
      put_28 nonzero = ap read (under d sixteen) ∙ reads_28 p x.valid d sixteen (λ i. other (i ∙ sym its_id)) nonzero

      pub told_28 : ¬ (d ≡ zeros 16) → (r : Checked Reading) → r ≡ reading (read (put f 84 d)) → told r ≡ refusedBy 28
      told_28 nonzero r h = ap told (h ∙ ap reading (put_28 nonzero)) ∙ refusal_told c28

  pub told_marked : ¬ (zeros 16 ≡ profile_id f) → (r : Checked Reading) → r ≡ reading (read (put f 84 (zeros 16))) → told r ≡ is (with_mark true p)
  told_marked other r h = ap told (h ∙ ap reading (put_zeros (zeros 16) refl other refl)) ∙ plan_told (with_mark true p) (mark_valid true p x.valid)

-- ---- an accepted file

module _ (f : List ℕ) (p : Plan) (h : read f ≡ accepted p) where
  laid_out : Exists p × (layout p ≡ f)
  laid_out = (accepts_exactly f p).0 h

  pub correct_id : (d : List ℕ) → length d ≡ 16 → d ≡ profile_id f → read (put f 84 d) ≡ accepted (with_mark false p)
  correct_id = put_correct f p laid_out.0 laid_out.1

  pub zero-id : (d : List ℕ) → length d ≡ 16 → ¬ (d ≡ profile_id f) → d ≡ zeros 16 → read (put f 84 d) ≡ accepted (with_mark true p)
  zero-id = put_zeros f p laid_out.0 laid_out.1

  pub another_id : (d : List ℕ) → length d ≡ 16 → ¬ (d ≡ profile_id f) → ¬ (d ≡ zeros 16) → read (put f 84 d) ≡ refused c28
  another_id = put_28 f p laid_out.0 laid_out.1

  -- what stands in place of its id, by the mark
  stands_for_lem : (m : Bool) → p.id_not_computed ≡ m → (varying_of f).id ≡ cond m (zeros 16) (profile_id f)
  unfolding id_for
  stands_for_lem m e =
      stands f p laid_out.0 laid_out.1
      ∙ (λ j. cond (e j) (zeros 16) (sym (its_id f p laid_out.0 laid_out.1) j))

  pub marked_zeros : p.id_not_computed ≡ true → (varying_of f).id ≡ zeros 16
  marked_zeros e = stands_for_lem true e

  pub marked_exactly_if : (p.id_not_computed ≡ true) ↔ (¬ ((varying_of f).id ≡ profile_id f))
  marked_exactly_if = (
    λ e i. laid_out.0.mark e (sym (its_id f p laid_out.0 laid_out.1) ∙ sym i ∙ marked_zeros e),
    λ other. go other p.id_not_computed refl,
  )
    where
      go : ¬ ((varying_of f).id ≡ profile_id f) → (m : Bool) → p.id_not_computed ≡ m → m ≡ true
      go other true e = refl
      go other false e = absurd (other (stands_for_lem false e))

  pub same_elements : ¬ (zeros 16 ≡ profile_id f) → (s : List ℕ) → find (put f 84 (zeros 16)) s ≡ find f s
  unfolding elements
  same_elements other s = finds (put f 84 (zeros 16)) s (with_mark true p) (zero-id (zeros 16) refl other refl) ∙ sym (finds f s p h)

pub accepted_as_before : (f : List ℕ) (p : Plan) → p.id_not_computed ≡ false → (read f ≡ accepted p) ↔ (Valid p × (with_id (computed_id p) p ≡ f))
accepted_as_before f p e =
    let computed : layout p ≡ with_id (computed_id p) p = ap layout (sym (unmarked p e)) ∙ layout_computed p in (
      λ h. let l = (accepts_exactly f p).0 h in (l.0.valid, sym computed ∙ l.1),
      λ h. (accepts_exactly f p).1 (subst Exists (unmarked p e) (computed_exists p h.0), computed ∙ h.1),
    )
