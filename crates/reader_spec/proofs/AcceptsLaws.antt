-- That an accepted file is its plan's layout, what the reader answers to a plan's file under any id, and that each byte of a plan's layout has one owner.
-- Assumes nothing.
use Rattle.std.specs.Prelude.{ℕ, ◌≤◌, ◌≡◌, Bool, true, false, List, [], ◌∷◌, ◌++◌, length}
use Rattle.std.proofs.Common.{ap, sym, ◌∙◌, subst, ⊎_elim, arith}
use Rattle.buffer.specs.All.{All, none, more}
use Rattle.buffer.specs.Bytes.{zeros}
use Rattle.buffer.specs.First.{fails, later}
use Rattle.profile.specs.Elements.{Slot}
use Rattle.profile.specs.Plan.{Plan, with_mark, InRange, Valid}
use Rattle.profile.specs.declared.Kind.{Kind}
use Rattle.profile.specs.declared.Kind.TheVariants.{Gray, Rgb, Xyb}
use Rattle.profile.specs.PlanLaws.{good_nines, slots_shape}
use Rattle.profile.specs.Layout.{elements, with_id, computed_id, layout}
use Rattle.profile.specs.LayoutLaws.{length-id_for, any_id, layout_computed, layout_marked}
use Rattle.profile.specs.Shape.{shape, slots_for, slots_of, one, sized, mluc_size, curve_size, chad_slot, cicp_slot}
use Rattle.profile.specs.declared.Shape.{Shape}
use Rattle.reader_spec.specs.Exists.{Exists}
use Rattle.reader_spec.specs.FileLaws.{fours, small, header_128, varying_with_id, computed_exists, marked_exists}
use Rattle.reader_spec.specs.Table.{varying_of}
use Rattle.reader_spec.specs.RefusalList.{Answer, Answers, Check, FirstFailing, Ok28, Passed, accepted, accepts, c28, refused, refuses}
use Rattle.reader_spec.specs.RefusalListLaws.{passes_before}
use Rattle.reader_spec.proofs.RefusalListAnswers.{answer_unique}
use Rattle.reader_spec.specs.Read.{read}
use Rattle.reader_spec.proofs.ReadAnswers.{read_answers, read_is}
use Rattle.reader_spec.specs.Owners.{Owned}
use Rattle.reader_spec.proofs.OwnersLaws.{NonEmpty, owned}

module _ (f : List ℕ) (p : Plan) where
  pub accepted_lays_out : read f ≡ accepted p → Exists p × (layout p ≡ f)
  accepted_lays_out = to (read f) (read_answers f)
    where
      to : (a : Answer) → Answers f a → a ≡ accepted p → Exists p × (layout p ≡ f)
      to a (refuses s) e = let z : ◌≡◌ {A = ℕ} 0 1 = cc in absurd (omega arith)
      to a (accepts q v d) e = let same : q ≡ p = cc in (subst Exists same v, subst (λ x. layout x ≡ f) same d)

  pub laid_out_accepted : Exists p × (layout p ≡ f) → read f ≡ accepted p
  laid_out_accepted h = answer_unique f (read f) (accepted p) (read_answers f) (accepts p h.0 h.1)

-- ---- a plan's file under any id

first_after : {f : List ℕ} {cs : List Check} (c : Check) → All (λ (d : Check). Passed d f) cs → ¬ (Passed c f) → FirstFailing f (cs ++ (c ∷ [])) c
first_after c none h = fails h
first_after c (more p ps) h = later p (first_after c ps h)

module _ (p : Plan) (v : Valid p) (d : List ℕ) (sixteen : length d ≡ 16) where
  pub reads_correct : d ≡ computed_id p → read (with_id d p) ≡ accepted (with_mark false p)
  reads_correct e =
      laid_out_accepted (with_id d p) (with_mark false p)
      (computed_exists p v, layout_computed p ∙ ap (λ x. with_id x p) (sym e))

  module _ (other : ¬ (d ≡ computed_id p)) where
    pub reads_zeros : d ≡ zeros 16 → read (with_id d p) ≡ accepted (with_mark true p)
    reads_zeros e =
        laid_out_accepted (with_id d p) (with_mark true p)
        (marked_exists p v (λ z. other (e ∙ sym z)), layout_marked p ∙ ap (λ x. with_id x p) (sym e))

    pub reads_28 : ¬ (d ≡ zeros 16) → read (with_id d p) ≡ refused c28
    reads_28 nonzero =
        let stands : (varying_of (with_id d p)).id ≡ d = ap (λ x. x.id) (varying_with_id InRange p v d sixteen) in
        let neither : ¬ (Ok28 (with_id d p)) =
        λ ok. ⊎_elim (λ e. other (sym stands ∙ e ∙ any_id p d sixteen)) (λ e. nonzero (sym stands ∙ e)) ok.id
        in
        read_is (with_id d p) (refused c28) (refuses (first_after c28 (passes_before p v d sixteen) neither))

-- ---- who owns the bytes of a plan's layout

held_one : (s : List ℕ) (n : ℕ) → 1 ≤ n → NonEmpty (one s n)
held_one s n h = record { signed = omega arith; holds = h }

held_three : (s t u : List ℕ) (n : ℕ) → 1 ≤ n → NonEmpty (sized (s ∷ t ∷ u ∷ []) n)
held_three s t u n h = record { signed = omega arith; holds = h }

curve_holds : (g : Bool) → 1 ≤ curve_size g
curve_holds true = omega arith
curve_holds false = omega arith

cicp_held : (v : Bool) (ss : List Slot) → All NonEmpty ss → All NonEmpty (cicp_slot v ++ ss)
cicp_held true ss h = more (held_one _ 12 (omega arith)) h
cicp_held false ss h = h

chad_held : (a : Bool) (ss : List Slot) → All NonEmpty ss → All NonEmpty (chad_slot a ++ ss)
chad_held true ss h = more (held_one _ 44 (omega arith)) h
chad_held false ss h = h

-- every element of a plan holds something, under some signature
all_held : (k : Kind) (s : Shape) → All NonEmpty (slots_for k s)
all_held Gray s =
    more (held_one _ (mluc_size s.letters) (omega arith)) (more (held_one _ 34 (omega arith))
    (more (held_one _ 20 (omega arith)) (chad_held s.adapted _ (more (held_one _ (curve_size s.gamma) (curve_holds s.gamma)) none))))
all_held Rgb s =
    more (held_one _ (mluc_size s.letters) (omega arith)) (more (held_one _ 34 (omega arith)) (more (held_one _ 20 (omega arith)) (more (held_one _ 44 (omega arith))
    (cicp_held s.cicp _ (more (held_one _ 20 (omega arith)) (more (held_one _ 20 (omega arith)) (more (held_one _ 20 (omega arith))
    (more (held_three _ _ _ (curve_size s.gamma) (curve_holds s.gamma)) none))))))))
all_held Xyb s =
    more (held_one _ 42 (omega arith)) (more (held_one _ 34 (omega arith)) (more (held_one _ 20 (omega arith))
    (more (held_one _ 44 (omega arith)) (more (held_one _ 292 (omega arith)) (more (held_one _ 80 (omega arith)) none)))))

owned_with_id : (p : Plan) → Valid p → (id : List ℕ) → length id ≡ 16 → Owned (with_id id p)
unfolding with_id slots_of
owned_with_id p v id h =
    owned _ (elements p) (header_128 InRange p v id h) (fours InRange p v) (small InRange p v)
    (rw (slots_shape p (good_nines InRange p.content v.content)) (all_held (shape p).kind (shape p)))

pub owned_layout : (p : Plan) → Valid p → Owned (layout p)
unfolding layout
owned_layout p v = owned_with_id p v _ (length-id_for p)
