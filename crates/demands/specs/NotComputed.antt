-- Order 7, "Profiles without an id": what the reader answers to an accepted file with other bytes in place of its id, which accepted files have the mark,
-- what the finder finds in them, and that written files are read as before. (That one plan fits one file, in the case of a computed id of zeros too, is
-- `one_plan` of Demand3; that the plan of what was written never has the mark is in its WroteItsPlan.) Assumes nothing.
use Rattle.std.specs.Prelude.{ℕ, ◌≡◌, ◌↔◌, true, false, List, length, take}
use Rattle.std.proofs.Common.{sym}
use Rattle.buffer.specs.Buffer.{put}
use Rattle.buffer.specs.Bytes.{zeros}
use Rattle.buffer.specs.Checked.{is, refused as refusedBy, Checked}
use Rattle.profile.specs.Plan.{Plan, Valid, with_mark}
use Rattle.profile.specs.Layout.{id_at, id_size, with_id, profile_id, computed_id}
use Rattle.encoding_plan.specs.EncodingPlan.{encoding_plan}
use Rattle.encoding_plan.specs.EncodingPlanLaws as EncodingPlanLaws
use Rattle.encoding_plan.specs.declared.Encoding.{Encoding}
use Rattle.writer.specs.Writer.{profile, Creates}
use Rattle.reader_spec.specs.Table.{varying_of}
use Rattle.reader_spec.specs.RefusalList.{accepted, refused, c28}
use Rattle.reader_spec.specs.Read.{read}
use Rattle.reader_spec.specs.Finder.{find}
use Rattle.reading.specs.declared.Reading.{Reading}
use Rattle.demands.specs.Told.{told}
use Rattle.demands.specs.NotComputedLaws as Laws
use Rattle.demands.specs.Demand3.{Reads, written}

-- "The writer always computes, so the plan of an encoding never has this mark"
pub never_marked : (e : Encoding) (p : Plan) → encoding_plan e ≡ is p → p.id_not_computed ≡ false
never_marked e p h = EncodingPlanLaws.never_marked e h

-- ---- an accepted file with sixteen bytes d in place of its id

module _ (f : List ℕ) (p : Plan) (h : read f ≡ accepted p) (d : List ℕ) (sixteen : length d ≡ id_size) where
  -- the correct id is tried first
  pub correct_id : d ≡ profile_id f → read (put f id_at d) ≡ accepted (with_mark false p)
  correct_id = Laws.correct_id f p h d sixteen

  -- zeros that are not the correct id mean not computed
  pub zero-id : ¬ (d ≡ profile_id f) → d ≡ zeros id_size → read (put f id_at d) ≡ accepted (with_mark true p)
  zero-id = Laws.zero-id f p h d sixteen

  -- any other id is 28
  pub another_id : ¬ (d ≡ profile_id f) → ¬ (d ≡ zeros id_size) → read (put f id_at d) ≡ refused c28
  another_id = Laws.another_id f p h d sixteen

-- ---- which accepted files have the mark

module _ (f : List ℕ) (p : Plan) (h : read f ≡ accepted p) where
  -- those that have not their correct id: where this is zero itself, none
  pub marked_exactly_if : (p.id_not_computed ≡ true) ↔ (¬ ((varying_of f).id ≡ profile_id f))
  marked_exactly_if = Laws.marked_exactly_if f p h

  pub marked_zeros : p.id_not_computed ≡ true → (varying_of f).id ≡ zeros id_size
  marked_zeros = Laws.marked_zeros f p h

-- the others are accepted as before this order: exactly the files of a plan with their id
pub accepted_as_before : (f : List ℕ) (p : Plan) → p.id_not_computed ≡ false → (read f ≡ accepted p) ↔ (Valid p × (with_id (computed_id p) p ≡ f))
accepted_as_before = Laws.accepted_as_before

-- the finder finds in a file without its id what it finds in the file
pub same_elements : (f : List ℕ) (p : Plan) → read f ≡ accepted p → ¬ (zeros id_size ≡ profile_id f) → (s : List ℕ) → find (put f id_at (zeros id_size)) s ≡ find f s
same_elements = Laws.same_elements

-- ---- running code: what `maybe_create_profile` wrote, with other bytes in place of its id, as `read` answers to it

module _ (e : Encoding) (n : ℕ) {k : ℕ} (before after : List ℕ) (w : Creates e before after (profile n k)) where
  pub written_zeroed : ¬ (zeros id_size ≡ profile_id (take n after)) → (r : Checked Reading) → Reads (put (take n after) id_at (zeros id_size)) r
      → told r ≡ is (with_mark true (written e n before after w).plan)
  written_zeroed h r reads =
      let p = written e n before after w in
      Laws.told_marked (take n after) p.plan p.exists (sym p.laid_out) h r reads

  pub written_another : (d : List ℕ) → length d ≡ id_size → ¬ (d ≡ profile_id (take n after)) → ¬ (d ≡ zeros id_size)
      → (r : Checked Reading) → Reads (put (take n after) id_at d) r → told r ≡ refusedBy 28
  written_another d sixteen other nonzero r reads =
      let p = written e n before after w in
      Laws.told_28 (take n after) p.plan p.exists (sym p.laid_out) d sixteen other nonzero r reads
