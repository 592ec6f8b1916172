-- Demand 3, the reader's part: which files are accepted, as which plans, and who owns their bytes. Assumes nothing.
use Rattle.std.specs.Prelude.{ℕ, ◌≤◌, ◌≡◌, refl, ◌↔◌, List, length}
use Rattle.std.proofs.Common.{subst}
use Rattle.profile.specs.Plan.{Plan, InRange}
use Rattle.profile.specs.Shape.{min_length, max_length}
use Rattle.profile.specs.Layout.{layout}
use Rattle.profile.specs.LayoutLaws.{layout_bounds}
use Rattle.reader_spec.specs.Exists.{Exists}
use Rattle.reader_spec.specs.FileLaws.{layout_injective}
use Rattle.reader_spec.specs.RefusalList.{accepted}
use Rattle.reader_spec.specs.Read.{read}
use Rattle.reader_spec.specs.Owners.{Owned}
use Rattle.reader_spec.proofs.AcceptsLaws.{accepted_lays_out, laid_out_accepted, owned_layout}

-- ---- which files are accepted, and how

-- the reader answers a plan exactly if it is a plan of 01 and lays out to those bytes, id included
pub accepts_exactly : (f : List ℕ) (p : Plan) → (read f ≡ accepted p) ↔ (Exists p × (layout p ≡ f))
accepts_exactly f p = (accepted_lays_out f p, laid_out_accepted f p)

-- a file is accepted exactly if some plan lays out to it
pub accepts_some : (f : List ℕ) → ((p : Plan) × (read f ≡ accepted p)) ↔ ((p : Plan) × Exists p × (layout p ≡ f))
accepts_some f = (
  λ h. let r : Exists h.0 × (layout h.0 ≡ f) = (accepts_exactly f h.0).0 h.1 in (h.0, r.0, r.1),
  λ h. (h.0, (accepts_exactly f h.0).1 (h.1, h.2)),
)

-- no other plan lays out to the same bytes
pub one_plan : (p q : Plan) → Exists p → Exists q → layout p ≡ layout q → p ≡ q
one_plan = layout_injective

-- what a plan lays out to is read as that plan
pub reads_back : (p : Plan) → Exists p → read (layout p) ≡ accepted p
reads_back p v = (accepts_exactly (layout p) p).1 (v, refl)

-- ---- who owns the bytes of an accepted file

-- in an accepted file each byte has exactly one owner, and the length is the sum; it has 284 to 1,240 bytes
pub accepted_owned : (f : List ℕ) (p : Plan) → read f ≡ accepted p → Owned f × (min_length ≤ length f) × (length f ≤ max_length)
accepted_owned f p e =
    let h : Exists p × (layout p ≡ f) = (accepts_exactly f p).0 e in
    let n : (min_length ≤ length (layout p)) × (length (layout p) ≤ max_length) = layout_bounds InRange p h.0.valid in
    (subst Owned h.1 (owned_layout p h.0.valid), rw h.1 at n.0, rw h.1 at n.1)
