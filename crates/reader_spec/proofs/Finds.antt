-- In an accepted file the finder hands back the plan's element, and nothing where the plan has no such tag. Assumes nothing.
use Rattle.std.specs.Prelude.{ℕ, ◌≡◌, List}
use Rattle.std.proofs.Common.{subst}
use Rattle.profile.specs.Plan.{Plan}
use Rattle.profile.specs.Layout.{elements, layout}
use Rattle.reader_spec.specs.Exists.{Exists}
use Rattle.reader_spec.specs.Table.{entries_of}
use Rattle.reader_spec.specs.RefusalList.{accepted}
use Rattle.reader_spec.specs.Read.{read}
use Rattle.reader_spec.proofs.Accepts.{accepts_exactly}
use Rattle.reader_spec.specs.Finder.{found, find, element_under}
use Rattle.reader_spec.proofs.FinderLaws.{named, named_layout}

pub finds : (f s : List ℕ) (p : Plan) → read f ≡ accepted p → find f s ≡ element_under s (elements p)
unfolding find found
finds f s p e =
    let h : Exists p × (layout p ≡ f) = (accepts_exactly f p).0 e in
    rw e (subst (λ x. named x s (entries_of x) ≡ element_under s (elements p)) h.1 (named_layout s p h.0.valid))
