-- Parts that stand one after another, from one of them on. Assumes nothing.
use Rattle.std.specs.Prelude.{ℕ, ◌≡◌, refl, List, [], ◌∷◌, ◌++◌, length, drop}
use Rattle.std.proofs.Common.{ap, sym, ◌∙◌, append_assoc, drop_at}
use Rattle.profile.specs.TagTypes.{join}

join_append : (ps qs : List (List ℕ)) → join (ps ++ qs) ≡ join ps ++ join qs
unfolding join
join_append [] qs = refl
join_append (p ∷ ps) qs = ap (λ l. p ++ l) (join_append ps qs) ∙ sym (append_assoc p (join ps) (join qs))

pub from_part : (ps qs : List (List ℕ)) (r : List ℕ) (n : ℕ) → length (join ps) ≡ n → drop n (join (ps ++ qs) ++ r) ≡ join qs ++ r
from_part ps qs r n e = rw (join_append ps qs, append_assoc) (drop_at (join ps) (join qs ++ r) n e)
