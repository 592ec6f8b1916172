-- Laws of maker and model in a file. Assumes nothing.
use Rattle.std.specs.Prelude.{ℕ, ◌+◌, ◌-◌, ◌≤◌, ◌<◌, ◌≡◌, false, ◌⊎◌, List, ◌++◌, length, take, drop, get_or}
use Rattle.std.proofs.Common.{sym, ap, ap₂, ◌∙◌, subst, inl, inr, append_assoc, arith, length-append, get_or-take, get_or-drop, get_or-append-add, length-take-le}
use Rattle.std.proofs.Math.ListN.{get_or-append}
use Rattle.words.specs.Words.{be32}
use Rattle.words.specs.WordsLaws.{length-be32, be32_zero}
use Rattle.buffer.specs.Buffer.{put}
use Rattle.buffer.specs.BufferLaws.{length-put}
use Rattle.buffer.specs.Bytes.{zeros}
use Rattle.profile.specs.Elements.{file}
use Rattle.profile.specs.Plan.{Plan, with_device}
use Rattle.profile.specs.TagTypes.{join}
use Rattle.profile.specs.PlanLaws.{unmarked}
use Rattle.profile.specs.Layout.{header, with_id, profile_id, computed_id, layout}
use Rattle.profile.specs.LayoutLaws.{length-header, length-id, length-id_for, layout_computed, layout_device}
use Rattle.demands.specs.OldFiles.{old_with_id, old_layout, patched, Elsewhere}

-- ---- zeros

old_under : (id : List ℕ) (p : Plan) → p.maker ≡ 0 → p.model ≡ 0 → with_id id p ≡ old_with_id id p
unfolding with_id old_with_id header join
old_under id p a b = rw (a, b, be32_zero)

pub zeros_old : (p : Plan) → p.id_not_computed ≡ false → p.maker ≡ 0 → p.model ≡ 0 → layout p ≡ old_layout p
unfolding computed_id old_layout
zeros_old p m a b =
    ap layout (sym (unmarked p m)) ∙ layout_computed p ∙ ap (λ f. with_id (profile_id f) p) (old_under (zeros 16) p a b) ∙ old_under _ p a b

-- ---- a byte outside of those that are put

pub outside : (l : List ℕ) (i : ℕ) (q : List ℕ) (j : ℕ) → i + length q ≤ length l → (j < i) ⊎ (i + length q ≤ j) → get_or (put l i q) j 0 ≡ get_or l j 0
unfolding put
outside l i q j room (inl h) =
    get_or-append (take i l) (q ++ drop (i + length q) l) 0 j (rw (length-take-le i l (omega arith)) h) ∙ get_or-take i l j 0 h
outside l i q j room (inr h) =
    let m : ℕ = j - (i + length q) in
    let split : j ≡ i + length q + m = omega arith in
    let front : length (take i l ++ q) ≡ i + length q = length-append (take i l) q ∙ ap (λ (k : ℕ). k + length q) (length-take-le i l (omega arith)) in
    ap₂ (λ (x : List ℕ) (k : ℕ). get_or x k 0) (sym (append_assoc (take i l) q (drop (i + length q) l))) (split ∙ ap (λ (k : ℕ). k + m) (sym front))
    ∙ get_or-append-add (take i l ++ q) (drop (i + length q) l) m 0
    ∙ get_or-drop (i + length q) l m 0
    ∙ ap (λ (k : ℕ). get_or l k 0) (sym split)

-- ---- a file with another maker and model

at_least_100 : (p : Plan) → 100 ≤ length (layout p)
unfolding layout with_id file
at_least_100 p = simp (length-append, length-header, length-id_for) (omega arith)

module _ (p : Plan) (m : p.id_not_computed ≡ false) (a b : ℕ) where
  pub new : layout (with_device a b p) ≡ patched a b (layout p)
  new = subst (λ q. layout (with_device a b q) ≡ patched a b (layout q)) (unmarked p m) (layout_device p a b)

  abbrev device : List ℕ
  device = be32 a ++ be32 b

  abbrev put_device : List ℕ
  put_device = put (layout p) 48 device

  eight : length device ≡ 8
  eight = simp (length-append, length-be32)

  long : length put_device ≡ length (layout p)
  long = length-put (layout p) 48 device (omega (arith, eight, at_least_100 p))

  pub elsewhere : (i : ℕ) → Elsewhere i → get_or (layout (with_device a b p)) i 0 ≡ get_or (layout p) i 0
  elsewhere i h =
      ap (λ (l : List ℕ). get_or l i 0) new
      ∙ outside put_device 84 (profile_id put_device) i (omega (arith, long, length-id put_device, at_least_100 p)) (past_id h)
      ∙ outside (layout p) 48 device i (omega (arith, eight, at_least_100 p)) (past_device h)
    where
      past_id : Elsewhere i → (i < 84) ⊎ (84 + length (profile_id put_device) ≤ i)
      past_id (inl h) = inl (omega arith)
      past_id (inr (inl h)) = inl h.1
      past_id (inr (inr h)) = inr (omega (arith, length-id put_device))

      past_device : Elsewhere i → (i < 48) ⊎ (48 + length device ≤ i)
      past_device (inl h) = inl h
      past_device (inr (inl h)) = inr (omega (arith, eight, h.0))
      past_device (inr (inr h)) = inr (omega (arith, eight))
