-- The tags of a list of elements, walked one after another, stand where the tag table says. Assumes nothing.
use Rattle.std.specs.Prelude.{ℕ, suc, ◌+◌, ◌*◌, ◌≤◌, ◌<◌, ◌≡◌, Bool, true, false, cond, length, drop, get_or}
use Rattle.std.proofs.Math.Path.{refl, ap, sym}
use Rattle.std.proofs.Common.{◌∙◌, add-zero, add_assoc, add-one, arith, length-append, drop_of_length-le, drop-cons}
use mathlib.Core.List.{List, [], ◌∷◌, ◌++◌, map}
use Rattle.std.proofs.lemmas.List.{length-map}
use Rattle.buffer.specs.Puts.{Puts}
use Rattle.buffer.specs.All.{All, none, more}
use Rattle.words.specs.Words.{be32}
use Rattle.profile.specs.Elements.{Slot, Entry, entry, entries, entries_bytes, padded_size, body_size, tag_count, header_size, count_size, line_size, line_start, start, table, file_length}
use Rattle.profile.specs.Plan.{max_letters}
use Rattle.profile.specs.PlanLaws.{at_most}
use Rattle.profile.specs.Shape.{sized, slots_for, slots_of, max_length}
use Rattle.profile.specs.declared.Kind.{Kind}
use Rattle.profile.specs.declared.Kind.TheVariants.{Gray, Rgb, Xyb}
use Rattle.profile.specs.declared.Shape.{Shape}
use Rattle.tags.specs.declared.Tag.{Tag}
use Rattle.tag_table.specs.declared.Place.{Place}
use Rattle.tags.specs.Tags.{other, naming, tags, gray_slots, rgb_slots, xyb_slots}
use Rattle.tag_table.specs.Places.{placed, begin, entry_of, walk, finish, end_of, table_of, Fits}

-- ---- how many tags there are

length-naming : (n : ℕ) (gs : List (List ℕ)) → length (naming n gs) ≡ length gs
length-naming n [] = refl
length-naming n (g ∷ gs) = simp length-map

length-tags : (ss : List Slot) → length (tags ss) ≡ tag_count ss
unfolding tags tag_count
length-tags [] = refl
length-tags (s ∷ ss) = simp (length-append, length-naming, length-tags ss)

-- ---- the elements of a shape

-- every element has a tag
abbrev pub Named : List Slot → Type 0
Named = All (λ (s : Slot). 1 ≤ length s.signatures)

some : (n : ℕ) → 1 ≤ suc n
some n = omega arith

tagged : {n : ℕ} {g : List ℕ} {gs : List (List ℕ)} {ss : List Slot} → Named ss → Named (sized (g ∷ gs) n ∷ ss)
tagged h = more (some _) h

by_kind : (k : Kind) (s : Shape) (v a : Bool) → s.cicp ≡ v → s.adapted ≡ a → Named (slots_for k s)
by_kind Gray s v true e h = rw h (tagged (tagged (tagged (tagged (tagged none)))))
by_kind Gray s v false e h = rw h (tagged (tagged (tagged (tagged none))))
by_kind Rgb s true a e h = rw e (tagged (tagged (tagged (tagged (tagged (tagged (tagged (tagged (tagged none)))))))))
by_kind Rgb s false a e h = rw e (tagged (tagged (tagged (tagged (tagged (tagged (tagged (tagged none))))))))
by_kind Xyb s v a e h = tagged (tagged (tagged (tagged (tagged (tagged none)))))

pub named : (s : Shape) → Named (slots_of s)
unfolding slots_of
named s = by_kind s.kind s s.cicp s.adapted refl refl

-- ---- a walk over the tags

abbrev next : Place → ℕ → Place
next p n = record { offset = p.end; end = p.end + padded_size n }

walk_others : (p : Place) (n : ℕ) (gs : List (List ℕ)) (ts : List Tag) → walk p (map (other n) gs ++ ts) ≡ map (entry p.offset n) gs ++ walk p ts
unfolding walk placed
walk_others p n [] ts = refl
walk_others p n (g ∷ gs) ts = ap (λ l. entry p.offset n g ∷ l) (walk_others p n gs ts)

walk_element : (p : Place) (n : ℕ) (gs : List (List ℕ)) (ts : List Tag) → 1 ≤ length gs
    → walk p (naming n gs ++ ts) ≡ map (entry p.end n) gs ++ walk (next p n) ts
unfolding walk placed
walk_element p n [] ts h = absurd (omega arith)
walk_element p n (g ∷ gs) ts h = ap (λ l. entry p.end n g ∷ l) (walk_others (next p n) n gs ts)

walk_entries : (p : Place) (ss : List Slot) → Named ss → walk p (tags ss) ≡ entries p.end ss
unfolding walk tags entries
walk_entries p [] none = refl
walk_entries p (s ∷ ss) (more h hs) =
    walk_element p s.size s.signatures (tags ss) h ∙ ap (λ l. map (entry p.end s.size) s.signatures ++ l) (walk_entries (next p s.size) ss hs)

finish_others : (p : Place) (n : ℕ) (gs : List (List ℕ)) (ts : List Tag) → finish p (map (other n) gs ++ ts) ≡ finish p ts
unfolding finish placed
finish_others p n [] ts = refl
finish_others p n (g ∷ gs) ts = finish_others p n gs ts

finish_element : (p : Place) (n : ℕ) (gs : List (List ℕ)) (ts : List Tag) → 1 ≤ length gs → finish p (naming n gs ++ ts) ≡ finish (next p n) ts
unfolding finish placed
finish_element p n [] ts h = absurd (omega arith)
finish_element p n (g ∷ gs) ts h = finish_others (next p n) n gs ts

finish_body : (p : Place) (ss : List Slot) → Named ss → finish p (tags ss) ≡ p.end + body_size ss
unfolding finish tags body_size
finish_body p [] none = sym (add-zero p.end)
finish_body p (s ∷ ss) (more h hs) =
    finish_element p s.size s.signatures (tags ss) h
    ∙ finish_body (next p s.size) ss hs ∙ add_assoc p.end (padded_size s.size) (body_size ss)

-- ---- a tag more

grown : (p : Place) (n : ℕ) (b : Bool) → p.end ≤ (cond b p (next p n)).end
grown p n true = omega arith
grown p n false = omega arith

pub grows : (p : Place) (ts : List Tag) → p.end ≤ finish p ts
unfolding finish placed
grows p [] = omega arith
grows p (t ∷ ts) = omega (arith, grown p t.size t.shared, grows (placed p t) ts)

-- after i tags of ts, begun at p₀, the walk stands at p
pub record Walked (ts : List Tag) (p₀ : Place) (i : ℕ) (p : Place) : Type 0 where
  pub within : i ≤ length ts
  pub lines : walk p (drop i ts) ≡ drop i (walk p₀ ts)
  pub end : finish p (drop i ts) ≡ finish p₀ ts

pub unwalked : (ts : List Tag) (p : Place) → Walked ts p 0 p
unwalked ts p = record { within = omega arith; lines = refl; end = refl }

pub length-walk : (p : Place) (ts : List Tag) → length (walk p ts) ≡ length ts
unfolding walk
length-walk p [] = refl
length-walk p (t ∷ ts) = ap suc (length-walk (placed p t) ts)

module _ {ts : List Tag} {p₀ p : Place} {i : ℕ} (w : Walked ts p₀ i p) where
  pub walked_end : i ≡ length ts → p.end ≡ finish p₀ ts
  unfolding finish
  walked_end h = ap (finish p) (sym (drop_of_length-le ts {i = i} (omega arith))) ∙ w.end

  module _ (d : Tag) (h : i < length ts) where
    abbrev this : Tag
    this = get_or ts i d

    rest : drop i ts ≡ this ∷ drop (i + 1) ts
    rest = rw (add-one i) (drop-cons ts i d h)

    ended : finish (placed p this) (drop (i + 1) ts) ≡ finish p₀ ts
    unfolding finish
    ended = sym (ap (finish p) rest) ∙ w.end

    pub walked_within : (placed p this).end ≤ finish p₀ ts
    walked_within = rw (← ended) (grows (placed p this) (drop (i + 1) ts))

    -- where its element ends, in a profile
    pub walked_fits : p₀ ≡ begin (length ts) → Fits ts → (placed p this).end ≤ max_length
    walked_fits e f = let within = rw e at walked_within in omega (arith, within, f)

    -- the entry of this tag and those of the rest
    lined : entry_of (placed p this) this ∷ walk (placed p this) (drop (i + 1) ts) ≡ get_or (walk p₀ ts) i (entry 0 0 []) ∷ drop (i + 1) (walk p₀ ts)
    unfolding walk
    lined = sym (ap (walk p) rest) ∙ w.lines ∙ rw (add-one i) (drop-cons (walk p₀ ts) i (entry 0 0 []) (rw (length-walk p₀ ts) h))

    pub walked_entry : entry_of (placed p this) this ≡ get_or (walk p₀ ts) i (entry 0 0 [])
    walked_entry = let e = lined in cc

    pub walked_next : Walked ts p₀ (i + 1) (placed p this)
    walked_next = let e = lined in record { within = omega arith; lines = cc; end = ended }

-- ---- the tags of a profile

-- they begin within it
pub fits_begin : (ts : List Tag) → Fits ts → line_start (length ts) ≤ max_length
fits_begin ts h = omega (arith, h, grows (begin (length ts)) ts)

pub gray_told : (s : Shape) (a : Bool) → s.kind ≡ Gray → s.adapted ≡ a → tags (gray_slots a s) ≡ tags (slots_of s)
unfolding slots_of
gray_told s a k e = rw (k, e) refl

pub rgb_told : (s : Shape) (v : Bool) → s.kind ≡ Rgb → s.cicp ≡ v → tags (rgb_slots v s) ≡ tags (slots_of s)
unfolding slots_of
rgb_told s v k e = rw (k, e) refl

pub xyb_told : (s : Shape) → s.kind ≡ Xyb → tags xyb_slots ≡ tags (slots_of s)
unfolding slots_of
xyb_told s k = rw k refl

module _ (s : Shape) {ts : List Tag} (e : ts ≡ tags (slots_of s)) where
  count_tags : length ts ≡ tag_count (slots_of s)
  count_tags = ap length e ∙ length-tags (slots_of s)

  end_tags : end_of ts ≡ file_length (slots_of s)
  unfolding file_length start
  end_tags = rw (count_tags, e) (finish_body (begin (tag_count (slots_of s))) (slots_of s) (named s))

  table_tags : table_of ts ≡ table (slots_of s)
  unfolding table start
  table_tags = rw (count_tags, e) (ap (λ (l : List Entry). be32 (tag_count (slots_of s)) ++ entries_bytes l) (walk_entries (begin (tag_count (slots_of s))) (slots_of s) (named s)))

  pub fits : s.letters ≤ max_letters → Fits ts
  fits g = rw end_tags (at_most s g)

  pub ends : {n : ℕ} → n ≡ end_of ts → n ≡ file_length (slots_of s)
  ends h = h ∙ end_tags

  pub room : {n : ℕ} → start (slots_of s) ≤ n → line_start (length ts) ≤ n
  unfolding start
  room h = rw count_tags h

  pub puts_table : {l out : List ℕ} {q : ℕ} → Puts l header_size (count_size + line_size * length ts) (table_of ts) q out
      → Puts l header_size (count_size + line_size * tag_count (slots_of s)) (table (slots_of s)) q out
  puts_table p = rw (table_tags, count_tags) at p
