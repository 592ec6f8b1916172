-- The checks of the two calls, one by one: when each is passed, and what it then tells. Assumes nothing.
use Rattle.std.specs.Prelude.{ℕ, ◌*◌, ◌≤◌, ◌<◌, ◌≡◌, refl, ◌↔◌, Bool, true, false, ◌&&◌, cond, List, length}
use Rattle.std.proofs.Common.{ap, sym, ◌∙◌, arith, lt_of_not-le, le-leb, leb-true}
use Rattle.std.proofs.Math.Option.{Option, none, some}
use Rattle.std.proofs.lemmas.Bool.{lt-leb}
use Rattle.std.proofs.Math.Dec.{leb}
use Rattle.buffer.specs.Buffer.{put}
use Rattle.buffer.specs.BoolLaws.{both_left, both_right}
use Rattle.buffer.specs.Checked.{Checked, is, refused, then}
use Rattle.buffer.specs.CheckedLaws as CheckedLaws
use Rattle.profile.specs.Plan.{Plan}
use Rattle.profile.specs.Shape.{min_length, max_length}
use Rattle.reader_spec.specs.RefusalList as Reader
use Rattle.reader_spec.specs.Read.{read}
use Rattle.reader_spec.proofs.Accepts.{accepted_owned}
use Rattle.reading.specs.Reading.{reading}
use Rattle.reading.specs.declared.Reading.{Reading}
use Rattle.app2.specs.Segments.{Segment, bytes, cut, segments}
use Rattle.app2.specs.Joining.{parse, complete, joined}
use Rattle.app2.specs.Properties.{Named}
use Rattle.app2.specs.CutLaws.{cut_number, over_few}
use Rattle.app2.specs.App2.{if_accepted, accepted_file, max_data, max_segments, sized_segments, if_complete, complete_segments, fitting}
use Rattle.app2.specs.App2.{written_segments, joined_file, answer, output, Gives}

-- a test that chose between a value and a refusal
cond-is : {A : Type 0} (t : Bool) (k : ℕ) {a b : A} → cond t (is a) (refused k) ≡ is b → (t ≡ true) × (a ≡ b)
cond-is true k e = (refl, cc)
cond-is false k e = absurd (CheckedLaws.never e)

-- ---- the reader's numbers

pub accepted_of : (f : List ℕ) {p : Plan} → read f ≡ Reader.accepted p → accepted_file f ≡ is f
unfolding accepted_file
accepted_of f e = ap (λ (a : Reader.Answer). if_accepted a f) e

pub record Accepted (f g : List ℕ) : Type 0 where
  pub plan : Plan
  pub read_is : read f ≡ Reader.accepted plan
  pub same : f ≡ g

pub accepted_is : (f : List ℕ) {g : List ℕ} → accepted_file f ≡ is g → Accepted f g
unfolding accepted_file
accepted_is f {g} e = go (read f) refl e
  where
    go : (a : Reader.Answer) → read f ≡ a → if_accepted a f ≡ is g → Accepted f g
    go (Reader.refused c) r e = absurd (CheckedLaws.never e)
    go (Reader.accepted p) r e = record { plan = p; read_is = r; same = cc }

pub accepted_bounds : (f : List ℕ) {g : List ℕ} → accepted_file f ≡ is g → (min_length ≤ length f) × (length f ≤ max_length)
accepted_bounds f e = let a = accepted_is f e in let o = accepted_owned f a.plan a.read_is in (o.1, o.2)

-- as code has it: by what the reader answers
pub accepted_by : (f : List ℕ) {c : Checked Reading} → c ≡ reading (read f) → accepted_file f ≡ then c (λ r. is f)
unfolding accepted_file
accepted_by f {c} e = go (read f) e
  where
    go : (a : Reader.Answer) → c ≡ reading a → if_accepted a f ≡ then c (λ r. is f)
    go (Reader.refused k) e = rw e
    go (Reader.accepted p) e = rw e

-- ---- 53

-- without a division
pub named_if : (n : ℕ) (f : List ℕ) → 1 ≤ n → n ≤ max_data → length f ≤ max_segments * n → Named n f
named_if n f low high h = record { low = low; high = high; few = (over_few n low (length f)).1 h }

pub named_few : (n : ℕ) (f : List ℕ) → Named n f → length f ≤ max_segments * n
named_few n f h = (over_few n h.low (length f)).0 h.few

test_named : (n : ℕ) (f : List ℕ) → ((leb 1 n && (leb n max_data && leb (length (cut n f)) max_segments)) ≡ true) ↔ Named n f
test_named n f = (to, from)
  where
    to : (leb 1 n && (leb n max_data && leb (length (cut n f)) max_segments)) ≡ true → Named n f
    to e =
        let low : 1 ≤ n = leb-true 1 n (both_left (leb 1 n) _ e) in
        let on : (leb n max_data && leb (length (cut n f)) max_segments) ≡ true = both_right (leb 1 n) _ e in
        record {
          low = low;
          high = leb-true n max_data (both_left (leb n max_data) _ on);
          few = omega (arith, leb-true (length (cut n f)) max_segments (both_right (leb n max_data) _ on), cut_number n low f);
        }

    from : Named n f → (leb 1 n && (leb n max_data && leb (length (cut n f)) max_segments)) ≡ true
    from h =
        let few : length (cut n f) ≤ max_segments = omega (arith, cut_number n h.low f, h.few) in
        rw (le-leb 1 n h.low, le-leb n max_data h.high, le-leb (length (cut n f)) max_segments few)

pub sized_is : (n : ℕ) (f : List ℕ) {ss : List Segment} → sized_segments n f ≡ is ss → Named n f × (segments n f ≡ ss)
unfolding sized_segments
sized_is n f e = let both = cond-is _ 53 e in ((test_named n f).0 both.0, both.1)

pub sized_of : (n : ℕ) (f : List ℕ) → Named n f → sized_segments n f ≡ is (segments n f)
unfolding sized_segments
sized_of n f h = rw ((test_named n f).1 h)

pub sized_not : (n : ℕ) (f : List ℕ) → ¬ Named n f → sized_segments n f ≡ refused 53
unfolding sized_segments
sized_not n f h = go (leb 1 n && (leb n max_data && leb (length (cut n f)) max_segments)) refl
  where
    go : (t : Bool) → (leb 1 n && (leb n max_data && leb (length (cut n f)) max_segments)) ≡ t → cond t (is (segments n f)) (refused 53) ≡ refused 53
    go true e = absurd (h ((test_named n f).0 e))
    go false e = refl

-- ---- 54

-- no segments that are this buffer are complete
abbrev pub Incomplete : List ℕ → Type 0
Incomplete b = (ss : List Segment) → parse b ≡ some ss → complete ss ≡ true → ⊥

pub complete_of : (b : List ℕ) {ss : List Segment} → parse b ≡ some ss → complete ss ≡ true → complete_segments b ≡ is ss
unfolding complete_segments
complete_of b p e = rw (p, e)

pub complete_is : (b : List ℕ) {ss : List Segment} → complete_segments b ≡ is ss → (parse b ≡ some ss) × (complete ss ≡ true)
unfolding complete_segments
complete_is b {ss} e = go (parse b) refl e
  where
    go : (o : Option (List Segment)) → parse b ≡ o → if_complete o ≡ is ss → (parse b ≡ some ss) × (complete ss ≡ true)
    go none p e = absurd (CheckedLaws.never e)
    go (some ts) p e = let both = cond-is (complete ts) 54 e in (p ∙ ap some both.1, ap complete (sym both.1) ∙ both.0)

pub complete_not : (b : List ℕ) → Incomplete b → complete_segments b ≡ refused 54
unfolding complete_segments
complete_not b h = go (parse b) refl
  where
    told : (ss : List Segment) → parse b ≡ some ss → (t : Bool) → complete ss ≡ t → cond t (is ss) (refused 54) ≡ refused 54
    told ss p true e = absurd (h ss p e)
    told ss p false e = refl

    go : (o : Option (List Segment)) → parse b ≡ o → if_complete o ≡ refused 54
    go none p = refl
    go (some ss) p = told ss p (complete ss) refl

-- ---- 55

pub fitting_of : (room : ℕ) (l : List ℕ) → length l ≤ room → fitting room l ≡ is l
unfolding fitting
fitting_of room l h = rw (le-leb (length l) room h)

pub fitting_not : (room : ℕ) (l : List ℕ) → room < length l → fitting room l ≡ refused 55
unfolding fitting
fitting_not room l h = rw (lt-leb (length l) room h)

pub fitting_is : (room : ℕ) (l : List ℕ) {m : List ℕ} → fitting room l ≡ is m → (length l ≤ room) × (l ≡ m)
unfolding fitting
fitting_is room l e = let both = cond-is (leb (length l) room) 55 e in (leb-true (length l) room both.0, both.1)

pub fitting_exactly : (room : ℕ) (l : List ℕ) → (fitting room l ≡ refused 55) ↔ (room < length l)
fitting_exactly room l = (λ e. lt_of_not-le (λ h. CheckedLaws.never (sym e ∙ fitting_of room l h)), fitting_not room l)

-- ---- with which numbers each check refuses

module _ (P : ℕ → Type 0) where
  tested : {A : Type 0} (t : Bool) (a : A) (k : ℕ) → P k → CheckedLaws.Refusing P (cond t (is a) (refused k))
  tested t a k h = CheckedLaws.by_cond P t (is a) (refused k) tt h

  pub accepted_refusing : ((c : Reader.Check) → P (Reader.number c)) → (f : List ℕ) → CheckedLaws.Refusing P (accepted_file f)
  unfolding accepted_file
  accepted_refusing h f = go (read f)
    where
      go : (a : Reader.Answer) → CheckedLaws.Refusing P (if_accepted a f)
      go (Reader.refused c) = h c
      go (Reader.accepted p) = tt

  pub sized_refusing : P 53 → (n : ℕ) (f : List ℕ) → CheckedLaws.Refusing P (sized_segments n f)
  unfolding sized_segments
  sized_refusing h n f = tested (leb 1 n && (leb n max_data && leb (length (cut n f)) max_segments)) (segments n f) 53 h

  pub complete_refusing : P 54 → (b : List ℕ) → CheckedLaws.Refusing P (complete_segments b)
  unfolding complete_segments
  complete_refusing h b = go (parse b)
    where
      go : (o : Option (List Segment)) → CheckedLaws.Refusing P (if_complete o)
      go none = h
      go (some ss) = tested (complete ss) ss 54 h

  pub fitting_refusing : P 55 → (room : ℕ) (l : List ℕ) → CheckedLaws.Refusing P (fitting room l)
  unfolding fitting
  fitting_refusing h room l = tested (leb (length l) room) l 55 h

-- ---- the promise

pub gives_refusal : {c : Checked (List ℕ)} {k : ℕ} {out : List ℕ} → c ≡ refused k → Gives c out out (refused k)
gives_refusal {out = out} e = record { answer = sym (ap answer e); output = sym (ap (λ x. output x out) e) }

pub gives_bytes : {c : Checked (List ℕ)} {l before after : List ℕ} {n : ℕ} → c ≡ is l → n ≡ length l → after ≡ put before 0 l → Gives c before after (is n)
gives_bytes {before = before} e n p = record { answer = ap is n ∙ sym (ap answer e); output = p ∙ sym (ap (λ x. output x before) e) }

-- ---- what writing gives, check by check

module _ (f : List ℕ) (n room : ℕ) where
  pub written_unread : {k : ℕ} → accepted_file f ≡ refused k → written_segments f n room ≡ refused k
  unfolding written_segments
  written_unread e = rw e

  module _ (e : accepted_file f ≡ is f) where
    pub written_53 : ¬ Named n f → written_segments f n room ≡ refused 53
    unfolding written_segments
    written_53 h = rw (e, sized_not n f h)

    pub written_sized : Named n f → written_segments f n room ≡ fitting room (bytes (segments n f))
    unfolding written_segments
    written_sized h = rw (e, sized_of n f h)

-- ---- what joining gives, check by check

module _ (b : List ℕ) (room : ℕ) where
  pub joined_54 : complete_segments b ≡ refused 54 → joined_file b room ≡ refused 54
  unfolding joined_file
  joined_54 e = rw e

  module _ {ss : List Segment} (e : complete_segments b ≡ is ss) where
    pub joined_55 : room < length (joined ss) → joined_file b room ≡ refused 55
    unfolding joined_file
    joined_55 h = rw (e, fitting_not room (joined ss) h)

    pub joined_fitting : length (joined ss) ≤ room → joined_file b room ≡ accepted_file (joined ss)
    unfolding joined_file
    joined_fitting h = rw (e, fitting_of room (joined ss) h)
