-- What the calls on segments promise, as a C call promises it; and what the calls on files promise, by each of their answers.
-- Assumes nothing.
use Rattle.std.specs.Prelude.{ℕ, ◌≤◌, ◌<◌, ◌≡◌, List, length}
use Rattle.std.proofs.Common.{sym, ap, ◌∙◌, le-leb, eq-eqb, ne_eqb}
use Rattle.std.proofs.lemmas.Bool.{lt-leb}
use Rattle.buffer.specs.Buffer.{put}
use Rattle.buffer.specs.Checked.{Checked, is, refused}
use Rattle.profile.specs.Elements.{Entry}
use Rattle.writer.specs.Writer.{too_short}
use Rattle.app2.specs.App2 as App2
use Rattle.host.specs.Host.{Stores, FindsElement, GivesNumber}

-- ---- a file, or a typed text, read into a lent record

module _ {A : Type 0} {size : ℕ} {bytes : A → List ℕ} {c : Checked A} (before : List ℕ) where
  pub not-stored : {n : ℕ} → c ≡ refused n → Stores size bytes c before before n
  not-stored e = record { answer = rw e; left = rw e }

  module _ {a : A} (known : c ≡ is a) where
    pub stored_short : length before < size → Stores size bytes c before before too_short
    stored_short h = let no = lt-leb size (length before) h in record { answer = rw (known, no); left = rw (known, no) }

    pub stored_whole : {after : List ℕ} → size ≤ length before → after ≡ put before 0 (bytes a) → Stores size bytes c before after 0
    stored_whole h q = let long = le-leb size (length before) h in record { answer = rw (known, long); left = rw (known, long) q }

-- ---- an element of a file

module _ {e : Entry} {n : ℕ} (size : n ≡ e.size) where
  pub element_found : {before offset : ℕ} → (n ≡ 0 → ⊥) → offset ≡ e.offset → FindsElement e before offset n
  element_found h o = record { answer = size; offset = rw (ne_eqb e.size 0 (λ z. h (size ∙ z))) o }

  pub element_absent : {before : ℕ} → n ≡ 0 → FindsElement e before before n
  element_absent h = record { answer = size; offset = rw (eq-eqb e.size 0 (sym size ∙ h)) }

-- ---- APP2 segments

-- the answer as the one number that it is
pub number_given : {c : Checked (List ℕ)} {before after : List ℕ} {r : Checked ℕ} → App2.Gives c before after r
    → App2.output_by (App2.number (App2.answer c)) ≡ App2.answer c → GivesNumber c before after (App2.number r)
number_given g told =
    let known = ap App2.number g.answer in
    record { answer = known; output = g.output; told = ap App2.output_by known ∙ told }
