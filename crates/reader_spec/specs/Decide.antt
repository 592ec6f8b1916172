-- That what the reader's checks ask can be decided. Assumes nothing.
use Rattle.std.specs.Prelude.{ℕ, suc, ◌≤◌, ◌≡◌, ◌⊎◌, Bool, true, false, ℤ, nat_abs, length, Option, Some, None}
use Rattle.std.proofs.Common.{inl, inr, SFits}
use mathlib.Core.List.{List, [], ◌∷◌, List-discrete}
use Rattle.std.proofs.Math.Decide.{dec_le, ℕ_discrete, map_dec}
use Rattle.std.specs.Int.Signed.{mag}
use Rattle.std.specs.Int.{w32}
use Rattle.buffer.specs.All.{All, none, more}
use Rattle.profile.specs.Elements.{table, body, file_length}
use Rattle.profile.specs.Plan
use Rattle.profile.specs.Plan.{gray, rgb, xyb}
use Rattle.profile.specs.declared.GrayWhite.{GrayWhite}
use Rattle.profile.specs.declared.GrayWhite.TheVariants.{Unadapted, Adapted}
use Rattle.profile.specs.declared.Kind.{Kind}
use Rattle.profile.specs.Layout.{elements, slots}
use Rattle.profile.specs.Shape.{slots_of, NotBoth, GoodShape}
use Rattle.profile.specs.declared.Shape.{Shape}
use Rattle.profile.specs.declared.Curve.{Curve}
use Rattle.profile.specs.declared.Curve.TheVariants.{Named, Gamma}
use Rattle.reader_spec.specs.Table.{table_of, body_of}
use Rattle.reader_spec.specs.RefusalList.{Header}

-- whether it holds
unfoldable pub decided : {A : Type 0} → Dec A → Bool
decided (yes a) = true
decided (no h) = false

both : {A B : Type 0} → Dec A → Dec B → Dec (A × B)
both (yes a) (yes b) = yes (a, b)
both (yes a) (no h) = no (λ c. h c.1)
both (no h) b = no (λ c. h c.0)

either : {A B : Type 0} → Dec A → Dec B → Dec (A ⊎ B)
either (yes a) b = yes (inl a)
either (no h) (yes b) = yes (inr b)
either (no h) (no k) = no (elim [ inl a ↦ h a | inr b ↦ k b ])

each : {A : Type 0} (P : A → Type 0) → ((a : A) → Dec (P a)) → (l : List A) → Dec (All P l)
each P d [] = yes none
each P d (a ∷ l) = go (d a) (each P d l)
  where
    go : Dec (P a) → Dec (All P l) → Dec (All P (a ∷ l))
    go (yes h) (yes hs) = yes (more h hs)
    go (yes h) (no k) = no (elim [ more h hs ↦ k hs ])
    go (no k) hs = no (elim [ more h hs ↦ k h ])

pub same_bytes : (a b : List ℕ) → Dec (a ≡ b)
same_bytes = List-discrete ℕ_discrete

-- ---- plans

text : (t : List ℕ) → Dec (Plan.GoodText t)
text t =
    map_dec (λ h. record { some-letter = h.0; short = h.1.0; ascii = h.1.1 }) (λ h. (h.some-letter, (h.short, h.ascii)))
    (both (dec_le 1 (length t)) (both (dec_le (length t) Plan.max_letters) (each (λ (c : ℕ). c ≤ 127) (λ c. dec_le c 127) t)))

primaries : (v : ℕ) → Dec (Plan.CicpPrimaries v)
primaries v = either (ℕ_discrete v 1) (either (ℕ_discrete v 9) (either (ℕ_discrete v 11) (ℕ_discrete v 12)))

module _ (N : ℤ → Type 0) (d : (z : ℤ) → Dec (N z)) where
  curve : (c : Curve) → Dec (Plan.GoodCurve N c)
  curve (Named n) = yes tt
  curve (Gamma g) = d g

  cicp : (c : Curve) (v : Option ℕ) → Dec (Plan.GoodCicp c v)
  cicp c None = yes tt
  cicp (Named n) (Some v) = primaries v
  cicp (Gamma g) (Some v) = no (λ h. h)

  white : (w : GrayWhite) → Dec (Plan.GoodWhite N w)
  white (Unadapted x z) = both (d x) (d z)
  white (Adapted m) = both (ℕ_discrete (length m) 9) (each N d m)

  pub content : (c : Plan.Content) → Dec (Plan.GoodContent N c)
  content (gray g) =
      map_dec (λ h. record { text = h.0.0; curve = h.0.1; white = h.1 }) (λ h. ((h.text, h.curve), h.white))
      (both (both (text g.text) (curve g.curve)) (white g.white))
  content (rgb g) =
      map_dec
      (λ h. record { text = h.0.0; curve = h.0.1; chad_nine = h.1.0.0; chad = h.1.0.1; columns_nine = h.1.1.0; columns = h.1.1.1.0; cicp = h.1.1.1.1 })
      (λ h. ((h.text, h.curve), ((h.chad_nine, h.chad), (h.columns_nine, (h.columns, h.cicp)))))
      (both (both (text g.text) (curve g.curve))
      (both (both (ℕ_discrete (length g.chad) 9) (each N d g.chad))
      (both (ℕ_discrete (length g.columns) 9) (both (each N d g.columns) (cicp g.curve g.cicp)))))
  content xyb = yes tt

pub intent : (i : ℕ) → Dec (Plan.GoodIntent i)
intent i = dec_le i 3

pub in_range_lem : (z : ℤ) → Dec (Plan.InRange z)
in_range_lem z = dec_le (nat_abs z) _

fits-32 : (z : ℤ) → Dec (SFits w32 z)
fits-32 z = map_dec (λ h. record { sfits = h }) (λ h. h.sfits) (dec_le (suc (mag z)) 2147483648)

-- ---- a file against a kind, a shape and a plan

pub header_is : (k : Kind) (f : List ℕ) → Dec (Header k f)
unfolding Header
header_is k f = same_bytes _ _

-- the tag table and the length are those of a shape that some plan has
pub record TableIs (s : Shape) (f : List ℕ) : Type 0 where
  pub good : GoodShape s
  pub table : table_of f ≡ table (slots_of s)
  pub length-is : length f ≡ file_length (slots_of s)

not-both : (a b : Bool) → Dec (NotBoth a b)
not-both true true = no (λ h. h)
not-both true false = yes tt
not-both false b = yes tt

pub table_is : (s : Shape) (f : List ℕ) → Dec (TableIs s f)
table_is s f =
    map_dec
    (λ h. record { good = record { some-letter = h.0.0; short = h.0.1.0; pair = h.0.1.1 }; table = h.1.0; length-is = h.1.1 })
    (λ h. ((h.good.some-letter, (h.good.short, h.good.pair)), (h.table, h.length-is)))
    (both
    (both (dec_le 1 s.letters) (both (dec_le s.letters Plan.max_letters) (not-both s.cicp s.gamma)))
    (both (same_bytes (table_of f) (table (slots_of s))) (ℕ_discrete (length f) (file_length (slots_of s)))))

-- a plan is one but for its intent and the range of its numbers, and the file has its table, elements and padding
pub record BodyIs (p : Plan.Plan) (f : List ℕ) : Type 0 where
  pub good : Plan.GoodContent (SFits w32) p.content
  pub table : table_of f ≡ table (slots p)
  pub body : body_of f ≡ body (elements p)

pub body_is : (p : Plan.Plan) (f : List ℕ) → Dec (BodyIs p f)
body_is p f =
    map_dec (λ h. record { good = h.0; table = h.1.0; body = h.1.1 }) (λ h. (h.good, (h.table, h.body)))
    (both (content (SFits w32) fits-32 p.content)
    (both (same_bytes (table_of f) (table (slots p))) (same_bytes (body_of f) (body (elements p)))))
