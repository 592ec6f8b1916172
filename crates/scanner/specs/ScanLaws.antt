-- Laws of texts taken apart from their front. A scanner is exact for a language if it finds a text of the language whatever follows it, and nothing else.
-- Assumes nothing.
use Rattle.std.specs.Prelude.{ℕ, ◌≡◌, refl, ◌⊎◌, Bool, true, false, cond, List, [], ◌∷◌, ◌++◌, eqb, length, drop}
use Rattle.std.proofs.Common.{sym, ap, ap₂, ◌∙◌, subst, inl, inr, ⊎_elim, append_assoc, eq-eqb, eqb→eq}
use Rattle.std.proofs.Math.Seq.{drop-append_seam}
use Rattle.buffer.specs.BoolLaws.{holds, both, both_left, both_right}
use Rattle.scanner.specs.Grammar.{Headed, Joined}
use Rattle.scanner.specs.Scan.{Found, nothing, found, and_then, or_else, mapped, starts_with, after, joined, any_of}

-- ---- what was found is one thing

abbrev is_found : {A : Type 0} → Found A → Type 0
is_found nothing = ⊥
is_found (found a r) = Unit {0}

pub nothing≢found : {A : Type 0} {a : A} {r : List ℕ} → nothing ≡ found a r → ⊥
nothing≢found e = subst is_found (sym e) tt

abbrev value_in : {A : Type 0} → A → Found A → A
value_in d nothing = d
value_in d (found a r) = a

abbrev rest_in : {A : Type 0} → Found A → List ℕ
rest_in nothing = []
rest_in (found a r) = r

pub same_value : {A : Type 0} {a b : A} {r s : List ℕ} → found a r ≡ found b s → a ≡ b
same_value {a = a} e = ap (value_in a) e

pub same_rest : {A : Type 0} {a b : A} {r s : List ℕ} → found a r ≡ found b s → r ≡ s
same_rest e = ap rest_in e

-- ---- where something was found, each step found something

pub kept : {A : Type 0} (t : Bool) (x : Found A) {a : A} {r : List ℕ} → cond t x nothing ≡ found a r → (t ≡ true) × (x ≡ found a r)
kept true x e = (refl, e)
kept false x e = absurd (nothing≢found e)

pub kept-not : {A : Type 0} (t : Bool) (x : Found A) {a : A} {r : List ℕ} → cond t nothing x ≡ found a r → (t ≡ false) × (x ≡ found a r)
kept-not true x e = absurd (nothing≢found e)
kept-not false x e = (refl, e)

-- the first step's value and rest, and the second's
pub record Steps {A B : Type 0} (x : Found A) (g : A → List ℕ → Found B) (b : B) (r : List ℕ) : Type 0 where
  pub value : A
  pub rest : List ℕ
  pub first : x ≡ found value rest
  pub second : g value rest ≡ found b r

pub steps : {A B : Type 0} (x : Found A) (g : A → List ℕ → Found B) {b : B} {r : List ℕ} → and_then x g ≡ found b r → Steps x g b r
steps nothing g e = absurd (nothing≢found e)
steps (found a m) g e = record { value = a; rest = m; first = refl; second = e }

pub either : {A : Type 0} (x y : Found A) {a : A} {r : List ℕ} → or_else x y ≡ found a r → (x ≡ found a r) ⊎ (y ≡ found a r)
either nothing y e = inr e
either (found a m) y e = inl e

-- ---- letters in front

starts_append : (n m : List ℕ) → starts_with n (n ++ m) ≡ true
starts_append [] m = refl
starts_append (c ∷ n) m = both (eq-eqb c c refl) (starts_append n m)

pub starts_split : (n l : List ℕ) → starts_with n l ≡ true → l ≡ n ++ drop (length n) l
starts_split [] l e = refl
starts_split (c ∷ n) [] e = absurd (holds e)
starts_split (c ∷ n) (d ∷ l) e =
    ap₂ (λ (x : ℕ) (m : List ℕ). x ∷ m) (sym (eqb→eq c d (holds (both_left (eqb c d) (starts_with n l) e)))) (starts_split n l (both_right (eqb c d) (starts_with n l) e))

pub after_finds : {B : Type 0} (n : List ℕ) (f : List ℕ → Found B) (m : List ℕ) → after n f (n ++ m) ≡ f m
after_finds n f m =
    ap (λ (t : Bool). cond t (f (drop (length n) (n ++ m))) nothing) (starts_append n m) ∙ ap f (drop-append_seam n m)

-- what stands behind the letters n
pub record Past {B : Type 0} (n : List ℕ) (f : List ℕ → Found B) (l : List ℕ) (b : B) (r : List ℕ) : Type 0 where
  pub rest : List ℕ
  pub split : l ≡ n ++ rest
  pub second : f rest ≡ found b r

pub past : {B : Type 0} (n : List ℕ) (f : List ℕ → Found B) (l : List ℕ) (b : B) (r : List ℕ) → after n f l ≡ found b r → Past n f l b r
past n f l b r e =
    let k = kept (starts_with n l) (f (drop (length n) l)) e in
    record { rest = drop (length n) l; split = starts_split n l k.0; second = k.1 }

-- ---- a scanner that is exact for a language

-- a text of a in front of r
pub record Front {A : Type 0} (F : A → List ℕ → Type 0) (a : A) (l r : List ℕ) : Type 0 where
  pub text : List ℕ
  pub is : F a text
  pub split : l ≡ text ++ r

abbrev pub Finds : {A : Type 0} → (A → List ℕ → Type 0) → (List ℕ → Found A) → Type 0
Finds {A} F scan = (a : A) (t r : List ℕ) → F a t → scan (t ++ r) ≡ found a r

abbrev pub Holds : {A : Type 0} → (A → List ℕ → Type 0) → (List ℕ → Found A) → Type 0
Holds {A} F scan = (l : List ℕ) (a : A) (r : List ℕ) → scan l ≡ found a r → Front F a l r

pub record Exact {A : Type 0} (F : A → List ℕ → Type 0) (scan : List ℕ → Found A) : Type 0 where
  pub finds : Finds F scan
  pub holds : Holds F scan

-- no text has two values
pub one_value : {A : Type 0} {F : A → List ℕ → Type 0} {f : List ℕ → Found A} → Exact F f → (t : List ℕ) (a b : A) → F a t → F b t → a ≡ b
one_value x t a b h g = same_value (sym (x.finds a t [] h) ∙ x.finds b t [] g)

-- one text after another
pub glue : {l m : List ℕ} (t u r : List ℕ) → l ≡ t ++ m → m ≡ u ++ r → l ≡ t ++ u ++ r
glue t u r p q = p ∙ ap (λ (x : List ℕ). t ++ x) q ∙ sym (append_assoc t u r)

-- ---- names

-- each name is a text of the value that it stands for
abbrev pub Each : {A : Type 0} → (A → List ℕ → Type 0) → (A → List ℕ) → List A → Type 0
Each F name [] = Unit {0}
Each F name (a ∷ rest) = F a (name a) × Each F name rest

pub any_of_holds : {A : Type 0} (F : A → List ℕ → Type 0) (name : A → List ℕ) (rest : List A) → Each F name rest → Holds F (any_of name rest)
any_of_holds F name [] all l a r e = absurd (nothing≢found e)
any_of_holds {A} F name (b ∷ rest) (f, all) l a r e =
    ⊎_elim (λ (h : after (name b) (found b) l ≡ found a r). here (past (name b) (found b) l a r h)) (λ (h : any_of name rest l ≡ found a r). any_of_holds F name rest all l a r h)
    (either (after (name b) (found b) l) (any_of name rest l) e)
  where
    here : Past (name b) (found b) l a r → Front F a l r
    here p =
        record {
          text = name b;
          is = subst (λ (x : A). F x (name b)) (same_value p.second) f;
          split = p.split ∙ ap (λ (m : List ℕ). name b ++ m) (same_rest p.second);
        }

-- ---- letters in front of a text

pub headed : {A : Type 0} {F : A → List ℕ → Type 0} {f : List ℕ → Found A} (n : List ℕ) → Exact F f → Exact (Headed n F) (after n f)
headed {A} {F} {f} n x = record { finds = finds; holds = holds' }
  where
    finds : Finds (Headed n F) (after n f)
    finds a t r h =
        ap (λ (u : List ℕ). after n f (u ++ r)) h.split ∙ ap (after n f) (append_assoc n h.tail r) ∙ after_finds n f (h.tail ++ r) ∙ x.finds a h.tail r h.is

    holds' : Holds (Headed n F) (after n f)
    holds' l a r e =
        let p : Past n f l a r = past n f l a r e in
        let g : Front F a p.rest r = x.holds p.rest a r p.second in
        record { text = n ++ g.text; is = record { tail = g.text; is = g.is; split = refl }; split = glue n g.text r p.split g.split }

-- ---- two texts with a separator between them

module _ {A B : Type 0} {F : A → List ℕ → Type 0} {f : List ℕ → Found A} (n : List ℕ) {G : B → List ℕ → Type 0} {g : List ℕ → Found B} (x : Exact F f) (y : Exact G g) where
  abbrev pair_with : A → B → List ℕ → Found (A × B)
  pair_with a b r = found (a, b) r

  abbrev last : A → List ℕ → Found (A × B)
  last a m = and_then (after n g m) (pair_with a)

  joined_finds : Finds (Joined F n G) (joined f n g)
  joined_finds p t r h =
      ap (λ (u : List ℕ). joined f n g (u ++ r)) h.split
      ∙ ap (joined f n g) (append_assoc (h.first ++ n) h.second r ∙ append_assoc h.first n (h.second ++ r))
      ∙ ap (λ (z : Found A). and_then z last) (x.finds p.0 h.first (n ++ (h.second ++ r)) h.is_first)
      ∙ ap (λ (z : Found B). and_then z (pair_with p.0)) (after_finds n g (h.second ++ r) ∙ y.finds p.1 h.second r h.is_second)

  joined_holds : Holds (Joined F n G) (joined f n g)
  joined_holds l p r e = first (steps (f l) last e)
    where
      whole : (a : A) (m : List ℕ) → Front F a l m → (b : B) (o s : List ℕ) → Front G b o s → m ≡ n ++ o → found (a, b) s ≡ found p r → Front (Joined F n G) p l r
      whole a m v b o s w q e =
          record {
            text = v.text ++ n ++ w.text;
            is =
                record {
                  first = v.text;
                  second = w.text;
                  is_first = subst (λ (c : A × B). F c.0 v.text) (same_value e) v.is;
                  is_second = subst (λ (c : A × B). G c.1 w.text) (same_value e) w.is;
                  split = refl;
                };
            split = glue (v.text ++ n) w.text r (glue v.text n o v.split q) (w.split ∙ ap (λ (u : List ℕ). w.text ++ u) (same_rest e));
          }

      second : (a : A) (m : List ℕ) → Front F a l m → Steps (after n g m) (pair_with a) p r → Front (Joined F n G) p l r
      second a m v s =
          let q : Past n g m s.value s.rest = past n g m s.value s.rest s.first in
          whole a m v s.value q.rest s.rest (y.holds q.rest s.value s.rest q.second) q.split s.second

      first : Steps (f l) last p r → Front (Joined F n G) p l r
      first s = second s.value s.rest (x.holds l s.value s.rest s.first) (steps (after n g s.rest) (pair_with s.value) s.second)

  pub joint : Exact (Joined F n G) (joined f n g)
  joint = record { finds = joined_finds; holds = joined_holds }

-- ---- a value made of another, and the first of two

pub mapped_holds : {A B : Type 0} {F : A → List ℕ → Type 0} {f : List ℕ → Found A} (G : B → List ℕ → Type 0) (k : A → B) → ((a : A) (t : List ℕ) → F a t → G (k a) t) → Exact F f
    → Holds G (λ l. mapped k (f l))
mapped_holds {A} {B} {F} {f} G k to x l b r e = go (steps (f l) (λ a. found (k a)) e)
  where
    go : Steps (f l) (λ a. found (k a)) b r → Front G b l r
    go s =
        let v : Front F s.value l s.rest = x.holds l s.value s.rest s.first in
        record {
          text = v.text;
          is = subst (λ (c : B). G c v.text) (same_value s.second) (to s.value v.text v.is);
          split = v.split ∙ ap (λ (u : List ℕ). v.text ++ u) (same_rest s.second);
        }

pub either_holds : {A : Type 0} (F : A → List ℕ → Type 0) (f g : List ℕ → Found A) → Holds F f → Holds F g → Holds F (λ l. or_else (f l) (g l))
either_holds F f g x y l a r e = ⊎_elim (λ (h : f l ≡ found a r). x l a r h) (λ (h : g l ≡ found a r). y l a r h) (either (f l) (g l) e)
