-- The reader, as the refusal list of 01 says it: the checks in order, each a fact of the file, and what it answers. Assumes nothing.
use Rattle.std.specs.Prelude.{ℕ, ◌+◌, ◌≤◌, ◌≡◌, ◌⊎◌, Bool, List, [], ◌∷◌, length, take}
use Rattle.buffer.specs.Checked.{Checked}
use Rattle.buffer.specs.First.{First}
use Rattle.buffer.specs.Bytes.{zeros}
use Rattle.profile.specs.Elements.{header_size, count_size, table, body, file_length}
use Rattle.profile.specs.Plan.{Plan, kind, GoodIntent, Valid, Wide}
use Rattle.profile.specs.declared.Kind.{Kind}
use Rattle.profile.specs.Layout.{id_size, header, elements, slots, profile_id, layout}
use Rattle.reader_spec.specs.Exists.{Exists}
use Rattle.reader_spec.specs.Table.{varying_of, table_of, body_of}

-- ---- what each check asks of a file

-- the header is that of this kind, but for size, maker, model, intent and id, which may be any
unfoldable pub Header : Kind → List ℕ → Type 0
Header k f = take header_size f ≡ header k (varying_of f)

pub record Ok21 (f : List ℕ) : Type 0 where
  pub long : header_size + count_size ≤ length f

pub record Ok22 (f : List ℕ) : Type 0 where
  pub size : (varying_of f).size ≡ length f

pub record Ok23 (f : List ℕ) : Type 0 where
  pub kind : Kind
  pub header : Header kind f

pub record Ok24 (f : List ℕ) : Type 0 where
  pub intent : GoodIntent (varying_of f).intent

-- some plan of this class and space gives this tag table and length. Here and in 26 and 27 its mark is left aside: it changes nothing but the id
pub record Ok25 (f : List ℕ) : Type 0 where
  pub plan : Plan
  pub valid : Valid plan
  pub header : Header (kind plan) f
  pub table : table_of f ≡ table (slots plan)
  pub length-is : length f ≡ file_length (slots plan)

-- a plan has this file's class and space, maker, model, intent, tag table, elements and padding
pub record Has (p : Plan) (f : List ℕ) : Type 0 where
  pub header : Header (kind p) f
  pub maker : (varying_of f).maker ≡ p.maker
  pub model : (varying_of f).model ≡ p.model
  pub intent : (varying_of f).intent ≡ p.intent
  pub table : table_of f ≡ table (slots p)
  pub body : body_of f ≡ body (elements p)

-- some such plan has these bytes in elements and padding, the bytes of free numbers aside: in a `Wide` plan each is any four bytes
pub record Ok26 (f : List ℕ) : Type 0 where
  pub plan : Plan
  pub wide : Wide plan
  pub has : Has plan f

-- and each of its free numbers lies within its range
pub record Ok27 (f : List ℕ) : Type 0 where
  pub plan : Plan
  pub valid : Valid plan
  pub has : Has plan f

-- the id is the correct one, or sixteen zero bytes, which means not computed (02, order 7)
pub record Ok28 (f : List ℕ) : Type 0 where
  pub id : ((varying_of f).id ≡ profile_id f) ⊎ ((varying_of f).id ≡ zeros id_size)

-- ---- the checks in order

pub data Check : Type 0 where
  c21 c22 c23 c24 c25 c26 c27 c28 : Check

abbrev pub number : Check → ℕ
number c21 = 21
number c22 = 22
number c23 = 23
number c24 = 24
number c25 = 25
number c26 = 26
number c27 = 27
number c28 = 28

abbrev pub Passed : Check → List ℕ → Type 0
Passed c21 = Ok21
Passed c22 = Ok22
Passed c23 = Ok23
Passed c24 = Ok24
Passed c25 = Ok25
Passed c26 = Ok26
Passed c27 = Ok27
Passed c28 = Ok28

abbrev pub checks : List Check
checks = c21 ∷ c22 ∷ c23 ∷ c24 ∷ c25 ∷ c26 ∷ c27 ∷ c28 ∷ []

-- the first of the checks that f does not pass
abbrev pub FirstFailing : List ℕ → List Check → Check → Type 0
FirstFailing f = First (λ (c : Check). Passed c f)

-- ---- the answer

pub data Answer : Type 0 where
  refused : Check → Answer
  accepted : Plan → Answer

-- the reader's answer to f: the first check that it does not pass, or the plan that lays out to it
pub data Answers (f : List ℕ) : Answer → Type 0 where
  refuses : {c : Check} → FirstFailing f checks c → Answers f (refused c)
  accepts : (p : Plan) → Exists p → layout p ≡ f → Answers f (accepted p)

-- the mark of the accepted plan, or 01's number
abbrev pub marked : Answer → Checked Bool
marked (refused c) = Checked.refused (number c)
marked (accepted p) = Checked.is p.id_not_computed
