-- How far a file has passed the reader's checks. Assumes nothing.
use Rattle.std.specs.Prelude.{ℕ, ◌≤◌, ◌≡◌, List, length}
use Rattle.profile.specs.Plan.{GoodIntent}
use Rattle.profile.specs.declared.Kind.{Kind}
use Rattle.profile.specs.Numbers.{numbers_of, text_of}
use Rattle.profile.specs.declared.Numbers.{Numbers}
use Rattle.profile.specs.declared.Shape.{Shape}
use Rattle.reader_spec.specs.Table.{varying_of}
use Rattle.reader_spec.specs.PlanIn.{kind_from, shape_in, plan_in}
use Rattle.reader_spec.specs.RefusalList.{Header}
use Rattle.reader_spec.specs.Decide.{TableIs}

-- 21 and 22, and the kind is known
pub record Sized (k : Kind) (f : List ℕ) : Type 0 where
  pub long : 132 ≤ length f
  pub size : (varying_of f).size ≡ length f
  pub kind_is : kind_from f ≡ k

-- to 24
pub record Headed (k : Kind) (f : List ℕ) : Type 0 where
  pub sized : Sized k f
  pub header : Header k f
  pub intent : GoodIntent (varying_of f).intent

-- to 25, and the shape is known
pub record Tabled (s : Shape) (f : List ℕ) : Type 0 where
  pub headed : Headed s.kind f
  pub shape_is : shape_in f ≡ s
  pub table_is : TableIs s f

-- the numbers and the text of the one plan that the file can have
pub record Candidate (f : List ℕ) (p : Numbers) (t : List ℕ) : Type 0 where
  pub tabled : Tabled (shape_in f) f
  pub numbers : p ≡ numbers_of (plan_in f)
  pub text : t ≡ text_of (plan_in f)
