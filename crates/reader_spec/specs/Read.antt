-- The reader as a computation: the one plan that can lay out to a file is read from it, and the file is held against it. `ReadLaws` shows that
-- it answers as the refusal list says. Assumes nothing.
use Rattle.std.specs.Prelude.{ℕ, Bool, true, false, List, length}
use Rattle.std.proofs.Math.Decide.{dec_le, ℕ_discrete}
use Rattle.buffer.specs.Bytes.{zeros, same}
use Rattle.profile.specs.Plan.{Plan, InRange, with_mark}
use Rattle.profile.specs.Layout.{id_size, profile_id}
use Rattle.reader_spec.specs.Table.{varying_of}
use Rattle.reader_spec.specs.PlanIn.{kind_from, shape_in, plan_in}
use Rattle.reader_spec.specs.RefusalList.{Check, c21, c22, c23, c24, c25, c26, c27, c28, Answer, refused, accepted}
use Rattle.reader_spec.specs.Decide as Decide

-- a check, and what is answered where it is passed
unfoldable pub check : {A : Type 0} → Dec A → Check → Answer → Answer
check (yes a) c r = r
check (no h) c r = refused c

-- the correct id is tried first; zeros that are not the correct id mean not computed (02, order 7)
abbrev pub by_id : Bool → Bool → Plan → Answer
by_id true zero p = accepted (with_mark false p)
by_id false true p = accepted (with_mark true p)
by_id false false p = refused c28

-- what is left to answer from a check on
unfoldable pub from_id : List ℕ → Answer
from_id f =
    let id = (varying_of f).id in
    by_id (same id (profile_id f)) (same id (zeros id_size)) (plan_in f)

unfoldable pub from_range : List ℕ → Answer
from_range f = check (Decide.content InRange Decide.in_range_lem (plan_in f).content) c27 (from_id f)

unfoldable pub from_body : List ℕ → Answer
from_body f = check (Decide.body_is (plan_in f) f) c26 (from_range f)

unfoldable pub from_table : List ℕ → Answer
from_table f = check (Decide.table_is (shape_in f) f) c25 (from_body f)

unfoldable pub read : List ℕ → Answer
read f =
    check (dec_le 132 (length f)) c21
    (check (ℕ_discrete (varying_of f).size (length f)) c22
    (check (Decide.header_is (kind_from f) f) c23
    (check (Decide.intent (varying_of f).intent) c24
    (from_table f))))
