-- What the two calls on APP2 segments give, in the order of their checks, what they answer and what they leave in the output (02, order 4).
-- Assumes nothing.
use Rattle.std.specs.Prelude.{ℕ, ◌≡◌, ◌&&◌, cond, List, leb, length}
use Rattle.std.proofs.Math.Option.{Option, none, some}
use Rattle.buffer.specs.Buffer.{put}
use Rattle.buffer.specs.Checked.{Checked, is, refused, then}
use Rattle.reader_spec.specs.RefusalList as Reader
use Rattle.reader_spec.specs.Read.{read}
use Rattle.app2.specs.Segments.{Segment, bytes, cut, segments}
use Rattle.app2.specs.Joining.{parse, complete, joined}

-- ---- the checks

-- the reader's numbers: f, where it is a file that the reader accepts
abbrev pub if_accepted : Reader.Answer → List ℕ → Checked (List ℕ)
if_accepted (Reader.refused c) f = refused (Reader.number c)
if_accepted (Reader.accepted p) f = is f

unfoldable pub accepted_file : List ℕ → Checked (List ℕ)
accepted_file f = if_accepted (read f) f

-- the most data of a segment, and the most segments of a file
abbrev pub max_data : ℕ
max_data = 65519

abbrev pub max_segments : ℕ
max_segments = 255

-- 53: the segments of a file, where the named size is within its limits and needs no more than 255 of them
unfoldable pub sized_segments : ℕ → List ℕ → Checked (List Segment)
sized_segments n f = cond (leb 1 n && (leb n max_data && leb (length (cut n f)) max_segments)) (is (segments n f)) (refused 53)

-- 54: the segments that a buffer is, where they are complete
abbrev pub if_complete : Option (List Segment) → Checked (List Segment)
if_complete none = refused 54
if_complete (some ss) = cond (complete ss) (is ss) (refused 54)

unfoldable pub complete_segments : List ℕ → Checked (List Segment)
complete_segments b = if_complete (parse b)

-- 55: the bytes l, where an output of so many bytes has room for them
unfoldable pub fitting : ℕ → List ℕ → Checked (List ℕ)
fitting room l = cond (leb (length l) room) (is l) (refused 55)

-- ---- the calls, with an output of so many bytes

-- the bytes of a file in segments of n bytes of data
unfoldable pub written_segments : List ℕ → ℕ → ℕ → Checked (List ℕ)
written_segments f n room = then (accepted_file f) (λ g. then (sized_segments n g) (λ ss. fitting room (bytes ss)))

-- the file that a buffer of segments holds
unfoldable pub joined_file : List ℕ → ℕ → Checked (List ℕ)
joined_file b room = then (complete_segments b) (λ ss. then (fitting room (joined ss)) accepted_file)

-- ---- what a call answers and leaves

-- the length of the bytes that it gives, or the number
abbrev pub answer : Checked (List ℕ) → Checked ℕ
answer (is l) = is (length l)
answer (refused n) = refused n

-- the output at exit: the bytes in front and the rest as it was, or all as it was
abbrev pub output : Checked (List ℕ) → List ℕ → List ℕ
output (is l) out = put out 0 l
output (refused n) out = out

-- the promise of a call that gives c
pub record Gives (c : Checked (List ℕ)) (before after : List ℕ) (r : Checked ℕ) : Type 0 where
  pub answer : r ≡ answer c
  pub output : after ≡ output c before

-- ---- the answer as one number, as C has it

-- the length or the refusal number
abbrev pub number : Checked ℕ → ℕ
number (is n) = n
number (refused k) = k

-- the answer that such a number stands for: a refusal number is at most 99, a length at least 284
abbrev pub output_by : ℕ → Checked ℕ
output_by n = cond (leb n 99) (refused n) (is n)
