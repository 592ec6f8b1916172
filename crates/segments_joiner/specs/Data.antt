-- The data of the segments that a buffer is. Assumes nothing.
use Rattle.std.specs.Prelude.{ℕ, ◌<◌, ◌≡◌, List, [], length, take}
use Rattle.buffer.specs.Buffer.{put}
use Rattle.buffer.specs.Checked.{is, refused, value_or, then}
use Rattle.profile.specs.Shape.{max_length}
use Rattle.reader_spec.specs.Read.{read}
use Rattle.reading.specs.Reading.{reading}
use Rattle.app2.specs.Joining.{joined}
use Rattle.app2.specs.App2.{complete_segments}

-- in order of sequence number; none where they are not complete
unfoldable pub data_of : List ℕ → List ℕ
data_of b = value_or [] (then (complete_segments b) (λ ss. is (joined ss)))

-- as much of l as the output holds stands at its front, and n is the length of all
pub record Gathers (l before after : List ℕ) (n : ℕ) : Type 0 where
  pub all : n ≡ length l
  pub front : after ≡ put before 0 (take (length before) l)

-- r is the number by which the reader refuses any n bytes, more than any file has, that begin with these
pub record RefusesLong (front : List ℕ) (n r : ℕ) : Type 0 where
  pub refuses : (l : List ℕ) → max_length < length l → n ≡ length l → front ≡ take max_length l → reading (read l) ≡ refused r
