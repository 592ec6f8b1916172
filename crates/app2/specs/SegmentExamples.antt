-- Segments by computation: three bytes in segments of two bytes of data, joined again in either order; and buffers that are 54. Assumes nothing.
use Rattle.std.specs.Prelude.{ℕ, ◌≡◌, refl, List, [], ◌∷◌, ◌++◌}
use Rattle.buffer.specs.Bytes.{same}
use Rattle.buffer.specs.Checked.{Checked, is, refused, then}
use Rattle.words.specs.Words.{be16, word16}
use Rattle.profile.specs.TagTypes.{join}
use Rattle.app2.specs.Segments.{front, segment_bytes, bytes, chunks, cut, numbered, segments}
use Rattle.app2.specs.Joining.{begins, first, rest, parse_up_to, parse, times, each_once, counts, complete, chunk_of, chunks_from, joined}
use Rattle.app2.specs.App2.{complete_segments}

-- FF E2, a length of 18, ICC_PROFILE and a zero byte, number 1 of 2, two bytes of data
abbrev pub one : List ℕ
one = 255 ∷ 226 ∷ 0 ∷ 18 ∷ 73 ∷ 67 ∷ 67 ∷ 95 ∷ 80 ∷ 82 ∷ 79 ∷ 70 ∷ 73 ∷ 76 ∷ 69 ∷ 0 ∷ 1 ∷ 2 ∷ 7 ∷ 8 ∷ []

-- a length of 17, number 2 of 2, one byte of data
abbrev pub two : List ℕ
two = 255 ∷ 226 ∷ 0 ∷ 17 ∷ 73 ∷ 67 ∷ 67 ∷ 95 ∷ 80 ∷ 82 ∷ 79 ∷ 70 ∷ 73 ∷ 76 ∷ 69 ∷ 0 ∷ 2 ∷ 2 ∷ 9 ∷ []

-- the data of the segments that a buffer is
abbrev pub data_in : List ℕ → Checked (List ℕ)
data_in b = then (complete_segments b) (λ ss. is (joined ss))

pub record Examples : Type 0 where
  pub put_in : bytes (segments 2 (7 ∷ 8 ∷ 9 ∷ [])) ≡ one ++ two
  pub in_order : data_in (one ++ two) ≡ is (7 ∷ 8 ∷ 9 ∷ [])
  pub in_the_other_order : data_in (two ++ one) ≡ is (7 ∷ 8 ∷ 9 ∷ [])
  pub no_segment : data_in [] ≡ refused 54
  pub one_missing : data_in one ≡ refused 54
  pub one_doubled : data_in (one ++ one) ≡ refused 54
  pub stray_byte : data_in (one ++ (two ++ (0 ∷ []))) ≡ refused 54
  pub passes_the_end : data_in (two ++ (255 ∷ 226 ∷ 0 ∷ 18 ∷ [])) ≡ refused 54

pub examples : Examples
unfolding be16 word16 same join front segment_bytes bytes chunks cut numbered segments begins first rest parse_up_to parse times each_once counts complete chunk_of chunks_from joined complete_segments
examples =
    record {
      put_in = refl;
      in_order = refl;
      in_the_other_order = refl;
      no_segment = refl;
      one_missing = refl;
      one_doubled = refl;
      stray_byte = refl;
      passes_the_end = refl;
    }
