-- The bytes of a record tell the encoding that was stored there, whatever stands behind the record. Assumes nothing.
use Rattle.std.specs.Prelude.{ℕ, ◌≡◌, refl, List, ◌++◌, length}
use Rattle.buffer.specs.Bytes.{zeros}
use Rattle.buffer.specs.Checked.{is}
use Rattle.color_encoding.specs.declared.JxlColorEncoding.{JxlColorEncoding}
use Rattle.color_encoding.specs.declared.JxlColorEncoding.TheVariants.{RgbColorSpace, GrayscaleColorSpace, XYB}
use Rattle.text.specs.Held.{HeldEncoding}
use Rattle.job_entry.specs.Entry.{rgb_encoding}
use Rattle.encoding_record.specs.EncodingRecord.{primaries_bytes, encoding_size, encoding_record, encoding_by}
use Rattle.encoding_record.specs.EncodingRecordLaws.{length-primaries, length-parts, white_told, primaries_told, curve_told, intent_told, intent_back}

pub length-record : (e : JxlColorEncoding) → length (encoding_record e) ≡ encoding_size
unfolding encoding_record
length-record (RgbColorSpace w p t i) = rw (length-parts w (primaries_bytes p) t i (length-primaries p))
length-record (GrayscaleColorSpace w t i) = rw (length-parts w (zeros 25) t i refl)
length-record (XYB i) = refl

pub record_told : (e : JxlColorEncoding) → HeldEncoding e → (rest : List ℕ) → encoding_by (encoding_record e ++ rest) ≡ is e
unfolding encoding_record encoding_by rgb_encoding
record_told (RgbColorSpace w p t i) h rest =
    let middle = primaries_bytes p in
    let n = length-primaries p in
    rw (white_told w middle t i n rest h.0, primaries_told w middle t i n rest p h.1.0 refl, curve_told w middle t i n rest h.1.1, intent_told w middle t i n rest)
record_told (GrayscaleColorSpace w t i) h rest =
    let middle = zeros 25 in
    rw (white_told w middle t i refl rest h.0, curve_told w middle t i refl rest h.1, intent_told w middle t i refl rest)
record_told (XYB i) h rest = rw (intent_back i rest)
