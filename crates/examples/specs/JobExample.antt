-- The job of 44 bytes that 01 shows, evaluated on the definitions: its entries, and its listing. Assumes nothing.
use Rattle.std.specs.Prelude.{ℕ, false, ◌≡◌, refl, List, [], ◌∷◌, ◌++◌}
use Rattle.std.proofs.Common.{ap, ap₂, ◌∙◌}
use Rattle.std.specs.Float.Ieee.{size}
use Rattle.buffer.specs.Ascii.{ascii}
use Rattle.buffer.specs.Checked.{Checked, is, refused}
use Rattle.numbers.specs.Rounded.{counted}
use Rattle.profile.specs.Plan.{Plan}
use Rattle.words.specs.Words.{word32}
use Rattle.color_encoding.specs.declared.RenderingIntent.TheVariants.{Perceptual, Relative}
use Rattle.color_encoding.specs.declared.JxlColorEncoding.TheVariants.{XYB}
use Rattle.digits.specs.Digits.{digits_up_to, digits}
use Rattle.buffer.specs.Bytes.{zeros}
use Rattle.profile.specs.TagTypes.{join}
use Rattle.profile.specs.Elements.{file_length, start, body_size, tag_count, padding}
use Rattle.profile.specs.Shape.{slots_of}
use Rattle.profile.specs.LayoutLaws.{length-layout}
use Rattle.encoding_plan.specs.PlanOf.{xyb_plan, color_plan}
use Rattle.encoding_plan.specs.FixedFloats.{fixed_floats, counted_plan}
use Rattle.encoding_plan.specs.FixedFloatsLaws.{xyb_count}
use Rattle.writer.specs.Writer.{profile}
use Rattle.job_entry.specs.Entry.{gray_encoding, rgb_encoding, xyb_encoding}
use Rattle.job.specs.Job.{entries_from, cut, job}
use Rattle.job.specs.declared.JobEntry.{JobEntry}
use Rattle.job.specs.declared.Section.TheVariants.{Rgb, Xyb}
use Rattle.entry_output.specs.EntryOutput.{enough, first_line, entry_line}
use Rattle.job_output.specs.JobOutput.{output_of, listing}
use Rattle.examples.specs.SheetsLaws.{srgb, srgb_plan, perceptual_plan, srgb_count}

-- no gray entry; the sRGB entry: white, primaries, curve and intent; one XYB entry, Relative
abbrev job44 : List ℕ
job44 = 0 ∷ 1 ∷ (zeros 9 ++ (zeros 25 ++ ((2 ∷ zeros 4) ++ (0 ∷ 1 ∷ 1 ∷ []))))

abbrev entries44 : List JobEntry
entries44 = record { section = Rgb; place = 1; encoding = srgb Perceptual } ∷ record { section = Xyb; place = 1; encoding = XYB Relative } ∷ []

pub job_44 : job 1 job44 ≡ is entries44
unfolding job cut entries_from gray_encoding rgb_encoding xyb_encoding word32
job_44 = refl

first : enough (counted_plan (srgb Perceptual)) ≡ profile 504 24
unfolding slots_of file_length start body_size tag_count padding
first =
    ap (λ (p : Checked Plan). enough (counted (fixed_floats (srgb Perceptual)) p)) perceptual_plan
    ∙ ap₂ profile (length-layout (srgb_plan 0 (ascii "sRGB")) (refl, refl)) (srgb_count Perceptual)

second : enough (counted_plan (XYB Relative)) ≡ profile 720 30
unfolding color_plan slots_of file_length start body_size tag_count padding
second = ap₂ profile (length-layout (xyb_plan Relative) tt) (xyb_count false Relative)

pub listing_44 : listing (job 1 job44) ≡ ascii "profiles 2" ++ (10 ∷ ascii "2 1 504") ++ (10 ∷ ascii "3 1 720") ++ (10 ∷ [])
unfolding output_of first_line entry_line join digits digits_up_to size
listing_44 = ap listing job_44 ∙ rw (first, second)

pub empty : job 1 [] ≡ refused 41
unfolding job cut
empty = refl
