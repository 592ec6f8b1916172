-- The rendering intents (ICC.1:2022, 7.2.15): their header numbers and the short names of the Rust's `Display`.
-- Assumes nothing.
use Rattle.std.specs.Prelude.{ℕ, List}
use Rattle.buffer.specs.Ascii.{ascii}
use Rattle.color_encoding.specs.declared.RenderingIntent.{RenderingIntent}
use Rattle.color_encoding.specs.declared.RenderingIntent.TheVariants.{Perceptual, Relative, Saturation, Absolute}

abbrev pub intent_number : RenderingIntent → ℕ
intent_number Perceptual = 0
intent_number Relative = 1
intent_number Saturation = 2
intent_number Absolute = 3

abbrev pub intent_name : RenderingIntent → List ℕ
intent_name Perceptual = ascii "Per"
intent_name Relative = ascii "Rel"
intent_name Saturation = ascii "Sat"
intent_name Absolute = ascii "Abs"
