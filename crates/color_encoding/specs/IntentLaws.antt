-- The numbers of the rendering intents are 0 to 3; their names have three letters. Assumes nothing.
use Rattle.std.specs.Prelude.{◌≤◌, ◌≡◌, refl, length}
use Rattle.std.proofs.Common.{lit≤}
use Rattle.color_encoding.specs.declared.RenderingIntent.{RenderingIntent}
use Rattle.color_encoding.specs.declared.RenderingIntent.TheVariants.{Perceptual, Relative, Saturation, Absolute}
use Rattle.color_encoding.specs.Intent.{intent_number, intent_name}

pub intent_number_le : (i : RenderingIntent) → intent_number i ≤ 3
intent_number_le Perceptual = lit≤ tt
intent_number_le Relative = lit≤ tt
intent_number_le Saturation = lit≤ tt
intent_number_le Absolute = lit≤ tt

pub length-intent_name : (i : RenderingIntent) → length (intent_name i) ≡ 3
length-intent_name Perceptual = refl
length-intent_name Relative = refl
length-intent_name Saturation = refl
length-intent_name Absolute = refl
