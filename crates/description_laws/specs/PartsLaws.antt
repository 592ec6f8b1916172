-- The scanners of the intent, the white point, the primaries and the transfer function find exactly the texts of the language. Assumes nothing.
use Rattle.std.specs.Prelude.{ℕ, ◌≡◌, refl, Bool, true, false, cond, List, [], ◌∷◌, ◌++◌, length, drop}
use Rattle.std.proofs.Common.{sym, ap, ap₂, ◌∙◌}
use Rattle.buffer.specs.Ascii.{ascii}
use Rattle.color_encoding.specs.declared.RenderingIntent.TheVariants.{Perceptual, Relative, Saturation, Absolute}
use Rattle.color_encoding.specs.declared.JxlWhitePoint.TheVariants as W
use Rattle.color_encoding.specs.declared.JxlPrimaries.TheVariants as P
use Rattle.color_encoding.specs.declared.JxlTransferFunction.TheVariants as F
use Rattle.color_encoding.specs.Codes.{intent_list}
use Rattle.color_encoding.specs.Intent.{intent_name}
use Rattle.encoding_names.specs.Names.{comma, semicolon, white_name, primaries_name, transfer_name}
use Rattle.scanner.specs.Grammar.{Headed}
use Rattle.scanner.specs.Scan.{Found, nothing, found, or_else, mapped, starts_with, after, any_of}
use Rattle.scanner.specs.ScanLaws.{nothing≢found, starts_split, Finds, Holds, Exact, Each, any_of_holds, headed, joint, mapped_holds}
use Rattle.scanner.specs.ScanLaws as ScanLaws
use Rattle.decimal_parser.specs.FloatText.{FloatText}
use Rattle.decimal_parser.specs.ParseFloat.{float}
use Rattle.decimal_parser.specs.FloatLaws.{float_exact}
use Rattle.names_parser.specs.ParseNames.{intent, pair, own_white, whites, white, own_primaries, three_pairs, primary_sets, primaries, transfers, transfer}
use Rattle.description_parser.specs.Language.{IntentText, PairText, WhiteText, ChromaticitiesText, PrimariesText, TransferText}

-- ---- names, and then values of one's own

-- a scanner finds nothing where a name of the list stands
abbrev Apart : {A B : Type 0} → (A → List ℕ) → List A → (List ℕ → Found B) → Type 0
Apart name values g = Each (λ a t. (m : List ℕ) → g (t ++ m) ≡ nothing) name values

no_name : {A B : Type 0} (name : A → List ℕ) (values : List A) (g : List ℕ → Found B) → Apart name values g
    → (l : List ℕ) (b : B) (r : List ℕ) → g l ≡ found b r → any_of name values l ≡ nothing
no_name name [] g apart l b r e = refl
no_name name (a ∷ values) g (none, apart) l b r e = ap₂ or_else (here (starts_with (name a) l) refl) (no_name name values g apart l b r e)
  where
    here : (t : Bool) → starts_with (name a) l ≡ t → cond t (found a (drop (length (name a)) l)) nothing ≡ nothing
    here true p = absurd (nothing≢found (sym (ap g (starts_split (name a) l p) ∙ none (drop (length (name a)) l)) ∙ e))
    here false p = refl

module _ {A B : Type 0} (name : A → List ℕ) (values : List A) (own : B → A) {G : B → List ℕ → Type 0} {g : List ℕ → Found B} (x : Exact G g) where
  -- the value of a name in front, or one's own
  abbrev either : List ℕ → Found A
  either l = or_else (any_of name values l) (mapped own (g l))

  own_finds : Apart name values g → (b : B) (t r : List ℕ) → G b t → either (t ++ r) ≡ found (own b) r
  own_finds apart b t r h =
      let e : g (t ++ r) ≡ found b r = x.finds b t r h in
      ap₂ (λ (y : Found A) (z : Found B). or_else y (mapped own z)) (no_name name values g apart (t ++ r) b r e) e

  either_holds : (F : A → List ℕ → Type 0) → Each F name values → ((b : B) (t : List ℕ) → G b t → F (own b) t) → Holds F either
  either_holds F named to = ScanLaws.either_holds F (any_of name values) (λ l. mapped own (g l)) (any_of_holds F name values named) (mapped_holds F own to x)

-- ---- the intent

pub intent_exact : Exact IntentText intent
unfolding intent
intent_exact = record { finds = finds; holds = any_of_holds IntentText intent_name intent_list (refl, (refl, (refl, (refl, tt)))) }
  where
    finds : Finds IntentText intent
    finds Perceptual t r h = rw h
    finds Relative t r h = rw h
    finds Saturation t r h = rw h
    finds Absolute t r h = rw h

-- ---- the white

pub pair_exact : (separator : List ℕ) → Exact (PairText separator) (pair separator)
unfolding pair
pair_exact separator = joint separator float_exact float_exact

pub white_exact : Exact WhiteText white
unfolding white
white_exact = record { finds = finds; holds = either_holds white_name whites own_white (pair_exact semicolon) WhiteText (refl, (refl, (refl, tt))) (λ b t h. h) }
  where
    finds : Finds WhiteText white
    finds W.D65 t r h = rw h
    finds W.E t r h = rw h
    finds W.DCI t r h = rw h
    finds (W.Chromaticity x y) t r h = own_finds white_name whites own_white (pair_exact semicolon) ((λ m. refl), ((λ m. refl), ((λ m. refl), tt))) (x, y) t r h

-- ---- the primaries

pub three_exact : Exact ChromaticitiesText three_pairs
unfolding three_pairs
three_exact = joint semicolon (joint semicolon (pair_exact comma) (pair_exact comma)) (pair_exact comma)

pub primaries_exact : Exact PrimariesText primaries
unfolding primaries
primaries_exact = record { finds = finds; holds = either_holds primaries_name primary_sets own_primaries three_exact PrimariesText (refl, (refl, (refl, tt))) (λ b t h. h) }
  where
    finds : Finds PrimariesText primaries
    finds P.SRGB t r h = rw h
    finds P.BT2100 t r h = rw h
    finds P.P3 t r h = rw h
    finds (P.Chromaticities rx ry gx gy bx by) t r h =
        own_finds primaries_name primary_sets own_primaries three_exact ((λ m. refl), ((λ m. refl), ((λ m. refl), tt))) (((rx, ry), (gx, gy)), (bx, by)) t r h

-- ---- the curve

gamma_exact : Exact (Headed (ascii "g") FloatText) (after (ascii "g") float)
gamma_exact = headed (ascii "g") float_exact

pub transfer_exact : Exact TransferText transfer
unfolding transfer
transfer_exact = record { finds = finds; holds = either_holds transfer_name transfers F.Gamma gamma_exact TransferText named (λ b t h. h) }
  where
    named : Each TransferText transfer_name transfers
    named = (refl, (refl, (refl, (refl, (refl, (refl, tt))))))

    apart : Apart transfer_name transfers (after (ascii "g") float)
    apart = ((λ m. refl), ((λ m. refl), ((λ m. refl), ((λ m. refl), ((λ m. refl), ((λ m. refl), tt))))))

    finds : Finds TransferText transfer
    finds F.BT709 t r h = rw h
    finds F.Linear t r h = rw h
    finds F.SRGB t r h = rw h
    finds F.PQ t r h = rw h
    finds F.DCI t r h = rw h
    finds F.HLG t r h = rw h
    finds (F.Gamma x) t r h = own_finds transfer_name transfers F.Gamma gamma_exact apart x t r h
