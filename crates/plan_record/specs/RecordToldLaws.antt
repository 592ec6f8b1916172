-- What a struct can hold is read back from its bytes, and it can hold every plan. Assumes nothing.
use Rattle.std.specs.Prelude.{ℕ, ◌+◌, ◌*◌, ◌≤◌, ◌≡◌, refl, Bool, true, false, cond, ℤ, pos, length, take, drop, Option, Some, None}
use Rattle.std.proofs.Math.Path.{ap, ap₂, sym}
use Rattle.std.proofs.Common.{◌∙◌, arith, lit<, length-append, drop_at, SFits}
use mathlib.Core.List.{List, [], ◌∷◌, ◌++◌, append_assoc, map}
use Rattle.std.proofs.Math.ListN.{get_or}
use Rattle.std.proofs.lemmas.List.{length-map, length-replicate}
use Rattle.std.proofs.Math.Seq.{take_at, get_or_at}
use Rattle.std.specs.Int.{w32}
use Rattle.buffer.specs.Checked.{is, value_or}
use Rattle.buffer.specs.All.{All, none, more}
use Rattle.buffer.specs.AllLaws.{All-append, All-map, All-replicate}
use Rattle.words.specs.Words.{twos_complement32, signed32}
use Rattle.words.specs.WordsLaws.{twos_complement32_lt, signed32_twos_complement32}
use Rattle.profile.specs.Plan.{Plan, Content, gray, rgb, xyb, GoodCicp, GoodWhite, GoodContent, GoodCurve, Valid, max_letters}
use Rattle.profile.specs.Numbers.{kind_of, content_of, text_for, text_of}
use Rattle.profile.specs.declared.Kind.{Kind}
use Rattle.profile.specs.declared.Kind.TheVariants as Kinds
use Rattle.profile.specs.declared.CurveName.{CurveName}
use Rattle.profile.specs.declared.CurveName.TheVariants as Name
use Rattle.profile.specs.declared.Curve.{Curve}
use Rattle.profile.specs.declared.Curve.TheVariants.{Named, Gamma}
use Rattle.profile.specs.declared.GrayWhite.{GrayWhite}
use Rattle.profile.specs.declared.GrayWhite.TheVariants.{Unadapted, Adapted}
use Rattle.reader_spec.specs.RefusalList.{Answer, refused, accepted}
use Rattle.reader_spec.specs.Read.{read}
use Rattle.reader_spec.proofs.Accepts.{accepts_exactly}
use Rattle.reader_spec.specs.FileLaws.{valid_wide}
use Rattle.reading.specs.Reading.{kind_number, name_number, curve_number, gamma_number, cicp_number, nine_zeros, adapted_of, x_of, z_of, chad_of, told, text_array, plan_reading, reading}
use Rattle.reading.specs.declared.Reading.{Reading}
use Rattle.plan_record.specs.PlanRecord.{le32s, number_count, record_numbers, plan_record, reading_of, reading_by}
use Rattle.plan_record.specs.PlanRecordLaws.{Word, length-le32s, length-numbers, words_back, signeds_back}

-- nine int32_t
pub record Nine (zs : List ℤ) : Type 0 where
  pub nine : length zs ≡ 9
  pub fit : All (SFits w32) zs

-- what the struct can hold
pub record Held (r : Reading) : Type 0 where
  pub kind : Word r.kind
  pub intent : Word r.intent
  pub maker : Word r.maker
  pub model : Word r.model
  pub id_not_computed : Word r.id_not_computed
  pub curve : Word r.curve
  pub gamma : SFits w32 r.gamma
  pub cicp : Word r.cicp
  pub adapted : Word r.adapted
  pub white_x_lem : SFits w32 r.white_x
  pub white_z_lem : SFits w32 r.white_z
  pub chad : Nine r.chad
  pub columns : Nine r.columns
  pub letters : Word r.letters
  pub text : length r.text ≡ max_letters

-- ---- the way back

nine_words : {zs : List ℤ} → Nine zs → All Word (map twos_complement32 zs)
nine_words h = All-map twos_complement32 twos_complement32_lt h.fit

module _ (r : Reading) (h : Held r) where
  abbrev chad : List ℕ
  chad = map twos_complement32 r.chad

  abbrev columns : List ℕ
  columns = map twos_complement32 r.columns

  chad_nine : length chad ≡ 9
  chad_nine = length-map r.chad twos_complement32 ∙ h.chad.nine

  columns_nine : length columns ≡ 9
  columns_nine = length-map r.columns twos_complement32 ∙ h.columns.nine

  count : length (record_numbers r) ≡ number_count
  count = length-numbers r h.chad.nine h.columns.nine

  all_words : All Word (record_numbers r)
  unfolding record_numbers
  all_words =
      more h.kind
      (more h.intent
      (more h.maker
      (more h.model
      (more h.id_not_computed
      (more h.curve
      (more (twos_complement32_lt r.gamma h.gamma)
      (more h.cicp
      (more h.adapted
      (more (twos_complement32_lt r.white_x h.white_x_lem)
      (more (twos_complement32_lt r.white_z h.white_z_lem)
      (All-append (nine_words h.chad) (All-append (nine_words h.columns) (more h.letters none)))))))))))))

  -- the nine numbers of chad, those of the columns, and what follows them, in the numbers of the struct
  chad_back : map signed32 (take 9 (drop 11 (record_numbers r))) ≡ r.chad
  unfolding record_numbers
  chad_back = ap (map signed32) (take_at chad _ 9 chad_nine) ∙ signeds_back r.chad h.chad.fit

  columns_back : map signed32 (take 9 (drop 20 (record_numbers r))) ≡ r.columns
  unfolding record_numbers
  columns_back =
      ap (λ (l : List ℕ). map signed32 (take 9 l)) (drop_at chad _ 9 chad_nine)
      ∙ ap (map signed32) (take_at columns _ 9 columns_nine)
      ∙ signeds_back r.columns h.columns.fit

  letters_back : get_or (record_numbers r) 29 0 ≡ r.letters
  unfolding record_numbers
  letters_back =
      ap (λ (l : List ℕ). get_or l 18 0) (sym (append_assoc chad columns (r.letters ∷ [])))
      ∙ get_or_at (chad ++ columns) r.letters [] 0 18 (length-append chad columns ∙ ap₂ (λ (a b : ℕ). a + b) chad_nine columns_nine)

  numbers_told : reading_of (record_numbers r) r.text ≡ r
  unfolding record_numbers
  numbers_told =
      λ j.
      record {
        kind = r.kind;
        intent = r.intent;
        maker = r.maker;
        model = r.model;
        id_not_computed = r.id_not_computed;
        curve = r.curve;
        gamma = signed32_twos_complement32 r.gamma h.gamma j;
        cicp = r.cicp;
        adapted = r.adapted;
        white_x = signed32_twos_complement32 r.white_x h.white_x_lem j;
        white_z = signed32_twos_complement32 r.white_z h.white_z_lem j;
        chad = chad_back j;
        columns = columns_back j;
        letters = letters_back j;
        text = r.text;
      }

  pub reading_back : (rest : List ℕ) → reading_by (plan_record r ++ rest) ≡ r
  unfolding plan_record reading_by
  reading_back rest =
      let numbers = le32s (record_numbers r) in
      rw (append_assoc numbers r.text rest)
      (ap₂ reading_of (rw count at (words_back (record_numbers r) (r.text ++ rest) all_words))
      (ap (take max_letters) (drop_at numbers (r.text ++ rest) (4 * number_count) (length-le32s (record_numbers r) ∙ ap (λ (k : ℕ). 4 * k) count))
      ∙ take_at r.text rest max_letters h.text)
      ∙ numbers_told)

-- ---- a plan

mark_word : (m : Bool) → Word (cond m 1 0)
mark_word true = lit< tt
mark_word false = lit< tt

kind_word : (k : Kind) → Word (kind_number k)
kind_word Kinds.Gray = lit< tt
kind_word Kinds.Rgb = lit< tt
kind_word Kinds.Xyb = lit< tt

name_word : (n : CurveName) → Word (name_number n)
name_word Name.BT709 = lit< tt
name_word Name.Linear = lit< tt
name_word Name.SRGB = lit< tt
name_word Name.DCI = lit< tt

curve_word : (c : Curve) → Word (curve_number c)
curve_word (Named n) = name_word n
curve_word (Gamma g) = lit< tt

zero-fits : SFits w32 (pos 0)
zero-fits = record { sfits = lit< tt }

gamma_fits : (c : Curve) → GoodCurve (SFits w32) c → SFits w32 (gamma_number c)
gamma_fits (Named n) h = zero-fits
gamma_fits (Gamma g) h = h

cicp_word : (c : Curve) (v : Option ℕ) → GoodCicp c v → Word (cicp_number v)
cicp_word c None h = lit< tt
cicp_word (Named n) (Some v) h = grind arith
cicp_word (Gamma g) (Some v) h = absurd h

nine_zeros_lem : Nine nine_zeros
nine_zeros_lem = record { nine = refl; fit = All-replicate 9 (pos 0) zero-fits }

adapted_word : (w : GrayWhite) → Word (adapted_of w)
adapted_word (Unadapted x z) = lit< tt
adapted_word (Adapted m) = lit< tt

x_fits : (w : GrayWhite) → GoodWhite (SFits w32) w → SFits w32 (x_of w)
x_fits (Unadapted x z) h = h.0
x_fits (Adapted m) h = zero-fits

z_fits : (w : GrayWhite) → GoodWhite (SFits w32) w → SFits w32 (z_of w)
z_fits (Unadapted x z) h = h.1
z_fits (Adapted m) h = zero-fits

chad_nines : (w : GrayWhite) → GoodWhite (SFits w32) w → Nine (chad_of w)
chad_nines (Unadapted x z) h = nine_zeros_lem
chad_nines (Adapted m) h = record { nine = h.0; fit = h.1 }

text_long : (t : List ℕ) → length t ≤ max_letters → length (text_array t) ≡ max_letters
text_long t h = simp (length-append, length-replicate) (omega arith)

-- what of a plan's numbers depends on its kind
record HeldContent (c : Content) : Type 0 where
  curve : Word (told (content_of c)).curve
  gamma : SFits w32 (told (content_of c)).gamma
  cicp : Word (told (content_of c)).cicp
  adapted : Word (told (content_of c)).adapted
  white_x_lem : SFits w32 (told (content_of c)).white_x
  white_z_lem : SFits w32 (told (content_of c)).white_z
  chad : Nine (told (content_of c)).chad
  columns : Nine (told (content_of c)).columns
  letters : length (text_for c) ≤ max_letters

content_held : (c : Content) → GoodContent (SFits w32) c → HeldContent c
content_held (gray g) h =
    record {
      curve = curve_word g.curve;
      gamma = gamma_fits g.curve h.curve;
      cicp = lit< tt;
      adapted = adapted_word g.white;
      white_x_lem = x_fits g.white h.white;
      white_z_lem = z_fits g.white h.white;
      chad = chad_nines g.white h.white;
      columns = nine_zeros_lem;
      letters = h.text.short;
    }
content_held (rgb g) h =
    record {
      curve = curve_word g.curve;
      gamma = gamma_fits g.curve h.curve;
      cicp = cicp_word g.curve g.cicp h.cicp;
      adapted = lit< tt;
      white_x_lem = zero-fits;
      white_z_lem = zero-fits;
      chad = record { nine = h.chad_nine; fit = h.chad };
      columns = record { nine = h.columns_nine; fit = h.columns };
      letters = h.text.short;
    }
content_held xyb h =
    record {
      curve = lit< tt;
      gamma = zero-fits;
      cicp = lit< tt;
      adapted = lit< tt;
      white_x_lem = zero-fits;
      white_z_lem = zero-fits;
      chad = nine_zeros_lem;
      columns = nine_zeros_lem;
      letters = omega arith;
    }

held : (p : Plan) → Valid p → HeldContent p.content
held p v = content_held p.content (valid_wide p v).content

pub plan_held : (p : Plan) → Valid p → Held (plan_reading p)
plan_held p v =
    let c = held p v in
    record {
      kind = kind_word (kind_of (content_of p.content));
      intent = omega (arith, v.intent);
      maker = v.maker;
      model = v.model;
      id_not_computed = mark_word p.id_not_computed;
      curve = c.curve;
      gamma = c.gamma;
      cicp = c.cicp;
      adapted = c.adapted;
      white_x_lem = c.white_x_lem;
      white_z_lem = c.white_z_lem;
      chad = c.chad;
      columns = c.columns;
      letters = omega (arith, c.letters);
      text = text_long (text_of p) c.letters;
    }

-- of an accepted file
pub read_letters : (f : List ℕ) (r : Reading) → reading (read f) ≡ is r → r.letters ≤ max_letters
read_letters f r h = go (read f) refl h
  where
    go : (a : Answer) → read f ≡ a → reading a ≡ is r → r.letters ≤ max_letters
    go (accepted p) e h =
        let letters : (plan_reading p).letters ≡ r.letters = ap (λ a. (value_or r a).letters) h in
        omega (arith, letters, (held p ((accepts_exactly f p).0 e).0.valid).letters)
    go (refused c) e h = cc
