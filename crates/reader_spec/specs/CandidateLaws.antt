-- The plan that a file with its table can only have: its shape is the table's, and it is a plan but for its letters, its `cicp` value and the
-- range of its numbers. Assumes nothing.
use Prim.Native.Nat.{ℕ, ◌+◌, ◌*◌, ◌≤◌}
use Rattle.std.specs.Prelude.{◌≡◌, Bool, List, ◌++◌, ℤ, take, drop, get_or}
use Rattle.std.proofs.Math.Path.{refl, ap, ap₂, subst}
use Rattle.std.proofs.Common.{sym, ◌∙◌, arith, SFits}
use Rattle.std.proofs.Math.Bool.{true, false}
use Rattle.std.proofs.Math.ListN.{length, length-drop}
use Rattle.std.specs.Int.{w32}
use Rattle.words.specs.Words.{word32}
use Rattle.buffer.specs.All.{All}
use Rattle.buffer.specs.AllLaws.{All-append}
use Rattle.buffer.specs.Ascii.{is_ascii}
use Rattle.buffer.specs.AsciiLaws.{ascii_if, ascii_of}
use Rattle.buffer.specs.BoolLaws.{true≢false, both, both_left, both_right}
use Rattle.words.specs.WordsLaws.{bytes_drop, number_fits}
use Rattle.profile.specs.Elements.{Entry, start, table, body, body_size, file_length, entries}
use Rattle.profile.specs.Plan.{Plan, Content, gray, rgb, xyb, kind, max_letters, GoodText, GoodWhite, GoodCicp, GoodContent, Wide}
use Rattle.profile.specs.PlanLaws.{plan_of_numbers, good_nines, slots_shape}
use Rattle.profile.specs.Numbers.{plan_of, numbers_with, numbers_for, text_for}
use Rattle.profile.specs.Layout.{elements, slots, profile_id, layout}
use Rattle.profile.specs.LayoutLaws.{length-id_for}
use Rattle.profile.specs.Shape.{is_gamma, has_cicp, is_adapted, shape_of, shape, slots_for, slots_of, mluc_size, NotBoth}
use Rattle.profile.specs.declared.Kind.{Kind}
use Rattle.profile.specs.declared.Kind.TheVariants.{Gray, Rgb, Xyb}
use Rattle.profile.specs.declared.Shape.{Shape}
use Rattle.profile.specs.declared.Numbers.{Numbers}
use Rattle.reader_spec.specs.Table.{varying_of, table_of, body_of, entries_of, line_in, absent}
use Rattle.reader_spec.specs.TableLaws.{rest_is}
use Rattle.reader_spec.specs.PlanIn
use Rattle.reader_spec.specs.PlanInLaws.{length-low, content_kind, shape_kind}
use Rattle.reader_spec.specs.FitsLaws.{Bytes, numbers_fit, curve_fits}
use Rattle.reader_spec.specs.FileLaws.{fours, small, drop-with_id}
use Rattle.reader_spec.specs.RefusalListLaws.{header_device, regions}
use Rattle.reader_spec.specs.Decide.{BodyIs}
use Rattle.reader_spec.specs.ShapeLaws.{entries_if}
use Rattle.reader_spec.specs.Steps.{Headed, Tabled, Candidate}
use Rattle.reader_spec.specs.StepsLaws.{laid_id}
use Rattle.reader_spec.specs.Tests.{cicp_good, letters_and_cicp_good}
use Rattle.reader_spec.specs.TestsLaws.{cicp_if, cicp_of_lem}

-- ---- the shape of what is read from a file is the shape by which it is read

gamma_in : (g : Bool) (b : List ℕ) → is_gamma (PlanIn.curve_in g b) ≡ g
gamma_in true b = refl
gamma_in false b = refl

cicp_in_lem : (v : Bool) (b : List ℕ) → has_cicp (PlanIn.cicp_in v b) ≡ v
cicp_in_lem true b = refl
cicp_in_lem false b = refl

adapted_in : (a : Bool) (e : ℕ → List ℕ) → is_adapted (PlanIn.white_in a e) ≡ a
adapted_in true e = refl
adapted_in false e = refl

-- its letters are as many as the shape says
abbrev Letters : Kind → Shape → (ℕ → List ℕ) → Type 0
Letters k s e = let n = PlanIn.free_letters k s.letters in length (PlanIn.text_in n (e 0)) ≡ n

shape_of_content : (k : Kind) (es : List Entry) (e : ℕ → List ℕ) → let s = PlanIn.shape_from k es in Letters k s e → shape_of (PlanIn.content_from k s e) ≡ s
unfolding PlanIn.content_from PlanIn.shape_from
shape_of_content Gray es e h =
    let s = PlanIn.shape_from Gray es in
    λ j. record { kind = Gray; letters = h j; gamma = gamma_in s.gamma (e (PlanIn.gray_curve_line s.adapted)) j; cicp = false; adapted = adapted_in s.adapted e j }
shape_of_content Rgb es e h =
    let s = PlanIn.shape_from Rgb es in
    λ j. record { kind = Rgb; letters = h j; gamma = gamma_in s.gamma (e (PlanIn.red_line_of s.cicp + 3)) j; cicp = cicp_in_lem s.cicp (e 4) j; adapted = false }
shape_of_content Xyb es e h = refl

-- ---- the text lies within the file

first_line_lem : (k : Kind) (s : Shape) (at : ℕ) → (get_or (entries at (slots_for k s)) 0 absent).offset ≡ at
unfolding entries
first_line_lem Gray s at = refl
first_line_lem Rgb s at = refl
first_line_lem Xyb s at = refl

first_fits : (k : Kind) (s : Shape) → mluc_size (PlanIn.free_letters k s.letters) ≤ body_size (slots_for k s)
unfolding body_size
first_fits Gray s = omega arith
first_fits Rgb s = omega arith
first_fits Xyb s = omega arith

module _ (s : Shape) (f : List ℕ) (t : Tabled s f) where
  tabled_entries : entries_of f ≡ entries (start (slots_of s)) (slots_of s)
  tabled_entries = entries_if f t.headed.sized.long s t.table_is.good.short t.table_is.table

  pub text_within : (line_in f 0).offset + mluc_size (PlanIn.free_letters s.kind s.letters) ≤ length f
  unfolding slots_of file_length
  text_within =
      let first : (line_in f 0).offset ≡ start (slots_of s) = rw tabled_entries (first_line_lem s.kind s (start (slots_of s))) in
      omega (arith, first, first_fits s.kind s, t.table_is.length-is)

  pub letters_are : Letters s.kind s (PlanIn.element_in f)
  unfolding PlanIn.text_in
  letters_are =
      let room : 2 * PlanIn.free_letters s.kind s.letters ≤ length (drop 28 (PlanIn.element_in f 0)) = simp length-drop (omega (arith, text_within)) in
      length-low (PlanIn.free_letters s.kind s.letters) (drop 28 (PlanIn.element_in f 0)) room

-- ---- what is read from a file is a plan but for its letters, its `cicp` value and the range of its numbers

good_cicp : (g v : Bool) (b d : List ℕ) → NotBoth v g → cicp_good (PlanIn.cicp_in v d) ≡ true → GoodCicp (PlanIn.curve_in g b) (PlanIn.cicp_in v d)
good_cicp true true b d h e = absurd h
good_cicp false true b d h e = cicp_if (PlanIn.name_by (word32 (drop 12 b))) (PlanIn.cicp_in true d) e
good_cicp g false b d h e = tt

good_text : (n : ℕ) (t : List ℕ) → 1 ≤ n → n ≤ max_letters → length t ≡ n → is_ascii t ≡ true → GoodText t
good_text n t p q h e = record { some-letter = rw h p; short = rw h q; ascii = ascii_if t e }

module _ (s : Shape) (e : ℕ → List ℕ) (bytes : (i : ℕ) → Bytes (e i)) (some-letter : 1 ≤ s.letters) (short : s.letters ≤ max_letters)
    (pair : NotBoth s.cicp s.gamma) where
  good_white : (a : Bool) → GoodWhite (SFits w32) (PlanIn.white_in a e)
  unfolding PlanIn.numbers_from
  good_white true = (refl, numbers_fit 9 (drop 8 (e 3)) (bytes_drop 8 (e 3) (bytes 3)))
  good_white false = (number_fits (drop 8 (e 2)) (bytes_drop 8 (e 2) (bytes 2)), number_fits (drop 16 (e 2)) (bytes_drop 16 (e 2) (bytes 2)))

  good_content : (k : Kind) (a b i : ℕ) → Letters k s e
      → letters_and_cicp_good (numbers_with a b (numbers_for i (PlanIn.content_from k s e))) (text_for (PlanIn.content_from k s e)) ≡ true
      → GoodContent (SFits w32) (PlanIn.content_from k s e)
  unfolding PlanIn.content_from PlanIn.numbers_from letters_and_cicp_good
  good_content Gray a b i n h =
      let line : ℕ = PlanIn.gray_curve_line s.adapted in
      record {
        text = good_text s.letters _ some-letter short n (both_left (is_ascii (PlanIn.text_in s.letters (e 0))) _ h);
        curve = curve_fits s.gamma (e line) (bytes line);
        white = good_white s.adapted;
      }
  good_content Rgb a b i n h =
      let red : ℕ = PlanIn.red_line_of s.cicp in
      let column : (i : ℕ) → All (SFits w32) (PlanIn.numbers_in 3 (e i)) = λ i. numbers_fit 3 (drop 8 (e i)) (bytes_drop 8 (e i) (bytes i)) in
      record {
        text = good_text s.letters _ some-letter short n (both_left (is_ascii (PlanIn.text_in s.letters (e 0))) _ h);
        curve = curve_fits s.gamma (e (red + 3)) (bytes (red + 3));
        chad_nine = refl;
        chad = numbers_fit 9 (drop 8 (e 3)) (bytes_drop 8 (e 3) (bytes 3));
        columns_nine = refl;
        columns = All-append (column red) (All-append (column (red + 1)) (column (red + 2)));
        cicp = good_cicp s.gamma s.cicp _ (e 4) pair (both_right (is_ascii (PlanIn.text_in s.letters (e 0))) _ h);
      }
  good_content Xyb a b i n h = tt

content_good : (N : ℤ → Type 0) (a b i : ℕ) (c : Content) → GoodContent N c → letters_and_cicp_good (numbers_with a b (numbers_for i c)) (text_for c) ≡ true
unfolding letters_and_cicp_good
content_good N a b i (gray g) h = both (ascii_of h.text.ascii) refl
content_good N a b i (rgb g) h = both (ascii_of h.text.ascii) (cicp_of_lem g.curve g.cicp h.cicp)
content_good N a b i xyb h = unfold is_ascii in refl

-- ---- a file against the layout of its candidate

drop-layout : (p : Plan) → Wide p → drop (start (slots p)) (layout p) ≡ body (elements p)
unfolding layout
drop-layout p w = drop-with_id (SFits w32) p w _ (length-id_for p)

module _ (f : List ℕ) (p : Numbers) (t : List ℕ) (c : Candidate f p t) where
  abbrev plan : Plan
  plan = PlanIn.plan_in f

  pub plan_is : plan_of p t ≡ plan
  unfolding PlanIn.plan_in
  plan_is = ap₂ plan_of c.numbers c.text ∙ plan_of_numbers plan

  kind_is : (PlanIn.shape_in f).kind ≡ PlanIn.kind_from f
  unfolding PlanIn.shape_in
  kind_is = shape_kind (PlanIn.kind_from f) (entries_of f)

  pub shape_is : shape plan ≡ PlanIn.shape_in f
  unfolding PlanIn.plan_in PlanIn.shape_in
  shape_is =
      let s : Shape = PlanIn.shape_from (PlanIn.kind_from f) (entries_of f) in
      let letters : Letters (PlanIn.kind_from f) s (PlanIn.element_in f) =
      subst (λ k. Letters k s (PlanIn.element_in f)) kind_is (letters_are (PlanIn.shape_in f) f c.tabled)
      in
      ap (λ k. shape_of (PlanIn.content_from k s (PlanIn.element_in f))) kind_is ∙ shape_of_content (PlanIn.kind_from f) (entries_of f) (PlanIn.element_in f) letters

  -- a wrong letter or `cicp` value
  pub wrong_letters : letters_and_cicp_good p t ≡ false → ¬ (BodyIs plan f)
  wrong_letters e b =
      let good : letters_and_cicp_good p t ≡ true = rw (c.numbers, c.text) (content_good (SFits w32) plan.maker plan.model plan.intent plan.content b.good) in
      true≢false (sym good ∙ e)

  module _ (bytes : Bytes f) (good : letters_and_cicp_good p t ≡ true) where
    pub content : GoodContent (SFits w32) plan.content
    unfolding PlanIn.plan_in
    content =
        let s : Shape = PlanIn.shape_in f in
        let shape-good = c.tabled.table_is.good in
        good_content s (PlanIn.element_in f) (λ i. bytes_drop (line_in f i).offset f bytes) shape-good.some-letter shape-good.short shape-good.pair
        s.kind plan.maker plan.model plan.intent (letters_are s f c.tabled) (rw (c.numbers, c.text) at good)

    kind_of_lem : kind plan ≡ (PlanIn.shape_in f).kind
    unfolding PlanIn.plan_in
    kind_of_lem = content_kind (PlanIn.shape_in f).kind (PlanIn.shape_in f) (PlanIn.element_in f)

    headed : Headed (kind plan) f
    headed = subst (λ k. Headed k f) (sym kind_of_lem) c.tabled.headed

    intent_is : (varying_of f).intent ≡ plan.intent
    unfolding PlanIn.plan_in
    intent_is = refl

    maker_is : (varying_of f).maker ≡ plan.maker
    unfolding PlanIn.plan_in
    maker_is = refl

    model_is : (varying_of f).model ≡ plan.model
    unfolding PlanIn.plan_in
    model_is = refl

    wide : Wide plan
    wide =
        let fits = header_device f (record { long = headed.sized.long }) (kind plan) headed.header in
        record { intent = rw (← intent_is) headed.intent; maker = rw (← maker_is) fits.0; model = rw (← model_is) fits.1; content = content }

    pub same_slots : slots plan ≡ slots_of (PlanIn.shape_in f)
    same_slots = slots_shape plan (good_nines (SFits w32) plan.content content) ∙ ap slots_of shape_is

    table_is : table_of f ≡ table (slots plan)
    table_is = c.tabled.table_is.table ∙ ap table (sym same_slots)

    -- elements and padding start where the plan's do
    body_start : body_of f ≡ drop (start (slots plan)) f
    body_start =
        let here : drop 128 f ≡ table (slots plan) ++ body_of f =
        regions f (record { long = headed.sized.long }) ∙ ap (λ x. x ++ body_of f) table_is
        in
        sym (rest_is f (slots plan) (body_of f) here (fours (SFits w32) plan wide) (small (SFits w32) plan wide))

    pub body_if : drop (start (slots plan)) f ≡ drop (start (slots plan)) (layout plan) → BodyIs plan f
    body_if e = record { good = content; table = table_is; body = body_start ∙ e ∙ drop-layout plan wide }

    pub body_of_lem : BodyIs plan f → drop (start (slots plan)) f ≡ drop (start (slots plan)) (layout plan)
    body_of_lem b = sym body_start ∙ b.body ∙ sym (drop-layout plan wide)

    -- the id in the layout is that of the file
    pub id_laid : BodyIs plan f → take 16 (drop 84 (layout plan)) ≡ profile_id f
    unfolding varying_of PlanIn.plan_in
    id_laid b =
        laid_id (kind plan) f plan headed wide (record { header = headed.header; maker = maker_is; model = model_is; intent = intent_is; table = b.table; body = b.body })
