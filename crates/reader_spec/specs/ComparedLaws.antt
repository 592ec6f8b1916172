-- What the reader answers to a file that is compared with the layout of the one plan that it can have. Assumes nothing.
use Rattle.std.specs.Prelude.{ℕ, ◌≡◌, refl, Bool, true, false, List, take, drop}
use Rattle.std.proofs.Common.{ap, sym, ◌∙◌, SFits}
use Rattle.std.proofs.Math.Path.{ap₂}
use Rattle.std.specs.Int.{w32}
use Rattle.buffer.specs.BoolLaws.{true≢false}
use Rattle.buffer.specs.Bytes.{zeros, same}
use Rattle.buffer.specs.BytesLaws.{same_if, same_of}
use Rattle.profile.specs.Elements.{start}
use Rattle.profile.specs.Numbers.{plan_of, numbers_of}
use Rattle.profile.specs.Layout.{slots, profile_id, layout}
use Rattle.profile.specs.Shape.{shape, slots_of}
use Rattle.profile.specs.declared.Numbers.{Numbers}
use Rattle.reader_spec.specs.Table.{varying_of}
use Rattle.reader_spec.specs.PlanIn.{plan_in}
use Rattle.reader_spec.specs.FitsLaws.{Bytes}
use Rattle.reader_spec.specs.RefusalList.{refused, c26, c27}
use Rattle.reader_spec.specs.Decide.{BodyIs}
use Rattle.reader_spec.specs.Read.{by_id, from_id, from_range, from_body}
use Rattle.reader_spec.specs.Steps.{Candidate}
use Rattle.reader_spec.specs.StepsLaws.{body_26, body_range, range_27, range_id}
use Rattle.reader_spec.specs.Tests.{letters_and_cicp_good, numbers_in_range}
use Rattle.reader_spec.specs.TestsLaws.{in_range_content, content_in_range}
use Rattle.reader_spec.specs.CandidateLaws.{plan_is, shape_is, wrong_letters, content, same_slots, body_if, body_of_lem, id_laid}

module _ (f : List ℕ) (p : Numbers) (t : List ℕ) (c : Candidate f p t) where
  -- a letter above 127 or another `cicp` value
  pub by_letters : letters_and_cicp_good p t ≡ false → from_body f ≡ refused c26
  by_letters e = body_26 (plan_in f) f refl (wrong_letters f p t c e)

  module _ (bytes : Bytes f) (good : letters_and_cicp_good p t ≡ true) where
    starts : start (slots_of (shape (plan_of p t))) ≡ start (slots (plan_in f))
    starts =
        ap (λ q. start (slots_of (shape q))) (plan_is f p t c)
        ∙ ap (λ s. start (slots_of s)) (shape_is f p t c) ∙ ap start (sym (same_slots f p t c bytes good))

    abbrev Same : Type 0
    Same =
        let at = start (slots_of (shape (plan_of p t))) in
        drop at f ≡ drop at (layout (plan_of p t))

    same_is : Same → BodyIs (plan_in f) f
    same_is e =
        let laid : drop (start (slots (plan_in f))) f ≡ drop (start (slots (plan_in f))) (layout (plan_in f)) = rw (starts, plan_is f p t c) at e in
        body_if f p t c bytes good laid

    is_same : BodyIs (plan_in f) f → Same
    is_same b = rw (starts, plan_is f p t c) (body_of_lem f p t c bytes good b)

    -- another byte in elements or padding
    pub by_elements : let at = start (slots_of (shape (plan_of p t))) in
        same (drop at f) (drop at (layout (plan_of p t))) ≡ false → from_body f ≡ refused c26
    by_elements e = body_26 (plan_in f) f refl (λ b. true≢false (sym (same_of (is_same b)) ∙ e))

    module _ (elements : let at = start (slots_of (shape (plan_of p t))) in same (drop at f) (drop at (layout (plan_of p t))) ≡ true) where
      body : BodyIs (plan_in f) f
      body = same_is (same_if _ _ elements)

      to_range : from_body f ≡ from_range f
      to_range = body_range (plan_in f) f refl body

      -- a number outside its range
      pub by_range : numbers_in_range p ≡ false → from_body f ≡ refused c27
      by_range e =
          to_range ∙ range_27 (plan_in f) f refl (λ h.
          true≢false (sym (content_in_range (plan_in f).maker (plan_in f).model (plan_in f).intent (plan_in f).content h) ∙ sym (ap numbers_in_range c.numbers) ∙ e))

      module _ (in_range_lem : numbers_in_range p ≡ true) where
        to_id : from_body f ≡ from_id f
        to_id =
            let h : numbers_in_range (numbers_of (plan_in f)) ≡ true = rw c.numbers at in_range_lem in
            to_range ∙ range_id (plan_in f) f refl (in_range_content (SFits w32) (plan_in f).maker (plan_in f).model (plan_in f).intent (plan_in f).content (content f p t c bytes good) h)

        laid : take 16 (drop 84 (layout (plan_of p t))) ≡ profile_id f
        laid = ap (λ q. take 16 (drop 84 (layout q))) (plan_is f p t c) ∙ id_laid f p t c bytes good body

        -- the id: the one in the layout, or zeros
        pub by_id_lem : {correct zero : Bool} → same (take 16 (drop 84 f)) (take 16 (drop 84 (layout (plan_of p t)))) ≡ correct → same (take 16 (drop 84 f)) (zeros 16) ≡ zero
            → from_body f ≡ by_id correct zero (plan_in f)
        unfolding from_id varying_of
        by_id_lem e z = to_id ∙ ap₂ (λ a b. by_id a b (plan_in f)) (ap (same (take 16 (drop 84 f))) (sym laid) ∙ e) z
