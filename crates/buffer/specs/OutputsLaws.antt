-- The promise of a call with a lent output: made for a value and for a refusal, and what it tells where the answer is known. Assumes nothing.
use Rattle.std.specs.Prelude.{ℕ, ◌≡◌}
use Rattle.std.proofs.Common.{sym, ap, ◌∙◌}
use Rattle.buffer.specs.Checked.{Checked, is, refused, value_or}
use Rattle.buffer.specs.Outputs.{Outputs}

module _ {A : Type 0} {expected : Checked A} where
  pub outputs_value : {before after : A} → expected ≡ is after → Outputs expected (is after) before after
  outputs_value {before} e = record { answer = sym e; output = sym (ap (value_or before) e) }

  pub outputs_refusal : {n : ℕ} {before : A} → expected ≡ refused n → Outputs expected (refused n) before before
  outputs_refusal {n} {before} e = record { answer = sym e; output = sym (ap (value_or before) e) }

-- `read` gives what an answer and the output say
pub expected_if :
    {R A : Type 0} (read : R → A → Checked A) {expected : Checked A} {r v : R} {before after : A} →
    Outputs expected (read r after) before after → r ≡ v → expected ≡ read v after
expected_if read {after = after} o e = sym o.answer ∙ ap (λ r. read r after) e
