-- Order 4 from C: what `merqyduk_write_segments` wrote, `merqyduk_join_segments` joins to the file, in any order of the segments; what it joins is a file that
-- the reader accepts; when a number is answered; and a refusal leaves the output as it was. Assumes nothing.
use Rattle.std.specs.Prelude.{ℕ, ◌≤◌, ◌≡◌, ◌↔◌, List, length, take, drop}
use Rattle.std.proofs.Common.{ap, ◌∙◌, arith}
use Rattle.buffer.specs.Checked.{Checked, is, refused}
use Rattle.profile.specs.Plan.{Plan}
use Rattle.profile.specs.Shape.{min_length}
use Rattle.reader_spec.specs.RefusalList.{accepted}
use Rattle.reader_spec.specs.Read.{read}
use Rattle.app2.specs.Segments.{Segment, bytes, segments}
use Rattle.app2.specs.Permutation.{Permutation}
use Rattle.app2.specs.App2 as App2
use Rattle.app2.specs.App2.{number, answer, max_data, written_segments, joined_file}
use Rattle.app2.proofs.RoundTrip.{round_trip, joins_back, joined_is}
use Rattle.host.specs.Host.{GivesNumber}
use Rattle.demands.specs.SegmentsInCLaws.{wrote, refused_with_lem, put_parts}

-- `merqyduk_write_segments` ensures that it answers r for the file f and the size n, and that the output that it was lent holds `after` at exit, `before` at entry
abbrev pub WritesInC : List ℕ → ℕ → List ℕ → List ℕ → ℕ → Type 0
WritesInC f n before after r = GivesNumber (written_segments f n (length before)) before after r

-- `merqyduk_join_segments` ensures the same for the segments b
abbrev pub JoinsInC : List ℕ → List ℕ → List ℕ → ℕ → Type 0
JoinsInC b before after r = GivesNumber (joined_file b (length before)) before after r

-- the file stands at the front of the output, and the rest is as it was
pub record HoldsFile (f before after : List ℕ) (r : ℕ) : Type 0 where
  pub answer : r ≡ length f
  pub front : take r after ≡ f
  pub rest : drop r after ≡ drop r before

joined_file_lem : (b f before after : List ℕ) (r : ℕ) → joined_file b (length before) ≡ is f → JoinsInC b before after r → HoldsFile f before after r
joined_file_lem b f before after r e j =
    let n : r ≡ length f = j.answer ∙ ap (λ c. number (answer c)) e in
    let out = j.output ∙ ap (λ c. App2.output c before) e in
    let parts = put_parts before f r n in
    record { answer = n; front = ap (take r) out ∙ parts.0; rest = ap (drop r) out ∙ parts.1 }

-- ---- there and back

-- what was written is joined to the bytes that went out
pub round-trip_in_c : (f : List ℕ) (n : ℕ) (before after : List ℕ) (r : ℕ) → WritesInC f n before after r → min_length ≤ r
    → (out out' : List ℕ) (k : ℕ) → JoinsInC (take r after) out out' k → length f ≤ length out → HoldsFile f out out' k
round-trip_in_c f n before after r w h out out' k j room =
    let w = wrote _ before after r w h in
    let same : take r after ≡ w.written = ap (take r) w.output ∙ (put_parts before w.written r w.length-is).0 in
    joined_file_lem (take r after) f out out' k (ap (λ (b : List ℕ). joined_file b (length out)) same ∙ round_trip f n (length before) w.written w.gives (length out) room) j

-- the segments of a file that the reader accepts, whatever their size and order
pub any_order_in_c : (f : List ℕ) (p : Plan) → read f ≡ accepted p → (n : ℕ) → 1 ≤ n → n ≤ max_data → (ss : List Segment) → Permutation (segments n f) ss
    → (out out' : List ℕ) (k : ℕ) → JoinsInC (bytes ss) out out' k → length f ≤ length out → HoldsFile f out out' k
any_order_in_c f p r n low high ss order out out' k j room = joined_file_lem (bytes ss) f out out' k (joins_back f p r n low high ss order (length out) room) j

-- ---- what is joined

-- a file that the reader accepts
pub joined_in_c : (b before after : List ℕ) (r : ℕ) → JoinsInC b before after r → min_length ≤ r → (p : Plan) × (read (take r after) ≡ accepted p)
joined_in_c b before after r j h =
    let w = wrote _ before after r j h in
    let is-file = joined_is b (length before) w.written w.gives in
    (is-file.plan, ap read (ap (take r) w.output ∙ (put_parts before w.written r w.length-is).0) ∙ is-file.read_is)

-- ---- refusals

-- a number up to 99 is answered exactly if the call gives that refusal; `refused_53`, `written_55`, `refused_54` and `joined_55` of `RoundTrip` say when
pub refused_exactly_in_c : (c : Checked (List ℕ)) (before after : List ℕ) (r k : ℕ) → GivesNumber c before after r → k ≤ 99 → (r ≡ k) ↔ (c ≡ refused k)
refused_exactly_in_c c before after r k g h = (
  λ same. (refused_with_lem c before after r g (omega arith)).0 ∙ ap refused same,
  λ e. g.answer ∙ ap (λ c. number (answer c)) e,
)

-- and leaves the output as it was
pub refused_in_c : (c : Checked (List ℕ)) (before after : List ℕ) (r : ℕ) → GivesNumber c before after r → r ≤ 99 → after ≡ before
refused_in_c c before after r g h = (refused_with_lem c before after r g h).1
