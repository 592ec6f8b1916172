-- The one number that a C call answers tells the answer: the calls refuse by numbers up to 99, and what they write has at least 284 bytes.
-- Assumes nothing.
use Rattle.std.specs.Prelude.{ℕ, ◌≤◌, ◌≡◌, refl, List, length}
use Rattle.std.proofs.Common.{ap, arith, le-leb, lit≤}
use Rattle.std.proofs.lemmas.Bool.{lt-leb}
use Rattle.buffer.specs.Checked.{Checked, is, refused}
use Rattle.buffer.specs.CheckedLaws.{Refusing, by_then}
use Rattle.profile.specs.Shape.{min_length}
use Rattle.reader_spec.specs.RefusalList as Reader
use Rattle.reader_spec.specs.RefusalListLaws.{number_bounds}
use Rattle.reader_spec.proofs.Accepts.{accepted_owned}
use Rattle.app2.specs.Segments.{bytes}
use Rattle.app2.specs.Joining.{joined}
use Rattle.app2.specs.App2
use Rattle.app2.proofs.ChecksLaws.{accepted_refusing, sized_refusing, complete_refusing, fitting_refusing}
use Rattle.app2.proofs.SegmentsLaws.{length-segments}
use Rattle.app2.proofs.RoundTrip.{written_is, joined_is}

-- ---- the refusal numbers

abbrev pub Low : ℕ → Type 0
Low k = k ≤ 99

reader_low : (c : Reader.Check) → Low (Reader.number c)
reader_low c = omega (arith, (number_bounds c).1)

-- ---- the answers

told : (c : Checked (List ℕ)) → ((l : List ℕ) → c ≡ is l → min_length ≤ length l) → Refusing Low c → App2.output_by (App2.number (App2.answer c)) ≡ App2.answer c
told (is l) long low = rw (lt-leb (length l) 99 (omega (arith, long l refl)))
told (refused k) long low = rw (le-leb k 99 low)

pub written_told : (f : List ℕ) (n room : ℕ) →
    let c = App2.written_segments f n room in
    App2.output_by (App2.number (App2.answer c)) ≡ App2.answer c
unfolding App2.written_segments
written_told f n room =
    told _ long
    (by_then Low (App2.accepted_file f) _ (accepted_refusing Low reader_low f)
    (λ g. by_then Low (App2.sized_segments n g) _ (sized_refusing Low (lit≤ tt) n g) (λ ss. fitting_refusing Low (lit≤ tt) room (bytes ss))))
  where
    long : (l : List ℕ) → App2.written_segments f n room ≡ is l → min_length ≤ length l
    long l e =
        let w = written_is f n room l e in
        omega (arith, ap length w.bytes_are, length-segments n f w.named.low, (accepted_owned f w.plan w.read_is).1)

pub joined_told : (b : List ℕ) (room : ℕ) →
    let c = App2.joined_file b room in
    App2.output_by (App2.number (App2.answer c)) ≡ App2.answer c
unfolding App2.joined_file
joined_told b room =
    told _ long
    (by_then Low (App2.complete_segments b) _ (complete_refusing Low (lit≤ tt) b)
    (λ ss. by_then Low (App2.fitting room (joined ss)) _ (fitting_refusing Low (lit≤ tt) room (joined ss)) (accepted_refusing Low reader_low)))
  where
    long : (l : List ℕ) → App2.joined_file b room ≡ is l → min_length ≤ length l
    long l e = let j = joined_is b room l e in (accepted_owned l j.plan j.read_is).1
