-- The header as `header_is` lays it: into an array of its length, then the intent and the id. Assumes nothing.
use Prim.Native.Nat.{ℕ}
use mathlib.Core.Path.{◌≡◌, refl, sym, ap, ◌∙◌}
use mathlib.Core.List.{List, [], ◌++◌, append-nil}
use lib.ListN.{length}
use Rattle.words.specs.Words.{be32}
use Rattle.buffer.specs.Buffer.{put}
use Rattle.buffer.specs.BufferLaws.{put_whole}
use Rattle.buffer.specs.Bytes.{zeros}
use Rattle.profile.specs.declared.Kind.{Kind}
use Rattle.profile.specs.Elements.{header_size}
use Rattle.profile.specs.Layout.{Varying, header, blank_header}
use Rattle.profile.specs.LayoutLaws.{with_intent, length-header, header_put_intent, header_put_id}

fills : (k : Kind) (v : Varying) → length v.id ≡ 16 → put (zeros header_size) 0 (header k v) ≡ header k v ++ []
fills k v h = put_whole (zeros header_size) (header k v) (length-header k v h) ∙ sym (append-nil _)

pub laid : (k : Kind) (n a b i : ℕ) (d : List ℕ) → length d ≡ 16
    → put (put (put (zeros header_size) 0 (blank_header k n a b)) 64 (be32 i)) 84 d ≡ header k (record { size = n; maker = a; model = b; intent = i; id = d })
laid k n a b i d h =
    let v : Varying = record { size = n; maker = a; model = b; intent = 0; id = zeros 16 } in
    ap (λ (l : List ℕ). put (put l 64 (be32 i)) 84 d) (fills k v refl)
    ∙ ap (λ (l : List ℕ). put l 84 d) (header_put_intent k v i [])
    ∙ header_put_id k (with_intent i v) d [] refl h
    ∙ append-nil _
