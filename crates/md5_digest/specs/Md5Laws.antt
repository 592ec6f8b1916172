-- What a caller needs to know of `md5` while it is shut: its length. Assumes nothing.
use Rattle.std.specs.Prelude.{◌≡◌, ℕ, List, length, refl}
use Rattle.md5_digest.specs.Md5.{md5}

pub length-md5 : (m : List ℕ) → length (md5 m) ≡ 16
unfolding md5
length-md5 m = refl
