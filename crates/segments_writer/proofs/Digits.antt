-- A quotient below 256, by its binary digits. Assumes nothing.
use Rattle.std.proofs.Common.{ℕ, zero, suc, ◌+◌, ◌-◌, ◌*◌, ◌<◌, ◌≤◌, ◌≡◌, List, [], ◌∷◌, get_or, refl, arith}

-- with `count` taken from `all`, and less than `last` of the size left
pub record Held (size all last left count : ℕ) : Type 0 where
  pub whole : left + count * size ≡ all
  pub small : left < last * size
  pub few : count + last ≤ 256

-- the next digit is half of the last
module _ {size all last left count : ℕ} (digit : ℕ) (half : last ≡ 2 * digit) (h : Held size all last left count) where
  twice : left < digit * size + digit * size
  twice = let small = rw half at h.small in omega arith

  pub taken : digit * size ≤ left → Held size all digit (left - digit * size) (count + digit)
  taken some = record { whole = omega (arith, h.whole); small = omega (arith, twice); few = omega (arith, h.few) }

  pub passed : left < digit * size → Held size all digit left count
  passed none = record { whole = h.whole; small = none; few = omega (arith, h.few) }

abbrev digits : List ℕ
digits = 128 ∷ 64 ∷ 32 ∷ 16 ∷ 8 ∷ 4 ∷ 2 ∷ 1 ∷ []

pub halves : (k : ℕ) → k < 8 → get_or (256 ∷ digits) k 0 ≡ 2 * get_or digits k 0
halves zero h = refl
halves (suc zero) h = refl
halves (suc (suc zero)) h = refl
halves (suc (suc (suc zero))) h = refl
halves (suc (suc (suc (suc zero)))) h = refl
halves (suc (suc (suc (suc (suc zero))))) h = refl
halves (suc (suc (suc (suc (suc (suc zero)))))) h = refl
halves (suc (suc (suc (suc (suc (suc (suc zero))))))) h = refl
halves (suc (suc (suc (suc (suc (suc (suc (suc k)))))))) h = absurd (omega arith)
