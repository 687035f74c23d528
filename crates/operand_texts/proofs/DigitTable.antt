-- A table of hexadecimal digits is compared with their values at each byte, by computing.
use Rattle.std.proofs.Common.{◌≡◌, ℕ, zero, suc, ◌<◌, Bool, true, false, ◌&&◌, ◌==◌, get_or, List, min, refl, arith, inl, inr}
use Rattle.std.proofs.lemmas.Bool.{cases_eq, eqb-true}
use Rattle.std.specs.Char.{digit_value}
use Rattle.std.specs.Int.RustNames.{bit_and}

-- what a table contains for a byte
abbrev pub digit_in : List ℕ → ℕ → ℕ
digit_in table c = bit_and (get_or table c 0) 31

-- the table contains the value of each byte below n
unfoldable pub are_digits : List ℕ → ℕ → Bool
are_digits table zero = true
are_digits table (suc n) = (digit_in table n == min (digit_value n) 16) && are_digits table n

both_of : (x rest : Bool) → (x && rest) ≡ true → (x ≡ true) × (rest ≡ true)
both_of true rest h = (refl, h)
both_of false rest h = cc

pub digit_at : (table : List ℕ) (n : ℕ) → are_digits table n ≡ true → (c : ℕ) → c < n → digit_in table c ≡ min (digit_value c) 16
unfolding are_digits
digit_at table zero h c lt = absurd (omega arith)
digit_at table (suc n) h c lt =
    let both = both_of (digit_in table n == min (digit_value n) 16) (are_digits table n) h in
    elim (cases_eq c n) [
      | inl same ↦ rw same (eqb-true _ _ both.0)
      | inr other ↦ digit_at table n both.1 c (omega arith)
    ]
