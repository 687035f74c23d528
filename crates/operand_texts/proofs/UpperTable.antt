-- A table of bytes in upper case is compared with their upper case at each byte, by computing.
use Rattle.std.proofs.Common.{◌≡◌, ℕ, zero, suc, ◌<◌, Bool, true, false, ◌&&◌, ◌==◌, get_or, List, refl, arith, inl, inr}
use Rattle.std.proofs.lemmas.Bool.{cases_eq, eqb-true}
use Rattle.std.specs.Char.{to_ascii_uppercase}

-- the table contains the upper case of each byte below n
unfoldable pub are_upper : List ℕ → ℕ → Bool
are_upper table zero = true
are_upper table (suc n) = (get_or table n 0 == to_ascii_uppercase n) && are_upper table n

both_of : (x rest : Bool) → (x && rest) ≡ true → (x ≡ true) × (rest ≡ true)
both_of true rest h = (refl, h)
both_of false rest h = cc

pub upper_at : (table : List ℕ) (n : ℕ) → are_upper table n ≡ true → (c : ℕ) → c < n → get_or table c 0 ≡ to_ascii_uppercase c
unfolding are_upper
upper_at table zero h c lt = absurd (omega arith)
upper_at table (suc n) h c lt =
    let both = both_of (get_or table n 0 == to_ascii_uppercase n) (are_upper table n) h in
    elim (cases_eq c n) [
      | inl same ↦ rw same (eqb-true _ _ both.0)
      | inr other ↦ upper_at table n both.1 c (omega arith)
    ]
