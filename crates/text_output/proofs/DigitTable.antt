-- A table of digits is compared with their definition at each of them, by computing.
use Rattle.std.proofs.Common.{◌+◌, ◌*◌, ◌/◌, ◌%◌, ◌≡◌, ℕ, zero, suc, ◌<◌, Bool, true, false, ◌&&◌, ◌==◌, get_or, List, refl, arith, inl, inr}
use Rattle.std.proofs.lemmas.Bool.{cases_eq, eqb-true}
use Rattle.std.specs.Fmt.{digit_glyph}

-- the table contains the two digits of each number below n
unfoldable pub are_pairs : List ℕ → ℕ → Bool
are_pairs table zero = true
are_pairs table (suc n) =
    ((get_or table (2 * n) 0 == digit_glyph true (n / 16)) && (get_or table (2 * n + 1) 0 == digit_glyph true (n % 16))) && are_pairs table n

both_of : (x rest : Bool) → (x && rest) ≡ true → (x ≡ true) × (rest ≡ true)
both_of true rest h = (refl, h)
both_of false rest h = cc

pub pair_at : (table : List ℕ) (n : ℕ) → are_pairs table n ≡ true → (c : ℕ) → c < n
    → (get_or table (2 * c) 0 ≡ digit_glyph true (c / 16)) × (get_or table (2 * c + 1) 0 ≡ digit_glyph true (c % 16))
unfolding are_pairs
pair_at table zero h c lt = absurd (omega arith)
pair_at table (suc n) h c lt =
    let both = both_of _ (are_pairs table n) h in
    let here = both_of (get_or table (2 * n) 0 == digit_glyph true (n / 16)) (get_or table (2 * n + 1) 0 == digit_glyph true (n % 16)) both.0 in
    elim (cases_eq c n) [
      | inl same ↦ rw same (eqb-true _ _ here.0, eqb-true _ _ here.1)
      | inr other ↦ pair_at table n both.1 c (omega arith)
    ]
