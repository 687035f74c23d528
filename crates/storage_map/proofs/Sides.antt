-- The sums of runs on both sides of the 16 MB line, as the totals of a map add them up.
use Rattle.std.proofs.Common.{◌≡◌, ℕ, ◌+◌, Bool, true, false, nat_lt, if◌then◌else◌, List, [], ◌∷◌, refl, ap, ◌∙◌, arith}
use Rattle.run_set.specs.Runs.{Run}
use Rattle.run_set.specs.Sums.{numbers_in, low_runs, high_runs, IsSidesOf}
use Rattle.run_set.specs.declared.sums.SideSums.{SideSums}
use Rattle.run_set.proofs.SumLemmas.{both_numbers}
use Rattle.storage_changes.specs.MapTotals.{sum_of, pages_on_side}

pub low_pages : (rs : List Run) → numbers_in (low_runs 4096 rs) ≡ sum_of (pages_on_side true) rs
low_pages [] = refl
low_pages (r ∷ rs) = go (nat_lt r.start 4096) (low_pages rs) where
  go : (b : Bool) → numbers_in (low_runs 4096 rs) ≡ sum_of (pages_on_side true) rs → numbers_in (if b then r ∷ low_runs 4096 rs else low_runs 4096 rs) ≡ (if b then r.len else 0) + sum_of (pages_on_side true) rs
  go true e = ap (λ (x : ℕ). r.len + x) e
  go false e = omega (arith, e)

pub high_pages : (rs : List Run) → numbers_in (high_runs 4096 rs) ≡ sum_of (pages_on_side false) rs
high_pages [] = refl
high_pages (r ∷ rs) = go (nat_lt r.start 4096) (high_pages rs) where
  go : (b : Bool) → numbers_in (high_runs 4096 rs) ≡ sum_of (pages_on_side false) rs → numbers_in (if b then high_runs 4096 rs else r ∷ high_runs 4096 rs) ≡ (if b then 0 else r.len) + sum_of (pages_on_side false) rs
  go true e = omega (arith, e)
  go false e = ap (λ (x : ℕ). r.len + x) e

numbers_are : (rs : List Run) → numbers_in rs ≡ sum_of (λ (r : Run). r.len) rs
numbers_are [] = refl
numbers_are (r ∷ rs) = ap (λ (x : ℕ). r.len + x) (numbers_are rs)

pub all_numbers : (line : ℕ) (rs : List Run) (s : SideSums) → IsSidesOf line rs s → s.low.total + s.high.total ≡ sum_of (λ (r : Run). r.len) rs
all_numbers line rs s h = omega (arith, h.low.total, h.high.total, both_numbers line rs, numbers_are rs)
