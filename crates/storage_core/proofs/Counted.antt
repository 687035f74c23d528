-- How many elements a reserved change has.
use Rattle.std.proofs.Common.{◌≡◌, ℕ, zero, suc, ◌+◌, ◌*◌, ◌≤◌, List, [], ◌∷◌, ◌++◌, length, Option, Some, None, Result, Ok, Err, IfOk, refl, ap, ◌∙◌, arith}
use Rattle.std.proofs.lemmas.List.{length-map, length-append}
use Rattle.run_set.specs.Runs.{Run}
use Rattle.vsm_model.specs.declared.Subpool.{Subpool}
use Rattle.vsm_elements.specs.Store.{Store}
use Rattle.vsm_elements.specs.Chain.{element, follow, links}
use Rattle.vsm_elements.specs.declared.chain.Chain.{Chain}
use Rattle.subpool_storage.specs.Extents.{extents}
use Rattle.subpool_storage.specs.Subpools.{Subpools}
use Rattle.storage_changes.specs.declared.record.Record.{Record}
use Rattle.storage_changes.specs.Changes.{Change as Meaning, unassigned_records, change_from, change_of, no_pages}
use Rattle.storage_swap.specs.declared.storage.Parts.{Parts}
use Rattle.storage_swap.specs.declared.change.Change.{Change}
use Rattle.storage_swap.specs.Beside.{record_at, records_of}
use Rattle.storage_swap.specs.Reserve.{Reserves, elements_for}
use Rattle.storage_swap.specs.Growth.{MakesElements}
use Rattle.storage_core.specs.Planned.{extents_leaving}

follow-length : (s : Store) (id n : ℕ) → length (follow s id n) ≡ n
follow-length s id zero = refl
follow-length s id (suc n) = ap suc (follow-length s ((element s id).next) n)

pub records-length : (s : Store) (c : Chain) → length (records_of s c) ≡ c.count
records-length s c = length-map (links s c) record_at ∙ follow-length s c.first c.count

unassigned-length : (rs : List Run) → length (unassigned_records rs) ≡ length rs
unassigned-length [] = refl
unassigned-length (r ∷ rs) = ap suc (unassigned-length rs)

-- a change that was reserved has the elements that it means
pub reserved_count : (p t : Parts) (d : Meaning) (c : Change) → Reserves p d c t → c.records.count + c.blanks ≡ length d.records + d.blanks
reserved_count p t d c made =
    let same_records : length (records_of t.elements c.records) ≡ length d.records = ap (λ (x : Meaning). length x.records) made.meaning in
    let same_blanks : c.blanks ≡ d.blanks = ap (λ (x : Meaning). x.blanks) made.meaning in
    omega (arith, records-length t.elements c.records, same_records, same_blanks)

-- of a change with at most 8 records of its own
few_from : (m : Subpools) (emptied : Option Subpool) (records : List Record) (blanks : ℕ) (fresh : Run) → length records ≤ 8 →
    length (change_from m emptied records blanks fresh).records + (change_from m emptied records blanks fresh).blanks ≤ 25 + blanks + 8 * extents_leaving m emptied
few_from m None records blanks fresh few = let h : length records + blanks ≤ 25 + blanks + 8 * 0 = omega (arith, few) in h
few_from m (Some p) records blanks fresh few =
    let n = length (extents m p) in
    let h : suc (length (unassigned_records (extents m p) ++ records)) + (n + blanks) ≤ 25 + blanks + 8 * n =
    omega (arith, few, length-append (unassigned_records (extents m p)) records, unassigned-length (extents m p)) in
    h

pub few_answered : {E : Type 0} (p t : Parts) (m : Subpools) (emptied : Option Subpool) (records : List Record) (blanks : ℕ) (fresh : Run) (r : Result Change E) →
    IfOk r (λ c. Reserves p (change_from m emptied records blanks fresh) c t) → length records ≤ 8 →
    IfOk r (λ c. c.records.count + c.blanks ≤ 25 + blanks + 8 * extents_leaving m emptied)
few_answered p t m emptied records blanks fresh (Ok c) made few =
    omega (arith, few_from m emptied records blanks fresh few, reserved_count p t (change_from m emptied records blanks fresh) c made)
few_answered p t m emptied records blanks fresh (Err e) made few = made

-- of one with only records
pub few_records : {E : Type 0} (p t : Parts) (records : List Record) (r : Result Change E) → IfOk r (λ c. Reserves p (change_of records 0 no_pages) c t) → length records ≤ 17 → IfOk r (λ c. c.records.count + c.blanks ≤ 17)
few_records p t records (Ok c) made few = omega (arith, few, reserved_count p t (change_of records 0 no_pages) c made)
few_records p t records (Err e) made few = made

-- and with what it has parked
pub needed_for : (m : Subpools) (emptied : Option Subpool) (n blanks : ℕ) → n ≤ 8 → elements_for m emptied n blanks ≤ 25 + blanks + 8 * extents_leaving m emptied
needed_for m None n blanks few = let h : n + blanks ≤ 25 + blanks + 8 * 0 = omega (arith, few) in h
needed_for m (Some p) n blanks few = omega (arith, few)

-- of what is used, only that it's within a bound
pub uses_within : {E C : Type 0} (old new n most : ℕ) → n ≤ most → (r : Result C E) → IfOk r (λ _. old ≤ new + n) → IfOk r (λ _. old ≤ new + most)
uses_within old new n most within (Ok c) used = omega (arith, within, used)
uses_within old new n most within (Err e) used = used

-- the same of what is made
pub makes_within : (old new : Store) (n most : ℕ) → n ≤ most → MakesElements old new n → MakesElements old new most
makes_within old new n most within made = omega (arith, within, made)
