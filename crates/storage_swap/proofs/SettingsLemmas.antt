-- The pages of the two regions, and what the first storage is on the plain machine.
use Rattle.std.proofs.Common.{◌≡◌, ℕ, ◌/◌, ◌%◌, ◌<◌, ◌≤◌, Bool, true, false, ◌&&◌, ◌==◌, if◌then◌else◌, List, [], ◌∷◌, length, Option, None, Some, refl, ap, arith}
use Rattle.std.specs.Prelude.{nat_le}
use Rattle.std.proofs.lemmas.Bool.{leb-true, eqb-true}
use Rattle.vsm_model.specs.declared.Subpool.{Subpool}
use Rattle.vsm_model.specs.declared.limits.Settings.{Settings}
use Rattle.vsm_model.specs.Regions.{settings_valid, size_valid}
use Rattle.vsm_model.specs.Search.{holds}
use Rattle.vsm_model.specs.CellPools.{CellPools}
use Rattle.storage_changes.specs.NamedPools.{AreNamed}
use Rattle.storage_changes.specs.PoolTable.{cell_pools_in}
use Rattle.storage_changes.specs.TableLaws.{RowsAreCounted}
use Rattle.subpool_storage.specs.Subpools.{no_subpools, with_own, is_there}
use Rattle.storage_changes.specs.Meaning.{first_of, all_subpools, subpool_of, is_taken}
use Rattle.storage_changes.proofs.Cases.{and-left, and-right}
use Rattle.storage_swap.specs.Fresh.{first_storage, FirstIsFirst}

size-pages : (most size : ℕ) → size_valid most size ≡ true → (0 < size / 4) × (size / 4 ≤ most / 4)
size-pages most size h =
    let low : 4 ≤ size = leb-true 4 size (and-left (nat_le 4 size) (nat_le size most) (and-left (nat_le 4 size && nat_le size most) ((size % 4) == 0) h)) in
    let high : size ≤ most = leb-true size most (and-right (nat_le 4 size) (nat_le size most) (and-left (nat_le 4 size && nat_le size most) ((size % 4) == 0) h)) in
    (omega (arith, low), omega (arith, high))

module _ (settings : Settings) (h : settings_valid settings ≡ true) where
  sizes : (size_valid 16360 settings.low_k && size_valid 1572864 settings.high_k) ≡ true
  sizes = and-left (size_valid 16360 settings.low_k && size_valid 1572864 settings.high_k) (nat_le 1 settings.history && nat_le settings.history 65536) h

  pub low-pages : (0 < settings.low_k / 4) × (settings.low_k / 4 ≤ 4090)
  low-pages = size-pages 16360 settings.low_k (and-left (size_valid 16360 settings.low_k) (size_valid 1572864 settings.high_k) sizes)

  pub high-pages : (0 < settings.high_k / 4) × (settings.high_k / 4 ≤ 393216)
  high-pages = size-pages 1572864 settings.high_k (and-right (size_valid 16360 settings.low_k) (size_valid 1572864 settings.high_k) sizes)

-- the first storage on the plain machine

first-none : {A : Type 0} (xs : List A) → first_of {A = A} (λ x. false) xs ≡ None
first-none [] = refl
first-none {A = A} (x ∷ xs) = first-none {A = A} xs

no-page : (settings : Settings) (page : ℕ) → subpool_of (first_storage settings).subpools page ≡ None
no-page settings page = first-none all_subpools

own-there : (number owner : ℕ) → is_there (with_own no_subpools (record { number = 0; owner = 1 }) true) (record { number = number; owner = owner }) ≡ ((number == 0) && (owner == 1))
own-there number owner = go (owner == 1) (number == 0) refl where
  go : (a b : Bool) → (owner == 1) ≡ a → holds (λ o. o == owner) (if a && b then Some 1 else None) ≡ (b && a)
  go true true e = (let q : owner ≡ 1 = eqb-true owner 1 e in ap (λ (o : ℕ). 1 == o) q)
  go true false e = refl
  go false true e = refl
  go false false e = refl

-- if there is no cell pool, their table has no row
no-rows : RowsAreCounted → cell_pools_in (λ id. None) ≡ []
no-rows counted = go (cell_pools_in (λ id. None)) (counted (λ id. None) [] none-named (λ id. refl) (λ i j d before within. absurd (omega (arith, within)))) where
  none-named : AreNamed (λ id. None)
  none-named = record { ids = λ id p e. cc; high = λ id p e. cc; once = λ i j p q e f same. cc; cells = λ id p e. cc }

  go : (rows : CellPools) → length rows ≡ 0 → rows ≡ []
  go [] e = refl
  go (row ∷ rows) e = absurd (omega (arith, e))

pub first-is-first : RowsAreCounted → FirstIsFirst
first-is-first counted settings = λ i. record {
  current = 1;
  parents = λ task. if task == 1 then Some 0 else None;
  words = λ task register. 0;
  subpools = λ number owner. own-there number owner i;
  sight = λ task number. if (task == 1) && (number == 0) then Some 1 else None;
  pages = λ page. no-page settings page i;
  taken = λ d. taken-none d i;
  bytes = λ address. None;
  cell_pools = no-rows counted i;
} where
  taken-none : (d : ℕ) → is_taken (first_storage settings).subpools (subpool_of (first_storage settings).subpools (d / 512)) d ≡ false
  taken-none d = ap (λ (p : Option Subpool). is_taken (first_storage settings).subpools p d) (no-page settings (d / 512))
