-- Rows of sight that are removed, and subpools that their owners no longer see.
use Rattle.std.proofs.Common.{◌≡◌, ◌≢◌, ℕ, ◌≤◌, Bool, true, false, ◌||◌, ◌==◌, if◌then◌else◌, List, [], ◌∷◌, Option, Some, None, refl, sym, ◌∙◌, ap, arith, true≢false}
use Rattle.std.specs.Prelude.{map}
use Rattle.std.specs.List.{list_any}
use Rattle.std.proofs.lemmas.Bool.{cond-false, and_parts, and_from, eqb-true, eq-eqb, false_from_ne_true}
use Rattle.vsm_model.specs.declared.Subpool.{Subpool}
use Rattle.vsm_model.specs.Search.{holds}
use Rattle.storage_changes.specs.State.{StorageState}
use Rattle.service_laws.proofs.Options.{none_some, same_some}
use Rattle.storage_changes.specs.Ending.{SightRow, unshared, removed}
use Rattle.storage_changes.proofs.EndEach.{Each, Apart, each_both}
use Rattle.storage_changes.proofs.EndSubpools.{IsAnother, is_row, IsOtherRow}
use Rattle.storage_changes.proofs.EndWalk.{LeadsOn, leads_nowhere, leads_first}

abbrev pub Sight : Type 0
Sight = ℕ → ℕ → Option ℕ

-- a state with other rows of sight
abbrev pub seeing : StorageState → Sight → StorageState
seeing m f = record m { subpools = record m.subpools { sight = f } }

abbrev pub without_row : Sight → ℕ → ℕ → Sight
without_row f task number t n = if is_row task number t n then None else f t n

-- rows of subpools and tasks are removed
abbrev pub without_rows : Sight → List SightRow → Sight
without_rows f [] = f
without_rows f (row ∷ rows) = without_rows (without_row f row.1 row.0.number) rows

abbrev pub is_among_rows : List SightRow → ℕ → ℕ → Bool
is_among_rows rows t n = list_any (λ row. is_row row.1 row.0.number t n) rows

one_or_more : {A : Type 0} (b c : Bool) (x y : A) → (if c then x else (if b then x else y)) ≡ (if b || c then x else y)
one_or_more true true x y = refl
one_or_more true false x y = refl
one_or_more false c x y = refl

pub without_rows_is : (f : Sight) (rows : List SightRow) (t n : ℕ) → without_rows f rows t n ≡ (if is_among_rows rows t n then None else f t n)
without_rows_is f [] t n = refl
without_rows_is f (row ∷ rows) t n =
    without_rows_is (without_row f row.1 row.0.number) rows t n
    ∙ one_or_more (is_row row.1 row.0.number t n) (is_among_rows rows t n) None (f t n)

-- the owner sees its subpool, and another task shares it
pub record IsShared (f : Sight) (row : SightRow) : Type 0 where
  pub owner_sees : f row.0.owner row.0.number ≡ Some row.0.owner
  pub seen : f row.1 row.0.number ≡ Some row.0.owner
  pub sharer : row.1 ≢ row.0.owner
  pub range : (1 ≤ row.1) × (row.1 ≤ 64)

-- a task that sees its own subpool has no row of another's that is removed
pub own_stays : (f : Sight) (row : SightRow) (p : Subpool) → IsShared f row → f p.owner p.number ≡ Some p.owner → is_row row.1 row.0.number p.owner p.number ≡ false
own_stays f row p shared sees = false_from_ne_true (is_row row.1 row.0.number p.owner p.number) (λ is.
    let parts = and_parts (p.owner == row.1) (p.number == row.0.number) is in
    let task = eqb-true p.owner row.1 parts.0 in
    let number = eqb-true p.number row.0.number parts.1 in
    let both : Some p.owner ≡ Some row.0.owner = sym sees ∙ (λ i. f (task i) (number i)) ∙ shared.seen in
    shared.sharer (sym task ∙ same_some p.owner row.0.owner both))

shared_still : (f : Sight) (row other : SightRow) → IsShared f row → IsOtherRow row other → IsShared f other → IsShared (without_row f row.1 row.0.number) other
shared_still f row other first apart shared = record {
  owner_sees =
      cond-false (is_row row.1 row.0.number other.0.owner other.0.number) None (f other.0.owner other.0.number) (own_stays f row other.0 first shared.owner_sees)
      ∙ shared.owner_sees;
  seen = cond-false (is_row row.1 row.0.number other.1 other.0.number) None (f other.1 other.0.number) apart ∙ shared.seen;
  sharer = shared.sharer;
  range = shared.range;
}

pub is_seen : (f : Sight) (p : Subpool) → f p.owner p.number ≡ Some p.owner → holds (λ owner. owner == p.owner) (f p.owner p.number) ≡ true
is_seen f p sees = ap (holds (λ owner. owner == p.owner)) sees ∙ eq-eqb p.owner p.owner refl

-- tasks no longer share others' subpools
pub unshared_lead : (m : StorageState) (f : Sight) (rows : List SightRow) → Each (IsShared f) rows → Apart IsOtherRow rows
    → LeadsOn (seeing m f) (map unshared rows) (seeing m (without_rows f rows))
unshared_lead m f [] shared apart = leads_nowhere (seeing m f)
unshared_lead m f (row ∷ rows) shared apart =
    let g = without_row f row.1 row.0.number in
    leads_first (seeing m f) (seeing m g) (seeing m (without_rows g rows)) (unshared row) (map unshared rows)
    (λ w rests. (
      record {
        there = is_seen f row.0 shared.0.owner_sees;
        range = shared.0.range;
        sharer = shared.0.sharer;
        other = shared.0.seen;
        room = omega arith;
      },
      record { state = refl; none_brought = rests.none_brought; spare = omega arith },
    ))
    (unshared_lead m g rows (each_both (IsOtherRow row) (IsShared f) (IsShared g) rows (λ other is so. shared_still f row other shared.0 is so) apart.0 shared.1) apart.1)

-- the rows of owners
abbrev pub own_rows : List Subpool → List SightRow
own_rows ps = map (λ p. (p, p.owner)) ps

-- An empty subpool that only its owner sees, of a task's number and a number of private storage.
pub record IsAlone (m : StorageState) (f : Sight) (p : Subpool) : Type 0 where
  pub owner : (1 ≤ p.owner) × (p.owner ≤ 64)
  pub number : p.number ≤ 127
  pub sees : f p.owner p.number ≡ Some p.owner
  pub alone : (task : ℕ) → f task p.number ≡ Some p.owner → task ≡ p.owner
  pub no_pages : (page : ℕ) → m.subpools.pages p page ≡ false
  pub none_free : (d : ℕ) → m.subpools.free p d ≡ false

pub saw : (b : Bool) (o : Option ℕ) (x : ℕ) → (if b then None else o) ≡ Some x → o ≡ Some x
saw true o x e = absurd (none_some x e)
saw false o x e = e

alone_still : (m : StorageState) (f : Sight) (p q : Subpool) → IsAnother p q → IsAlone m f q → IsAlone m (without_row f p.owner p.number) q
alone_still m f p q other is = record {
  owner = is.owner;
  number = is.number;
  sees =
      cond-false (is_row p.owner p.number q.owner q.number) None (f q.owner q.number)
      (false_from_ne_true (is_row p.owner p.number q.owner q.number) (λ same.
      let parts = and_parts (q.owner == p.owner) (q.number == p.number) same in
      true≢false (sym (and_from (q.number == p.number) (q.owner == p.owner) parts.1 parts.0) ∙ other)))
      ∙ is.sees;
  alone = λ task at. is.alone task (saw (is_row p.owner p.number task q.number) (f task q.number) q.owner at);
  no_pages = is.no_pages;
  none_free = is.none_free;
}

-- the subpools are gone
pub removed_lead : (m : StorageState) (f : Sight) (ps : List Subpool) → Each (IsAlone m f) ps → Apart IsAnother ps
    → LeadsOn (seeing m f) (map removed ps) (seeing m (without_rows f (own_rows ps)))
removed_lead m f [] alone apart = leads_nowhere (seeing m f)
removed_lead m f (p ∷ ps) alone apart =
    let g = without_row f p.owner p.number in
    leads_first (seeing m f) (seeing m g) (seeing m (without_rows g (own_rows ps))) (removed p) (map removed ps)
    (λ w rests. (
      record {
        owner = alone.0.owner;
        number = alone.0.number;
        other = alone.0.sees;
        alone = alone.0.alone;
        no_pages = alone.0.no_pages;
        none_free = alone.0.none_free;
        room = rests.spare;
        room_after = omega arith;
      },
      record { state = refl; none_brought = rests.none_brought; spare = omega arith },
    ))
    (removed_lead m g ps (each_both (IsAnother p) (IsAlone m f) (IsAlone m g) ps (λ q other is. alone_still m f p q other is) apart.0 alone.1) apart.1)
