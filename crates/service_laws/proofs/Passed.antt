-- What becomes of each subpool number by gifts and shares.
use Rattle.std.proofs.Common.{◌≡◌, ◌≢◌, ℕ, Bool, true, false, not, ◌&&◌, ◌||◌, ◌==◌, if◌then◌else◌, Option, Some, None, List, [], ◌∷◌, is_some, refl, sym, ◌∙◌, ap, inl, inr, true≢false}
use Rattle.std.specs.Prelude.{unwrap_or}
use Rattle.std.specs.Option.{option_map}
use Rattle.std.proofs.lemmas.Bool.{cond-true, cond-false, cond_both, and_from, and_left, and_right, or_cases, or_left, or_parts, eqb-true, eq-eqb, ne_eqb, cases_Bool, cases_eq, both_ways}
use Rattle.vsm_model.specs.declared.Subpool.{Subpool}
use Rattle.vsm_model.specs.Search.{is_in}
use Rattle.vsm_model.specs.CellPools.{CellPool, cell_pool_in}
use Rattle.vsm_model.specs.State.{State}
use Rattle.vsm_model.specs.Subpools.{same_subpool, with_subpool, with_own}
use Rattle.vsm_model.specs.Passing.{handed_on, with_gift, with_gifts, with_share, with_shares}
use Rattle.vsm_model.specs.Tasks.{with_zero}
use Rattle.service_laws.proofs.TaskTables.{found_changed}
use Rattle.service_laws.proofs.Numbers.{AreApart, other_way}
use Rattle.service_laws.proofs.SightRows.{owner_at, own_by, own_current, own_parents, own_other_subpools, share_other_sight}

and_true : (a b : Bool) → b ≡ true → (a && b) ≡ a
and_true true b e = e
and_true false b e = refl

-- Which task sees whose subpool of one number, and which owners have one, after a gift,
abbrev pub gift_row : (ℕ → Option ℕ) → ℕ → ℕ → ℕ → Option ℕ
gift_row row old new task =
    if task == new then Some new else if task == old then None else option_map (λ owner. if owner == old then new else owner) (row task)

abbrev pub gift_pools : (ℕ → Bool) → ℕ → ℕ → ℕ → Bool
gift_pools pools old new owner = (owner == new) || (not (owner == old) && pools owner)

-- and after a share.
abbrev pub own_row : (ℕ → Option ℕ) → ℕ → ℕ → Option ℕ
own_row row current task = if is_some (row current) then row task else if task == current then Some current else row task

abbrev pub share_row : (ℕ → Option ℕ) → ℕ → ℕ → ℕ → Option ℕ
share_row row current new task = if task == new then Some (unwrap_or (row current) current) else own_row row current task

abbrev pub share_pools : (ℕ → Option ℕ) → (ℕ → Bool) → ℕ → ℕ → Bool
share_pools row pools current owner = if is_some (row current) then pools owner else ((owner == current) || pools owner)

-- the sight of the subpools of a number, and the owners of those
abbrev pub row_at : State → ℕ → ℕ → Option ℕ
row_at s number task = s.sight task number

abbrev pub pools_at : State → ℕ → ℕ → Bool
pools_at s number owner = s.subpools number owner

module _ (s : State) (old new number : ℕ) where
  gift_sight_at : (n task : ℕ) → (n == number) ≡ true → (with_gift s old new number).sight task n ≡ gift_row (row_at s n) old new task
  gift_sight_at n task is = cond-false (not (n == number)) (s.sight task n) (gift_row (row_at s n) old new task) (ap not is)

  gift_subpools_at : (n owner : ℕ) → (n == number) ≡ true → (with_gift s old new number).subpools n owner ≡ gift_pools (pools_at s n) old new owner
  gift_subpools_at n owner is = cond-true (n == number) (gift_pools (pools_at s n) old new owner) (s.subpools n owner) is

  gift_other_sight : (n task : ℕ) → (n == number) ≡ false → (with_gift s old new number).sight task n ≡ s.sight task n
  gift_other_sight n task is = cond-true (not (n == number)) (s.sight task n) (gift_row (row_at s n) old new task) (ap not is)

  gift_other_subpools : (n owner : ℕ) → (n == number) ≡ false → (with_gift s old new number).subpools n owner ≡ s.subpools n owner
  gift_other_subpools n owner is = cond-false (n == number) (gift_pools (pools_at s n) old new owner) (s.subpools n owner) is

pub gifts_current : (xs : List ℕ) (s : State) (task : ℕ) → (with_gifts s task xs).current ≡ s.current
gifts_current [] s task = refl
gifts_current (x ∷ xs) s task = gifts_current xs (with_gift s s.current task x) task

pub gifts_parents : (xs : List ℕ) (s : State) (task : ℕ) → (with_gifts s task xs).parents ≡ s.parents
gifts_parents [] s task = refl
gifts_parents (x ∷ xs) s task = gifts_parents xs (with_gift s s.current task x) task

pub gifts_other_sight : (xs : List ℕ) (s : State) (task t n : ℕ) → is_in xs n ≡ false → (with_gifts s task xs).sight t n ≡ s.sight t n
gifts_other_sight [] s task t n none = refl
gifts_other_sight (x ∷ xs) s task t n none =
    let parts = or_parts (x == n) (is_in xs n) none in
    gifts_other_sight xs (with_gift s s.current task x) task t n parts.1 ∙ gift_other_sight s s.current task x n t (other_way x n parts.0)

pub gifts_other_subpools : (xs : List ℕ) (s : State) (task n owner : ℕ) → is_in xs n ≡ false → (with_gifts s task xs).subpools n owner ≡ s.subpools n owner
gifts_other_subpools [] s task n owner none = refl
gifts_other_subpools (x ∷ xs) s task n owner none =
    let parts = or_parts (x == n) (is_in xs n) none in
    gifts_other_subpools xs (with_gift s s.current task x) task n owner parts.1 ∙ gift_other_subpools s s.current task x n owner (other_way x n parts.0)

pub gifts_sight : (xs : List ℕ) (s : State) (task n t : ℕ) → AreApart xs → is_in xs n ≡ true → (with_gifts s task xs).sight t n ≡ gift_row (row_at s n) s.current task t
gifts_sight [] s task n t apart e = absurd (true≢false (sym e))
gifts_sight (x ∷ xs) s task n t apart e =
    elim (cases_Bool (x == n)) [
      | inl is ↦
          gifts_other_sight xs (with_gift s s.current task x) task t n (sym (ap (is_in xs) (eqb-true x n is)) ∙ apart.0)
          ∙ gift_sight_at s s.current task x n t (eq-eqb n x (sym (eqb-true x n is)))
      | inr other ↦ elim (or_cases (x == n) (is_in xs n) e) [
        | inl is ↦ absurd (both_ways (x == n) other is)
        | inr later ↦
            gifts_sight xs (with_gift s s.current task x) task n t apart.1 later
            ∙ (λ i. gift_row (λ u. gift_other_sight s s.current task x n u (other_way x n other) i) s.current task t)
      ]
    ]

pub gifts_subpools : (xs : List ℕ) (s : State) (task n owner : ℕ) → AreApart xs → is_in xs n ≡ true →
    (with_gifts s task xs).subpools n owner ≡ gift_pools (pools_at s n) s.current task owner
gifts_subpools [] s task n owner apart e = absurd (true≢false (sym e))
gifts_subpools (x ∷ xs) s task n owner apart e =
    elim (cases_Bool (x == n)) [
      | inl is ↦
          gifts_other_subpools xs (with_gift s s.current task x) task n owner (sym (ap (is_in xs) (eqb-true x n is)) ∙ apart.0)
          ∙ gift_subpools_at s s.current task x n owner (eq-eqb n x (sym (eqb-true x n is)))
      | inr other ↦ elim (or_cases (x == n) (is_in xs n) e) [
        | inl is ↦ absurd (both_ways (x == n) other is)
        | inr later ↦
            gifts_subpools xs (with_gift s s.current task x) task n owner apart.1 later
            ∙ (λ i. gift_pools (λ u. gift_other_subpools s s.current task x n u (other_way x n other) i) s.current task owner)
      ]
    ]

-- A share at its number, and at others.
pub share_sight_at : (s : State) (new n task : ℕ) → (with_share s new n).sight task n ≡ share_row (row_at s n) s.current new task
share_sight_at s new n task =
    ap (λ b. if b then Some (owner_at s n) else (with_own s n).sight task n) (and_true (task == new) (n == n) (eq-eqb n n refl))
    ∙ ap (λ o. if task == new then Some (owner_at s n) else o)
    (own_by s n (λ (u : State). u.sight task n ≡ own_row (row_at s n) s.current task)
    (λ sees. sym (cond-true (is_some (s.sight s.current n)) (s.sight task n) (if task == s.current then Some s.current else s.sight task n) sees))
    (λ none.
    ap (λ b. if b then Some s.current else s.sight task n) (and_true (task == s.current) (n == n) (eq-eqb n n refl))
    ∙ sym (cond-false (is_some (s.sight s.current n)) (s.sight task n) (if task == s.current then Some s.current else s.sight task n) none)))

pub share_subpools_at : (s : State) (new n owner : ℕ) → (with_share s new n).subpools n owner ≡ share_pools (row_at s n) (pools_at s n) s.current owner
share_subpools_at s new n owner =
    own_by s n (λ (u : State). u.subpools n owner ≡ share_pools (row_at s n) (pools_at s n) s.current owner)
    (λ sees. sym (cond-true (is_some (s.sight s.current n)) (s.subpools n owner) ((owner == s.current) || s.subpools n owner) sees))
    (λ none.
    ap (λ b. (b && (owner == s.current)) || s.subpools n owner) (eq-eqb n n refl)
    ∙ sym (cond-false (is_some (s.sight s.current n)) (s.subpools n owner) ((owner == s.current) || s.subpools n owner) none))

pub shares_other_sight : (xs : List ℕ) (s : State) (task t n : ℕ) → is_in xs n ≡ false → (with_shares s task xs).sight t n ≡ s.sight t n
shares_other_sight [] s task t n none = refl
shares_other_sight (x ∷ xs) s task t n none =
    let parts = or_parts (x == n) (is_in xs n) none in
    shares_other_sight xs (with_share s task x) task t n parts.1 ∙ share_other_sight s task x t n (other_way x n parts.0)

pub shares_other_subpools : (xs : List ℕ) (s : State) (task n owner : ℕ) → is_in xs n ≡ false → (with_shares s task xs).subpools n owner ≡ s.subpools n owner
shares_other_subpools [] s task n owner none = refl
shares_other_subpools (x ∷ xs) s task n owner none =
    let parts = or_parts (x == n) (is_in xs n) none in
    shares_other_subpools xs (with_share s task x) task n owner parts.1 ∙ own_other_subpools s x n owner (other_way x n parts.0)

pub shares_current : (xs : List ℕ) (s : State) (task : ℕ) → (with_shares s task xs).current ≡ s.current
shares_current [] s task = refl
shares_current (x ∷ xs) s task = shares_current xs (with_share s task x) task ∙ own_current s x

pub shares_parents : (xs : List ℕ) (s : State) (task : ℕ) → (with_shares s task xs).parents ≡ s.parents
shares_parents [] s task = refl
shares_parents (x ∷ xs) s task = shares_parents xs (with_share s task x) task ∙ own_parents s x

pub shares_sight : (xs : List ℕ) (s : State) (task n t : ℕ) → AreApart xs → is_in xs n ≡ true → (with_shares s task xs).sight t n ≡ share_row (row_at s n) s.current task t
shares_sight [] s task n t apart e = absurd (true≢false (sym e))
shares_sight (x ∷ xs) s task n t apart e =
    elim (cases_eq x n) [
      | inl is ↦
          shares_other_sight xs (with_share s task x) task t n (sym (ap (is_in xs) is) ∙ apart.0)
          ∙ ap (λ k. (with_share s task k).sight t n) is
          ∙ share_sight_at s task n t
      | inr other ↦ elim (or_cases (x == n) (is_in xs n) e) [
        | inl is ↦ absurd (other (eqb-true x n is))
        | inr later ↦
            shares_sight xs (with_share s task x) task n t apart.1 later
            ∙ (λ i. share_row (λ u. share_other_sight s task x u n (other_way x n (ne_eqb x n other)) i) (own_current s x i) task t)
      ]
    ]

pub shares_subpools : (xs : List ℕ) (s : State) (task n owner : ℕ) → AreApart xs → is_in xs n ≡ true →
    (with_shares s task xs).subpools n owner ≡ share_pools (row_at s n) (pools_at s n) s.current owner
shares_subpools [] s task n owner apart e = absurd (true≢false (sym e))
shares_subpools (x ∷ xs) s task n owner apart e =
    elim (cases_eq x n) [
      | inl is ↦
          shares_other_subpools xs (with_share s task x) task n owner (sym (ap (is_in xs) is) ∙ apart.0)
          ∙ ap (λ k. (with_share s task k).subpools n owner) is
          ∙ share_subpools_at s task n owner
      | inr other ↦ elim (or_cases (x == n) (is_in xs n) e) [
        | inl is ↦ absurd (other (eqb-true x n is))
        | inr later ↦
            shares_subpools xs (with_share s task x) task n owner apart.1 later
            ∙ (λ i. share_pools (λ u. share_other_sight s task x u n (other_way x n (ne_eqb x n other)) i)
            (λ u. own_other_subpools s x n u (other_way x n (ne_eqb x n other)) i) (own_current s x i) owner)
      ]
    ]

-- Shares don't change storage.
pub record SameStorage (s t : State) : Type 0 where
  pub pages : t.pages ≡ s.pages
  pub taken : t.taken ≡ s.taken
  pub bytes : t.bytes ≡ s.bytes
  pub cell_pools : t.cell_pools ≡ s.cell_pools
  pub words : t.words ≡ s.words

same_self : (s : State) → SameStorage s s
same_self s = record { pages = refl; taken = refl; bytes = refl; cell_pools = refl; words = refl }

pub same_then : (s t u : State) → SameStorage s t → SameStorage t u → SameStorage s u
same_then s t u a b = record {
  pages = b.pages ∙ a.pages;
  taken = b.taken ∙ a.taken;
  bytes = b.bytes ∙ a.bytes;
  cell_pools = b.cell_pools ∙ a.cell_pools;
  words = b.words ∙ a.words;
}

share_storage : (s : State) (task number : ℕ) → SameStorage s (with_share s task number)
share_storage s task number = record {
  pages = own_by s number (λ (u : State). u.pages ≡ s.pages) (λ _. refl) (λ _. refl);
  taken = own_by s number (λ (u : State). u.taken ≡ s.taken) (λ _. refl) (λ _. refl);
  bytes = own_by s number (λ (u : State). u.bytes ≡ s.bytes) (λ _. refl) (λ _. refl);
  cell_pools = own_by s number (λ (u : State). u.cell_pools ≡ s.cell_pools) (λ _. refl) (λ _. refl);
  words = own_by s number (λ (u : State). u.words ≡ s.words) (λ _. refl) (λ _. refl);
}

pub shares_storage : (xs : List ℕ) (s : State) (task : ℕ) → SameStorage s (with_shares s task xs)
shares_storage [] s task = same_self s
shares_storage (x ∷ xs) s task = same_then s (with_share s task x) (with_shares s task (x ∷ xs)) (share_storage s task x) (shares_storage xs (with_share s task x) task)

-- Subpool 0 is shared, or the task's own.
pub zero_by : (s : State) (task : ℕ) (shares : Bool) (P : State → Type 0) → (shares ≡ true → P (with_share s task 0)) → (shares ≡ false → P (with_subpool s 0 task)) →
    P (with_zero s task shares)
zero_by s task shares P shared owned = cond_both shares (with_share s task 0) (with_subpool s 0 task) P shared owned

pub zero_current : (s : State) (task : ℕ) (shares : Bool) → (with_zero s task shares).current ≡ s.current
zero_current s task shares = zero_by s task shares (λ (u : State). u.current ≡ s.current) (λ _. own_current s 0) (λ _. refl)

pub zero_parents : (s : State) (task : ℕ) (shares : Bool) → (with_zero s task shares).parents ≡ s.parents
zero_parents s task shares = zero_by s task shares (λ (u : State). u.parents ≡ s.parents) (λ _. own_parents s 0) (λ _. refl)

pub zero_storage : (s : State) (task : ℕ) (shares : Bool) → SameStorage s (with_zero s task shares)
zero_storage s task shares =
    zero_by s task shares (SameStorage s) (λ _. share_storage s task 0) (λ _. record { pages = refl; taken = refl; bytes = refl; cell_pools = refl; words = refl })

pub zero_other_sight : (s : State) (task : ℕ) (shares : Bool) (t n : ℕ) → (n == 0) ≡ false → (with_zero s task shares).sight t n ≡ s.sight t n
zero_other_sight s task shares t n other =
    zero_by s task shares (λ (u : State). u.sight t n ≡ s.sight t n) (λ _. share_other_sight s task 0 t n other)
    (λ _. cond-false ((t == task) && (n == 0)) (Some task) (s.sight t n) (and_right (t == task) (n == 0) other))

pub zero_other_subpools : (s : State) (task : ℕ) (shares : Bool) (n owner : ℕ) → (n == 0) ≡ false → (with_zero s task shares).subpools n owner ≡ s.subpools n owner
zero_other_subpools s task shares n owner other =
    zero_by s task shares (λ (u : State). u.subpools n owner ≡ s.subpools n owner) (λ _. own_other_subpools s 0 n owner other)
    (λ _. ap (λ b. b || s.subpools n owner) (and_left (n == 0) (owner == task) other))

-- The subpool as it is after gifts of these numbers.
abbrev pub handed_over : List ℕ → ℕ → ℕ → Subpool → Subpool
handed_over xs old new p = if is_in xs p.number && (p.owner == old) then record { number = p.number; owner = new } else p

module _ (old new : ℕ) (apart : new ≢ old) where
  not_over : (xs : List ℕ) (p : Subpool) → (p.owner == old) ≡ false → handed_over xs old new p ≡ p
  not_over xs p other =
      cond-false (is_in xs p.number && (p.owner == old)) (record { number = p.number; owner = new }) p (and_right (is_in xs p.number) (p.owner == old) other)

  not_on : (x : ℕ) (p : Subpool) → same_subpool p (record { number = x; owner = old }) ≡ false → handed_on x old new p ≡ p
  not_on x p other = cond-false (same_subpool p (record { number = x; owner = old })) (record { number = x; owner = new }) p other

  handed_step : (x : ℕ) (xs : List ℕ) (p : Subpool) → handed_over xs old new (handed_on x old new p) ≡ handed_over (x ∷ xs) old new p
  handed_step x xs p =
      elim (cases_Bool (p.owner == old)) [
        | inr other ↦
            ap (handed_over xs old new) (not_on x p (and_right (p.number == x) (p.owner == old) other))
            ∙ not_over xs p other ∙ sym (not_over (x ∷ xs) p other)
        | inl his ↦ elim (cases_Bool (p.number == x)) [
          | inl is ↦
              let same : x ≡ p.number = sym (eqb-true p.number x is) in
              ap (handed_over xs old new)
              (cond-true (same_subpool p (record { number = x; owner = old })) (record { number = x; owner = new }) p (and_from (p.number == x) (p.owner == old) is his))
              ∙ not_over xs (record { number = x; owner = new }) (ne_eqb new old apart)
              ∙ (λ i. record { number = same i; owner = new })
              ∙ sym (cond-true (is_in (x ∷ xs) p.number && (p.owner == old)) (record { number = p.number; owner = new }) p
              (and_from (is_in (x ∷ xs) p.number) (p.owner == old) (or_left (x == p.number) (is_in xs p.number) (eq-eqb x p.number same)) his))
          | inr other ↦
              ap (handed_over xs old new) (not_on x p (and_left (p.number == x) (p.owner == old) other))
              ∙ ap (λ b. if (b || is_in xs p.number) && (p.owner == old) then record { number = p.number; owner = new } else p) (sym (other_way p.number x other))
        ]
      ]

  both_mapped : (x : ℕ) (xs : List ℕ) (o : Option Subpool) → option_map (handed_over xs old new) (option_map (handed_on x old new) o) ≡ option_map (handed_over (x ∷ xs) old new) o
  both_mapped x xs None = refl
  both_mapped x xs (Some p) = ap Some (handed_step x xs p)

  none_over : (o : Option Subpool) → o ≡ option_map (handed_over [] old new) o
  none_over None = refl
  none_over (Some p) = refl

  abbrev pool_over : List ℕ → CellPool → CellPool
  pool_over xs pool = record pool { subpool = handed_over xs old new pool.subpool }

  both_pools : (x : ℕ) (xs : List ℕ) (o : Option CellPool) →
      option_map (pool_over xs) (option_map (λ (pool : CellPool). record pool { subpool = handed_on x old new pool.subpool }) o) ≡ option_map (pool_over (x ∷ xs)) o
  both_pools x xs None = refl
  both_pools x xs (Some pool) = λ i. Some (record pool { subpool = handed_step x xs pool.subpool i })

  no_pools : (o : Option CellPool) → o ≡ option_map (pool_over []) o
  no_pools None = refl
  no_pools (Some pool) = refl

pub gifts_pages : (xs : List ℕ) (s : State) (task k : ℕ) → task ≢ s.current → (with_gifts s task xs).pages k ≡ option_map (handed_over xs s.current task) (s.pages k)
gifts_pages [] s task k apart = none_over s.current task apart (s.pages k)
gifts_pages (x ∷ xs) s task k apart =
    gifts_pages xs (with_gift s s.current task x) task k apart ∙ both_mapped s.current task apart x xs (s.pages k)

pub gifts_taken : (xs : List ℕ) (s : State) (task : ℕ) → (with_gifts s task xs).taken ≡ s.taken
gifts_taken [] s task = refl
gifts_taken (x ∷ xs) s task = gifts_taken xs (with_gift s s.current task x) task

pub gifts_bytes : (xs : List ℕ) (s : State) (task : ℕ) → (with_gifts s task xs).bytes ≡ s.bytes
gifts_bytes [] s task = refl
gifts_bytes (x ∷ xs) s task = gifts_bytes xs (with_gift s s.current task x) task

pub gifts_words : (xs : List ℕ) (s : State) (task : ℕ) → (with_gifts s task xs).words ≡ s.words
gifts_words [] s task = refl
gifts_words (x ∷ xs) s task = gifts_words xs (with_gift s s.current task x) task

pub gifts_cell_pools : (xs : List ℕ) (s : State) (task : ℕ) (name : List ℕ) → task ≢ s.current →
    cell_pool_in (with_gifts s task xs).cell_pools name
    ≡ option_map (λ (pool : CellPool). record pool { subpool = handed_over xs s.current task pool.subpool }) (cell_pool_in s.cell_pools name)
gifts_cell_pools [] s task name apart = no_pools s.current task apart (cell_pool_in s.cell_pools name)
gifts_cell_pools (x ∷ xs) s task name apart =
    gifts_cell_pools xs (with_gift s s.current task x) task name apart
    ∙ ap (option_map (λ (pool : CellPool). record pool { subpool = handed_over xs s.current task pool.subpool }))
    (found_changed (λ (pool : CellPool). record pool { subpool = handed_on x s.current task pool.subpool }) s.cell_pools name)
    ∙ both_pools s.current task apart x xs (cell_pool_in s.cell_pools name)
