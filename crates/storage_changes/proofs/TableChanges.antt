-- What the table becomes if cell pools are created, change and are deleted.
use Rattle.std.proofs.Common.{◌≡◌, ◌≢◌, ℕ, ◌^◌, ◌<◌, Bool, true, false, not, ◌==◌, if◌then◌else◌, Option, Some, None, List, option_map, map, filter, refl, sym, ◌∙◌, ap, inl, inr, ◌⊎◌, true≢false}
use Rattle.std.proofs.lemmas.Bool.{cases_Bool, cond-true, cond-false}
use Rattle.std.specs.Ordering.{eq_by_cmp}
use Rattle.vsm_model.specs.CellPools.{CellPool, CellPools, cell_pool_in, with_cell_pool, without_cell_pool}
use Rattle.cell_pool.specs.Pools.{Pool, at_id, all_but}
use Rattle.storage_changes.specs.NamedPools.{AreNamed}
use Rattle.storage_changes.specs.PoolTable.{cell_pool_of, cell_pools_in}
use Rattle.storage_changes.specs.TableLaws.{ChangedPoolsHaveTheirRow, NewPoolsHaveARow, GonePoolsHaveNoRow, RowsOfTheOthersStay, AllRowsChange}
use Rattle.service_laws.proofs.Options.{some_none, same_some}
use Rattle.service_laws.proofs.TaskTables.{ascending_left, found_still, none_still, found_no_more, ascending_changed, found_changed}
use Rattle.storage_changes.proofs.PoolRows.{by_name, same_name, own_name, put_found, put_others, put_ascends, without_found, without_others, without_ascends}
use Rattle.storage_changes.proofs.TabledPools.{same_number, number_is, number_apart, Has, has_or_not, IsTableOf, AreSingle, in_is, table_of}

-- a value that results from a change was another before it
mapped : {A B : Type 0} (f : A → B) (o : Option A) (x : B) → option_map f o ≡ Some x → (y : A) × (o ≡ Some y) × (f y ≡ x)
mapped f None x e = absurd (some_none x (sym e))
mapped f (Some y) x e = (y, refl, same_some (f y) x e)

-- what the test leaves existed, and doesn't pass
left_of : (test : Pool → Bool) (o : Option Pool) (x : Pool) → all_but test o ≡ Some x → (o ≡ Some x) × (test x ≡ false)
left_of test None x e = absurd (some_none x (sym e))
left_of test (Some y) x e =
    elim (cases_Bool (test y)) [
      | inl is ↦ absurd (some_none x (sym e ∙ cond-true (test y) None (Some y) is))
      | inr other ↦
          let same : y ≡ x = same_some y x (sym (cond-false (test y) None (Some y) other) ∙ e) in
          (ap Some same, sym (ap test same) ∙ other)
    ]

module _ (pools : ℕ → Option Pool) (named : AreNamed pools) where
  abbrev table : CellPools
  table = cell_pools_in pools

  is_table : IsTableOf pools (2 ^ 32) (cell_pools_in pools)
  is_table = table_of pools named

  -- the cell pool of an id is one
  one : (i j : ℕ) (p q : Pool) → pools i ≡ Some p → pools j ≡ Some q → i ≡ j → p ≡ q
  one i j p q e g same = same_some p q (sym e ∙ ap pools same ∙ g)

  -- One changes.
  module _ (id : ℕ) (p : Pool) (change : Pool → Pool) (there : pools id ≡ Some p) (keeps : (change p).name ≡ p.name) where
    abbrev changed : ℕ → Option Pool
    changed i = option_map (at_id id change) (pools i)

    at_other : (q : Pool) → (id == q.id) ≡ false → at_id id change q ≡ q
    at_other q other = cond-false (id == q.id) (change q) q other

    at_it : (i : ℕ) (q : Pool) → pools i ≡ Some q → (id == q.id) ≡ true → (i ≡ id) × (at_id id change q ≡ change p)
    at_it i q e is =
        let same : i ≡ id = sym (named.ids i q e) ∙ sym (same_number id q.id is) in
        (same, cond-true (id == q.id) (change q) q is ∙ ap change (one i id q p e there same))

    name_stays : (i : ℕ) (q : Pool) → pools i ≡ Some q → (at_id id change q).name ≡ q.name
    name_stays i q e =
        elim (cases_Bool (id == q.id)) [
          | inl is ↦
              let it = at_it i q e is in
              ap (λ q. q.name) it.1 ∙ keeps ∙ ap (λ q. q.name) (one id i p q there e (sym it.0))
          | inr other ↦ ap (λ q. q.name) (at_other q other)
        ]

    changed_single : AreSingle changed
    changed_single = record {
      once = λ i j r s e g same.
          let before = mapped (at_id id change) (pools i) r e in
          let other = mapped (at_id id change) (pools j) s g in
          named.once i j before.0 other.0 before.1 other.1
          (sym (name_stays i before.0 before.1) ∙ ap (λ q. q.name) before.2 ∙ same ∙ sym (ap (λ q. q.name) other.2) ∙ name_stays j other.0 other.1);
    }

    abbrev with_changed : CellPools
    with_changed = with_cell_pool table p.name (cell_pool_of (change p))

    changed_is_found : (name : List ℕ) (h : Has changed (2 ^ 32) name) → cell_pool_in with_changed name ≡ Some (cell_pool_of h.p)
    changed_is_found name h =
        let before = mapped (at_id id change) (pools h.id) h.p h.there in
        elim (cases_Bool (id == before.0.id)) [
          | inl is ↦
              let it = at_it h.id before.0 before.1 is in
              let same : h.p ≡ change p = sym before.2 ∙ it.1 in
              ap (cell_pool_in with_changed) (sym h.named ∙ ap (λ q. q.name) same ∙ keeps)
              ∙ put_found table p.name (cell_pool_of (change p)) ∙ ap (λ q. Some (cell_pool_of q)) (sym same)
          | inr other ↦
              let same : before.0 ≡ h.p = sym (at_other before.0 other) ∙ before.2 in
              let named_so : before.0.name ≡ name = ap (λ q. q.name) same ∙ h.named in
              put_others table p.name name (cell_pool_of (change p)) (λ is.
              true≢false (sym (number_is id before.0.id (named.once id h.id p before.0 there before.1 (sym (named_so ∙ is))
              ∙ sym (named.ids h.id before.0 before.1))) ∙ other))
              ∙ is_table.found name (record { id = h.id; p = before.0; below = h.below; there = before.1; named = named_so })
              ∙ ap (λ q. Some (cell_pool_of q)) same
        ]

    changed_is_none : (name : List ℕ) → (Has changed (2 ^ 32) name → ⊥) → cell_pool_in with_changed name ≡ None
    changed_is_none name lacks =
        let none : (i : ℕ) (q : Pool) → i < 2 ^ 32 → pools i ≡ Some q → q.name ≡ name → ⊥ = (λ i q below e is.
        lacks (record {
          id = i;
          p = at_id id change q;
          below = below;
          there = ap (option_map (at_id id change)) e;
          named = name_stays i q e ∙ is;
        })) in
        put_others table p.name name (cell_pool_of (change p)) (λ is. none id p (named.high id p there) there (sym is))
        ∙ is_table.none name (λ h. none h.id h.p h.below h.there h.named)

    changed_table : cell_pools_in changed ≡ with_changed
    changed_table = in_is changed with_changed changed_single (record {
      ascends = put_ascends table p.name (cell_pool_of (change p)) is_table.ascends;
      found = changed_is_found;
      none = changed_is_none;
    })

  -- One is created.
  module _ (id : ℕ) (p : Pool) (small : id < 2 ^ 32) (free : pools id ≡ None)
      (fresh : (i : ℕ) (q : Pool) → pools i ≡ Some q → q.name ≡ p.name → ⊥) where
    abbrev added : ℕ → Option Pool
    added i = if i == id then Some p else pools i

    added_is : added id ≡ Some p
    added_is = cond-true (id == id) (Some p) (pools id) (number_is id id refl)

    added_stays : (i : ℕ) (q : Pool) → pools i ≡ Some q → added i ≡ Some q
    added_stays i q e =
        cond-false (i == id) (Some p) (pools i) (number_apart i id (λ is. some_none q (sym e ∙ ap pools is ∙ free))) ∙ e

    of_added : (i : ℕ) (q : Pool) → added i ≡ Some q → ((i ≡ id) × (q ≡ p)) ⊎ (pools i ≡ Some q)
    of_added i q e =
        elim (cases_Bool (i == id)) [
          | inl is ↦ inl (same_number i id is, same_some q p (sym e ∙ cond-true (i == id) (Some p) (pools i) is))
          | inr other ↦ inr (sym (cond-false (i == id) (Some p) (pools i) other) ∙ e)
        ]

    added_single : AreSingle added
    added_single = record {
      once = λ i j q r e g same.
          elim (of_added i q e) [
            | inl new ↦ elim (of_added j r g) [
              | inl also ↦ new.0 ∙ sym also.0
              | inr old ↦ absurd (fresh j r old (sym same ∙ ap (λ q. q.name) new.1))
            ]
            | inr old ↦ elim (of_added j r g) [
              | inl new ↦ absurd (fresh i q old (same ∙ ap (λ q. q.name) new.1))
              | inr also ↦ named.once i j q r old also same
            ]
          ];
    }

    abbrev with_new : CellPools
    with_new = with_cell_pool table p.name (cell_pool_of p)

    added_is_found : (name : List ℕ) (h : Has added (2 ^ 32) name) → cell_pool_in with_new name ≡ Some (cell_pool_of h.p)
    added_is_found name h =
        elim (of_added h.id h.p h.there) [
          | inl new ↦
              ap (cell_pool_in with_new) (sym h.named ∙ ap (λ q. q.name) new.1)
              ∙ put_found table p.name (cell_pool_of p) ∙ ap (λ q. Some (cell_pool_of q)) (sym new.1)
          | inr old ↦
              put_others table p.name name (cell_pool_of p) (λ is. fresh h.id h.p old (h.named ∙ is))
              ∙ is_table.found name (record { id = h.id; p = h.p; below = h.below; there = old; named = h.named })
        ]

    added_is_none : (name : List ℕ) → (Has added (2 ^ 32) name → ⊥) → cell_pool_in with_new name ≡ None
    added_is_none name lacks =
        put_others table p.name name (cell_pool_of p)
        (λ is. lacks (record { id = id; p = p; below = small; there = added_is; named = sym is }))
        ∙ is_table.none name (λ h. lacks (record {
          id = h.id;
          p = h.p;
          below = h.below;
          there = added_stays h.id h.p h.there;
          named = h.named;
        }))

    added_table : cell_pools_in added ≡ with_new
    added_table = in_is added with_new added_single (record {
      ascends = put_ascends table p.name (cell_pool_of p) is_table.ascends;
      found = added_is_found;
      none = added_is_none;
    })

  -- One is deleted.
  module _ (id : ℕ) (p : Pool) (there : pools id ≡ Some p) where
    abbrev gone : ℕ → Option Pool
    gone i = if i == id then None else pools i

    of_gone : (i : ℕ) (q : Pool) → gone i ≡ Some q → (i ≢ id) × (pools i ≡ Some q)
    of_gone i q e =
        elim (cases_Bool (i == id)) [
          | inl is ↦ absurd (some_none q (sym e ∙ cond-true (i == id) None (pools i) is))
          | inr other ↦ (
            (λ same. true≢false (sym (number_is i id same) ∙ other)),
            sym (cond-false (i == id) None (pools i) other) ∙ e,
          )
        ]

    gone_single : AreSingle gone
    gone_single = record { once = λ i j q r e g same. named.once i j q r (of_gone i q e).1 (of_gone j r g).1 same }

    abbrev without_it : CellPools
    without_it = without_cell_pool table p.name

    gone_is_found : (name : List ℕ) (h : Has gone (2 ^ 32) name) → cell_pool_in without_it name ≡ Some (cell_pool_of h.p)
    gone_is_found name h =
        let before = of_gone h.id h.p h.there in
        without_others table p.name name (λ is. before.0 (named.once h.id id h.p p before.1 there (h.named ∙ is)))
        ∙ is_table.found name (record { id = h.id; p = h.p; below = h.below; there = before.1; named = h.named })

    gone_is_none : (name : List ℕ) → (Has gone (2 ^ 32) name → ⊥) → cell_pool_in without_it name ≡ None
    gone_is_none name lacks =
        elim (cases_Bool (eq_by_cmp by_name name p.name)) [
          | inl is ↦ ap (cell_pool_in without_it) (same_name name p.name is) ∙ without_found table p.name
          | inr other ↦
              let apart : name ≢ p.name = (λ same. true≢false (sym (own name p.name same) ∙ other)) in
              without_others table p.name name apart
              ∙ is_table.none name (λ h. lacks (record {
                id = h.id;
                p = h.p;
                below = h.below;
                there = cond-false (h.id == id) None (pools h.id)
                    (number_apart h.id id (λ same. apart (sym h.named ∙ ap (λ q. q.name) (one h.id id h.p p h.there there same)))) ∙ h.there;
                named = h.named;
              }))
        ] where
          own : (a b : List ℕ) → a ≡ b → eq_by_cmp by_name a b ≡ true
          own a b same = ap (eq_by_cmp by_name a) (sym same) ∙ own_name a

    gone_table : cell_pools_in gone ≡ without_it
    gone_table = in_is gone without_it gone_single (record {
      ascends = without_ascends table p.name is_table.ascends;
      found = gone_is_found;
      none = gone_is_none;
    })

  -- All that pass a test are deleted.
  module _ (test : Pool → Bool) (passes : CellPool → Bool) (alike : (p : Pool) → passes (cell_pool_of p) ≡ test p) where
    abbrev others : ℕ → Option Pool
    others i = all_but test (pools i)

    others_single : AreSingle others
    others_single = record {
      once = λ i j q r e g same. named.once i j q r (left_of test (pools i) q e).0 (left_of test (pools j) r g).0 same;
    }

    abbrev stays : CellPool → Bool
    stays pool = not (passes pool)

    abbrev of_others : CellPools
    of_others = filter (λ row. not (passes row.1)) table

    other_is_found : (name : List ℕ) (h : Has others (2 ^ 32) name) → cell_pool_in of_others name ≡ Some (cell_pool_of h.p)
    other_is_found name h =
        let before = left_of test (pools h.id) h.p h.there in
        found_still stays table name (cell_pool_of h.p)
        (is_table.found name (record { id = h.id; p = h.p; below = h.below; there = before.0; named = h.named }))
        (ap not (alike h.p ∙ before.1))

    other_is_none : (name : List ℕ) → (Has others (2 ^ 32) name → ⊥) → cell_pool_in of_others name ≡ None
    other_is_none name lacks =
        elim (has_or_not pools (2 ^ 32) name) [
          | inl h ↦ elim (cases_Bool (test h.p)) [
            | inl is ↦ found_no_more stays table is_table.ascends name (cell_pool_of h.p) (is_table.found name h) (ap not (alike h.p ∙ is))
            | inr other ↦ absurd (lacks (record {
              id = h.id;
              p = h.p;
              below = h.below;
              there = ap (all_but test) h.there ∙ cond-false (test h.p) None (Some h.p) other;
              named = h.named;
            }))
          ]
          | inr none ↦ none_still stays table name (is_table.none name none)
        ]

    others_table : cell_pools_in others ≡ of_others
    others_table = in_is others of_others others_single (record {
      ascends = ascending_left stays table is_table.ascends;
      found = other_is_found;
      none = other_is_none;
    })

  -- All change.
  module _ (change : Pool → Pool) (row_change : CellPool → CellPool) (keeps : (p : Pool) → (change p).name ≡ p.name)
      (alike : (p : Pool) → cell_pool_of (change p) ≡ row_change (cell_pool_of p)) where
    abbrev all : ℕ → Option Pool
    all i = option_map change (pools i)

    all_single : AreSingle all
    all_single = record {
      once = λ i j r s e g same.
          let before = mapped change (pools i) r e in
          let other = mapped change (pools j) s g in
          named.once i j before.0 other.0 before.1 other.1
          (sym (keeps before.0) ∙ ap (λ q. q.name) before.2 ∙ same ∙ sym (ap (λ q. q.name) other.2) ∙ keeps other.0);
    }

    abbrev all_rows : CellPools
    all_rows = map (λ row. (row.0, row_change row.1)) table

    all_are_found : (name : List ℕ) (h : Has all (2 ^ 32) name) → cell_pool_in all_rows name ≡ Some (cell_pool_of h.p)
    all_are_found name h =
        let before = mapped change (pools h.id) h.p h.there in
        found_changed row_change table name
        ∙ ap (option_map row_change) (is_table.found name (record {
          id = h.id;
          p = before.0;
          below = h.below;
          there = before.1;
          named = sym (keeps before.0) ∙ ap (λ q. q.name) before.2 ∙ h.named;
        }))
        ∙ ap Some (sym (alike before.0) ∙ ap cell_pool_of before.2)

    all_are_none : (name : List ℕ) → (Has all (2 ^ 32) name → ⊥) → cell_pool_in all_rows name ≡ None
    all_are_none name lacks =
        found_changed row_change table name
        ∙ ap (option_map row_change) (is_table.none name (λ h. lacks (record {
          id = h.id;
          p = change h.p;
          below = h.below;
          there = ap (option_map change) h.there;
          named = keeps h.p ∙ h.named;
        })))

    all_table : cell_pools_in all ≡ all_rows
    all_table = in_is all all_rows all_single (record {
      ascends = ascending_changed row_change table ∙ is_table.ascends;
      found = all_are_found;
      none = all_are_none;
    })

pub changed_pools_have_their_row : ChangedPoolsHaveTheirRow
changed_pools_have_their_row pools id p change named there keeps = changed_table pools named id p change there keeps

pub new_pools_have_a_row : NewPoolsHaveARow
new_pools_have_a_row pools id p named small free fresh = added_table pools named id p small free fresh

pub gone_pools_have_no_row : GonePoolsHaveNoRow
gone_pools_have_no_row pools id p named there = gone_table pools named id p there

pub rows_of_the_others_stay : RowsOfTheOthersStay
rows_of_the_others_stay pools test passes named alike = others_table pools named test passes alike

pub all_rows_change : AllRowsChange
all_rows_change pools change row_change named keeps alike = all_table pools named change row_change keeps alike
