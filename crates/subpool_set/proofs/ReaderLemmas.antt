-- What is after a number and an owner, or after a task, of what is walked over in order.
use Rattle.std.proofs.Common.{◌≡◌, ◌≢◌, ℕ, ◌<◌, ◌≤◌, Bool, true, false, ◌&&◌, nat_lt, List, [], ◌∷◌, Some, None, inl, inr, refl, sym, ap, ◌∙◌, arith}
use Rattle.std.specs.Prelude.{if◌then◌else◌, filter, map}
use Rattle.std.proofs.lemmas.Bool.{cases_lt, ltb-true, lt-ltb, cond-false, cond-true}
use Rattle.row_table.specs.declared.row.Row.{Row}
use Rattle.row_table.specs.Rows.{word, comes_before}
use Rattle.row_table.proofs.RowLemmas.{either, not_both}
use Rattle.row_table.proofs.NextLemmas.{and_join, before_more, before_or}
use Rattle.subpool_set.specs.Pools.{Pool, Sight, Pools, tasks, sharers, ids_in_order}
use Rattle.subpool_set.specs.Kept.{Rows, owner_in, queues_of, pool_in, pools_in}
use Rattle.subpool_set.specs.Walks.{is_sharer, sharers_behind, HasNoSharer, IsFirstSharer}
use Rattle.subpool_set.proofs.KeptLemmas.{pool_own, pool_none, some_nat}
use Rattle.subpool_set.proofs.OrderLemmas.{order_none, order_first, passed_none, passed_first, passed_behind, tasks_are}

-- the subpools after this number and this owner
abbrev pub pools_after : Pools → ℕ → ℕ → Pools
pools_after p number owner n o = if comes_before owner number o n then p n o else None

-- From one key on to another there is no subpool, and the other is not before the one.
pub record IsPast (f : Rows) (owner number last_owner last_number : ℕ) : Type 0 where
  pub none : (t n : ℕ) → comes_before owner number t n ≡ true → comes_before last_owner last_number t n ≡ false → pools_in f n t ≡ None
  pub further : (t n : ℕ) → comes_before last_owner last_number t n ≡ true → comes_before owner number t n ≡ true

pub past_begin : (f : Rows) (a b : ℕ) → IsPast f a b a b
past_begin f a b = record {
  none = λ t n h k. absurd (not_both (comes_before a b t n) h k);
  further = λ t n h. h;
}

pub past_end : (f : Rows) (a b v w : ℕ) → IsPast f a b v w → ((t n : ℕ) → comes_before v w t n ≡ true → f t n ≡ None) → ids_in_order (pools_after (pools_in f) b a) ≡ []
past_end f a b v w past none = ap (map (λ (p : Pool). p.id)) (order_none (pools_after (pools_in f) b a) each) where
  each : (n o : ℕ) → pools_after (pools_in f) b a n o ≡ None
  each n o = elim (either (comes_before a b o n)) [
    | inl e ↦ cond-true (comes_before a b o n) (pools_in f n o) None e ∙ elim (either (comes_before v w o n)) [
      | inl k ↦ ap (pool_in o) (none o n k)
      | inr k ↦ past.none o n e k
    ]
    | inr e ↦ cond-false (comes_before a b o n) (pools_in f n o) None e
  ]

-- the next row
module _ (f : Rows) (a b v w : ℕ) (past : IsPast f a b v w) (r : Row) (there : f (word r.words 0) (word r.words 1) ≡ Some r)
    (later : comes_before v w (word r.words 0) (word r.words 1) ≡ true)
    (next : (t n : ℕ) → comes_before v w t n ≡ true → comes_before t n (word r.words 0) (word r.words 1) ≡ true → f t n ≡ None) where
  -- before it there is no subpool
  none_before : (t n : ℕ) → comes_before a b t n ≡ true → comes_before t n (word r.words 0) (word r.words 1) ≡ true → pools_in f n t ≡ None
  none_before t n h k = elim (either (comes_before v w t n)) [
    | inl e ↦ ap (pool_in t) (next t n e k)
    | inr e ↦ past.none t n h e
  ]

  pub past_more : owner_in r ≢ word r.words 0 → IsPast f a b (word r.words 0) (word r.words 1)
  past_more other = record {
    none = λ t n h k. elim (before_or (word r.words 0) (word r.words 1) t n k) [
      | inl e ↦ none_before t n h e
      | inr e ↦ (ap (λ (z : ℕ). pools_in f z t) e.1 ∙ ap (pools_in f (word r.words 1)) e.0
          ∙ ap (pool_in (word r.words 0)) there ∙ pool_none (word r.words 0) (Some r) (λ q. other (some_nat (owner_in r) (word r.words 0) q)))
    ];
    further = λ t n h. past.further t n (before_more v w (word r.words 0) (word r.words 1) t n later h);
  }

  pub past_found : owner_in r ≡ word r.words 0 → 1 ≤ word r.words 0 → word r.words 0 ≤ 64 → word r.words 1 ≤ 127
      → ids_in_order (pools_after (pools_in f) b a) ≡ r.id ∷ ids_in_order (pools_after (pools_in f) (word r.words 1) (word r.words 0))
  past_found own one last high = ap (map (λ (p : Pool). p.id)) (order_first (pools_after (pools_in f) b a) (pools_after (pools_in f) (word r.words 1) (word r.words 0)) (word r.words 1) (word r.words 0)
      (record { id = r.id; queues = queues_of r.words }) one last high here before behind upto 128 refl) where
        from : comes_before a b (word r.words 0) (word r.words 1) ≡ true
        from = past.further (word r.words 0) (word r.words 1) later

        here : pools_after (pools_in f) b a (word r.words 1) (word r.words 0) ≡ Some (record { id = r.id; queues = queues_of r.words })
        here = cond-true (comes_before a b (word r.words 0) (word r.words 1)) (pools_in f (word r.words 1) (word r.words 0)) None from
            ∙ ap (pool_in (word r.words 0)) there ∙ pool_own (word r.words 0) r own

        before : (m t : ℕ) → comes_before t m (word r.words 0) (word r.words 1) ≡ true → pools_after (pools_in f) b a m t ≡ None
        before m t h = elim (either (comes_before a b t m)) [
          | inl e ↦ cond-true (comes_before a b t m) (pools_in f m t) None e ∙ none_before t m e h
          | inr e ↦ cond-false (comes_before a b t m) (pools_in f m t) None e
        ]

        behind : (m t : ℕ) → comes_before (word r.words 0) (word r.words 1) t m ≡ true → pools_after (pools_in f) b a m t ≡ pools_after (pools_in f) (word r.words 1) (word r.words 0) m t
        behind m t h =
            cond-true (comes_before a b t m) (pools_in f m t) None (before_more a b (word r.words 0) (word r.words 1) t m from h)
            ∙ sym (cond-true (comes_before (word r.words 0) (word r.words 1) t m) (pools_in f m t) None h)

        upto : (m t : ℕ) → comes_before (word r.words 0) (word r.words 1) t m ≡ false → pools_after (pools_in f) (word r.words 1) (word r.words 0) m t ≡ None
        upto m t h = cond-false (comes_before (word r.words 0) (word r.words 1) t m) (pools_in f m t) None h

-- the other tasks that share a subpool

no_test : (a t : ℕ) (b : Bool) → b ≡ false → nat_lt a t && b ≡ false
no_test a t b h = ap (λ (z : Bool). nat_lt a t && z) h ∙ last (nat_lt a t) where
  last : (z : Bool) → z && false ≡ false
  last true = refl
  last false = refl

not_less : (a t : ℕ) → t ≤ a → nat_lt a t ≡ false
not_less a t h = elim (either (nat_lt a t)) [
  | inl e ↦ absurd (let l : a < t = ltb-true a t e in omega (arith, h, l))
  | inr e ↦ e
]

-- if no task after one shares, none is left
pub none_left : (f : Sight) (number owner behind : ℕ) → HasNoSharer f number owner behind → sharers_behind f number owner behind ≡ []
none_left f number owner behind none = passed_none (λ t. nat_lt behind t && is_sharer f number owner t) each tasks where
  each : (t : ℕ) → nat_lt behind t && is_sharer f number owner t ≡ false
  each t = elim (cases_lt behind t) [
    | inl l ↦ no_test behind t (is_sharer f number owner t) (none t l)
    | inr l ↦ ap (λ (z : Bool). z && is_sharer f number owner t) (not_less behind t l)
  ]

-- the first task after one that shares is the first that is left, followed by those after it
pub first_left : (f : Sight) (number owner behind task : ℕ) → IsFirstSharer f number owner behind task → 1 ≤ task → task ≤ 64 → (k : ℕ) → k ≡ 64
    → sharers_behind f number owner behind ≡ task ∷ sharers_behind f number owner task
first_left f number owner behind task h one high k q =
    ap (filter mine) (tasks_are k q)
    ∙ passed_first mine rest task (and_join (nat_lt behind task) (is_sharer f number owner task) (lt-ltb behind task h.later) h.shares) before upto later k 1 one (omega (arith, high, q))
    ∙ ap (λ (z : List ℕ). task ∷ filter rest z) (sym (tasks_are k q)) where
      mine : ℕ → Bool
      mine t = nat_lt behind t && is_sharer f number owner t

      rest : ℕ → Bool
      rest t = nat_lt task t && is_sharer f number owner t

      before : (t : ℕ) → t < task → mine t ≡ false
      before t l = elim (cases_lt behind t) [
        | inl m ↦ no_test behind t (is_sharer f number owner t) (h.first t m l)
        | inr m ↦ ap (λ (z : Bool). z && is_sharer f number owner t) (not_less behind t m)
      ]

      upto : (t : ℕ) → t ≤ task → rest t ≡ false
      upto t l = ap (λ (z : Bool). z && is_sharer f number owner t) (not_less task t l)

      later : (t : ℕ) → task < t → mine t ≡ rest t
      later t l = ap (λ (z : Bool). z && is_sharer f number owner t) (lt-ltb behind t (omega (arith, h.later, l)) ∙ sym (lt-ltb task t l))

-- all are after task 0
pub all_left : (f : Sight) (number owner k : ℕ) → k ≡ 64 → sharers_behind f number owner 0 ≡ sharers f number owner
all_left f number owner k e =
    ap (filter (λ t. nat_lt 0 t && is_sharer f number owner t)) (tasks_are k e)
    ∙ passed_behind (λ t. nat_lt 0 t && is_sharer f number owner t) (is_sharer f number owner) 0 (λ t l. ap (λ (z : Bool). z && is_sharer f number owner t) (lt-ltb 0 t l)) k 1 (omega arith)
    ∙ ap (filter (is_sharer f number owner)) (sym (tasks_are k e))
