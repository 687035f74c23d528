-- What a gift leaves of its number.
use Rattle.std.proofs.Common.{◌≡◌, ◌≢◌, ℕ, Bool, true, false, not, ◌&&◌, ◌||◌, ◌==◌, if◌then◌else◌, Option, Some, None, List, refl, sym, ◌∙◌, ap, inl, inr}
use Rattle.std.specs.Prelude.{unwrap_or}
use Rattle.std.specs.Option.{option_map}
use Rattle.std.proofs.lemmas.Bool.{cond-true, cond-false, and_from, and_parts, and_left, or_left, or_from, eqb-true, eq-eqb, ne_eqb, cases_Bool, both_ways}
use Rattle.vsm_model.specs.declared.Subpool.{Subpool}
use Rattle.vsm_model.specs.Search.{is_in}
use Rattle.vsm_model.specs.CellPools.{CellPool, cell_pool_in}
use Rattle.vsm_model.specs.State.{State}
use Rattle.service_laws.specs.Attached.{IsGiven}
use Rattle.service_laws.proofs.Options.{mapped}
use Rattle.service_laws.proofs.Passed.{gift_row, gift_pools, row_at, pools_at, handed_over}

-- What becomes of the whole state by gifts of these numbers to the new task, which has no page before.
pub record IsPassedOn (s t : State) (new : ℕ) (given : List ℕ) : Type 0 where
  pub current : t.current ≡ s.current
  pub apart : new ≢ s.current
  pub had_no_page : (k number : ℕ) → s.pages k ≢ Some (record { number = number; owner = new })
  pub pages : (k : ℕ) → t.pages k ≡ option_map (handed_over given s.current new) (s.pages k)
  pub cell_pools : (name : List ℕ) →
      cell_pool_in t.cell_pools name
      ≡ option_map (λ (pool : CellPool). record pool { subpool = handed_over given s.current new pool.subpool }) (cell_pool_in s.cell_pools name)

unmoved : (old new : ℕ) (o : Option ℕ) → o ≢ Some old → option_map (λ owner. if owner == old then new else owner) o ≡ o
unmoved old new None other = refl
unmoved old new (Some x) other = ap Some (cond-false (x == old) new x (ne_eqb x old (λ is. other (ap Some is))))

module _ (s t : State) (new : ℕ) (given : List ℕ) (p : IsPassedOn s t new given) where
  abbrev over : Subpool → Subpool
  over = handed_over given s.current new

  abbrev goes : Subpool → Bool
  goes q = is_in given q.number && (q.owner == s.current)

  over_goes : (q : Subpool) → goes q ≡ true → over q ≡ record { number = q.number; owner = new }
  over_goes q is = cond-true (goes q) (record { number = q.number; owner = new }) q is

  over_stays : (q : Subpool) → goes q ≡ false → over q ≡ q
  over_stays q is = cond-false (goes q) (record { number = q.number; owner = new }) q is

  -- a page of the new task is one of a subpool that was given
  pub page_was : (k number : ℕ) → t.pages k ≡ Some (record { number = number; owner = new }) →
      (is_in given number ≡ true) × (s.pages k ≡ Some (record { number = number; owner = s.current }))
  page_was k number e =
      let (q, at, is) = mapped over (s.pages k) (record { number = number; owner = new }) (sym (p.pages k) ∙ e) in
      elim (cases_Bool (goes q)) [
        | inl moved ↦
            let parts = and_parts (is_in given q.number) (q.owner == s.current) moved in
            let number_is : q.number ≡ number = ap (λ (x : Subpool). x.number) (sym (over_goes q moved) ∙ is) in
            let owner_is : q.owner ≡ s.current = eqb-true q.owner s.current parts.1 in
            (sym (ap (is_in given) number_is) ∙ parts.0, at ∙ (λ i. Some (record { number = number_is i; owner = owner_is i })))
        | inr stays ↦ absurd (p.had_no_page k number (at ∙ ap Some (sym (over_stays q stays) ∙ is)))
      ]

  pub page_stays : (k : ℕ) (q : Subpool) → s.pages k ≡ Some q → goes q ≡ false → t.pages k ≡ Some q
  page_stays k q at stays = p.pages k ∙ ap (option_map over) at ∙ ap Some (over_stays q stays)

  pub pool_stays : (name : List ℕ) (pool : CellPool) → cell_pool_in s.cell_pools name ≡ Some pool → goes pool.subpool ≡ false →
      cell_pool_in t.cell_pools name ≡ Some pool
  pool_stays name pool at stays =
      p.cell_pools name ∙ ap (option_map (λ (x : CellPool). record x { subpool = over x.subpool })) at
      ∙ (λ i. Some (record pool { subpool = over_stays pool.subpool stays i }))

  module _ (number : ℕ) (in_it : is_in given number ≡ true) (owns : (owner : ℕ) → s.sight s.current number ≡ Some owner → owner ≡ s.current) (sight : (task : ℕ) → t.sight task number ≡ gift_row (row_at s number) s.current new task) (pools : (owner : ℕ) → t.subpools number owner ≡ gift_pools (pools_at s number) s.current new owner) where
    abbrev olds : Subpool
    olds = record { number = number; owner = s.current }

    abbrev renamed : Option ℕ → Option ℕ
    renamed o = option_map (λ owner. if owner == s.current then new else owner) o

    goes_with : goes olds ≡ true
    goes_with = and_from (is_in given number) (s.current == s.current) in_it (eq-eqb s.current s.current refl)

    not_new : (s.current == new) ≡ false
    not_new = ne_eqb s.current new (λ is. p.apart (sym is))

    no_sight : t.sight s.current number ≡ None
    no_sight =
        sight s.current
        ∙ cond-false (s.current == new) (Some new) (if s.current == s.current then None else renamed (s.sight s.current number)) not_new
        ∙ cond-true (s.current == s.current) None (renamed (s.sight s.current number)) (eq-eqb s.current s.current refl)

    -- neither the giver nor the new owner
    third : (task : ℕ) → task ≢ s.current → (task == new) ≡ false → t.sight task number ≡ renamed (s.sight task number)
    third task other not_its =
        sight task
        ∙ cond-false (task == new) (Some new) (if task == s.current then None else renamed (s.sight task number)) not_its
        ∙ cond-false (task == s.current) None (renamed (s.sight task number)) (ne_eqb task s.current other)

    to_new : (task : ℕ) → (task == new) ≡ true → t.sight task number ≡ Some new
    to_new task is = sight task ∙ cond-true (task == new) (Some new) (if task == s.current then None else renamed (s.sight task number)) is

    no_page_left : (k : ℕ) → t.pages k ≢ Some olds
    no_page_left k e =
        let (q, at, is) = mapped over (s.pages k) olds (sym (p.pages k) ∙ e) in
        elim (cases_Bool (goes q)) [
          | inl moved ↦ p.apart (ap (λ (x : Subpool). x.owner) (sym (over_goes q moved) ∙ is))
          | inr stays ↦ both_ways (goes q) stays (ap goes (sym (over_stays q stays) ∙ is) ∙ goes_with)
        ]

    pub is_given : IsGiven s t new number
    is_given = record {
      was_its_own = owns;
      owned = pools new ∙ or_left (new == new) _ (eq-eqb new new refl);
      seen = to_new new (eq-eqb new new refl);
      not_owned = pools s.current
          ∙ or_from (s.current == new) (not (s.current == s.current) && s.subpools number s.current) not_new
          (and_left (not (s.current == s.current)) (s.subpools number s.current) (ap not (eq-eqb s.current s.current refl)));
      not_seen = no_sight;
      sharers = λ other not_giver at. elim (cases_Bool (other == new)) [
        | inl is ↦ to_new other is
        | inr not_its ↦ third other not_giver not_its ∙ ap renamed at ∙ ap Some (cond-true (s.current == s.current) new s.current (eq-eqb s.current s.current refl))
      ];
      other_sight = λ other not_giver not_its elses.
          third other not_giver (ne_eqb other new not_its) ∙ unmoved s.current new (s.sight other number) elses;
      other_owners = λ owner not_giver not_its.
          pools owner ∙ (λ i. ne_eqb owner new not_its i || (not (ne_eqb owner s.current not_giver i) && s.subpools number owner));
      pages = λ k at. p.pages k ∙ ap (option_map over) at ∙ ap Some (over_goes olds goes_with);
      no_other_page = λ k e. (page_was k number e).1;
      no_page_left = no_page_left;
      cell_pools = λ name pool at own.
          p.cell_pools name ∙ ap (option_map (λ (x : CellPool). record x { subpool = over x.subpool })) at
          ∙ (λ i. Some (record pool { subpool = (ap over own ∙ over_goes olds goes_with) i }));
      asked_again = λ i. record {
        number = number;
        owner = (ap (λ x. unwrap_or (t.sight x number) x) p.current ∙ ap (λ o. unwrap_or o s.current) no_sight) i;
      };
    }
