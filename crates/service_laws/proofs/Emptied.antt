-- What is left when doublewords of a subpool are released.
use Rattle.std.proofs.Common.{◌≡◌, ℕ, zero, suc, ◌+◌, ◌*◌, ◌/◌, ◌<◌, ◌≤◌, Bool, true, false, not, ◌&&◌, ◌||◌, ◌==◌, if◌then◌else◌, Option, Some, None, is_some, List, [], ◌∷◌, refl, sym, ◌∙◌, ap, subst, arith, inl, inr, true≢false}
use Rattle.std.specs.List.{list_any}
use Rattle.std.proofs.lemmas.Bool.{cases_Bool, and_parts, and_from, and_cases, and_right, cond-true, cond-false, not-true, not-false, both_ways, false_from_ne_true, eq-eqb}
use Rattle.vsm_model.specs.declared.Subpool.{Subpool}
use Rattle.vsm_model.specs.declared.limits.Settings.{Settings}
use Rattle.vsm_model.specs.Search.{all_pass, holds}
use Rattle.vsm_model.specs.Regions.{among}
use Rattle.vsm_model.specs.CellPools.{CellPool, CellExtent, extent_doublewords}
use Rattle.vsm_model.specs.State.{State}
use Rattle.vsm_model.specs.Subpools.{same_subpool}
use Rattle.vsm_model.specs.Releasing.{is_idle}
use Rattle.vsm_model.specs.Cells.{without_extents}
use Rattle.vsm_model.specs.WellFormed.{PagesAreSound, IsInSubpool}
use Rattle.vsm_model.proofs.Least.{all_pass_at, all_pass_from}
use Rattle.service_laws.specs.Extents.{lies_in}
use Rattle.service_laws.proofs.Placed.{none_some, some_from, none_or_some, picked, owned_by}

-- a run that doesn't pass has a number that doesn't
witness : (f : ℕ → Bool) (a n : ℕ) → all_pass f a n ≡ false → (k : ℕ) × (a ≤ k) × (k < a + n) × (f k ≡ false)
witness f a zero e = absurd (true≢false e)
witness f a (suc n) e =
    elim (cases_Bool (f a)) [
      | inl here ↦
          let (k, low, high, at) = witness f (suc a) n (sym (ap (λ b. b && all_pass f (suc a) n) here) ∙ e) in
          (k, omega (arith, low), omega (arith, high), at)
      | inr here ↦ (a, omega arith, omega arith, here)
    ]

module _ (taken : ℕ → Bool) (page : ℕ) where
  -- an idle page has no taken doubleword, and a page without one is idle
  pub idle_at : is_idle taken page ≡ true → (d : ℕ) → d / 512 ≡ page → taken d ≡ false
  unfolding is_idle
  idle_at e d at = not-true (taken d) (all_pass_at (λ k. not (taken k)) (page * 512) 512 d e (omega (arith, at)) (omega (arith, at)))

  pub idle_from : ((d : ℕ) → d / 512 ≡ page → taken d ≡ false) → is_idle taken page ≡ true
  unfolding is_idle
  idle_from none = all_pass_from (λ k. not (taken k)) (page * 512) 512 (λ d low high. ap not (none d (omega (arith, low, high))))

  pub busy_at : (d : ℕ) → d / 512 ≡ page → taken d ≡ true → is_idle taken page ≡ false
  busy_at d at e = false_from_ne_true (is_idle taken page) (λ idle. both_ways (taken d) (idle_at idle d at) e)

  pub busy_has : is_idle taken page ≡ false → (d : ℕ) × (d / 512 ≡ page) × (taken d ≡ true)
  unfolding is_idle
  busy_has e =
      let (d, low, high, at) = witness (λ k. not (taken k)) (page * 512) 512 e in
      (d, omega (arith, low, high), not-false (taken d) at)

-- The doublewords of the test are released, and then each page of the subpool that no doubleword keeps.
abbrev pub emptied : State → Subpool → (ℕ → Bool) → State
emptied s p gone =
    record s {
      taken = λ k. not (gone k) && s.taken k;
      pages = λ k. if holds (same_subpool p) (s.pages k) && is_idle (λ j. not (gone j) && s.taken j) k then None else s.pages k;
      bytes = λ a. if holds (same_subpool p) (s.pages (a / 4096)) && is_idle (λ j. not (gone j) && s.taken j) (a / 4096) then None else s.bytes a;
    }

-- a page that leaves at once leaves at the end
twice : {A : Type 0} (test : A → Bool) (o : Option A) (b c : Bool) → (b ≡ true → c ≡ true) →
    (if holds test (if holds test o && b then None else o) && c then None else if holds test o && b then None else o)
    ≡ (if holds test o && c then None else o)
twice {A} test o b c later =
    let then_gone : Option A → Option A = λ z. if holds test z && c then None else z in
    elim (cases_Bool (holds test o && b)) [
      | inl gone ↦
          let parts = and_parts (holds test o) b gone in
          ap then_gone (cond-true (holds test o && b) None o gone)
          ∙ sym (cond-true (holds test o && c) None o (and_from (holds test o) c parts.0 (later parts.1)))
      | inr stays ↦ ap then_gone (cond-false (holds test o && b) None o stays)
    ]

twice_bytes : {A : Type 0} (test : A → Bool) (o : Option A) (byte : Option ℕ) (b c : Bool) → (b ≡ true → c ≡ true) →
    (if holds test (if holds test o && b then None else o) && c then None else if holds test o && b then None else byte)
    ≡ (if holds test o && c then None else byte)
twice_bytes {A} test o byte b c later =
    let then_gone : Option A → Option ℕ → Option ℕ = λ z y. if holds test z && c then None else y in
    elim (cases_Bool (holds test o && b)) [
      | inl gone ↦
          let parts = and_parts (holds test o) b gone in
          (λ i. then_gone (cond-true (holds test o && b) None o gone i) (cond-true (holds test o && b) None byte gone i))
          ∙ sym (cond-true (holds test o && c) None byte (and_from (holds test o) c parts.0 (later parts.1)))
      | inr stays ↦ λ i. then_gone (cond-false (holds test o && b) None o stays i) (cond-false (holds test o && b) None byte stays i)
    ]

joined : (g f t : Bool) → (not g && (not f && t)) ≡ (not (g || f) && t)
joined true f t = refl
joined false f t = refl

module _ (s : State) (p : Subpool) (f g : ℕ → Bool) where
  first_left : ℕ → Bool
  first_left k = not (f k) && s.taken k

  both_left : ℕ → Bool
  both_left k = not (g k || f k) && s.taken k

  left_is : (λ k. not (g k) && (not (f k) && s.taken k)) ≡ both_left
  unfolding both_left
  left_is = λ i k. joined (g k) (f k) (s.taken k) i

  still_idle : (k : ℕ) → is_idle (λ j. not (f j) && s.taken j) k ≡ true → is_idle (λ j. not (g j) && (not (f j) && s.taken j)) k ≡ true
  still_idle k e =
      idle_from (λ j. not (g j) && (not (f j) && s.taken j)) k
      (λ d at. and_right (not (g d)) (not (f d) && s.taken d) (idle_at (λ j. not (f j) && s.taken j) k e d at))

  -- one after the other is both at once
  pub emptied_twice : emptied (emptied s p f) p g ≡ emptied s p (λ k. g k || f k)
  unfolding both_left
  emptied_twice =
      (λ i. record s {
        taken = λ k. not (g k) && (not (f k) && s.taken k);
        pages = λ k. twice (same_subpool p) (s.pages k) (is_idle (λ j. not (f j) && s.taken j) k) (is_idle (λ j. not (g j) && (not (f j) && s.taken j)) k) (still_idle k) i;
        bytes = λ a. twice_bytes (same_subpool p) (s.pages (a / 4096)) (s.bytes a) (is_idle (λ j. not (f j) && s.taken j) (a / 4096))
            (is_idle (λ j. not (g j) && (not (f j) && s.taken j)) (a / 4096)) (still_idle (a / 4096)) i;
      })
      ∙ (λ i. record s {
        taken = left_is i;
        pages = λ k. if holds (same_subpool p) (s.pages k) && is_idle (left_is i) k then None else s.pages k;
        bytes = λ a. if holds (same_subpool p) (s.pages (a / 4096)) && is_idle (left_is i) (a / 4096) then None else s.bytes a;
      })

-- in one of these extents, or else released before
regrouped : (a b c : Bool) → (b || (a || c)) ≡ ((a || b) || c)
regrouped true true c = refl
regrouped true false c = refl
regrouped false b c = refl

-- The extents one after the other are all of them at once.
pub extents_at_once : (s : State) (pool : CellPool) (xs : List CellExtent) (f : ℕ → Bool) →
    without_extents (emptied s pool.subpool f) pool xs ≡ emptied s pool.subpool (λ k. list_any (lies_in pool k) xs || f k)
extents_at_once s pool [] f = refl
extents_at_once s pool (x ∷ xs) f =
    let here : ℕ → Bool = among (x.address / 8) (extent_doublewords pool x.cells) in
    ap (λ u. without_extents u pool xs) (emptied_twice s pool.subpool f here)
    ∙ extents_at_once s pool xs (λ k. here k || f k)
    ∙ ap (emptied s pool.subpool) (λ i k. regrouped (here k) (list_any (lies_in pool k) xs) (f k) i)

same_self : (p : Subpool) → same_subpool p p ≡ true
same_self p = and_from (p.number == p.number) (p.owner == p.owner) (eq-eqb p.number p.number refl) (eq-eqb p.owner p.owner refl)

both_some : {A B : Type 0} (b : Bool) (x y : Option A) (u v : Option B) → is_some x ≡ is_some u → is_some y ≡ is_some v →
    is_some (if b then x else y) ≡ is_some (if b then u else v)
both_some true x y u v e f = e
both_some false x y u v e f = f

is_some_of : {A : Type 0} (b : Bool) (x y : Option A) → (b ≡ true → is_some x ≡ true) → (b ≡ false → is_some y ≡ true) → is_some (if b then x else y) ≡ true
is_some_of true x y f g = f refl
is_some_of false x y f g = g refl

module _ (settings : Settings) (s : State) (w : PagesAreSound settings s) (p : Subpool) where
  never_idle : (k : ℕ) → is_some (s.pages k) ≡ true → is_idle s.taken k ≡ false
  never_idle k e =
      let its = some_from (s.pages k) e in
      let kept = w.has_taken k its.0 its.1 in
      busy_at s.taken k kept.0 kept.1 kept.2

  page_stays : (k : ℕ) (b : Bool) → is_idle s.taken k ≡ b → (if holds (same_subpool p) (s.pages k) && is_idle s.taken k then None else s.pages k) ≡ s.pages k
  page_stays k true idle =
      elim (none_or_some (s.pages k)) [
        | inl none ↦ ap (λ (o : Option Subpool). if holds (same_subpool p) o && is_idle s.taken k then None else o) none ∙ sym none
        | inr some ↦ absurd (both_ways (is_idle s.taken k) (never_idle k (ap (λ (o : Option Subpool). is_some o) some.1)) idle)
      ]
  page_stays k false busy = cond-false (holds (same_subpool p) (s.pages k) && is_idle s.taken k) None (s.pages k) (and_right (holds (same_subpool p) (s.pages k)) (is_idle s.taken k) busy)

  byte_stays : (a : ℕ) (b : Bool) → (holds (same_subpool p) (s.pages (a / 4096)) && is_idle s.taken (a / 4096)) ≡ b →
      (if holds (same_subpool p) (s.pages (a / 4096)) && is_idle s.taken (a / 4096) then None else s.bytes a) ≡ s.bytes a
  byte_stays a true leaves =
      let parts = and_parts (holds (same_subpool p) (s.pages (a / 4096))) (is_idle s.taken (a / 4096)) leaves in
      let there = ap (λ (o : Option Subpool). is_some o) (owned_by p (s.pages (a / 4096)) parts.0) in
      absurd (both_ways (is_idle s.taken (a / 4096)) (never_idle (a / 4096) there) parts.1)
  byte_stays a false stays = cond-false (holds (same_subpool p) (s.pages (a / 4096)) && is_idle s.taken (a / 4096)) None (s.bytes a) stays

  -- if nothing is released nothing leaves
  nothing_gone : emptied s p (λ k. false) ≡ s
  nothing_gone = λ i. record s {
    taken = s.taken;
    pages = λ k. page_stays k (is_idle s.taken k) refl i;
    bytes = λ a. byte_stays a (holds (same_subpool p) (s.pages (a / 4096)) && is_idle s.taken (a / 4096)) refl i;
  }

module _ (settings : Settings) (s : State) (w : PagesAreSound settings s) where
  pub extents_given_back : (pool : CellPool) (xs : List CellExtent) → without_extents s pool xs ≡ emptied s pool.subpool (λ k. list_any (lies_in pool k) xs)
  extents_given_back pool xs =
      ap (λ u. without_extents u pool xs) (sym (nothing_gone settings s w pool.subpool))
      ∙ extents_at_once s pool xs (λ k. false)
      ∙ ap (emptied s pool.subpool) (λ i k. no_more (list_any (lies_in pool k) xs) i)
    where
      no_more : (b : Bool) → (b || false) ≡ b
      no_more true = refl
      no_more false = refl

  module _ (p : Subpool) (gone : ℕ → Bool) where
    abbrev left : ℕ → Bool
    left k = not (gone k) && s.taken k

    abbrev leaves : ℕ → Bool
    leaves k = holds (same_subpool p) (s.pages k) && is_idle left k

    -- what is released are doublewords of the subpool's pages
    pub pages_left : ((d : ℕ) → gone d ≡ true → s.pages (d / 512) ≡ Some p) → PagesAreSound settings (emptied s p gone)
    pages_left used = record {
      in_region = λ k q e. picked (leaves k) None (s.pages k) (Some q) _ e (λ _ is. absurd (none_some q is)) (λ _ old. w.in_region k q old);
      has_subpool = λ k q e. picked (leaves k) None (s.pages k) (Some q) _ e (λ _ is. absurd (none_some q is)) (λ _ old. w.has_subpool k q old);
      has_taken = λ k q e.
          picked (leaves k) None (s.pages k) (Some q) _ e (λ _ is. absurd (none_some q is))
          (λ stays old. elim (and_cases (holds (same_subpool p) (s.pages k)) (is_idle left k) stays) [
            | inl other ↦
                let kept = w.has_taken k q old in
                elim (cases_Bool (gone kept.0)) [
                  | inl given ↦
                      let its : s.pages k ≡ Some p = subst (λ k. s.pages k ≡ Some p) kept.1 (used kept.0 given) in
                      absurd (both_ways (holds (same_subpool p) (s.pages k)) other (ap (holds (same_subpool p)) its ∙ same_self p))
                  | inr out ↦ (kept.0, kept.1, and_from (not (gone kept.0)) (s.taken kept.0) (ap not out) kept.2)
                ]
            | inr busy ↦ busy_has left k busy
          ]);
      in_page = λ d e.
          is_some_of (leaves (d / 512)) None (s.pages (d / 512))
          (λ idle. absurd (both_ways (left d) (idle_at left (d / 512) (and_parts (holds (same_subpool p) (s.pages (d / 512))) (is_idle left (d / 512)) idle).1 d refl) e))
          (λ _. w.in_page d (and_parts (not (gone d)) (s.taken d) e).1);
      has_bytes = λ a. both_some (leaves (a / 4096)) None (s.bytes a) None (s.pages (a / 4096)) refl (w.has_bytes a);
      are_bytes = λ a byte e. picked (leaves (a / 4096)) None (s.bytes a) (Some byte) _ e (λ _ is. absurd (none_some byte is)) (λ _ old. w.are_bytes a byte old);
    }

    -- an extent stays if none of its doublewords is released
    pub extent_left : (q : CellPool) (y : CellExtent) → IsInSubpool s q y →
        ((d : ℕ) → among (y.address / 8) (extent_doublewords q y.cells) d ≡ true → gone d ≡ false) → IsInSubpool (emptied s p gone) q y
    extent_left q y h apart = record {
      has_cells = h.has_cells;
      on_doubleword = h.on_doubleword;
      is_taken = λ d own. and_from (not (gone d)) (s.taken d) (ap not (apart d own)) (h.is_taken d own);
      in_pages = λ d own.
          cond-false (leaves (d / 512)) None (s.pages (d / 512))
          (and_right (holds (same_subpool p) (s.pages (d / 512))) (is_idle left (d / 512))
          (busy_at left (d / 512) d refl (and_from (not (gone d)) (s.taken d) (ap not (apart d own)) (h.is_taken d own))))
          ∙ h.in_pages d own;
    }
