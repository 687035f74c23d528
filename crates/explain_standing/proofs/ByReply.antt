-- A service takes what its reply tells.
use Rattle.std.proofs.Common.{◌≡◌, ◌⊎◌, ℕ, zero, suc, ◌+◌, ◌-◌, ◌*◌, ◌/◌, ◌<◌, ◌≤◌, ◌^◌, Bool, true, false, not, ◌&&◌, ◌||◌, Option, Some, None, is_some, List, [], ◌∷◌, refl, sym, ap, ◌∙◌, arith, inl, inr}
use Rattle.std.specs.Prelude.{Contains, ◌==◌}
use Rattle.std.specs.List.{list_any}
use Rattle.vsm_model.specs.declared.Subpool.{Subpool}
use Rattle.vsm_model.specs.declared.causes.Cause.{Cause}
use Rattle.vsm_model.specs.declared.limits.Residence.{Residence}
use Rattle.vsm_model.specs.declared.limits.Residence.TheVariants.{Below, Above}
use Rattle.vsm_model.specs.declared.limits.Settings.{Settings}
use Rattle.vsm_model.specs.declared.replies.Reply.{Reply}
use Rattle.vsm_model.specs.declared.replies.Reply.TheVariants.{Obtained, Returned, Cell, Attached}
use Rattle.vsm_model.specs.Ending.{is_in_subtree}
use Rattle.vsm_model.specs.Map.{total_bytes}
use Rattle.vsm_model.specs.declared.services.Attach.{Attach}
use Rattle.vsm_model.specs.declared.services.Build.{Build}
use Rattle.vsm_model.specs.declared.services.Get.{Get}
use Rattle.vsm_model.specs.declared.services.Obtain.{Obtain}
use Rattle.vsm_model.specs.Subpools.{same_subpool, seen_or_own}
use Rattle.service_laws.specs.Extents.{lies_in}
use Rattle.service_laws.proofs.Placed.{in_regions}
use Rattle.vsm_model.specs.Regions.{Region, doublewords, side, among, within, low_region, high_region, regions_for, in_a_region, settings_valid}
use Rattle.vsm_model.specs.Registers.{with_register, with_registers, registers_set}
use Rattle.vsm_model.specs.Search.{holds}
use Rattle.vsm_model.specs.Services.{Service, obtain, release, whole, attach, detach, end_task, run, store, build, get, free, delete}
use Rattle.vsm_model.specs.Standing.{Outcome, Accepted, state_after, reply_in}
use Rattle.vsm_model.specs.State.{State}
use Rattle.vsm_model.specs.Step.{effect, step}
use Rattle.vsm_model.specs.WellFormed.{IsWellFormed}
use Rattle.vsm_model.proofs.Chosen.{accepted_has_its_effect}
use Rattle.service_laws.proofs.Words.{low_page}
use Rattle.service_laws.proofs.Grants.{obtain_grants_free_storage, answer_four_sets_register_15_alone}
use Rattle.service_laws.proofs.BuiltAndDeleted.{build_makes_a_cell_pool, delete_gives_its_extents_back}
use Rattle.service_laws.proofs.Promised.{get_hands_out_a_cell}
use Rattle.service_laws.proofs.IsAttached.{attach_makes_a_task}
use Rattle.explain_standing.specs.Newly.{is_newly, newly_between, run_of, grown, taken_by, TakenByTheReply}
use Rattle.explain_standing.proofs.SingleRun.{no_runs, one_run}
use Rattle.explain_standing.proofs.Grown.{TakenInPages, grown_low, grown_high}
use Rattle.std.proofs.lemmas.List.Elements.{All-contains, All-cons, All-nil}

-- ---- nothing is taken

less : (a b : Bool) → (not a && b) && not b ≡ false
less true true = refl
less true false = refl
less false true = refl
less false false = refl

same : (b : Bool) → b && not b ≡ false
same true = refl
same false = refl

none_newly : (s t : State) → ((d : ℕ) → is_newly s t d ≡ false) → newly_between s t ≡ []
unfolding newly_between
none_newly s t none = no_runs (is_newly s t) 0 (2 ^ 28) (λ d from to. none d)

kept_newly : (s t : State) → t.taken ≡ s.taken → (d : ℕ) → is_newly s t d ≡ false
kept_newly s t is d = ap (λ (f : ℕ → Bool). f d && not (s.taken d)) is ∙ same (s.taken d)

less_newly : (s t : State) (these : ℕ → Bool) → ((d : ℕ) → t.taken d ≡ (not (these d) && s.taken d)) → (d : ℕ) → is_newly s t d ≡ false
less_newly s t these is d = ap (λ (b : Bool). b && not (s.taken d)) (is d) ∙ less (these d) (s.taken d)

registers_keep : (rows : List (ℕ × ℕ)) (s : State) → (with_registers s rows).taken ≡ s.taken
registers_keep [] s = refl
registers_keep (row ∷ rows) s = registers_keep rows (with_register s row.0 row.1)

-- The reply says nothing.
abbrev IsQuiet : Reply → Type 0
IsQuiet reply = (b c : ℕ) → taken_by reply b c ≡ []

module _ (settings : Settings) (names_full : Bool) (s t : State) (x : Service) (reply : Reply) where
  same_reply : (r : Reply) → ◌≡◌ {A = Option Reply} (Some r) (Some reply) → reply ≡ r
  same_reply r e = cc

  -- A service whose effect takes nothing, and whose reply says nothing.
  quiet : ((d : ℕ) → is_newly s (effect settings s x).0 d ≡ false) → IsQuiet (effect settings s x).1 → step settings names_full s x ≡ Accepted t reply →
      (b c : ℕ) → taken_by reply b c ≡ newly_between s t
  quiet none silent e b c = elim (accepted_has_its_effect settings names_full s t x reply e) [
    | inl has ↦
        let kept : t.taken ≡ (effect settings s x).0.taken =
        ap (λ (o : Outcome State Reply Cause). (state_after s o).taken) (sym has.1) ∙ registers_keep (registers_set x (effect settings s x).1) (effect settings s x).0 in
        let is : reply ≡ (effect settings s x).1 = same_reply (effect settings s x).1 (ap reply_in has.1) in
        ap (λ r. taken_by r b c) is ∙ silent b c
        ∙ sym (none_newly s t (λ d. ap (λ (f : ℕ → Bool). f d && not (s.taken d)) kept ∙ none d))
    | inr four ↦
        ap (λ r. taken_by r b c) four.1
        ∙ sym (none_newly s t (kept_newly s t (ap (λ (u : State). u.taken) four.2)))
  ]

-- ---- an area is taken

area_newly : (s t : State) (first count : ℕ) → ((d : ℕ) → among first count d ≡ true → s.taken d ≡ false) →
    ((d : ℕ) → t.taken d ≡ (among first count d || s.taken d)) → (d : ℕ) → is_newly s t d ≡ among first count d
area_newly s t first count was is d = ap (λ b. b && not (s.taken d)) (is d) ∙ go (among first count d) refl where
  go : (b : Bool) → among first count d ≡ b → (b || s.taken d) && not (s.taken d) ≡ b
  go true e = ap (λ f. not f) (was d e)
  go false e = same (s.taken d)

-- The area lies in a region, whose addresses are below 2^31.
ends : (settings : Settings) (first count : ℕ) → settings_valid settings ≡ true → ((d : ℕ) → among first count d ≡ true → in_a_region settings (d / 512) ≡ true) → 0 < count → first + count ≤ 2 ^ 28
ends settings first count valid in_one some =
    let last : ℕ = first + count - 1 in
    let is : among first count last ≡ true = grind (arith, some) in
    let page : last / 512 < 425984 = low_page settings (last / 512) valid (in_one last is) in
    omega (arith, page, some)

area_is : (settings : Settings) (s t : State) (first count : ℕ) → settings_valid settings ≡ true → ((d : ℕ) → among first count d ≡ true → in_a_region settings (d / 512) ≡ true) →
    ((d : ℕ) → among first count d ≡ true → s.taken d ≡ false) → ((d : ℕ) → t.taken d ≡ (among first count d || s.taken d)) → run_of first count ≡ newly_between s t
unfolding newly_between
area_is settings s t first zero valid in_one was is = sym (no_runs (is_newly s t) 0 (2 ^ 28) (λ d from to. area_newly s t first 0 was is d ∙ (let e : among first 0 d ≡ false = grind arith in e)))
area_is settings s t first (suc c) valid in_one was is =
    sym (one_run (is_newly s t) first (suc c) (2 ^ 28) (area_newly s t first (suc c) was is) (ends settings first (suc c) valid in_one (omega arith)))

-- one of the regions
is_low : (settings : Settings) (k : ℕ) → within (low_region settings) k ≡ true → in_a_region settings k ≡ true
is_low settings k e = ap (λ b. within (high_region settings) k || (b || false)) e ∙ or_true (within (high_region settings) k) where
  or_true : (b : Bool) → (b || true) ≡ true
  or_true true = refl
  or_true false = refl

is_high : (settings : Settings) (k : ℕ) → within (high_region settings) k ≡ true → in_a_region settings k ≡ true
is_high settings k e = ap (λ b. b || (within (low_region settings) k || false)) e

in_either : (settings : Settings) (r : Region) (k : ℕ) → (r ≡ low_region settings) ⊎ (r ≡ high_region settings) → within r k ≡ true → in_a_region settings k ≡ true
in_either settings r k which e = elim which [
  | inl low ↦ is_low settings k (ap (λ q. within q k) (sym low) ∙ e)
  | inr high ↦ is_high settings k (ap (λ q. within q k) (sym high) ∙ e)
]

-- ---- the services

region_is : (settings : Settings) (side : Residence) (r : Region) → Contains (regions_for settings side) r → (r ≡ low_region settings) ⊎ (r ≡ high_region settings)
region_is settings Below r one =
    All-contains (λ r. (r ≡ low_region settings) ⊎ (r ≡ high_region settings)) (regions_for settings Below) r
    (All-cons (λ r. (r ≡ low_region settings) ⊎ (r ≡ high_region settings)) (low_region settings) [] (inl refl) (All-nil (λ r. (r ≡ low_region settings) ⊎ (r ≡ high_region settings)))) one
region_is settings Above r one =
    All-contains (λ r. (r ≡ low_region settings) ⊎ (r ≡ high_region settings)) (regions_for settings Above) r
    (All-cons (λ r. (r ≡ low_region settings) ⊎ (r ≡ high_region settings)) (high_region settings) (low_region settings ∷ []) (inr refl)
    (All-cons (λ r. (r ≡ low_region settings) ⊎ (r ≡ high_region settings)) (low_region settings) [] (inl refl) (All-nil (λ r. (r ≡ low_region settings) ⊎ (r ≡ high_region settings))))) one

module _ (settings : Settings) (names_full : Bool) (s t : State) (reply : Reply) (valid : settings_valid settings ≡ true) (w : IsWellFormed settings s) where
  abbrev b : ℕ
  b = total_bytes settings s true

  abbrev c : ℕ
  c = total_bytes settings t true

  abbrev IsAccepted : Service → Type 0
  IsAccepted x = step settings names_full s x ≡ Accepted t reply

  abbrev TakesIt : Type 0
  TakesIt = taken_by reply b c ≡ newly_between s t

  less_taken : (x : Service) (these : ℕ → Bool) → ((d : ℕ) → (effect settings s x).0.taken d ≡ (not (these d) && s.taken d)) → IsQuiet (effect settings s x).1 → IsAccepted x → TakesIt
  less_taken x these is silent e = quiet settings names_full s t x reply (less_newly s (effect settings s x).0 these is) silent e b c

  same_taken : (x : Service) → (effect settings s x).0.taken ≡ s.taken → IsQuiet (effect settings s x).1 → IsAccepted x → TakesIt
  same_taken x is silent e = quiet settings names_full s t x reply (kept_newly s (effect settings s x).0 is) silent e b c

  as_told : (r : Reply) → reply ≡ r → taken_by r b c ≡ newly_between s t → TakesIt
  as_told r is told = ap (λ r. taken_by r b c) is ∙ told

  by_obtain : (o : Obtain) → IsAccepted (obtain o) → TakesIt
  by_obtain o e = elim (answer_four_sets_register_15_alone settings names_full s t o reply e) [
    | inl (address, given, is) ↦
        let granted = (obtain_grants_free_storage settings names_full s t o address given w (e ∙ ap (Accepted t) is)).0 in
        let area = granted.area in
        let which : (area.region ≡ low_region settings) ⊎ (area.region ≡ high_region settings) = elim area.on_side [ inl low ↦ inl low | inr high ↦ inr high.0 ] in
        as_told (Obtained address given) is
        (area_is settings s t (address / 8) (given / 8) valid (λ d at. in_either settings area.region (d / 512) which (area.in_region d at)) area.was_free area.taken)
    | inr four ↦ as_told (Returned 4) four.1 (sym (none_newly s t (kept_newly s t (ap (λ (u : State). u.taken) four.2.same))))
  ]

  by_attach : (a : Attach) → IsAccepted (attach a) → TakesIt
  by_attach a e =
      let h = attach_makes_a_task settings names_full s t a reply w e in
      as_told (Attached h.0) h.2 (sym (none_newly s t (kept_newly s t h.1.doublewords)))

  by_delete : (name : List ℕ) → IsAccepted (delete name) → TakesIt
  by_delete name e =
      let h = delete_gives_its_extents_back settings names_full s t name reply w e in
      as_told (Returned 0) h.1 (sym (none_newly s t (less_newly s t (λ d. list_any (lies_in h.0.pool d) h.0.pool.extents) h.0.taken)))

  by_build : (name : List ℕ) (header : Option (List ℕ)) (made : Build) → IsAccepted (build name header made) → TakesIt
  by_build name header made e =
      let h = build_makes_a_cell_pool settings names_full s t name header made reply w e in
      let n = doublewords (made.primary * made.size) in
      let area = h.2.area in
      as_told (Obtained h.0 (8 * n)) h.1
      (ap (run_of (h.0 / 8)) (eight n)
      ∙ area_is settings s t (h.0 / 8) n valid (λ d at. in_regions settings (side settings made.location) h.2.region h.2.on_its_side (d / 512) (area.in_region d at)) area.was_free area.taken)
    where
      eight : (n : ℕ) → (8 * n) / 8 ≡ n
      eight n = omega arith

  nothing_more : (x : ℕ) → grown x x ≡ 0
  nothing_more x = omega arith

  -- after the area is taken, what is taken lies in pages
  taken_on : (first n : ℕ) (p : Subpool) → ((d : ℕ) → t.taken d ≡ (among first n d || s.taken d)) → ((d : ℕ) → among first n d ≡ true → t.pages (d / 512) ≡ Some p) →
      ((k : ℕ) (q : Subpool) → s.pages k ≡ Some q → t.pages k ≡ Some q) → TakenInPages t
  taken_on first n p is here others d e = go (among first n d) refl where
    page_on : (o : Option Subpool) → s.pages (d / 512) ≡ o → is_some o ≡ true → is_some (t.pages (d / 512)) ≡ true
    page_on (Some q) at some = ap is_some (others (d / 512) q at)
    page_on None at some = absurd (let no : false ≡ true = some in cc)

    go : (b : Bool) → among first n d ≡ b → is_some (t.pages (d / 512)) ≡ true
    go true at = ap is_some (here d at)
    go false at = page_on (s.pages (d / 512)) refl (w.pages.in_page d (ap (λ b. b || s.taken d) (sym at) ∙ sym (is d) ∙ e))

  grown_by : (first n : ℕ) (r : Region) → ((d : ℕ) → among first n d ≡ true → in_a_region settings (d / 512) ≡ true) → (r ≡ low_region settings) ⊎ (r ≡ high_region settings) →
      ((d : ℕ) → among first n d ≡ true → within r (d / 512) ≡ true) → ((d : ℕ) → among first n d ≡ true → s.taken d ≡ false) →
      ((d : ℕ) → t.taken d ≡ (among first n d || s.taken d)) → TakenInPages t → grown b c ≡ n
  grown_by first n r in_one which one was is on =
      let small : n ≤ 2 ^ 28 = few n refl in
      elim which [
        | inl low ↦ grown_low settings s t first n valid w.pages.in_page on was is small (λ d at. ap (λ q. within q (d / 512)) (sym low) ∙ one d at)
        | inr high ↦ grown_high settings s t first n valid w.pages.in_page on was is small (λ d at. ap (λ q. within q (d / 512)) (sym high) ∙ one d at)
      ]
    where
      few : (m : ℕ) → n ≡ m → n ≤ 2 ^ 28
      few zero e = omega (arith, e)
      few (suc m) e = let h = ends settings first n valid in_one (omega (arith, e)) in omega (arith, h)

  by_get : (name : List ℕ) (g : Get) → IsAccepted (get name g) → TakesIt
  by_get name g e = elim (get_hands_out_a_cell settings names_full s t name g reply w e) [
    | inr four ↦ as_told (Returned 4) four.1 (sym (none_newly s t (kept_newly s t (ap (λ (u : State). u.taken) four.3.same))))
    | inl (cell, is, out, few) ↦ elim out.source [
      | inl first ↦
          as_told (Cell cell) is
          (ap (λ (u : State). run_of (cell / 8) (grown b (total_bytes settings u true))) first.same ∙ ap (run_of (cell / 8)) (nothing_more b)
          ∙ sym (none_newly s t (kept_newly s t (ap (λ (u : State). u.taken) first.same))))
      | inr (plain, further) ↦
          let n = doublewords (out.pool.secondary * out.pool.size) in
          let area = further.area in
          let in_one : (d : ℕ) → among (cell / 8) n d ≡ true → in_a_region settings (d / 512) ≡ true = λ d at. in_regions settings out.pool.location further.region further.on_its_side (d / 512) (area.in_region d at) in
          as_told (Cell cell) is
          (ap (run_of (cell / 8)) (grown_by (cell / 8) n further.region in_one (region_is settings out.pool.location further.region further.on_its_side) area.in_region area.was_free area.taken
          (taken_on (cell / 8) n out.pool.subpool area.taken area.in_subpool area.others))
          ∙ area_is settings s t (cell / 8) n valid in_one area.was_free area.taken)
    ]
  ]

pub taken_by_the_reply : TakenByTheReply
taken_by_the_reply settings names_full s t (obtain o) reply valid w e = by_obtain settings names_full s t reply valid w o e
taken_by_the_reply settings names_full s t (release r) reply valid w e = less_taken settings names_full s t reply valid w (release r) (among (r.address / 8) (doublewords r.length)) (λ d. refl) (λ b c. refl) e
taken_by_the_reply settings names_full s t (whole number) reply valid w e =
    less_taken settings names_full s t reply valid w (whole number) (λ d. holds (same_subpool (seen_or_own s number)) (s.pages (d / 512))) (λ d. refl) (λ b c. refl) e
taken_by_the_reply settings names_full s t (attach a) reply valid w e = by_attach settings names_full s t reply valid w a e
taken_by_the_reply settings names_full s t (detach task) reply valid w e =
    less_taken settings names_full s t reply valid w (detach task) (λ d. holds (λ p. is_in_subtree s task p.owner) (s.pages (d / 512))) (λ d. refl) (λ b c. refl) e
taken_by_the_reply settings names_full s t end_task reply valid w e =
    less_taken settings names_full s t reply valid w end_task (λ d. holds (λ p. p.owner == s.current) (s.pages (d / 512))) (λ d. refl) (λ b c. refl) e
taken_by_the_reply settings names_full s t (run task) reply valid w e = same_taken settings names_full s t reply valid w (run task) refl (λ b c. refl) e
taken_by_the_reply settings names_full s t (store address bytes) reply valid w e = same_taken settings names_full s t reply valid w (store address bytes) refl (λ b c. refl) e
taken_by_the_reply settings names_full s t (build name header made) reply valid w e = by_build settings names_full s t reply valid w name header made e
taken_by_the_reply settings names_full s t (get name g) reply valid w e = by_get settings names_full s t reply valid w name g e
taken_by_the_reply settings names_full s t (free name cell) reply valid w e = same_taken settings names_full s t reply valid w (free name cell) refl (λ b c. refl) e
taken_by_the_reply settings names_full s t (delete name) reply valid w e = by_delete settings names_full s t reply valid w name e
