use Rattle.std.proofs.Common.{◌≡◌, ℕ, ◌<◌, ◌≤◌, not, true, length, IfSome, Option, Some, List, Bor, sym, ap, ◌∙◌, subst, arith}
use Rattle.std.specs.Prelude.{option_map}
use Rattle.std.proofs.lemmas.Result.{err_from_is_err_and}
use Rattle.vsm_model.specs.Subpools.{seen_or_own, sees_one}
use Rattle.vsm_model.specs.Causes.{first_cause}
use Rattle.vsm_model.specs.Cells.{build_causes}
use Rattle.cell_pool.specs.declared.settings.CellSettings.{CellSettings}
use Rattle.storage_changes.specs.Meaning.{model_of}
use Rattle.storage_swap.specs.Storage.{state_of}
use Rattle.storage_plans.specs.Places.{place_of}
use Rattle.cell_plans.specs.CellPlans.{IsOpen}
use Rattle.cell_plans.proofs.BuildPlans.{built_with, first_few, goes_is, place_in_words, planned, refused}
use Rattle.cell_plans.proofs.build.plan_build.Goals as goal

pub returns-in_err-number : goal.returns-in_err-number
returns-in_err-number c =
    let p = err_from_is_err_and c.from_residual.result c.from_residual.ensures.1 in
    let t = model_of (state_of c.args.storage.now) in
    let header : Option (List ℕ) = option_map (λ (text : Bor (List ℕ)). text.now) c.args.header in
    let is_first : List ℕ → Type 0 = λ n. first_cause (build_causes c.args.settings t n header c.args.b) ≡ Some c.in_err-number.field-0.0 in
    let first : is_first c.args.name.now = subst is_first c.name_of.ensures (c.in_err-number.ensures.err c.args.settings header) in
    λ names_full. rw (p.1, p.2) (refused c.args.settings t c.args.name.now header c.args.b names_full c.in_err-number.field-0.0 first)

pub area_place-requires-clause-asked : goal.area_place-requires-clause-asked
area_place-requires-clause-asked c =
    let few = first_few c.args.b c.in_ok-number.ensures.is_open.cells in
    let count = c.extent_doublewords-count.ensures in
    (subst (λ (n : ℕ). 0 < n) (sym count) few.1, subst (λ (n : ℕ). n ≤ 536870912) (sym count) few.2, omega arith, omega arith)

pub plan_pool-requires-clause-bytes : goal.plan_pool-requires-clause-bytes
plan_pool-requires-clause-bytes c = (first_few c.args.b c.in_ok-number.ensures.is_open.cells).0

pub plan_pool-requires-clause-words : goal.plan_pool-requires-clause-words
plan_pool-requires-clause-words c =
    let m = state_of c.args.storage.now in
    let b = c.args.b in
    let its = c.in_ok-number.ensures in
    let own = c.subpool_for-is_new.ensures.subpool ∙ ap (seen_or_own (model_of m)) its.number in
    let at = ap place_of (sym c.in-Some.is) ∙ c.area_place.ensures
    ∙ goes_is c.args.settings (model_of m) c.name_of.result.bytes (option_map (λ (text : Bor (List ℕ)). text.now) c.args.header) b
    c.side_of-location.result c.subpool_for-is_new.result.0 c.extent_doublewords-count.result c.side_of-location.ensures own c.extent_doublewords-count.ensures in
    let new = c.subpool_for-is_new.ensures.is_new ∙ ap (λ (n : ℕ). not (sees_one (model_of m) n)) its.number in
    place_in_words c.args.settings true m c.name_of.result.bytes (option_map (λ (text : Bor (List ℕ)). text.now) c.args.header) b c.requires.valid its.is_open c.in-Some.place c.subpool_for-is_new.result.1 at new

pub returns : goal.returns
returns c =
    let m = state_of c.args.storage.now in
    let b = c.args.b in
    let name = c.args.name.now in
    let header : Option (List ℕ) = option_map (λ (text : Bor (List ℕ)). text.now) c.args.header in
    let its = c.in_ok-number.ensures in
    let can : IsOpen m name b = subst (λ (n : List ℕ). IsOpen m n b) c.name_of.ensures its.is_open in
    let own = c.subpool_for-is_new.ensures.subpool ∙ ap (seen_or_own (model_of m)) its.number in
    let at = ap place_of (sym c.in-Some.is) ∙ c.area_place.ensures
    ∙ goes_is c.args.settings (model_of m) name header b
    c.side_of-location.result c.subpool_for-is_new.result.0 c.extent_doublewords-count.result c.side_of-location.ensures own c.extent_doublewords-count.ensures in
    let new = c.subpool_for-is_new.ensures.is_new ∙ ap (λ (n : ℕ). not (sees_one (model_of m) n)) its.number in
    let given : CellSettings = record {
      subpool = c.subpool_for-is_new.result.0;
      size = b.size;
      primary = b.primary;
      secondary = c.unwrap_or.result;
      location = c.side_of-location.result;
    } in
    let is_given : given ≡ built_with c.args.settings true m name header b c.requires.valid can =
    λ i. record { subpool = own i; size = b.size; primary = b.primary; secondary = c.unwrap_or.ensures i; location = c.side_of-location.ensures i } in
    let plan = c.plan_pool.result in
    let made = c.plan_pool.ensures in
    let is_header : option_map (λ (text : Bor (List ℕ)). text.now) plan.header ≡ header = ap (option_map (λ (text : Bor (List ℕ)). text.now)) made.header in
    let is_short : Option (Bor (List ℕ)) → Type 0 = λ h. IfSome h (λ text. length text.now ≤ 24) in
    λ names_full. planned c.args.settings names_full m name header b c.requires.valid can c.in-Some.place c.subpool_for-is_new.result.1 at new plan given is_given
    made.name is_header c.requires.name (subst is_short (sym made.header) c.requires.header) made.settings made.start made.records made.blanks made.fresh made.reply
    c.building_leads.ensures c.cell_pools_stay_well_formed.ensures.build (c.cell_pools_are_named.ensures c.args.storage.now.elements c.args.storage.now.subpools c.requires.sound.stands.subpools)
    c.requires.sound.sound
