-- What is read along the statements in effect, carried out once more, is what the definitions say.
use Rattle.std.proofs.Common.{◌≡◌, ℕ, List, [], ◌∷◌, ◌++◌, map, reverse, None, Result, Ok, Err, IfOk, refl, sym, ap, ◌∙◌}
use Rattle.macro_statements.specs.Requests.{Act}
use Rattle.vsm_model.specs.declared.limits.Settings.{Settings}
use Rattle.vsm_model.specs.declared.replies.Reply.{Reply}
use Rattle.vsm_model.specs.Names.{NamedState, first_named_state}
use Rattle.vsm_model.specs.Standing.{Accepted, alone, state_after}
use Rattle.bench_core.specs.Machine.{statement_step}
use Rattle.bench_core.specs.Stands.{bench_of, settings_in}
use Rattle.bench_core.specs.declared.bench.Bench.{Bench}
use Rattle.script_steps.specs.Output.{Marked}
use Rattle.explain_standing.specs.Lined.{standing}
use Rattle.explain_standing.specs.Trails.{seen_along}
use Rattle.explain_standing.specs.declared.trail.TrailEntry.{TrailEntry}
use Rattle.explain_standing.proofs.Moves.{onto, onto_both, seen_both}
use Rattle.explain_who.specs.Readings.{reading, same}
use Rattle.explain_who.specs.Traced as traced
use Rattle.explain_who.specs.Traced.{IsFound, IsTraced, difference_at, differences_along, reading_alone, standing_differences, taken_since}
use Rattle.explain_who.specs.Who.{Difference, unless, differences_of}
use Rattle.explain_who.specs.declared.readings.Seen.{Seen}
use Rattle.explain_who.specs.declared.readings.Subject.{Subject as AskedOf}
use Rattle.explain_who.specs.declared.tracing.Traced.{Traced}

-- ---- statement by statement

-- The bench is that after these statements, oldest first, and this was read after each.
pub record IsReadTo (settings : Settings) (asked : AskedOf) (xs : List (ℕ × Act)) (bench : Bench) (seen : List (TrailEntry Seen)) : Type 0 where
  pub present : (bench_of bench).present ≡ alone first_named_state (statement_step settings) (onto (reading_alone settings asked) [] xs)
  pub under : settings_in bench ≡ settings
  pub along : seen ≡ seen_along (reading_alone settings asked) [] xs

-- Another statement is carried out, and this is read after it.
pub read_more : (settings : Settings) (asked : AskedOf) (xs : List (ℕ × Act)) (x : ℕ × Act) (old new : Bench) (seen : List (TrailEntry Seen)) (last : Seen) (reply : Reply) →
    IsReadTo settings asked xs old seen →
    statement_step (settings_in old) (bench_of old).present x.1 ≡ Accepted (bench_of new).present reply → settings_in new ≡ settings_in old →
    last ≡ reading (settings_in new) asked (bench_of new).present →
    IsReadTo settings asked (xs ++ x ∷ []) new (seen ++ record { line = x.0; seen = last } ∷ [])
read_more settings asked xs x old new seen last reply h steps kept is =
    let read = reading_alone settings asked in
    let older = onto read [] xs in
    let under : settings_in new ≡ settings = kept ∙ h.under in
    let steps_on : statement_step settings (alone first_named_state (statement_step settings) older) x.1 ≡ Accepted (bench_of new).present reply =
    (λ i. statement_step (sym h.under i) (sym h.present i) x.1) ∙ steps in
    let present : (bench_of new).present ≡ alone first_named_state (statement_step settings) (x.1 ∷ older) =
    ap (state_after (alone first_named_state (statement_step settings) older)) (sym steps_on) in
    let last_is : last ≡ read (x.1 ∷ older) = is ∙ (λ i. reading (under i) asked (present i)) in
    record {
      present = present ∙ ap (alone first_named_state (statement_step settings)) (sym (onto_both read [] xs (x ∷ [])));
      under = under;
      along = (λ i. h.along i ++ record { line = x.0; seen = last_is i } ∷ []) ∙ sym (seen_both read [] xs (x ∷ []));
    }

-- ---- all of them

module _ (settings : Settings) (read : NamedState → Seen) where
  abbrev reading_after : List Act → Seen
  reading_after xs = read (alone first_named_state (statement_step settings) xs)

  along : (older xs : List (ℕ × Act)) →
      differences_of (taken_since settings read older) (traced.read_after settings read older) (seen_along reading_after (map (λ y. y.1) older) xs)
      ≡ differences_along settings read older xs
  along older [] = refl
  along older (x ∷ xs) =
      let before = traced.read_after settings read older in
      let after = traced.read_after settings read (x ∷ older) in
      ap (λ ds. unless (same before after) (difference_at settings read older x) ++ ds) (along (x ∷ older) xs)

  pub found_along : (answers : List Marked) (first : Seen) (entries : List (TrailEntry Seen)) → first ≡ read first_named_state →
      entries ≡ seen_along reading_after [] (reverse (standing settings answers)) →
      differences_of None first entries ≡ standing_differences settings read answers
  found_along answers first entries is all = (λ i. differences_of None (is i) (all i)) ∙ along [] (reverse (standing settings answers))

-- What was found is what is stated of the script.
pub all_found : {V E : Type 0} (found : Result V E) (shown : V → List Difference) (t : Traced) (entries : List (TrailEntry Seen)) → entries ≡ t.entries.items →
    IfOk found (λ xs. shown xs ≡ differences_of None t.first entries) →
    IfOk found (λ xs. (settings : Settings) (script : List ℕ) (asked : AskedOf) → IsTraced settings script asked t → IsFound settings script asked (shown xs))
all_found (Ok xs) shown t entries are h = λ settings script asked its.
    (its.answers, its.ended, h ∙ found_along settings (reading settings asked) its.answers t.first entries its.first (are ∙ its.along))
all_found (Err e) shown t entries are h = tt
