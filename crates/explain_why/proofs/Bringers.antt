-- Which line brought an obstacle, by statements that are carried out in turn.
use Rattle.std.proofs.Common.{◌≡◌, ℕ, Bool, List, [], ◌∷◌, Option, Some, None, Result, Ok, Err, IfOk, map, reverse, take, refl, ap, subst, ◌∙◌}
use Rattle.std.specs.Prelude.{option_map}
use Rattle.std.proofs.lemmas.List.{reverse-reverse}
use Rattle.bench_core.specs.Stands.{bench_of, settings_in}
use Rattle.macro_operands.specs.declared.requests.Statement.{Statement}
use Rattle.macro_statements.specs.Requests.{Act}
use Rattle.script_steps.specs.Output.{Marked}
use Rattle.script_steps.specs.Taken.{Ended}
use Rattle.storage_core.specs.Meaning.{settings_of, state_of}
use Rattle.storage_core.specs.declared.storage.Storage.{Storage}
use Rattle.vsm_model.specs.Names.{NamedState}
use Rattle.vsm_model.specs.declared.limits.Settings.{Settings}
use Rattle.explain_standing.specs.Trails.{marks_of}
use Rattle.explain_standing.specs.declared.trail.TrailEntry.{TrailEntry}
use Rattle.explain_standing.specs.Carried.{IsCarried, line_act}
use Rattle.explain_standing.specs.Since.{machine_after, since}
use Rattle.explain_standing.specs.Standings.{IsFollowedBy}
use Rattle.explain_standing.specs.Lined.{standing}
use Rattle.explain_standing.specs.declared.carried.Carried.{Carried}
use Rattle.explain_standing.specs.declared.standing.Followed.{Followed}
use Rattle.explain_why.specs.Obstacles.{IsBringerOf, bringer_after, is_there, last_change}
use Rattle.explain_why.specs.declared.faults.WhyFault.{WhyFault}
use Rattle.explain_why.specs.declared.obstacles.Bringer.{Bringer}
use Rattle.explain_why.specs.declared.obstacles.Obstacle.{Obstacle}

-- After these statements it's known whether the obstacle is there, and which line brought it.
pub record IsKnown (settings : Settings) (o : Obstacle) (xs : List (ℕ × Act)) (c : Carried) (there : Bool) (line : Option ℕ) : Type 0 where
  pub carried : IsCarried settings xs c
  pub there_is : there ≡ is_there settings o (machine_after settings xs).storage
  pub line_is : line ≡ last_change settings (is_there settings o) xs

-- a line that brought an obstacle, which is that of what is asked for, if that can be written
pub if_brought : (V : Type 0) (settings : Settings) (script : List ℕ) (o : Obstacle) (asked : Option Obstacle) (r : Result (Option Bringer) WhyFault) → (V → Some o ≡ asked) →
    IfOk r (IsBringerOf settings script (Some o)) → IfOk r (λ bringer. V → IsBringerOf settings script asked bringer)
if_brought V settings script o asked (Ok bringer) same h = λ v. subst (λ a. IsBringerOf settings script a bringer) (same v) h
if_brought V settings script o asked (Err fault) same h = h

module _ (settings : Settings) (o : Obstacle) where
  there_after : (xs : List (ℕ × Act)) (c : Carried) (s : Storage) (there : Bool) → IsCarried settings xs c → state_of s ≡ (bench_of c.bench).present.storage →
      settings_of s ≡ settings_in c.bench → there ≡ is_there (settings_of s) o (state_of s) → there ≡ is_there settings o (machine_after settings xs).storage
  there_after xs c s there h state under is =
      is ∙ (λ i. is_there ((under ∙ h.under) i) o ((state ∙ ap (λ (m : NamedState). m.storage) h.present) i))

  pub none_known : (c : Carried) (s : Storage) (there : Bool) → IsCarried settings [] c → state_of s ≡ (bench_of c.bench).present.storage →
      settings_of s ≡ settings_in c.bench → there ≡ is_there (settings_of s) o (state_of s) → IsKnown settings o [] c there None
  none_known c s there h state under is = record { carried = h; there_is = there_after [] c s there h state under is; line_is = refl }

  pub more_known : (older : List (ℕ × Act)) (x : ℕ × Act) (c new : Carried) (s : Storage) (was there : Bool) (before line : Option ℕ) → IsKnown settings o older c was before →
      IsCarried settings (x ∷ older) new → state_of s ≡ (bench_of new.bench).present.storage → settings_of s ≡ settings_in new.bench →
      there ≡ is_there (settings_of s) o (state_of s) → line ≡ since there was x.0 before → IsKnown settings o (x ∷ older) new there line
  more_known older x c new s was there before line k h state under is its =
      let now = there_after (x ∷ older) new s there h state under is in
      record { carried = h; there_is = now; line_is = its ∙ (λ i. since (now i) (k.there_is i) x.0 (k.line_is i)) }

  -- So is it for the statements in effect of a script that was followed.
  pub brought_in : (script : List ℕ) (f : Followed) (entries : List (TrailEntry Statement)) (line : Option ℕ) → IsFollowedBy settings script f →
      entries ≡ take (marks_of f.trail).standing (marks_of f.trail).entries →
      line ≡ last_change settings (is_there settings o) (reverse (map line_act entries)) →
      (answers : List Marked) × Ended settings script answers
      × (option_map (λ n. record { line = n; obstacle = o }) line ≡ bringer_after settings o answers)
  brought_in script f entries line h are is =
      let same = ap (λ es. reverse (map line_act es)) are ∙ ap reverse h.acts ∙ reverse-reverse (standing settings h.answers) in (
        h.answers,
        h.ended,
        ap (option_map (λ n. record { line = n; obstacle = o })) (is ∙ ap (last_change settings (is_there settings o)) same),
      )
