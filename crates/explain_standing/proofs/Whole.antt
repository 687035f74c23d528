-- The statements of a whole script are carried out.
use Rattle.std.proofs.Common.{◌≡◌, ℕ, List, Ok, [], map, reverse, take, ap, subst, ◌∙◌}
use Rattle.std.proofs.lemmas.List.{reverse-reverse}
use Rattle.macro_operands.specs.declared.requests.Statement.{Statement}
use Rattle.vsm_model.specs.declared.limits.Settings.{Settings}
use Rattle.explain_standing.specs.Carried.{CarriesAll, IsCarried, IsCarriedOut, line_act}
use Rattle.explain_standing.specs.Lined.{standing}
use Rattle.explain_standing.specs.Standings.{IsFollowedBy}
use Rattle.explain_standing.specs.Trails.{marks_of}
use Rattle.explain_standing.specs.declared.carried.Carried.{Carried}
use Rattle.explain_standing.specs.declared.standing.Followed.{Followed}
use Rattle.explain_standing.specs.declared.trail.TrailEntry.{TrailEntry}

-- The statements in effect of a script that was followed are carried out.
pub all_carried : (settings : Settings) (script : List ℕ) (f : Followed) (entries : List (TrailEntry Statement)) (new carried : Carried) → IsFollowedBy settings script f →
    entries ≡ take (marks_of f.trail).standing (marks_of f.trail).entries → IsCarried settings [] new → CarriesAll entries new carried →
    IsCarriedOut settings script (Ok carried)
all_carried settings script f entries new carried h are none all = (
  h.answers,
  h.ended,
  subst (λ xs. IsCarried settings xs carried)
      (ap (λ es. reverse (map line_act es)) are ∙ ap reverse h.acts ∙ reverse-reverse (standing settings h.answers)) (all settings none),
)
