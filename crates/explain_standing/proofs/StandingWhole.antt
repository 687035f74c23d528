-- A whole script is followed, line by line.
use Rattle.std.proofs.Common.{◌≡◌, ℕ, List, [], ◌++◌, take, drop, Option, Some, None, Result, Ok, Err, IsErrAnd, refl, sym, ap, subst, ◌∙◌}
use Rattle.std.proofs.lemmas.List.{take-append-drop}
use Rattle.macro_statements.specs.Requests.{Act}
use Rattle.vsm_model.specs.declared.limits.Settings.{Settings}
use Rattle.vsm_model.specs.declared.replies.Reply.{Reply}
use Rattle.vsm_model.specs.Standing.{nothing_stands}
use Rattle.script_steps.specs.Output.{Marked}
use Rattle.script_steps.specs.Steps.{IsLineOf}
use Rattle.script_steps.specs.Taken.{Took}
use Rattle.script_steps.specs.declared.session.Session.{Session}
use Rattle.explain_standing.specs.Faults.{FollowsNot}
use Rattle.explain_standing.specs.Notes.{IsNextLine}
use Rattle.explain_standing.specs.Trails as marks
use Rattle.explain_standing.specs.Trails.{nothing_marked}
use Rattle.explain_standing.specs.declared.faults.FollowFault.{FollowFault}
use Rattle.explain_standing.proofs.AnswerMarks.{lined}
use Rattle.explain_standing.proofs.Moves.{nothing_follows}
use Rattle.explain_standing.specs.Standings.{Follows, FollowsLine, FollowsEnd, IsEndFollowed, IsFollowed, IsFollowedBy, marks_in, newest, readings_in}
use Rattle.explain_standing.specs.declared.standing.Followed.{Followed}
use Rattle.explain_standing.proofs.StandingNotes.{acts_stand, readings_turned}

-- Before the first line.
pub nothing_followed : (settings : Settings) (f : Followed) → marks_in f.trail ≡ nothing_marked → readings_in f.readings.items ≡ [] → Follows settings [] f
nothing_followed settings f acts readings =
    record {
      acts = subst (marks.Follows newest (nothing_stands {X = ℕ × Act} {R = Reply})) (sym acts) (nothing_follows newest);
      readings = readings;
      within = tt;
    }

-- Another line is followed.
pub next_followed : (settings : Settings) (script : List ℕ) (at : ℕ) (r : Option ℕ) (next : ℕ) (old new : Session) (f g : Followed) →
    r ≡ Some next → IsNextLine script at (Ok r) →
    ((answers : List Marked) × Took settings (take at script) answers old × Follows settings answers f) →
    ((settings : Settings) (answers : List Marked) → Took settings (take at script) answers old → Follows settings answers f →
    FollowsLine settings script at answers new g (Ok r)) →
    (IsLineOf script at next) × ((answers : List Marked) × Took settings (take next script) answers new × Follows settings answers g)
next_followed settings script at r next old new f g is place (answers, took, h) line =
    let beyond : IsNextLine script at (Ok (Some next)) = subst (λ r. IsNextLine script at (Ok r)) is place in
    let more : FollowsLine settings script at answers new g (Ok (Some next)) =
    subst (λ r. FollowsLine settings script at answers new g (Ok r)) is (line settings answers took h) in
    (beyond, (answers ++ more.0, more.1, more.2))

-- What is there is followed.
pub script_followed : (settings : Settings) (script rest : List ℕ) (at : ℕ) (r : Option ℕ) (old new : Session) (f g w : Followed) (k : Result (Unit {0}) FollowFault) →
    ((next : ℕ) → r ≡ Some next → ⊥) → rest ≡ drop at script →
    ((answers : List Marked) × Took settings (take at script) answers old × Follows settings answers f) →
    ((settings : Settings) (answers : List Marked) → Took settings (take at script) answers old → Follows settings answers f →
    FollowsLine settings script at answers new g (Ok r)) →
    IsEndFollowed rest new g w k → FollowsEnd settings script w k
script_followed settings script rest at (Some next) old new f g w k none is held line end = absurd (none next refl)
script_followed settings script rest at None old new f g w k none is (answers, took, h) line end =
    let kept = line settings answers took h in
    let e = end settings (take at script) answers kept.0 kept.1 in
    let whole : take at script ++ rest ≡ script = ap (λ xs. take at script ++ xs) is ∙ take-append-drop at script in
    subst (λ xs. FollowsEnd settings xs w k) whole e

-- What is kept at the end.
pub whole_followed : (settings : Settings) (script : List ℕ) (f : Followed) → FollowsEnd settings script f (Ok tt) → IsFollowedBy settings script f
whole_followed settings script f (answers, ended, h) =
    record {
      answers = answers;
      ended = ended;
      acts = acts_stand (lined settings answers) f.trail h.acts;
      readings = readings_turned f.readings.items _ h.readings;
    }

-- A script isn't followed, for the fault that is passed up.
pub passed_up : (settings : Settings) (script : List ℕ) (r : Result Followed FollowFault) (e : FollowFault) → IsErrAnd r (λ x. x ≡ e) →
    FollowsNot settings script e → IsFollowed settings script r
passed_up settings script (Ok t) e is f = absurd is
passed_up settings script (Err x) e is f = subst (FollowsNot settings script) (sym is) f
