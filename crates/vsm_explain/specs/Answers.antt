-- The answers of questions, and their exit statuses.
use Rattle.std.specs.Prelude.{◌≡◌, ◌⊎◌, ℕ, Bool, List, [], ◌∷◌, min, if◌then◌else◌, Option, Some, None, Result, Ok, Err}
use Rattle.arrayvec.specs.ArrayString.{ArrayString}
use Rattle.vsm_model.specs.declared.limits.Settings.{Settings}
use Rattle.explain_areas.specs.Told.{TellsAreas}
use Rattle.explain_areas.specs.declared.faults.AreasFault.{AreasFault}
use Rattle.explain_areas.specs.declared.faults.AreasFault.TheVariants as no_areas
use Rattle.explain_check.specs.Checked.{Checked}
use Rattle.explain_list.specs.Listing.{Listed}
use Rattle.explain_list.specs.declared.layouts.Layout.{Layout}
use Rattle.explain_list.specs.declared.faults.ListFault.{ListFault}
use Rattle.explain_list.specs.declared.faults.ListFault.TheVariants as list
use Rattle.vsm_explain.specs.declared.questions.About.{About}
use Rattle.vsm_explain.specs.declared.questions.About.TheVariants as about
use Rattle.vsm_explain.specs.declared.questions.Place.{Place}
use Rattle.vsm_explain.specs.declared.questions.Place.TheVariants as place
use Rattle.vsm_explain.specs.declared.questions.Question.{Question}
use Rattle.vsm_explain.specs.declared.questions.Question.TheVariants as question
use Rattle.explain_report.specs.OverTime.{ReportsOverTime}
use Rattle.explain_report.specs.Reports.{Reports}
use Rattle.explain_report.specs.declared.faults.ReportFault.{ReportFault}
use Rattle.explain_report.specs.declared.faults.ReportFault.TheVariants as report
use Rattle.explain_who.specs.Nearest.{TellsNearest}
use Rattle.explain_who.specs.Told.{NamesChanges}
use Rattle.explain_who.specs.Words.{TellsWord}
use Rattle.explain_standing.specs.declared.faults.FollowFault.{FollowFault}
use Rattle.explain_standing.specs.declared.faults.FollowFault.TheVariants as follow
use Rattle.explain_who.specs.declared.faults.WhoFault.{WhoFault}
use Rattle.explain_who.specs.declared.faults.WhoFault.TheVariants as who
use Rattle.explain_who.specs.declared.orders.ChangeOrder.{ChangeOrder}
use Rattle.explain_who.specs.declared.orders.ChangeOrder.TheVariants as changes
use Rattle.explain_who.specs.declared.readings.Subject.{Subject}
use Rattle.explain_who.specs.declared.readings.Subject.TheVariants as subject
use Rattle.explain_text.specs.declared.json.Form.{Form}
use Rattle.vsm_explain.specs.declared.faults.CommandFault.{CommandFault}
use Rattle.vsm_explain.specs.declared.faults.CommandFault.TheVariants as fault
use Rattle.explain_why.specs.Output.{Explains}
use Rattle.explain_why.specs.declared.faults.WhyFault.{WhyFault}
use Rattle.explain_why.specs.declared.faults.WhyFault.TheVariants as why
use Rattle.vsm_explain.specs.Status.{IsWordless}

-- ---- the status: 4 if a statement was refused, 8 if the script is too long or the output can't be written, 16 if what
-- is asked for isn't in the script, or memory runs out

abbrev pub of_refused : Bool → ℕ
of_refused refused = if refused then 4 else 0

abbrev pub list_status : Result Bool ListFault → ℕ
list_status (Ok refused) = of_refused refused
list_status (Err list.TooLong) = 8
list_status (Err list.Write) = 8
list_status (Err list.Memory) = 16
list_status (Err (list.New fault)) = 16

abbrev pub why_status : Result Bool WhyFault → ℕ
why_status (Ok refused) = of_refused refused
why_status (Err why.TooLong) = 8
why_status (Err why.Write) = 8
why_status (Err _) = 16

abbrev pub report_status : Result (Unit {0}) ReportFault → ℕ
report_status (Ok u) = 0
report_status (Err report.TooLong) = 8
report_status (Err report.Write) = 8
report_status (Err _) = 16

abbrev pub follow_status : FollowFault → ℕ
follow_status follow.TooLong = 8
follow_status (follow.New fault) = 16
follow_status follow.Memory = 16

abbrev pub who_status : Result (Unit {0}) WhoFault → ℕ
who_status (Ok u) = 0
who_status (Err (who.Follow fault)) = follow_status fault
who_status (Err who.Write) = 8
who_status (Err _) = 16

abbrev pub areas_status : Result (Unit {0}) AreasFault → ℕ
areas_status (Ok u) = 0
areas_status (Err (no_areas.Line fault)) = report_status (Err fault)
areas_status (Err (no_areas.Follow fault)) = follow_status fault
areas_status (Err (no_areas.Since lines)) = 16
areas_status (Err (no_areas.NoTask task)) = 16
areas_status (Err no_areas.Write) = 8

-- ---- what is asked for

-- the address of a place: of a name, its word at the end of the script
abbrev pub IsAddress : Settings → List ℕ → Place → ℕ → Type 0
IsAddress settings script (place.Number address) its = its ≡ address
IsAddress settings script (place.Named name) its = TellsWord settings script name (Ok (Some its))

-- it has none: no statement in effect defines the name, or the script can't be followed
abbrev pub HasNoAddress : Settings → List ℕ → Place → ℕ → Type 0
HasNoAddress settings script (place.Number address) code = ⊥
HasNoAddress settings script (place.Named name) code =
    (TellsWord settings script name (Ok None) × (code ≡ 16))
    ⊎ ((fault : FollowFault) × TellsWord settings script name (Err fault) × (code ≡ follow_status fault))

-- The name isn't defined at the end of the script; these are the nearest names that are, or none if the script can't be
-- followed.
abbrev pub IsUndefined : Settings → List ℕ → ArrayString → CommandFault → Type 0
IsUndefined settings script name (fault.NoName its nearest) =
    (its ≡ name)
    × (TellsNearest settings script name (Ok nearest)
    ⊎ ((f : FollowFault) × TellsNearest settings script name (Err f) × (nearest ≡ None ∷ None ∷ None ∷ [])))
IsUndefined settings script name _ = ⊥

abbrev pub IsSubject : Settings → List ℕ → About → Subject → Type 0
IsSubject settings script (about.Bytes place count) its =
    (address : ℕ) × IsAddress settings script place address × (its ≡ subject.Bytes address (min count 256))
IsSubject settings script (about.Register task register) its = its ≡ subject.Register task register
IsSubject settings script (about.Name name) its = its ≡ subject.Name name
IsSubject settings script (about.Subpool task number) its = its ≡ subject.Subpool task number

abbrev pub HasNoSubject : Settings → List ℕ → About → ℕ → Type 0
HasNoSubject settings script (about.Bytes place count) code = HasNoAddress settings script place code
HasNoSubject settings script _ code = ⊥

abbrev pub change_order : Bool → ChangeOrder
change_order oldest = if oldest then changes.OldestFirst else changes.NewestFirst

-- ---- the answers

-- the lines that changed what is asked for, in this order; nothing is written if it has no address
abbrev pub IsNamed : Settings → List ℕ → Form → About → ChangeOrder → Option (List ℕ) → Option (List ℕ) → ℕ → Type 0
IsNamed settings script form it order old new code =
    ((its : Subject) × IsSubject settings script it its × (outcome : Result (Unit {0}) WhoFault)
    × NamesChanges settings script form its order old new outcome × (code ≡ who_status outcome))
    ⊎ (HasNoSubject settings script it code × (new ≡ old))

-- A question about a script of this name that runs under these settings is answered: what is written, and the status.
-- What is written about an answer's meaning (`why S878`) is open.
abbrev pub IsAnswered : Settings → List ℕ → List ℕ → Form → Question → Option (List ℕ) → Option (List ℕ) → ℕ
    → Type 0
IsAnswered settings script name form (question.List only) old new code =
    (outcome : Result Bool ListFault)
    × Listed (record { form = form; only_refused = only }) settings script old new outcome
    × (code ≡ list_status outcome)
IsAnswered settings script name form (question.Check leaks) old new code =
    (outcome : Result Bool ListFault)
    × Checked settings script (record { form = form; leaks = leaks }) name old new outcome
    × (code ≡ list_status outcome)
IsAnswered settings script name form (question.Why line) old new code =
    (outcome : Result Bool WhyFault) × Explains settings script line old new outcome
    × (code ≡ why_status outcome)
IsAnswered settings script name form (question.Report line) old new code =
    (outcome : Result (Unit {0}) ReportFault) × Reports settings script form line old new outcome
    × (code ≡ report_status outcome)
IsAnswered settings script name form (question.OverTime seen) old new code =
    (outcome : Result (Unit {0}) ReportFault) × ReportsOverTime settings script seen old new outcome
    × (code ≡ report_status outcome)
IsAnswered settings script name form (question.Taken asked) old new code =
    (outcome : Result (Unit {0}) AreasFault) × TellsAreas settings script asked old new outcome
    × (code ≡ areas_status outcome)
IsAnswered settings script name form (question.Who it oldest) old new code =
    IsNamed settings script form it (change_order oldest) old new code
IsAnswered settings script name form (question.Code first second) old new code = IsWordless code
