-- What was written of a report, and what that says of its script.
use Rattle.std.proofs.Common.{◌≡◌, ℕ, true, false, true≢false, not, ◌&&◌, ◌⊎◌, inl, inr, List, [], Option, Some, None, is_some, Result, Ok, Err, refl, sym, ap, subst, ◌∙◌}
use Rattle.std.proofs.lemmas.List.{append-nil}
use Rattle.std.specs.Io.KnownBytes.{Appends}
use Rattle.bench_core.specs.Stands.{IsNew, bench_of, settings_in}
use Rattle.bench_core.specs.declared.bench.Bench.{Bench}
use Rattle.vsm_model.specs.declared.limits.Settings.{Settings}
use Rattle.vsm_model.specs.Names.{NamedState}
use Rattle.vsm_model.specs.Standing as standing
use Rattle.vsm_model.specs.State.{State}
use Rattle.storage_core.specs.Meaning.{state_of, settings_of}
use Rattle.storage_core.specs.declared.storage.Storage.{Storage}
use Rattle.explain_text.specs.declared.json.Form.{Form}
use Rattle.macro_reader.specs.Scripts.{Mode, awaiting, dropping, gathering}
use Rattle.script_steps.specs.Output.{Marked}
use Rattle.script_steps.specs.Taken.{Ended}
use Rattle.text_output.specs.Writing.{AppendsFront, Holds, Puts, IsEmpty}
use Rattle.text_output.specs.declared.writing.Gathered.{Gathered}
use Rattle.text_output.proofs.Gathering.{empty_holds}
use Rattle.text_output.proofs.Known.{appends_nothing}
use Rattle.explain_report.specs.Changes.{IsAsBefore}
use Rattle.explain_report.specs.Figures.{IsFiguresOf, seen_in}
use Rattle.explain_report.specs.OverTime.{ArePut, RowsAll, WritesRows}
use Rattle.explain_report.specs.Reports.{AreReported, HasLine, IsAnsweredEnd, lacks_answer, IsReport, IsSilent, IsSilentEnd, IsSilentLine, ReachesLine, Reports, WritesReport, silence}
use Rattle.explain_report.specs.Said.{state_after, said_last}
use Rattle.explain_report.specs.Csv.{heading_text}
use Rattle.explain_report.specs.declared.faults.ReportFault.{ReportFault}
use Rattle.explain_report.specs.declared.faults.ReportFault.TheVariants as fault
use Rattle.explain_report.specs.declared.runs.LastAnswer.{LastAnswer}
use Rattle.script_steps.specs.declared.responses.Response.{Response}
use Rattle.script_steps.specs.declared.session.Session.{Session}
use Rattle.explain_report.specs.declared.times.Figures.{Figures}

-- A text went out: all of it, with this outcome; or a prefix of it.
abbrev pub WentOut : Option (List ℕ) → Option (List ℕ) → Result (Unit {0}) ReportFault → List ℕ → Result (Unit {0}) ReportFault → Type 0
WentOut first now outcome text r = ((r ≡ outcome) × Appends first now text) ⊎ ((r ≡ Err fault.Write) × AppendsFront first now text)

-- ---- a report

pub wrote : (settings : Settings) (form : Form) (state : State) (said : Option (ℕ × List ℕ)) (text : List ℕ) (first now : Option (List ℕ)) (r : Result (Unit {0}) ReportFault)
    → IsReport settings form state said text → WentOut first now (Ok tt) text r → WritesReport settings form state said first now r
wrote settings form state said text first now r is (inl (e, out)) = subst (WritesReport settings form state said first now) (sym e) (text, is, out)
wrote settings form state said text first now r is (inr (e, out)) = subst (WritesReport settings form state said first now) (sym e) (text, is, out)

pub ended_reported : (settings : Settings) (script : List ℕ) (line : Option ℕ) (answers : List Marked) → Ended settings script answers → HasLine settings script line
    → (is_some line ≡ true → IsAnsweredEnd settings script answers) → AreReported settings script line answers
ended_reported settings script None answers h has brings = h
ended_reported settings script (Some n) answers h has brings = inl (has, h, brings refl)

-- nothing lacks, so the end brought an answer if a line is asked for
pub some_answer : (line : Option ℕ) (last open_one : Option (ℕ × Response)) → lacks_answer line last open_one ≡ false → is_some line ≡ true
    → not (is_some last) && not (is_some open_one) ≡ false
some_answer None last open_one none some = absurd (true≢false (sym some))
some_answer (Some n) last open_one none some = none

pub no_answer : (line : Option ℕ) (last open_one : Option (ℕ × Response)) → lacks_answer line last open_one ≡ true → (is_some line ≡ true) × (last ≡ None) × (open_one ≡ None)
no_answer None last open_one h = absurd (true≢false (sym h))
no_answer (Some n) (Some x) open_one h = absurd (true≢false (sym h))
no_answer (Some n) None (Some x) h = absurd (true≢false (sym h))
no_answer (Some n) None None h = (refl, refl, refl)

pub reported : (settings : Settings) (script : List ℕ) (form : Form) (line : Option ℕ) (answers : List Marked) (state : State) (said : Option (ℕ × List ℕ)) (first now : Option (List ℕ))
    (r : Result (Unit {0}) ReportFault) → AreReported settings script line answers → state ≡ state_after settings answers → said ≡ said_last settings answers
    → WritesReport settings form state said first now r → Reports settings script form line first now r
reported settings script form line answers state said first now (Ok u) are is last (text, report, out) =
    (text, (answers, are, subst (λ x. IsReport settings form x (said_last settings answers) text) is (subst (λ x. IsReport settings form state x text) last report)), out)
reported settings script form line answers state said first now (Err fault.Write) are is last (text, report, out) =
    (text, (answers, are, subst (λ x. IsReport settings form x (said_last settings answers) text) is (subst (λ x. IsReport settings form state x text) last report)), out)
reported settings script form line answers state said first now (Err (fault.New f)) are is last h = absurd h
reported settings script form line answers state said first now (Err fault.TooLong) are is last h = absurd h
reported settings script form line answers state said first now (Err (fault.NoLine n)) are is last h = absurd h
reported settings script form line answers state said first now (Err fault.Aside) are is last h = absurd h
reported settings script form line answers state said first now (Err fault.Dropped) are is last h = absurd h
reported settings script form line answers state said first now (Err (fault.NoTask t)) are is last h = absurd h

-- a line that has no answer, so that nothing is written
pub silent : (settings : Settings) (script : List ℕ) (form : Form) (line : Option ℕ) (now : Option (List ℕ)) (m : Mode) (f : ReportFault) → f ≡ silence m
    → IsSilent settings script line f → Reports settings script form line now now (Err f)
silent settings script form line now awaiting f e h =
    subst (λ x. Reports settings script form line now now (Err x)) (sym e) (subst (IsSilent settings script line) e h, appends_nothing now)
silent settings script form line now dropping f e h =
    subst (λ x. Reports settings script form line now now (Err x)) (sym e) (subst (IsSilent settings script line) e h, appends_nothing now)
silent settings script form line now (gathering number card j count) f e h =
    subst (λ x. Reports settings script form line now now (Err x)) (sym e) (subst (IsSilent settings script line) e h, appends_nothing now)

pub silent_end : (settings : Settings) (script : List ℕ) (form : Form) (line : Option ℕ) (now : Option (List ℕ)) (f : ReportFault) → is_some line ≡ true → HasLine settings script line
    → (h : IsSilentEnd settings script f) → Reports settings script form line now now (Err f)
silent_end settings script form None now f some has h = absurd (true≢false (sym some))
silent_end settings script form (Some n) now f some has h = silent settings script form (Some n) now h.before.mode f h.why (inr (has, h))

-- ---- over time

pub over_told : (settings : Settings) (script : List ℕ) (seen : Option (ℕ × ℕ)) (first mid now : Option (List ℕ)) (g : Gathered) (outcome r : Result (Unit {0}) ReportFault)
    → RowsAll settings seen first mid g script outcome → ((text : List ℕ) → Holds first mid g text → WentOut first now outcome text r)
    → WritesRows settings script seen first now r
over_told settings script seen first mid now g (Ok u) r (answers, text, ended, over, held) f = go (f text held) where
  go : WentOut first now (Ok u) text r → WritesRows settings script seen first now r
  go (inl (e, out)) = subst (WritesRows settings script seen first now) (sym e) (text, (answers, ended, over), out)
  go (inr (e, out)) = subst (WritesRows settings script seen first now) (sym e) (text, inl (answers, ended, over), out)
over_told settings script seen first mid now g (Err fault.TooLong) r (answers, text, past, over, held) f = go (f text held) where
  go : WentOut first now (Err fault.TooLong) text r → WritesRows settings script seen first now r
  go (inl (e, out)) = subst (WritesRows settings script seen first now) (sym e) (text, (answers, past, over), out)
  go (inr (e, out)) = subst (WritesRows settings script seen first now) (sym e) (text, inr (answers, past, over), out)
over_told settings script seen first mid now g (Err fault.Write) r h f = absurd h
over_told settings script seen first mid now g (Err (fault.New x)) r h f = absurd h
over_told settings script seen first mid now g (Err (fault.NoLine n)) r h f = absurd h
over_told settings script seen first mid now g (Err fault.Aside) r h f = absurd h
over_told settings script seen first mid now g (Err fault.Dropped) r h f = absurd h
over_told settings script seen first mid now g (Err (fault.NoTask t)) r h f = absurd h

-- the heading is put, and the figures are those of a new bench
pub heading_put : (settings : Settings) (seen : Option (ℕ × ℕ)) (first now : Option (List ℕ)) (g h : Gathered) (bench : Bench) (s : Storage) (f : Figures)
    → IsNew settings (Ok bench) → state_of s ≡ (bench_of bench).present.storage → settings_of s ≡ settings_in bench → IsFiguresOf (settings_of s) (state_of s) f → seen_in f ≡ seen
    → IsEmpty g → Puts first now g h (heading_text (is_some seen)) → ArePut settings seen first now h [] f
heading_put settings seen first now g h bench s f (valid, at, under, small) state is_under of is_seen empty puts =
    let begins : state_of s ≡ state_after settings [] = state ∙ ap (λ (b : standing.Bench NamedState). b.present.storage) at in
    record {
      text = heading_text (is_some seen);
      over = ([], refl, sym (append-nil (heading_text (is_some seen))));
      held = puts first [] (empty_holds first first g [] empty (appends_nothing first));
      figures = subst (λ x. IsFiguresOf settings x f) begins (subst (λ x. IsFiguresOf x (state_of s) f) (is_under ∙ under) of);
      same = is_seen;
    }

-- why lines were not taken, so that nothing is written
pub stopped : (settings : Settings) (script : List ℕ) (form : Form) (n : ℕ) (s : Session) (last : LastAnswer) (now : Option (List ℕ)) (f : ReportFault)
    → ReachesLine settings script n s last (Err f) → Reports settings script form (Some n) now now (Err f)
stopped settings script form n s last now fault.TooLong h = (h, appends_nothing now)
stopped settings script form n s last now fault.Aside h = (inl h, appends_nothing now)
stopped settings script form n s last now fault.Dropped h = (inl h, appends_nothing now)
stopped settings script form n s last now fault.Write h = absurd h
stopped settings script form n s last now (fault.New x) h = absurd h
stopped settings script form n s last now (fault.NoLine k) h = absurd h
stopped settings script form n s last now (fault.NoTask t) h = absurd h

pub silent_line : (settings : Settings) (script : List ℕ) (n : ℕ) (s : Session) (last : LastAnswer) (m : Mode) (f : ReportFault) → f ≡ silence m
    → IsSilentLine settings script n f → ReachesLine settings script n s last (Err f)
silent_line settings script n s last awaiting f e h = subst (λ x. ReachesLine settings script n s last (Err x)) (sym e) (subst (IsSilentLine settings script n) e h)
silent_line settings script n s last dropping f e h = subst (λ x. ReachesLine settings script n s last (Err x)) (sym e) (subst (IsSilentLine settings script n) e h)
silent_line settings script n s last (gathering number card j count) f e h =
    subst (λ x. ReachesLine settings script n s last (Err x)) (sym e) (subst (IsSilentLine settings script n) e h)

-- the figures of a storage that stands for this state
pub changed_at : (settings : Settings) (state : State) (s : Storage) (before after : Figures) (r : Response) → settings_of s ≡ settings → state_of s ≡ state
    → IsAsBefore (settings_of s) (state_of s) before r after → IsAsBefore settings state before r after
changed_at settings state s before after r under is h =
    subst (λ x. IsAsBefore x state before r after) under (subst (λ x. IsAsBefore (settings_of s) x before r after) is h)
