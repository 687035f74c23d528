-- What `who` writes about a script, and what each of its faults means.
use Rattle.std.specs.Prelude.{◌≡◌, ℕ, Bool, true, false, ◌&&◌, nat_le, if◌then◌else◌, Option, Some, None, List, [], ◌∷◌}
use Rattle.std.specs.Prelude.{length, Result, Ok, Err}
use Rattle.std.specs.Io.KnownBytes.{Appends}
use Rattle.explain_text.specs.declared.json.Form.{Form}
use Rattle.script_steps.specs.Output.{Marked}
use Rattle.script_steps.specs.Taken.{Ended}
use Rattle.text_output.specs.Writing.{AppendsFront}
use Rattle.vsm_model.specs.declared.limits.Settings.{Settings}
use Rattle.vsm_model.specs.Names.{first_named_state}
use Rattle.explain_standing.specs.Faults.{FollowsNot}
use Rattle.explain_standing.specs.Lined.{standing}
use Rattle.explain_who.specs.Traced.{standing_differences}
use Rattle.explain_who.specs.Readings.{reading}
use Rattle.explain_who.specs.Forms.{found_in, shown_in}
use Rattle.explain_who.specs.Who.{Difference}
use Rattle.explain_who.specs.declared.faults.WhoFault.{WhoFault}
use Rattle.explain_who.specs.declared.faults.WhoFault.TheVariants as fault
use Rattle.explain_standing.specs.declared.faults.FollowFault.TheVariants as follow
use Rattle.explain_who.specs.declared.orders.ChangeOrder.{ChangeOrder}
use Rattle.explain_who.specs.declared.readings.Seen.{Seen}
use Rattle.explain_who.specs.declared.readings.Seen.TheVariants as seen
use Rattle.explain_who.specs.declared.readings.Subject.{Subject}
use Rattle.explain_who.specs.declared.readings.Subject.TheVariants as asked
use Rattle.explain_who.specs.declared.tracing.Traced.{Traced}

-- 1 to 256 bytes, or anything else
abbrev pub can_be_asked : Subject → Bool
can_be_asked (asked.Bytes address count) = nat_le 1 count && nat_le count 256
can_be_asked (asked.Register task register) = true
can_be_asked (asked.Name name) = true
can_be_asked (asked.Subpool task number) = true

-- a reading finds no task, or no name
abbrev pub is_absent : Seen → Bool
is_absent (seen.Register None) = true
is_absent (seen.Held None) = true
is_absent (seen.Name None) = true
is_absent _ = false

-- the fault if no reading has the task or the name that is asked for
abbrev pub missing : Subject → Option WhoFault
missing (asked.Bytes address count) = None
missing (asked.Register task register) = Some (fault.NoTask task)
missing (asked.Name name) = Some (fault.NoName name)
missing (asked.Subpool task number) = Some (fault.NoTask task)

-- that fault if the first reading hasn't it, and no statement changes that
abbrev pub lacking : Subject → Seen → List Difference → Option WhoFault
lacking question first [] = if is_absent first then missing question else None
lacking question first (d ∷ ds) = None

-- These changes of a script that was followed are written, in turn, or a prefix of that text.
abbrev pub TellsShown : Settings → List ℕ → Form → Traced → Subject → List Difference → Option (List ℕ)
    → Option (List ℕ) → Result (Unit {0}) WhoFault → Type 0
TellsShown settings script form t question shown old new (Ok u) =
    Appends old new (shown_in form settings script question shown (length t.entries.items))
TellsShown settings script form t question shown old new (Err fault.Write) =
    AppendsFront old new (shown_in form settings script question shown (length t.entries.items))
TellsShown settings script form t question shown old new (Err (fault.NoTask task)) = ⊥
TellsShown settings script form t question shown old new (Err (fault.NoName name)) = ⊥
TellsShown settings script form t question shown old new (Err (fault.Follow f)) = ⊥
TellsShown settings script form t question shown old new (Err fault.Count) = ⊥

-- What was found in a script that was followed is written, or a prefix of it; or nothing, if no reading has what is
-- asked for, or memory runs out.
abbrev pub TellsFound : Settings → List ℕ → Form → ChangeOrder → Traced → Subject → List Difference
    → Option (List ℕ) → Option (List ℕ) → Result (Unit {0}) WhoFault → Type 0
TellsFound settings script form order t question found old new (Ok u) =
    (lacking question t.first found ≡ None)
    × Appends old new (found_in form settings script question order found (length t.entries.items))
TellsFound settings script form order t question found old new (Err fault.Write) =
    (lacking question t.first found ≡ None)
    × AppendsFront old new (found_in form settings script question order found (length t.entries.items))
TellsFound settings script form order t question found old new (Err (fault.NoTask task)) =
    (lacking question t.first found ≡ Some (fault.NoTask task)) × Appends old new []
TellsFound settings script form order t question found old new (Err (fault.NoName name)) =
    (lacking question t.first found ≡ Some (fault.NoName name)) × Appends old new []
TellsFound settings script form order t question found old new (Err (fault.Follow follow.Memory)) = Appends old new []
TellsFound settings script form order t question found old new (Err (fault.Follow follow.TooLong)) = ⊥
TellsFound settings script form order t question found old new (Err (fault.Follow (follow.New f))) = ⊥
TellsFound settings script form order t question found old new (Err fault.Count) = ⊥

module _ (settings : Settings) (script : List ℕ) where
  -- Of a script with these answers: the changes of what is asked for, the text of them,
  abbrev pub changes_of : Subject → List Marked → List Difference
  changes_of question answers = standing_differences settings (reading settings question) answers

  abbrev pub who_in : Form → Subject → ChangeOrder → List Marked → List ℕ
  who_in form question order answers =
      found_in form settings script question order (changes_of question answers)
      (length (standing settings answers))

  -- and the fault if no reading has what is asked for.
  abbrev pub lacking_of : Subject → List Marked → Option WhoFault
  lacking_of question answers =
      lacking question (reading settings question first_named_state) (changes_of question answers)

  -- All of the text is written, or after a write fault a prefix of it; after each other fault nothing is.
  abbrev pub NamesChanges : Form → Subject → ChangeOrder → Option (List ℕ) → Option (List ℕ)
      → Result (Unit {0}) WhoFault → Type 0
  NamesChanges form question order old new (Ok u) =
      (answers : List Marked) × Ended settings script answers × (lacking_of question answers ≡ None)
      × Appends old new (who_in form question order answers)
  NamesChanges form question order old new (Err fault.Write) =
      (answers : List Marked) × Ended settings script answers × (lacking_of question answers ≡ None)
      × AppendsFront old new (who_in form question order answers)
  NamesChanges form question order old new (Err (fault.NoTask task)) =
      (answers : List Marked) × Ended settings script answers
      × (lacking_of question answers ≡ Some (fault.NoTask task)) × Appends old new []
  NamesChanges form question order old new (Err (fault.NoName name)) =
      (answers : List Marked) × Ended settings script answers
      × (lacking_of question answers ≡ Some (fault.NoName name)) × Appends old new []
  NamesChanges form question order old new (Err fault.Count) = (can_be_asked question ≡ false) × Appends old new []
  NamesChanges form question order old new (Err (fault.Follow f)) = FollowsNot settings script f × Appends old new []
