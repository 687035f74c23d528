-- All that is found in a script that was followed.
use Rattle.std.proofs.Common.{◌≡◌, ℕ, Option, Some, None, Ok, List, [], map, reverse, take, refl, ap, subst, ◌∙◌}
use Rattle.std.proofs.lemmas.List.{reverse-reverse}
use Rattle.macro_operands.specs.declared.requests.Statement.{Statement}
use Rattle.vsm_model.specs.declared.limits.Settings.{Settings}
use Rattle.vsm_model.specs.Standing.{nothing_stands}
use Rattle.explain_standing.specs.Carried.{IsCarried}
use Rattle.explain_standing.specs.Lined.{standing}
use Rattle.explain_standing.specs.declared.carried.Carried.{Carried}
use Rattle.explain_standing.specs.Trails.{marks_of}
use Rattle.explain_standing.specs.declared.trail.TrailEntry.{TrailEntry}
use Rattle.explain_findings.specs.Found.{AreFound, either, judged, judged_readings, on_line}
use Rattle.explain_standing.specs.NumberMaps.{number_in}
use Rattle.explain_findings.specs.LeftTables.{IsAllLeft}
use Rattle.explain_findings.specs.NameEndings.{ending_kept, word_kept}
use Rattle.explain_standing.specs.Readings.{readings_all}
use Rattle.explain_findings.specs.Replays.{IsNothingFound, IsReplayed, Knows, ReplaysAll}
use Rattle.explain_standing.specs.Standings.{IsFollowedBy, acts_in, reading_in}
use Rattle.explain_findings.specs.Tables.{or_else}
use Rattle.explain_findings.specs.declared.findings.Finding.{Finding}
use Rattle.explain_findings.specs.declared.judging.Known.{Known}
use Rattle.explain_findings.specs.declared.left.LeftTable.{LeftTable}
use Rattle.explain_findings.specs.declared.replay.Replay.{Replay}
use Rattle.explain_standing.specs.declared.standing.Followed.{Followed}
use Rattle.explain_standing.specs.declared.standing.Reading.{Reading as ReadingKept}

-- Nothing is known at first,
knows_nothing : (settings : Settings) (c : Carried) (known : Known) → IsCarried settings [] c → ((byte : ℕ) → number_in known.stored byte ≡ None) →
    ((name : List ℕ) → ending_kept known.endings name ≡ None) → ((name : List ℕ) → word_kept known.endings name ≡ None) → Knows settings [] c known
knows_nothing settings c known carried stored endings words = record {
  carried = carried;
  words = words;
  endings = endings;
  stored = λ byte low. stored byte;
}

either_is : (a b : Option Finding) → or_else a b ≡ either a b
either_is (Some f) b = refl
either_is None b = refl

-- and at last everything is found.
pub everything_found : (settings : Settings) (script : List ℕ) (f : Followed) (first last : Replay) (left : LeftTable) (entries : List (TrailEntry Statement)) (readings : List ReadingKept) →
    IsCarried settings [] first.carried → IsFollowedBy settings script f → entries ≡ take (marks_of f.trail).standing (marks_of f.trail).entries → readings ≡ f.readings.items →
    IsNothingFound first → ReplaysAll entries readings first last →
    ((settings : Settings) → IsCarried settings (reverse (acts_in entries)) last.carried → IsAllLeft settings (reverse (acts_in entries)) left) →
    AreFound settings script (Ok (record { statements = last.found.statements; readings = last.found.readings; left = left }))
everything_found settings script f first last left entries readings carried followed entries_are readings_are nothing all leaves =
    let start : IsReplayed settings [] first = record { knows = knows_nothing settings first.carried first.known carried nothing.stored nothing.endings nothing.words; found = nothing.statements } in
    let done = all settings start nothing.readings in
    let acts_are : reverse (acts_in entries) ≡ standing settings followed.answers =
    ap (λ es. reverse (acts_in es)) entries_are ∙ ap reverse followed.acts ∙ reverse-reverse (standing settings followed.answers) in
    let reads_are : reverse (map reading_in readings) ≡ readings_all settings nothing_stands [] followed.answers =
    ap (λ rs. reverse (map reading_in rs)) readings_are ∙ ap reverse followed.readings ∙ reverse-reverse (readings_all settings nothing_stands [] followed.answers) in
    let all_left : IsAllLeft settings (standing settings followed.answers) left =
    subst (λ xs. IsAllLeft settings xs left) acts_are (leaves settings done.0.knows.carried) in (
      followed.answers,
      followed.ended,
      λ line.
          (λ i. or_else (done.0.found line i) (done.1 line i))
          ∙ (λ i. or_else (on_line (judged settings (acts_are i)) line) (on_line (judged_readings settings (acts_are i) (reads_are i)) line))
          ∙ either_is (on_line (judged settings (standing settings followed.answers)) line)
          (on_line (judged_readings settings (standing settings followed.answers) (readings_all settings nothing_stands [] followed.answers)) line),
      all_left.left,
      all_left.sum,
    )
