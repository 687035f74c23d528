-- PEEKs are judged after as many statements as each says.
use Rattle.std.proofs.Common.{◌≡◌, ℕ, ◌+◌, ◌-◌, ◌/◌, ◌<◌, ◌≤◌, ◌&&◌, if◌then◌else◌, Some, Result, Ok, Err, OnOk, List, [], ◌∷◌, length, take, drop, map, reverse, get_or, sym, ap, subst, ◌∙◌, arith}
use Rattle.std.proofs.lemmas.List.{take_all}
use Rattle.std.specs.Prelude.{◌==◌}
use Rattle.macro_operands.specs.declared.requests.Statement.{Statement}
use Rattle.macro_statements.specs.Requests.{Act, written_in}
use Rattle.vsm_model.specs.declared.limits.Settings.{Settings}
use Rattle.bench_core.specs.Stands.{bench_of}
use Rattle.explain_standing.specs.declared.trail.TrailEntry.{TrailEntry}
use Rattle.explain_findings.specs.Found.{is_something, judged_readings, on_line, reading_finding}
use Rattle.explain_findings.specs.Homes.{home_at}
use Rattle.explain_findings.specs.Judged.{reading_by}
use Rattle.explain_standing.specs.NumberMaps.{number_in}
use Rattle.explain_findings.specs.NameEndings.{ending_kept, word_kept}
use Rattle.explain_findings.specs.Replays.{AreRead, GoesTo, IsReplayed, Knows, Reads, ReplaysAll, first_acts, with_finding}
use Rattle.explain_standing.specs.Carried.{line_act, state_in}
use Rattle.explain_standing.specs.Standings.{acts_in, reading_in}
use Rattle.explain_standing.specs.declared.carried.Carried.{Carried}
use Rattle.explain_findings.specs.Tables.{on_table}
use Rattle.explain_findings.specs.declared.endings.Endings.{Endings}
use Rattle.explain_findings.specs.declared.findings.Finding.{Finding}
use Rattle.explain_findings.specs.declared.judging.Known.{Known}
use Rattle.explain_standing.specs.declared.number_map.NumberMap.{NumberMap}
use Rattle.explain_findings.specs.declared.replay.Replay.{Replay}
use Rattle.explain_standing.specs.declared.standing.Reading.{Reading as ReadingKept}
use Rattle.explain_findings.specs.declared.tables.LineTable.{LineTable}
use Rattle.explain_standing.proofs.Firsts.{firsts_more, firsts_of_all}
use Rattle.explain_findings.proofs.FoundBefore.{found_of_reading}

pub on_ok_both : {V E P Q R : Type 0} (r : Result V E) → (P → Q → R) → OnOk r P → OnOk r Q → OnOk r R
on_ok_both (Ok v) f p q = f p q
on_ok_both (Err e) f p q = p

-- What is known stays known.
still : (settings : Settings) (xs : List (ℕ × Act)) (c : Carried) (k l : Known) → l.endings ≡ k.endings → l.stored ≡ k.stored → Knows settings xs c k → Knows settings xs c l
still settings xs c k l endings stored knows = record {
  carried = knows.carried;
  words = λ name. ap (λ (e : Endings). word_kept e name) endings ∙ knows.words name;
  endings = λ name. ap (λ (e : Endings). ending_kept e name) endings ∙ knows.endings name;
  stored = λ byte low. ap (λ (m : NumberMap). number_in m byte) stored ∙ knows.stored byte low;
}

-- A PEEK is judged.
pub reads : (reading : ReadingKept) (r : Replay) (known : Known) (t : LineTable) (f : Finding) → known.endings ≡ r.known.endings → known.stored ≡ r.known.stored →
    f ≡ reading_by (home_at (state_in r.carried) (number_in r.carried.lines)) (λ cell. number_in r.carried.cells (cell / 4)) (number_in r.known.stored) (ending_kept r.known.endings)
    (bench_of r.carried.bench).present (written_in reading.address) reading.count →
    ((n : ℕ) → on_table t n ≡ with_finding reading.line f (on_table r.found.readings) n) →
    Reads reading r (record { carried = r.carried; known = known; found = record { statements = r.found.statements; readings = t; left = r.found.left } })
reads reading r known t f endings stored is noted settings xs replayed =
    let found : f ≡ reading_finding settings xs (written_in reading.address) reading.count =
    is ∙ sym (found_of_reading settings xs r.carried r.known replayed.knows (written_in reading.address) reading.count) in (
      record { knows = still settings xs r.carried r.known known endings stored replayed.knows; found = replayed.found },
      λ n. noted n ∙ ap (λ f. with_finding reading.line f (on_table r.found.readings) n) found,
    )

module _ (settings : Settings) (entries : List (TrailEntry Statement)) where
  abbrev all : List (ℕ × Act)
  all = reverse (acts_in entries)

  -- one more
  read_more : (rs : List ReadingKept) (i : ℕ) (r : ReadingKept) (t u : LineTable) → i < length rs → r ≡ get_or rs i r → AreRead settings all (take i rs) t →
      ((n : ℕ) → on_table u n ≡ with_finding r.line (reading_finding settings (first_acts entries r.depth) (written_in r.address) r.count) (on_table t) n) →
      AreRead settings all (take (i + 1) rs) u
  read_more rs i r t u low is before noted n =
      noted n
      ∙ (λ j. with_finding r.line (reading_finding settings (sym (firsts_of_all line_act r.depth entries) j) (written_in r.address) r.count) (on_table t) n)
      ∙ ap (λ o. if (r.line == n) && is_something (reading_finding settings (drop (length all - r.depth) all) (written_in r.address) r.count)
      then Some (reading_finding settings (drop (length all - r.depth) all) (written_in r.address) r.count) else o) (before n)
      ∙ ap (λ qs. on_line (judged_readings settings all qs) n)
      (ap (λ (q : ReadingKept). reading_in q ∷ reverse (map reading_in (take i rs))) is ∙ sym (firsts_more reading_in rs i r low))

  pub goes_on : (rs : List ReadingKept) (i : ℕ) (r : ReadingKept) (done : ℕ) (first a b c : Replay) → i < length rs → r ≡ get_or rs i r →
      (IsReplayed settings [] first → AreRead settings [] [] first.found.readings → IsReplayed settings (first_acts entries done) a × AreRead settings all (take i rs) a.found.readings) →
      GoesTo entries done r.depth a b → b.found.readings ≡ a.found.readings → Reads r b c →
      IsReplayed settings [] first → AreRead settings [] [] first.found.readings → IsReplayed settings (first_acts entries r.depth) c × AreRead settings all (take (i + 1) rs) c.found.readings
  goes_on rs i r done first a b c low is before to same read replayed none =
      let was = before replayed none in
      let now = read settings (first_acts entries r.depth) (to settings was.0) in (
        now.0,
        read_more rs i r b.found.readings c.found.readings low is (λ n. ap (λ (t : LineTable). on_table t n) same ∙ was.1 n) now.1,
      )

-- All were judged.
pub all_replayed : (entries : List (TrailEntry Statement)) (rs : List ReadingKept) (i done : ℕ) (first a b : Replay) → length rs ≤ i →
    ((settings : Settings) → IsReplayed settings [] first → AreRead settings [] [] first.found.readings →
    IsReplayed settings (first_acts entries done) a × AreRead settings (reverse (acts_in entries)) (take i rs) a.found.readings) →
    GoesTo entries done (length entries) a b → b.found.readings ≡ a.found.readings → ReplaysAll entries rs first b
all_replayed entries rs i done first a b past before to same settings replayed none =
    let was = before settings replayed none in
    let whole : first_acts entries (length entries) ≡ reverse (acts_in entries) = ap (λ es. reverse (acts_in es)) (take_all (length entries) entries (omega arith)) in (
      subst (λ xs. IsReplayed settings xs b) whole (to settings was.0),
      λ n. ap (λ (t : LineTable). on_table t n) same ∙ was.1 n ∙ ap (λ qs. on_line (judged_readings settings (reverse (acts_in entries)) (reverse (map reading_in qs))) n) (take_all i rs past),
    )
