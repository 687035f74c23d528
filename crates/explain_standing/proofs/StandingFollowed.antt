-- What is noted follows the statements in effect, and the PEEKs whose states aren't undone.
use Rattle.std.proofs.Common.{◌≡◌, ℕ, suc, ◌≤◌, nat_le, Bool, true, false, if◌then◌else◌, List, [], ◌∷◌, ◌++◌, length, filter, Option, Some, None, Result, Ok, Err, refl, sym, ap, subst, ◌∙◌, arith}
use Rattle.std.proofs.lemmas.List.{append-nil}
use Rattle.macro_operands.specs.declared.faults.FaultKind.{FaultKind}
use Rattle.macro_statements.specs.Requests.{Act, Asked, Written, act, peek, map_asked, back, forward}
use Rattle.vsm_model.specs.declared.limits.Settings.{Settings}
use Rattle.vsm_model.specs.declared.replies.Reply.{Reply}
use Rattle.vsm_model.specs.Names.{NamedState}
use Rattle.vsm_model.specs.Standing.{Outcome, Accepted, Refused, Bench, Standing, Apply, Back, Forward, Moved, TooFar, stand, nothing_stands, outcome_answer}
use Rattle.bench_core.specs.Machine.{Why, statement_step, shown_at}
use Rattle.bench_core.specs.Stands.{bench_of}
use Rattle.script_steps.specs.Output.{Marked, alone_now, responded}
use Rattle.script_steps.specs.Responses.{response_to, reading_response}
use Rattle.script_steps.specs.Taken.{AreAsked, Brings, EndAsks, Ended, IsAskedBy, Led, Shows, Took, answers_of}
use Rattle.script_steps.specs.declared.lines.Ending.{Ending}
use Rattle.script_steps.specs.declared.responses.Response.{Response}
use Rattle.script_steps.specs.declared.session.Session.{Session}
use Rattle.explain_standing.specs.Lined.{plain, lined_after, lined_with, lined_all}
use Rattle.explain_standing.specs.Notes.{with_told}
use Rattle.explain_standing.specs.Trails.{marks_of}
use Rattle.explain_standing.proofs.AnswerMarks as marked
use Rattle.explain_standing.proofs.AnswerMarks.{IsRead, Marked_by, lined}
use Rattle.explain_standing.proofs.LineLemmas.{lined_push, lines_are_of_statements}
use Rattle.explain_standing.specs.Readings.{Reading, if_shown, reading_asked, readings_after, readings_all}
use Rattle.explain_standing.specs.Standings.{AreWithin, Follows, IsIdle, act_asked, fallen, marks_in, newest, readings_in, readings_noted, with_reading}
use Rattle.explain_standing.specs.declared.standing.Followed.{Followed}
use Rattle.explain_standing.proofs.KeptReadings.{all_stay, at_most, fallen_are, fallen_within, within_more}
use Rattle.explain_standing.proofs.StandingNotes.{idle_acts, idle_readings}

-- What is noted is what is stated, for this many statements in effect.
abbrev AreNoted : ℕ → List Reading → List Reading → Type 0
AreNoted n noted stated = (noted ≡ stated) × AreWithin n noted

stays : (n k : ℕ) (rs : List Reading) → n ≤ k → AreWithin n rs → AreNoted k rs (filter (at_most k) rs)
stays n k rs more h = (sym (all_stay n k rs more h), within_more n k rs more h)

falls : (n k : ℕ) (rs : List Reading) → AreWithin n rs → AreNoted k (fallen k rs) (filter (at_most k) rs)
falls n k rs h = (fallen_are n k rs h, fallen_within n k rs h)

module _ (settings : Settings) where
  acted : (l : Standing (ℕ × Act) Reply) (rs : List Reading) (asked : Asked) (line kept : ℕ) (x : Act) (o : Outcome NamedState Reply Why) → AreWithin (length l.stood) rs →
      AreNoted (length (stand settings.history l (Apply (line, x)) (outcome_answer o)).stood)
      (readings_noted (Some (line, response_to (Apply x) (outcome_answer o) kept)) asked (length l.stood)
      (length (stand settings.history l (Apply (line, x)) (outcome_answer o)).stood) rs)
      (filter (at_most (length (stand settings.history l (Apply (line, x)) (outcome_answer o)).stood)) rs)
  acted l rs asked line kept x (Accepted s r) h = stays (length l.stood) (suc (length l.stood)) rs (omega arith) h
  acted l rs asked line kept x (Refused why) h = stays (length l.stood) (length l.stood) rs (omega arith) h

  peeked : (n : ℕ) (rs : List Reading) (asked : Asked) (line : ℕ) (address : Written) (count : ℕ) (r : Result (List ℕ) Why) → asked ≡ peek address count → AreWithin n rs →
      AreNoted n (readings_noted (Some (line, reading_response r)) asked n n rs)
      (filter (at_most n) (if_shown r (record { depth = n; line = line; address = address; count = count }) ++ rs))
  peeked n rs asked line address count (Ok bytes) is h =
      let new : Reading = record { depth = n; line = line; address = address; count = count } in
      subst (λ q. AreNoted n (with_reading q n line rs) (filter (at_most n) (new ∷ rs))) (sym is) (stays n n (new ∷ rs) (omega arith) (omega arith, h))
  peeked n rs asked line address count (Err why) is h = stays n n rs (omega arith) h

  moved_back : (l : Standing (ℕ × Act) Reply) (rs : List Reading) (asked : Asked) (line n kept : ℕ) (b : Bool) → AreWithin (length l.stood) rs →
      AreNoted (length (stand {C = Why} settings.history l (Back n) (if b then Moved else TooFar l.kept)).stood)
      (readings_noted (Some (line, response_to (Back n) (if b then Moved else TooFar l.kept) kept)) asked (length l.stood)
      (length (stand {C = Why} settings.history l (Back n) (if b then Moved else TooFar l.kept)).stood) rs)
      (filter (at_most (length (stand {C = Why} settings.history l (Back n) (if b then Moved else TooFar l.kept)).stood)) rs)
  moved_back l rs asked line n kept true h = falls (length l.stood) (length (stand {C = Why} settings.history l (Back n) Moved).stood) rs h
  moved_back l rs asked line n kept false h = stays (length l.stood) (length l.stood) rs (omega arith) h

  moved_forward : (l : Standing (ℕ × Act) Reply) (rs : List Reading) (asked : Asked) (line n far kept : ℕ) (b : Bool) → AreWithin (length l.stood) rs →
      AreNoted (length (stand {C = Why} settings.history l (Forward n) (if b then Moved else TooFar far)).stood)
      (readings_noted (Some (line, response_to (Forward n) (if b then Moved else TooFar far) kept)) asked (length l.stood)
      (length (stand {C = Why} settings.history l (Forward n) (if b then Moved else TooFar far)).stood) rs)
      (filter (at_most (length (stand {C = Why} settings.history l (Forward n) (if b then Moved else TooFar far)).stood)) rs)
  moved_forward l rs asked line n far kept true h = falls (length l.stood) (length (stand {C = Why} settings.history l (Forward n) Moved).stood) rs h
  moved_forward l rs asked line n far kept false h = stays (length l.stood) (length l.stood) rs (omega arith) h

  -- one answer, as it's stated
  one : (l : Standing (ℕ × Act) Reply) (rs : List Reading) (asked : Asked) (line : ℕ) (unmet : Bool) (what : Result Asked FaultKind) → IsAskedBy asked what → AreWithin (length l.stood) rs →
      AreNoted (length (lined_with settings l line unmet what).stood)
      (readings_noted (Some (line, responded settings (plain l) unmet what)) asked (length l.stood) (length (lined_with settings l line unmet what).stood) rs)
      (filter (at_most (length (lined_with settings l line unmet what).stood)) (reading_asked settings l line what ++ rs))
  one l rs asked line unmet (Err kind) is h = stays (length l.stood) (length l.stood) rs (omega arith) h
  one l rs asked line true (Ok (act x)) is h = stays (length l.stood) (length l.stood) rs (omega arith) h
  one l rs asked line false (Ok (act x)) is h = acted l rs asked line _ x (statement_step settings (alone_now settings (plain l)) x) h
  one l rs asked line unmet (Ok (peek address count)) is h = peeked (length l.stood) rs asked line address count (shown_at (alone_now settings (plain l)) address count) is.0 h
  one l rs asked line unmet (Ok map_asked) is h = stays (length l.stood) (length l.stood) rs (omega arith) h
  one l rs asked line true (Ok (back n)) is h = moved_back l rs asked line n _ (nat_le n l.kept) h
  one l rs asked line false (Ok (back n)) is h = moved_back l rs asked line n _ (nat_le n l.kept) h
  one l rs asked line true (Ok (forward n)) is h = moved_forward l rs asked line n (length (plain l).undone) _ (nat_le n (length (plain l).undone)) h
  one l rs asked line false (Ok (forward n)) is h = moved_forward l rs asked line n (length (plain l).undone) _ (nat_le n (length (plain l).undone)) h

  readings_push : (l : Standing (ℕ × Act) Reply) (rs : List Reading) (xs ys : List Marked) → readings_all settings l rs (xs ++ ys) ≡ readings_all settings (lined_all settings l xs) (readings_all settings l rs xs) ys
  readings_push l rs [] ys = refl
  readings_push l rs (x ∷ xs) ys = readings_push (lined_after settings l x) (readings_after settings l rs x) xs ys

  abbrev stood_in : List Marked → ℕ
  stood_in answers = length (lined settings answers).stood

  abbrev read_in : List Marked → List Reading
  read_in answers = readings_all settings nothing_stands [] answers

  -- What a line brings is noted.
  readings_more : (answers more : List Marked) (told : Option (ℕ × Response)) (asked : Asked) → Brings settings answers more told → AreAsked asked (answers_of more) →
      AreWithin (stood_in answers) (read_in answers) →
      AreNoted (stood_in (answers ++ more)) (readings_noted told asked (stood_in answers) (stood_in (answers ++ more)) (read_in answers)) (read_in (answers ++ more))
  readings_more answers [] None asked brings asks h =
      subst (λ xs. AreNoted (stood_in xs) (read_in answers) (read_in xs)) (sym (append-nil answers)) (refl, h)
  readings_more answers (m ∷ []) (Some told) asked (line, response) asks h =
      let l = lined settings answers in
      let same = lines_are_of_statements settings answers in
      let next : lined settings (answers ++ m ∷ []) ≡ lined_after settings l m = lined_push settings nothing_stands answers (m ∷ []) in
      let read : read_in (answers ++ m ∷ []) ≡ readings_after settings l (read_in answers) m = readings_push nothing_stands [] answers (m ∷ []) in
      let which : told.1 ≡ responded settings (plain l) m.unmet m.answer.what =
      response ∙ sym (ap (λ s. responded settings s m.unmet m.answer.what) same) in
      let noted = one l (read_in answers) asked m.answer.line m.unmet m.answer.what asks.0 h in
      subst (λ s. AreNoted (length s.stood) (readings_noted (Some told) asked (stood_in answers) (length s.stood) (read_in answers)) (read_in (answers ++ m ∷ []))) (sym next)
      (subst (λ rs. AreNoted (length (lined_after settings l m).stood) (readings_noted (Some told) asked (stood_in answers) (length (lined_after settings l m).stood) (read_in answers)) rs) (sym read)
      (subst (λ n. AreNoted (length (lined_after settings l m).stood) (readings_noted (Some (n, told.1)) asked (stood_in answers) (length (lined_after settings l m).stood) (read_in answers)) (readings_after settings l (read_in answers) m)) (sym line)
      (subst (λ r. AreNoted (length (lined_after settings l m).stood) (readings_noted (Some (m.answer.line, r)) asked (stood_in answers) (length (lined_after settings l m).stood) (read_in answers)) (readings_after settings l (read_in answers) m)) (sym which) noted)))
  readings_more answers [] (Some told) asked brings asks h = absurd brings
  readings_more answers (m ∷ []) None asked brings asks h = absurd brings
  readings_more answers (m ∷ k ∷ more) None asked brings asks h = absurd brings
  readings_more answers (m ∷ k ∷ more) (Some told) asked brings asks h = absurd brings

  -- The statement that was asked for is noted.
  is_asked : (answers more : List Marked) (asked : Asked) → AreAsked asked (answers_of more) → (m : Marked) → more ≡ m ∷ [] →
      IsRead settings newest (act_asked asked) (lined settings answers) m.unmet m.answer.what
  is_asked answers more asked asks m one x n r met is e =
      let asks_one : AreAsked asked (answers_of (m ∷ [])) = subst (λ ms. AreAsked asked (answers_of ms)) one asks in
      let asks_act : IsAskedBy asked (Ok (act x)) = subst (IsAskedBy asked) is asks_one.0 in
      ap act_asked asks_act.0

  pub follow_more : (answers more : List Marked) (told : Option (ℕ × Response)) (asked : Asked) (b c : Bench NamedState) (before : ℕ) (f g : Followed) →
      Led settings answers b → Led settings (answers ++ more) c → Brings settings answers more told → AreAsked asked (answers_of more) → before ≡ length b.past →
      marks_in g.trail ≡ with_told (act_asked asked) before told (marks_in f.trail) →
      readings_in g.readings.items ≡ readings_noted told asked (marks_of f.trail).standing (marks_of g.trail).standing (readings_in f.readings.items) →
      Follows settings answers f → Follows settings (answers ++ more) g
  follow_more answers more told asked b c before f g led led_on brings asks is acts readings h =
      let on : Marked_by settings newest (lined settings (answers ++ more)) (marks_in g.trail) =
      subst (Marked_by settings newest (lined settings (answers ++ more))) (sym acts)
      (marked.follow_more settings newest answers more told b c before (act_asked asked) (marks_in f.trail) led led_on brings is h.acts (is_asked answers more asked asks)) in
      let noted = readings_more answers more told asked brings asks h.within in
      let kept : readings_in g.readings.items ≡ read_in (answers ++ more) =
      readings ∙ (λ i. readings_noted told asked (h.acts.standing i) (on.standing i) (h.readings i)) ∙ noted.0 in
      record { acts = on; readings = kept; within = subst (AreWithin (stood_in (answers ++ more))) noted.0 noted.1 }

-- What is noted of a line.
pub line_followed : (settings : Settings) (answers : List Marked) (before : ℕ) (old new : Session) (given next : List ℕ) (told : Option (ℕ × Response)) (asked : Asked) (f g : Followed) →
    Took settings given answers old → before ≡ length (bench_of old.bench).past →
    ((more : List Marked) × Brings settings answers more told × Shows settings answers more new.shown.items × AreAsked asked (answers_of more) × Took settings next (answers ++ more) new) →
    marks_in g.trail ≡ with_told (act_asked asked) before told (marks_in f.trail) →
    readings_in g.readings.items ≡ readings_noted told asked (marks_of f.trail).standing (marks_of g.trail).standing (readings_in f.readings.items) →
    Follows settings answers f → (more : List Marked) × Took settings next (answers ++ more) new × Follows settings (answers ++ more) g
line_followed settings answers before old new given next told asked f g took is (more, brings, shows, asks, taken) acts readings h = (
  more,
  taken,
  follow_more settings answers more told asked (bench_of old.bench) (bench_of new.bench) before f g took.led taken.led brings asks is acts readings h,
)

-- What is noted of the end of a script.
pub end_followed : (settings : Settings) (answers : List Marked) (before : ℕ) (s : Session) (e : Ending) (given whole : List ℕ) (asked : Asked) (f g : Followed) →
    Took settings given answers s → before ≡ length (bench_of s.bench).past → EndAsks settings whole answers e asked →
    marks_in g.trail ≡ with_told (act_asked asked) before e.last (marks_in f.trail) →
    readings_in g.readings.items ≡ readings_noted e.last asked (marks_of f.trail).standing (marks_of g.trail).standing (readings_in f.readings.items) →
    IsIdle e.open_statement → Follows settings answers f → (all : List Marked) × Ended settings whole all × Follows settings all g
end_followed settings answers before s e given whole asked f g took is asks acts readings idle h =
    let brings = asks.brings in
    let c = bench_of e.bench in
    let last = follow_more settings answers brings.more e.last asked (bench_of s.bench) c before f g took.led brings.led brings.last asks.last is acts readings h in (
      (answers ++ brings.more) ++ brings.also,
      brings.ended,
      follow_more settings (answers ++ brings.more) brings.also e.open_statement asked c c (length c.past) g g brings.led brings.led_on brings.unended asks.unended refl
          (idle_acts (act_asked asked) (length c.past) e.open_statement (marks_in g.trail) idle)
          (idle_readings e.open_statement asked (marks_of g.trail).standing (marks_of g.trail).standing (readings_in g.readings.items) idle) last,
    )
