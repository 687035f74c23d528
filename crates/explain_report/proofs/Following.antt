-- What a report says of its statement, and the rows over time, after another answer.
use Rattle.std.proofs.Common.{◌≡◌, ◌≤◌, ℕ, zero, suc, arith, nat_le, Bool, true, false, true≢false, not, ◌&&◌, if◌then◌else◌, List, [], ◌∷◌, ◌++◌, length, take, drop, Option, Some, None, is_some, Result, Ok, Err, refl, sym, ap, subst, ◌∙◌, append_assoc}
use Rattle.std.proofs.lemmas.List.{append-nil, take-append-drop}
use Rattle.macro_operands.specs.declared.faults.FaultKind.{FaultKind}
use Rattle.macro_statements.specs.Requests.{Act, Asked, act, peek, map_asked, back, forward}
use Rattle.vsm_model.specs.declared.limits.Settings.{Settings}
use Rattle.vsm_model.specs.declared.replies.Reply.{Reply}
use Rattle.vsm_model.specs.Names.{NamedState}
use Rattle.vsm_model.specs.Standing.{Bench, Standing, Apply, Back, Forward, Moved, TooFar, nothing_stands, outcome_answer}
use Rattle.vsm_model.specs.State.{State}
use Rattle.vsm_machine.specs.Machine.{statement_step, shown_at}
use Rattle.script_steps.specs.Output.{Marked, alone_now, bytes_shown, responded, stands_after, stands_all}
use Rattle.script_steps.specs.Responses.{response_text}
use Rattle.script_steps.specs.Taken.{Led, Brings, EndBrings, Ended, Shows, ShowsRead, PassesBound, Took}
use Rattle.script_steps.specs.Script.{NoFeed}
use Rattle.script_steps.specs.declared.lines.Ending.{Ending}
use Rattle.script_steps.specs.declared.responses.Response.{Response}
use Rattle.script_steps.specs.declared.session.Session.{Session}
use Rattle.script_steps.proofs.Standings.{call_text, reading_text, stands_push, stands_for}
use Rattle.text_output.specs.Writing.{Puts}
use Rattle.text_output.specs.declared.writing.Gathered.{Gathered}
use Rattle.explain_report.specs.Changes.{AreFiguresAfter, may_change}
use Rattle.explain_report.specs.Figures.{IsFiguresOf, seen_in}
use Rattle.explain_report.specs.OverTime.{AreRows, ArePut, IsOverTime}
use Rattle.explain_report.specs.Reports.{IsAnsweredEnd, IsRead, IsReached}
use Rattle.explain_report.specs.Said.{state_after, said_of, said_from, said_last, said_with}
use Rattle.explain_report.specs.Csv.{heading_text, row_text, told_row}
use Rattle.explain_report.specs.declared.runs.LastAnswer.{LastAnswer}
use Rattle.explain_report.specs.declared.times.Figures.{Figures}
use Rattle.explain_report.proofs.Alike.{alike}
use Rattle.explain_report.proofs.SameAreas.{figures_are}

-- ---- the first line

module _ (settings : Settings) where
  shown_is : (l : Standing Act Reply) (unmet : Bool) (what : Result Asked FaultKind) (bytes : List ℕ) → ShowsRead settings l what bytes
      → response_text bytes (responded settings l unmet what) ≡ response_text (bytes_shown settings l what) (responded settings l unmet what)
  shown_is l unmet (Err kind) bytes h = refl
  shown_is l true (Ok (act x)) bytes h = refl
  shown_is l false (Ok (act x)) bytes h = call_text (Apply x) (outcome_answer (statement_step settings (alone_now settings l) x)) _ bytes []
  shown_is l unmet (Ok (peek address count)) bytes h = reading_text (shown_at (alone_now settings l) address count) bytes h
  shown_is l unmet (Ok map_asked) bytes h = refl
  shown_is l true (Ok (back n)) bytes h = call_text (Back n) (if nat_le n l.kept then Moved else TooFar l.kept) _ bytes []
  shown_is l false (Ok (back n)) bytes h = call_text (Back n) (if nat_le n l.kept then Moved else TooFar l.kept) _ bytes []
  shown_is l true (Ok (forward n)) bytes h = call_text (Forward n) (if nat_le n (length l.undone) then Moved else TooFar (length l.undone)) _ bytes []
  shown_is l false (Ok (forward n)) bytes h = call_text (Forward n) (if nat_le n (length l.undone) then Moved else TooFar (length l.undone)) _ bytes []

  said_push : (l : Standing Act Reply) (before : Option (ℕ × List ℕ)) (xs ys : List Marked)
      → said_from settings l before (xs ++ ys) ≡ said_from settings (stands_all settings l xs) (said_from settings l before xs) ys
  said_push l before [] ys = refl
  said_push l before (x ∷ xs) ys = said_push (stands_after settings l x) (said_of settings l x) xs ys

  -- what is said after further answers: none, or one
  pub said_more : (answers more : List Marked) (told : Option (ℕ × Response)) (bytes : List ℕ) → Brings settings answers more told → Shows settings answers more bytes
      → said_with told bytes (said_last settings answers) ≡ said_last settings (answers ++ more)
  said_more answers [] None bytes brings shows = ap (said_last settings) (sym (append-nil answers))
  said_more answers (m ∷ []) (Some told) bytes (line, response) shows =
      let l = stands_all settings nothing_stands answers in
      let text : response_text bytes told.1 ≡ response_text (bytes_shown settings l m.answer.what) (responded settings l m.unmet m.answer.what) =
      ap (response_text bytes) response ∙ shown_is l m.unmet m.answer.what bytes shows in
      (λ i. Some (line i, text i)) ∙ sym (said_push nothing_stands None answers (m ∷ []))
  said_more answers [] (Some told) bytes brings shows = absurd brings
  said_more answers (m ∷ []) None bytes brings shows = absurd brings
  said_more answers (m ∷ k ∷ more) None bytes brings shows = absurd brings
  said_more answers (m ∷ k ∷ more) (Some told) bytes brings shows = absurd brings

  -- the storage of a bench that answers led to
  pub led_state : (answers : List Marked) (b : Bench NamedState) → Led settings answers b → b.present.storage ≡ state_after settings answers
  led_state answers b led = ap (λ (m : NamedState). m.storage) (stands_for settings answers b led).present

-- ---- the rows

module _ (settings : Settings) (seen : Option (ℕ × ℕ)) where
  rows_push : (l : Standing Act Reply) (xs ys : List Marked) (a b : List ℕ) → AreRows settings seen l xs a → AreRows settings seen (stands_all settings l xs) ys b
      → AreRows settings seen l (xs ++ ys) (a ++ b)
  rows_push l [] ys a b none rows = subst (λ x. AreRows settings seen l ys (x ++ b)) (sym none) rows
  rows_push l (m ∷ xs) ys a b (f, more, same, at, text, rest) rows = (
    f,
    more ++ b,
    same,
    at,
    ap (λ x. x ++ b) text ∙ append_assoc (row_text m.answer.line f) more b,
    rows_push (stands_after settings l m) xs ys more b rest rows,
  )

  after_one : (answers : List Marked) (m : Marked) → state_after settings (answers ++ m ∷ []) ≡ (alone_now settings (stands_after settings (stands_all settings nothing_stands answers) m)).storage
  after_one answers m = ap (λ l. (alone_now settings l).storage) (stands_push settings nothing_stands answers (m ∷ []))

  -- the figures after one answer
  figures_one : (answers : List Marked) (m : Marked) (told : ℕ × Response) (state : State) (before after : Figures)
      → IsFiguresOf settings (state_after settings answers) before → told.1 ≡ responded settings (stands_all settings nothing_stands answers) m.unmet m.answer.what
      → state ≡ state_after settings (answers ++ m ∷ []) → AreFiguresAfter settings state before (Some told) after
      → (b : Bool) → may_change told.1 ≡ b → IsFiguresOf settings (state_after settings (answers ++ m ∷ [])) after
  figures_one answers m told state before after at response is h true changes =
      subst (λ s. IsFiguresOf settings s after) is (h.changed changes)
  figures_one answers m told state before after at response is h false changes =
      let l = stands_all settings nothing_stands answers in
      let stays = alike settings l m (ap may_change (sym response) ∙ changes) in
      subst (λ t. IsFiguresOf settings t after) (sym (after_one answers m))
      (subst (IsFiguresOf settings (alone_now settings (stands_after settings l m)).storage) (sym (h.unchanged changes)) (figures_are settings _ _ stays before at))

  -- Rows are put for further answers: none, or one.
  pub put_more : (first old now : Option (List ℕ)) (g h : Gathered) (answers more : List Marked) (told : Option (ℕ × Response)) (state : State) (before after : Figures)
      → ArePut settings seen first old g answers before → Brings settings answers more told → state ≡ state_after settings (answers ++ more)
      → Puts old now g h (told_row told after) → AreFiguresAfter settings state before told after → ArePut settings seen first now h (answers ++ more) after
  put_more first old now g h answers [] None state before after p brings is puts h_after =
      subst (λ xs. ArePut settings seen first now h xs after) (sym (append-nil answers)) (record {
        text = p.text ++ [];
        over = subst (IsOverTime settings seen answers) (sym (append-nil p.text)) p.over;
        held = puts first p.text p.held;
        figures = subst (IsFiguresOf settings (state_after settings answers)) (sym h_after) p.figures;
        same = ap seen_in h_after ∙ p.same;
      })
  put_more first old now g h answers (m ∷ []) (Some told) state before after p (line, response) is puts h_after =
      let l = stands_all settings nothing_stands answers in
      let at = figures_one answers m told state before after p.figures response is h_after (may_change told.1) refl in
      let same = h_after.seen ∙ p.same in
      let row = row_text told.0 after in
      let one : AreRows settings seen l (m ∷ []) row = (
        after,
        [],
        same,
        subst (λ s. IsFiguresOf settings s after) (after_one answers m) at,
        ap (λ n. row_text n after) line ∙ sym (append-nil _),
        refl,
      ) in
      record {
        text = p.text ++ row;
        over = (
          p.over.0 ++ row,
          rows_push nothing_stands answers (m ∷ []) p.over.0 row p.over.1 one,
          ap (λ x. x ++ row) p.over.2 ∙ append_assoc (heading_text (is_some seen)) p.over.0 row,
        );
        held = puts first p.text p.held;
        figures = at;
        same = same;
      }
  put_more first old now g h answers [] (Some told) state before after p brings is puts h_after = absurd brings
  put_more first old now g h answers (m ∷ []) None state before after p brings is puts h_after = absurd brings
  put_more first old now g h answers (m ∷ k ∷ more) None state before after p brings is puts h_after = absurd brings
  put_more first old now g h answers (m ∷ k ∷ more) (Some told) state before after p brings is puts h_after = absurd brings

-- ---- what is left of a script

-- nothing follows the end
pub rest_none : (xs : List ℕ) (n : ℕ) → length xs ≤ n → NoFeed (drop n xs)
rest_none [] zero h = tt
rest_none [] (suc n) h = tt
rest_none (x ∷ xs) zero h = absurd (omega (arith, h))
rest_none (x ∷ xs) (suc n) h = rest_none xs n (omega (arith, h))

pub whole_script : (script : List ℕ) (at : ℕ) (rest : List ℕ) → rest ≡ drop at script → take at script ++ rest ≡ script
whole_script script at rest is = ap (λ r. take at script ++ r) is ∙ take-append-drop at script

-- a bound that is passed there is passed in the script
pub script_past : (settings : Settings) (script : List ℕ) (at : ℕ) (rest : List ℕ) (answers : List Marked) → rest ≡ drop at script
    → ((behind : List ℕ) → PassesBound settings ((take at script ++ rest) ++ behind) answers) → PassesBound settings script answers
script_past settings script at rest answers is h =
    subst (λ s. PassesBound settings s answers) (append-nil (take at script ++ rest) ∙ whole_script script at rest is) (h [])

pub not_some : {A : Type 0} (o : Option A) → is_some o ≡ false → o ≡ None
not_some None e = refl
not_some (Some x) e = absurd (true≢false e)

-- what tells nothing brings no answer
none_brought : (settings : Settings) (answers more : List Marked) (told : Option (ℕ × Response)) → Brings settings answers more told → told ≡ None → more ≡ []
none_brought settings answers [] told brings none = refl
none_brought settings answers (m ∷ []) None brings none = absurd brings
none_brought settings answers (m ∷ []) (Some t) brings none = cc
none_brought settings answers (m ∷ k ∷ more) None brings none = absurd brings
none_brought settings answers (m ∷ k ∷ more) (Some t) brings none = absurd brings

pub quiet_step : (settings : Settings) (answers : List Marked) (told : Option (ℕ × Response)) (given : List ℕ) (s : Session) (last : LastAnswer)
    → ((more : List Marked) × Brings settings answers more told × IsReached settings given s last (answers ++ more)) → told ≡ None → Took settings given answers s
quiet_step settings answers told given s last (more, brings, h) none =
    subst (λ xs. Took settings given xs s) (ap (λ xs. answers ++ xs) (none_brought settings answers more told brings none) ∙ append-nil answers) h.took

-- and what tells something brings one
pub one_brought : (settings : Settings) (answers more : List Marked) (told : Option (ℕ × Response)) → Brings settings answers more told → is_some told ≡ true → (m : Marked) × (more ≡ m ∷ [])
one_brought settings answers [] None brings some = absurd (true≢false (sym some))
one_brought settings answers [] (Some t) brings some = absurd brings
one_brought settings answers (m ∷ []) told brings some = (m, refl)
one_brought settings answers (m ∷ k ∷ more) None brings some = absurd brings
one_brought settings answers (m ∷ k ∷ more) (Some t) brings some = absurd brings

pub quiet_end : (settings : Settings) (script : List ℕ) (answers : List Marked) (e : Ending) → EndBrings settings script answers e → e.last ≡ None → e.open_statement ≡ None
    → Ended settings script answers
quiet_end settings script answers e h last open_one =
    let first = none_brought settings answers h.more e.last h.last last in
    let second = none_brought settings (answers ++ h.more) h.also e.open_statement h.unended open_one in
    subst (Ended settings script)
    (ap (λ xs. (answers ++ h.more) ++ xs) second ∙ append-nil (answers ++ h.more) ∙ ap (λ xs. answers ++ xs) first ∙ append-nil answers) h.ended

-- what a session took was read
abbrev pub read_by : (settings : Settings) (given : List ℕ) (answers : List Marked) (s : Session) → Took settings given answers s → IsRead settings given answers s.reader
read_by settings given answers s h = record { lines = h.lines; rest = h.rest; within = h.within; told = h.told; met = h.led.met }

-- what the end brings, unless it brings nothing
pub answered_end : (settings : Settings) (script : List ℕ) (answers : List Marked) (s : Session) (e : Ending) → Took settings script answers s → (h : EndBrings settings script answers e)
    → not (is_some e.last) && not (is_some e.open_statement) ≡ false → IsAnsweredEnd settings script ((answers ++ h.more) ++ h.also)
answered_end settings script answers s e took h some = go (is_some e.last) (is_some e.open_statement) refl refl some where
  go : (a b : Bool) → is_some e.last ≡ a → is_some e.open_statement ≡ b → not a && not b ≡ false → IsAnsweredEnd settings script ((answers ++ h.more) ++ h.also)
  go true b is_last is_open some =
      let one = one_brought settings answers h.more e.last h.last is_last in
      record {
        older = answers;
        before = s.reader;
        read = read_by settings script answers s took;
        first = one.0;
        others = h.also;
        brought = ap (λ xs. (answers ++ xs) ++ h.also) one.1 ∙ append_assoc answers (one.0 ∷ []) h.also;
      }
  go false true is_last is_open some =
      let none = none_brought settings answers h.more e.last h.last (not_some e.last is_last) in
      let one = one_brought settings (answers ++ h.more) h.also e.open_statement h.unended is_open in
      record {
        older = answers;
        before = s.reader;
        read = read_by settings script answers s took;
        first = one.0;
        others = [];
        brought = (λ i. (answers ++ none i) ++ one.1 i) ∙ append_assoc answers [] (one.0 ∷ []);
      }
  go false false is_last is_open some = absurd (true≢false some)
