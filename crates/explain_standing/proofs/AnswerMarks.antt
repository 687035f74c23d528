-- The marks of statements follow which are in effect by the definition, for another answer.
use Rattle.std.proofs.Common.{◌≡◌, ℕ, ◌≤◌, nat_le, Bool, true, false, if◌then◌else◌, List, [], ◌∷◌, ◌++◌, length, map, Option, Some, None, Result, Ok, Err, refl, sym, ap, subst, ◌∙◌}
use Rattle.std.proofs.lemmas.Bool.{leb-true}
use Rattle.std.proofs.lemmas.List.{append-nil, length-map}
use Rattle.macro_operands.specs.declared.faults.FaultKind.{FaultKind}
use Rattle.macro_statements.specs.Requests.{Act, Asked, act, peek, map_asked, back, forward}
use Rattle.vsm_model.specs.declared.limits.Settings.{Settings}
use Rattle.vsm_model.specs.declared.replies.Reply.{Reply}
use Rattle.vsm_model.specs.Names.{NamedState}
use Rattle.vsm_model.specs.Standing.{Outcome, Accepted, Refused, Bench, Stood, Standing, Apply, Back, Forward, Moved, TooFar, undo, redo, stand, nothing_stands, outcome_answer}
use Rattle.bench_core.specs.Machine.{Why, statement_step, shown_at}
use Rattle.explain_standing.specs.Trails.{Marks, Follows, stepped}
use Rattle.explain_standing.proofs.Moves.{undone_follows, redone_follows, applied_follows}
use Rattle.script_steps.specs.Output.{Marked, alone_now, responded}
use Rattle.script_steps.specs.Responses.{response_to, reading_response}
use Rattle.script_steps.specs.Taken.{Led, Brings}
use Rattle.script_steps.specs.declared.responses.Response.{Response}
use Rattle.script_steps.proofs.Standings.{stands_for}
use Rattle.explain_standing.specs.Lined.{unlined, plain, lined_with, lined_after, lined_all}
use Rattle.explain_standing.specs.Notes.{with_told}
use Rattle.explain_standing.proofs.LineLemmas.{plain_undo, plain_redo, lines_are_of_statements, lined_push}

module _ (settings : Settings) where
  abbrev pub lined : List Marked → Standing (ℕ × Act) Reply
  lined answers = lined_all settings nothing_stands answers

  -- the acts of statements in effect, without their lines
  abbrev pub acts_of : Standing (ℕ × Act) Reply → List Act
  acts_of l = map (λ y. y.statement.1) l.stood

module _ {V : Type 0} (settings : Settings) (read : List Act → V) where
  abbrev pub Marked_by : Standing (ℕ × Act) Reply → Marks V → Type 0
  Marked_by l t = Follows read l t

  -- what is noted of an accepted statement is what is read after it
  abbrev pub IsRead : V → Standing (ℕ × Act) Reply → Bool → Result Asked FaultKind → Type 0
  IsRead seen l unmet what =
      (x : Act) (n : NamedState) (r : Reply) → unmet ≡ false → what ≡ Ok (act x) →
      statement_step settings (alone_now settings (plain l)) x ≡ Accepted n r → seen ≡ read (x ∷ acts_of settings l)

  applied : (l : Standing (ℕ × Act) Reply) (t : Marks V) (line kept : ℕ) (x : Act) (o : Outcome NamedState Reply Why) (seen : V) → Marked_by l t →
      ((n : NamedState) (r : Reply) → o ≡ Accepted n r → seen ≡ read (x ∷ acts_of settings l)) →
      Marked_by (stand settings.history l (Apply (line, x)) (outcome_answer o)) (with_told seen l.kept (Some (line, response_to (Apply x) (outcome_answer o) kept)) t)
  applied l t line kept x (Accepted s r) seen f is = applied_follows read settings.history l t line x r seen f (is s r refl)
  applied l t line kept x (Refused why) seen f is = f

  stepped_back : (l : Standing (ℕ × Act) Reply) (t : Marks V) (line n : ℕ) (seen : V) → Marked_by l t → (b : Bool) → nat_le n l.kept ≡ b →
      Marked_by (stand {C = Why} settings.history l (Back n) (if b then Moved else TooFar l.kept))
      (with_told seen l.kept (Some (line, response_to (Back n) (if b then Moved else TooFar l.kept) (stand {C = Why} settings.history (plain l) (Back n) (if b then Moved else TooFar l.kept)).kept)) t)
  stepped_back l t line n seen f true is =
      subst (λ k. Marked_by (undo n l.stood l.kept l.undone) (stepped t l.kept k)) (ap (λ (s : Standing Act Reply). s.kept) (plain_undo n l.stood l.kept l.undone))
      (undone_follows read l t n f (leb-true n l.kept is))
  stepped_back l t line n seen f false is = f

  stepped_forward : (l : Standing (ℕ × Act) Reply) (t : Marks V) (line n : ℕ) (seen : V) → Marked_by l t → (b : Bool) → nat_le n (length (unlined l.undone)) ≡ b →
      Marked_by (stand {C = Why} settings.history l (Forward n) (if b then Moved else TooFar (length (unlined l.undone))))
      (with_told seen l.kept (Some (
        line,
        response_to (Forward n) (if b then Moved else TooFar (length (unlined l.undone)))
            (stand {C = Why} settings.history (plain l) (Forward n) (if b then Moved else TooFar (length (unlined l.undone)))).kept,
      )) t)
  stepped_forward l t line n seen f true is =
      subst (λ k. Marked_by (redo n l.stood l.kept l.undone) (stepped t l.kept k)) (ap (λ (s : Standing Act Reply). s.kept) (plain_redo n l.stood l.kept l.undone))
      (redone_follows read l t n f
      (subst (λ k. n ≤ k) (length-map l.undone (λ (x : Stood (ℕ × Act) Reply). record { statement = x.statement.1; reply = x.reply })) (leb-true n (length (unlined l.undone)) is)))
  stepped_forward l t line n seen f false is = f

  looked : (seen : V) (before line : ℕ) (t : Marks V) (r : Result (List ℕ) Why) → with_told seen before (Some (line, reading_response r)) t ≡ t
  looked seen before line t (Ok bytes) = refl
  looked seen before line t (Err why) = refl

  -- one answer, as it's stated
  one : (l : Standing (ℕ × Act) Reply) (t : Marks V) (line : ℕ) (unmet : Bool) (what : Result Asked FaultKind) (seen : V) → Marked_by l t →
      IsRead seen l unmet what →
      Marked_by (lined_with settings l line unmet what) (with_told seen l.kept (Some (line, responded settings (plain l) unmet what)) t)
  one l t line unmet (Err kind) seen f is = f
  one l t line true (Ok (act x)) seen f is = f
  one l t line false (Ok (act x)) seen f is = applied l t line _ x (statement_step settings (alone_now settings (plain l)) x) seen f (λ n r e. is x n r refl refl e)
  one l t line unmet (Ok (peek address count)) seen f is =
      subst (Marked_by l) (sym (looked seen l.kept line t (shown_at (alone_now settings (plain l)) address count))) f
  one l t line unmet (Ok map_asked) seen f is = f
  one l t line true (Ok (back n)) seen f is = stepped_back l t line n seen f (nat_le n l.kept) refl
  one l t line false (Ok (back n)) seen f is = stepped_back l t line n seen f (nat_le n l.kept) refl
  one l t line true (Ok (forward n)) seen f is = stepped_forward l t line n seen f (nat_le n (length (unlined l.undone))) refl
  one l t line false (Ok (forward n)) seen f is = stepped_forward l t line n seen f (nat_le n (length (unlined l.undone))) refl

  -- What a line brings is followed.
  pub follow_more : (answers more : List Marked) (told : Option (ℕ × Response)) (b c : Bench NamedState) (before : ℕ) (seen : V) (t : Marks V) →
      Led settings answers b → Led settings (answers ++ more) c → Brings settings answers more told → before ≡ length b.past → Marked_by (lined settings answers) t →
      ((m : Marked) → more ≡ m ∷ [] → IsRead seen (lined settings answers) m.unmet m.answer.what) →
      Marked_by (lined settings (answers ++ more)) (with_told seen before told t)
  follow_more answers [] None b c before seen t led led_on brings is f at = subst (λ xs. Marked_by (lined settings xs) t) (sym (append-nil answers)) f
  follow_more answers (m ∷ []) (Some told) b c before seen t led led_on (line, response) is f at =
      let same = lines_are_of_statements settings answers in
      let next : lined settings (answers ++ m ∷ []) ≡ lined_after settings (lined settings answers) m = lined_push settings nothing_stands answers (m ∷ []) in
      let kept : before ≡ (lined settings answers).kept = is ∙ (stands_for settings answers b led).kept ∙ sym (ap (λ (s : Standing Act Reply). s.kept) same) in
      let which : told.1 ≡ responded settings (plain (lined settings answers)) m.unmet m.answer.what =
      response ∙ sym (ap (λ s. responded settings s m.unmet m.answer.what) same) in
      let followed = one (lined settings answers) t m.answer.line m.unmet m.answer.what seen f (at m refl) in
      subst (λ s. Marked_by s (with_told seen before (Some told) t)) (sym next)
      (subst (λ k. Marked_by (lined_after settings (lined settings answers) m) (with_told seen k (Some told) t)) (sym kept)
      (subst (λ n. Marked_by (lined_after settings (lined settings answers) m) (with_told seen (lined settings answers).kept (Some (n, told.1)) t)) (sym line)
      (subst (λ r. Marked_by (lined_after settings (lined settings answers) m) (with_told seen (lined settings answers).kept (Some (m.answer.line, r)) t)) (sym which) followed)))
  follow_more answers [] (Some told) b c before seen t led led_on brings is f at = absurd brings
  follow_more answers (m ∷ []) None b c before seen t led led_on brings is f at = absurd brings
  follow_more answers (m ∷ k ∷ more) None b c before seen t led led_on brings is f at = absurd brings
  follow_more answers (m ∷ k ∷ more) (Some told) b c before seen t led led_on brings is f at = absurd brings
