-- The statements in effect with their lines are those in effect by the definition.
use Rattle.std.proofs.Common.{◌≡◌, ℕ, zero, suc, ◌-◌, Bool, List, [], ◌∷◌, ◌++◌, Option, Some, None, Result, Ok, Err, refl, ap, ◌∙◌}
use Rattle.macro_operands.specs.declared.faults.FaultKind.{FaultKind}
use Rattle.macro_statements.specs.Requests.{Act, Asked}
use Rattle.vsm_model.specs.declared.limits.Settings.{Settings}
use Rattle.vsm_model.specs.declared.replies.Reply.{Reply}
use Rattle.vsm_model.specs.Standing.{Stood, Standing, Call, Apply, Back, Forward, Look, Answer, Replied, RefusedFor, NoMemory, Moved, TooFar, Shown, undo, redo, stand, nothing_stands}
use Rattle.bench_core.specs.Machine.{Why}
use Rattle.script_steps.specs.Output.{Marked, answer_to, call_in, stands_behind, stands_with, stands_all}
use Rattle.explain_standing.specs.Lined.{with_line, unlined, plain, lined_call, lined_with, lined_after, lined_all, LinesAreOfStatements}

abbrev Lined : Type 0
Lined = Stood (ℕ × Act) Reply

pub plain_undo : (n : ℕ) (stood : List Lined) (kept : ℕ) (undone : List Lined) → plain (undo n stood kept undone) ≡ undo n (unlined stood) kept (unlined undone)
plain_undo zero stood kept undone = refl
plain_undo (suc n) [] kept undone = refl
plain_undo (suc n) (x ∷ stood) kept undone = plain_undo n stood (kept - 1) (x ∷ undone)

pub plain_redo : (n : ℕ) (stood : List Lined) (kept : ℕ) (undone : List Lined) → plain (redo n stood kept undone) ≡ redo n (unlined stood) kept (unlined undone)
plain_redo zero stood kept undone = refl
plain_redo (suc n) stood kept [] = refl
plain_redo (suc n) stood kept (x ∷ undone) = plain_redo n (x ∷ stood) (suc kept) undone

pub plain_stand : (limit : ℕ) (l : Standing (ℕ × Act) Reply) (line : ℕ) (call : Call Act) (answer : Answer Reply Why) →
    plain (stand limit l (with_line line call) answer) ≡ stand limit (plain l) call answer
plain_stand limit l line (Apply x) (Replied r) = refl
plain_stand limit l line (Apply x) (RefusedFor why) = refl
plain_stand limit l line (Apply x) NoMemory = refl
plain_stand limit l line (Apply x) Moved = refl
plain_stand limit l line (Apply x) (TooFar n) = refl
plain_stand limit l line (Apply x) Shown = refl
plain_stand limit l line (Back n) Moved = plain_undo n l.stood l.kept l.undone
plain_stand limit l line (Back n) (Replied r) = refl
plain_stand limit l line (Back n) (RefusedFor why) = refl
plain_stand limit l line (Back n) NoMemory = refl
plain_stand limit l line (Back n) (TooFar k) = refl
plain_stand limit l line (Back n) Shown = refl
plain_stand limit l line (Forward n) Moved = plain_redo n l.stood l.kept l.undone
plain_stand limit l line (Forward n) (Replied r) = refl
plain_stand limit l line (Forward n) (RefusedFor why) = refl
plain_stand limit l line (Forward n) NoMemory = refl
plain_stand limit l line (Forward n) (TooFar k) = refl
plain_stand limit l line (Forward n) Shown = refl
plain_stand limit l line Look (Replied r) = refl
plain_stand limit l line Look (RefusedFor why) = refl
plain_stand limit l line Look NoMemory = refl
plain_stand limit l line Look Moved = refl
plain_stand limit l line Look (TooFar n) = refl
plain_stand limit l line Look Shown = refl

module _ (settings : Settings) where
  plain_call : (l : Standing (ℕ × Act) Reply) (line : ℕ) (unmet : Bool) (call : Option (Call Act)) →
      plain (lined_call settings l line unmet call) ≡ stands_behind settings (plain l) unmet call
  plain_call l line unmet None = refl
  plain_call l line unmet (Some call) = plain_stand settings.history l line call (answer_to settings (plain l) unmet call)

  plain_with : (l : Standing (ℕ × Act) Reply) (line : ℕ) (unmet : Bool) (what : Result Asked FaultKind) →
      plain (lined_with settings l line unmet what) ≡ stands_with settings (plain l) unmet what
  plain_with l line unmet (Err kind) = refl
  plain_with l line unmet (Ok asked) = plain_call l line unmet (call_in asked)

  plain_all : (l : Standing (ℕ × Act) Reply) (ms : List Marked) → plain (lined_all settings l ms) ≡ stands_all settings (plain l) ms
  plain_all l [] = refl
  plain_all l (m ∷ ms) =
      plain_all (lined_after settings l m) ms ∙ ap (λ k. stands_all settings k ms) (plain_with l m.answer.line m.unmet m.answer.what)

  pub lines_are_of_statements : LinesAreOfStatements settings
  lines_are_of_statements answers = plain_all nothing_stands answers

  pub lined_push : (l : Standing (ℕ × Act) Reply) (xs ys : List Marked) → lined_all settings l (xs ++ ys) ≡ lined_all settings (lined_all settings l xs) ys
  lined_push l [] ys = refl
  lined_push l (x ∷ xs) ys = lined_push (lined_after settings l x) xs ys
