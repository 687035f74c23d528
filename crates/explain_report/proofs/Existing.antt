-- Whether a task exists after answers.
use Rattle.std.proofs.Common.{◌≡◌, ℕ, Bool, true, false, inl, List, [], ◌∷◌, ◌++◌, take, Option, Some, None, Ok, sym, ap, subst, ◌∙◌}
use Rattle.std.proofs.lemmas.List.{append-nil}
use Rattle.bench_core.specs.Stands.{IsNew, bench_of}
use Rattle.bench_core.specs.declared.bench.Bench.{Bench}
use Rattle.macro_statements.specs.Requests.{Act}
use Rattle.vsm_model.specs.declared.limits.Settings.{Settings}
use Rattle.vsm_model.specs.declared.replies.Reply.{Reply}
use Rattle.vsm_model.specs.Names.{NamedState}
use Rattle.vsm_model.specs.Standing as standing
use Rattle.vsm_model.specs.Standing.{Standing, nothing_stands}
use Rattle.vsm_model.specs.State.{State, is_task}
use Rattle.script_steps.specs.Output.{Marked, alone_now, stands_after, stands_all}
use Rattle.script_steps.specs.Taken.{Led, Brings, Took}
use Rattle.script_steps.specs.declared.responses.Response.{Response}
use Rattle.script_steps.specs.declared.session.Session.{Session}
use Rattle.explain_report.specs.Said.{state_after}
use Rattle.explain_report.specs.Tasks.{MakesTask, NeverExists}
use Rattle.explain_report.proofs.Following.{led_state}

module _ (settings : Settings) (task : ℕ) where
  -- on a new bench
  pub exists_first : (bench : Bench) → IsNew settings (Ok bench) → is_task (state_after settings []) task ≡ is_task (bench_of bench).present.storage task
  exists_first bench (valid, at, under, small) = ap (λ (b : standing.Bench NamedState). is_task b.present.storage task) (sym at)

  -- on a bench that answers led to
  pub exists_then : (answers : List Marked) (b : standing.Bench NamedState) (found : Bool) → Led settings answers b → found ≡ is_task b.present.storage task
      → is_task (state_after settings answers) task ≡ found
  exists_then answers b found led is = ap (λ (s : State). is_task s task) (sym (led_state settings answers b led)) ∙ sym is

  never_push : (l : Standing Act Reply) (xs : List Marked) (m : Marked) → NeverExists settings task l xs
      → is_task (alone_now settings (stands_all settings l (xs ++ m ∷ []))).storage task ≡ false → NeverExists settings task l (xs ++ m ∷ [])
  never_push l [] m h now = (h, now)
  never_push l (x ∷ xs) m h now = (h.0, never_push (stands_after settings l x) xs m h.1 now)

  -- nor after further answers: none, or one
  pub never_more : (answers more : List Marked) (told : Option (ℕ × Response)) → Brings settings answers more told → NeverExists settings task nothing_stands answers
      → is_task (state_after settings (answers ++ more)) task ≡ false → NeverExists settings task nothing_stands (answers ++ more)
  never_more answers [] told brings h now = subst (NeverExists settings task nothing_stands) (sym (append-nil answers)) h
  never_more answers (m ∷ []) told brings h now = never_push nothing_stands answers m h now
  never_more answers (m ∷ k ∷ more) None brings h now = absurd brings
  never_more answers (m ∷ k ∷ more) (Some t) brings h now = absurd brings

  -- a session that led there
  pub made_there : (script : List ℕ) (at : ℕ) (answers : List Marked) (s : Session) → Took settings (take at script) answers s
      → is_task (state_after settings answers) task ≡ true → MakesTask settings script task
  made_there script at answers s h there =
      (answers, inl (at, record { lines = h.lines; rest = h.rest; within = h.within; told = (s.reader, h.told); met = h.led.met }), there)
