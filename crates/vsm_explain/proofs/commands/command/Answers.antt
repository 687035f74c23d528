use Rattle.std.proofs.Common.{inl, inr, map, refl, subst}
use Rattle.std.specs.String.{string_bytes}
use Rattle.clap.specs.Words.{kind_of, subcommand_rows_of}
use Rattle.vsm_bench.specs.Settings.{settings_asked}
use Rattle.vsm_explain.specs.Questions.{Asks, IsWrong}
use Rattle.vsm_explain.specs.Options.{AnswersKind, said_by}
use Rattle.vsm_explain.specs.Words.{asked_words}
use Rattle.vsm_explain.proofs.Answered.{answers_kind, obeys_if, some_if}
use Rattle.vsm_explain.proofs.commands.command.Goals as goal

pub returns-in-Err-clause-does : goal.returns-in-Err-clause-does
returns-in-Err-clause-does g c =
    let answers = c.answer_words.ensures.answers in
    elim c.in-Err.ensures [
      | inl memory ↦
          inl (subst (λ k. AnswersKind g.E.Messages.said c.args.output.now c.answer_words.new.output c.answer_words.new.errors c.answer_words.result k) memory answers)
      | inr asked ↦
          inr (answers_kind (g.R.ScriptFiles.opened c.args.rt.now) g.R.Script.Read.remaining g.I.Read.remaining g.O.Write.contents g.E.Messages.said c.args.input.now c.args.terminals.input
          c.args.output.now c.answer_words.new.output c.answer_words.new.errors c.answer_words.result (asked_words (map string_bytes c.args.words.now)) (kind_of c.in-Err.error) asked answers)
    ]

pub returns-in-Err-asking_of-clause-does : goal.returns-in-Err-asking_of-clause-does
returns-in-Err-asking_of-clause-does g c =
    let refusal = c.in-Err-asking_of.refusal in
    inr (obeys_if (g.R.ScriptFiles.opened c.args.rt.now) g.R.Script.Read.remaining g.I.Read.remaining g.O.Write.contents g.E.Messages.said c.args.input.now c.args.terminals.input
    c.args.output.now c.args.output.now c.report.new.errors c.report.result (subcommand_rows_of c.in-Ok.matches) (asked_words (map string_bytes c.args.words.now))
    (λ p. IsWrong p.0 (said_by p.1) (settings_asked p.1) refusal) c.in-Ok.ensures c.in-Err-asking_of.ensures.wrong
    (λ p bad. inl (refusal, bad, (refl, c.report.ensures.status, c.report.ensures.says))))

pub returns-clause-does : goal.returns-clause-does
returns-clause-does g c =
    let asking = c.in-Ok-asking_of.asking in
    inr (obeys_if (g.R.ScriptFiles.opened c.args.rt.now) g.R.Script.Read.remaining g.I.Read.remaining g.O.Write.contents g.E.Messages.said c.args.input.now c.args.terminals.input
    c.args.output.now c.answer_asking-outcome.new.output c.end.new.errors c.end.result (subcommand_rows_of c.in-Ok.matches) (asked_words (map string_bytes c.args.words.now))
    (λ p. Asks p.0 (said_by p.1) (settings_asked p.1) asking) c.in-Ok.ensures
    (some_if (subcommand_rows_of c.in-Ok.matches) (λ p. Asks p.0 (said_by p.1) (settings_asked p.1) asking) c.in-Ok-asking_of.ensures.asks)
    (λ p asks. inr (asking, asks, c.answer_asking-outcome.result, c.answer_asking-outcome.ensures, c.end.ensures.status, c.end.ensures.reports)))
