use Rattle.std.proofs.Common.{map, refl, subst, None, Some}
use Rattle.std.specs.Result.{result_ok}
use Rattle.std.specs.String.{string_bytes}
use Rattle.clap.specs.Words.{found_of, rows_of}
use Rattle.vsm_bench.specs.Command.{Obeys}
use Rattle.vsm_bench.specs.Options.{file_asked}
use Rattle.vsm_bench.proofs.Obeys.{does_obey, does_refuse, map_few, obeys_by, runs_named, runs_obey, runs_refuse}
use Rattle.vsm_bench.proofs.commands.command.Goals as goal

pub returns-in-Err-clause-runs : goal.returns-in-Err-clause-runs
returns-in-Err-clause-runs g c = λ few.
    let read = c.in-Err.ensures in
    runs_refuse g.I.Read.remaining g.O.Write.contents g.E.Messages.said c.args.input.now c.args.output.now c.answer.new.output c.args.errors.now c.answer.new.errors c.args.at_terminal c.answer.result
    (map string_bytes c.args.words.now) c.in-Err.error read c.answer.ensures (map_few string_bytes c.args.words.now few)

pub returns-in-Err-clause-does : goal.returns-in-Err-clause-does
returns-in-Err-clause-does g c =
    let read = c.in-Err.ensures in
    does_refuse (g.R.ScriptFiles.opened c.args.rt.now) g.R.Script.Read.remaining g.I.Read.remaining g.O.Write.contents g.E.Messages.said c.args.input.now c.args.output.now c.answer.new.output c.args.errors.now c.answer.new.errors c.args.at_terminal c.answer.result
    (map string_bytes c.args.words.now) c.in-Err.error read c.answer.ensures

pub returns-in_default-clause-runs : goal.returns-in_default-clause-runs
returns-in_default-clause-runs g c = λ few.
    let read = c.in-Ok.ensures in
    let rows = rows_of (found_of c.in-Ok.matches) in
    runs_obey (g.R.ScriptFiles.opened c.args.rt.now) g.R.Script.Read.remaining g.I.Read.remaining g.O.Write.contents g.E.Messages.said c.args.input.now c.args.input.now c.args.output.now c.args.output.now c.args.errors.now c.report_fault.new.errors c.args.at_terminal c.report_fault.result
    (map string_bytes c.args.words.now) rows read
    (subst (λ s. Obeys (g.R.ScriptFiles.opened c.args.rt.now) g.R.Script.Read.remaining g.I.Read.remaining g.O.Write.contents g.E.Messages.said c.args.input.now c.args.input.now c.args.output.now c.args.output.now c.args.errors.now c.report_fault.new.errors c.args.at_terminal c.report_fault.result s (file_asked rows))
    c.in_default.ensures (refl, (refl, c.report_fault.ensures.status, c.report_fault.ensures.says)))
    (map_few string_bytes c.args.words.now few)

pub returns-in-None-clause-runs : goal.returns-in-None-clause-runs
returns-in-None-clause-runs g c = λ few.
    let read = c.in-Ok.ensures in
    let rows = rows_of (found_of c.in-Ok.matches) in
    runs_obey (g.R.ScriptFiles.opened c.args.rt.now) g.R.Script.Read.remaining g.I.Read.remaining g.O.Write.contents g.E.Messages.said c.args.input.now c.run_script.new.input c.args.output.now c.run_script.new.output c.args.errors.now c.run_script.new.errors c.args.at_terminal c.run_script.result
    (map string_bytes c.args.words.now) rows read
    (obeys_by (g.R.ScriptFiles.opened c.args.rt.now) g.R.Script.Read.remaining g.I.Read.remaining g.O.Write.contents g.E.Messages.said c.args.input.now c.run_script.new.input c.args.output.now c.run_script.new.output c.args.errors.now c.run_script.new.errors c.args.at_terminal c.run_script.result
    rows (Some c.in-Some.settings) None c.in-Some.ensures c.in-None.ensures c.run_script.ensures)
    (map_few string_bytes c.args.words.now few)

pub returns-in_default-clause-does : goal.returns-in_default-clause-does
returns-in_default-clause-does g c =
    let read = c.in-Ok.ensures in
    let rows = rows_of (found_of c.in-Ok.matches) in
    does_obey (g.R.ScriptFiles.opened c.args.rt.now) g.R.Script.Read.remaining g.I.Read.remaining g.O.Write.contents g.E.Messages.said c.args.input.now c.args.input.now c.args.output.now c.args.output.now c.args.errors.now c.report_fault.new.errors c.args.at_terminal c.report_fault.result (map string_bytes c.args.words.now) rows read
    (subst (λ s. Obeys (g.R.ScriptFiles.opened c.args.rt.now) g.R.Script.Read.remaining g.I.Read.remaining g.O.Write.contents g.E.Messages.said c.args.input.now c.args.input.now c.args.output.now c.args.output.now c.args.errors.now c.report_fault.new.errors c.args.at_terminal c.report_fault.result s (file_asked rows))
    c.in_default.ensures (refl, (refl, c.report_fault.ensures.status, c.report_fault.ensures.says)))

pub returns-in-None-clause-does : goal.returns-in-None-clause-does
returns-in-None-clause-does g c =
    let read = c.in-Ok.ensures in
    let rows = rows_of (found_of c.in-Ok.matches) in
    does_obey (g.R.ScriptFiles.opened c.args.rt.now) g.R.Script.Read.remaining g.I.Read.remaining g.O.Write.contents g.E.Messages.said c.args.input.now c.run_script.new.input c.args.output.now c.run_script.new.output c.args.errors.now c.run_script.new.errors c.args.at_terminal c.run_script.result (map string_bytes c.args.words.now) rows read
    (obeys_by (g.R.ScriptFiles.opened c.args.rt.now) g.R.Script.Read.remaining g.I.Read.remaining g.O.Write.contents g.E.Messages.said c.args.input.now c.run_script.new.input c.args.output.now c.run_script.new.output c.args.errors.now c.run_script.new.errors c.args.at_terminal c.run_script.result
    rows (Some c.in-Some.settings) None c.in-Some.ensures c.in-None.ensures c.run_script.ensures)

pub returns-clause-runs : goal.returns-clause-runs
returns-clause-runs g c = λ few.
    let read = c.in-Ok.ensures in
    runs_named g.I.Read.remaining g.O.Write.contents g.E.Messages.said c.args.input.now c.args.output.now c.run_opened.new.output c.args.errors.now c.run_opened.new.errors c.args.at_terminal c.run_opened.result
    (map string_bytes c.args.words.now) (rows_of (found_of c.in-Ok.matches)) c.in-Some-file_asked.path.now read c.in-Some-file_asked.ensures
    (map_few string_bytes c.args.words.now few)

pub returns-clause-does : goal.returns-clause-does
returns-clause-does g c =
    let read = c.in-Ok.ensures in
    let rows = rows_of (found_of c.in-Ok.matches) in
    does_obey (g.R.ScriptFiles.opened c.args.rt.now) g.R.Script.Read.remaining g.I.Read.remaining g.O.Write.contents g.E.Messages.said c.args.input.now c.args.input.now c.args.output.now c.run_opened.new.output c.args.errors.now c.run_opened.new.errors c.args.at_terminal c.run_opened.result (map string_bytes c.args.words.now) rows read
    (obeys_by (g.R.ScriptFiles.opened c.args.rt.now) g.R.Script.Read.remaining g.I.Read.remaining g.O.Write.contents g.E.Messages.said c.args.input.now c.args.input.now c.args.output.now c.run_opened.new.output c.args.errors.now c.run_opened.new.errors c.args.at_terminal c.run_opened.result rows (Some c.in-Some.settings) (Some c.in-Some-file_asked.path.now)
    c.in-Some.ensures c.in-Some-file_asked.ensures (refl, (result_ok c.open_script.result, c.open_script.ensures, c.run_opened.ensures)))
