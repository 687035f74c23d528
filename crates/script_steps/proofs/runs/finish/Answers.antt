use Rattle.std.proofs.Common.{◌≡◌, ◌∙◌, ◌++◌, inr, sym, subst}
use Rattle.bench_core.specs.Stands.{bench_of, settings_in}
use Rattle.script_steps.specs.Answers.{told_text}
use Rattle.script_steps.specs.Run.{Finishes}
use Rattle.script_steps.specs.Taken.{IsTold}
use Rattle.script_steps.specs.declared.faults.RunFault.TheVariants as fault
use Rattle.text_output.proofs.Gathering.{puts_both}
use Rattle.script_steps.proofs.Outcomes.{out_more, passed_up}
use Rattle.script_steps.proofs.runs.finish.Goals as goal

pub returns : goal.returns
returns g c = λ settings left first given end h.
    let b = c.end-ending.result.bench in
    let last = c.end-ending.result.last in
    let open_statement = c.end-ending.result.open_statement in
    let items = c.end-ending.result.shown.items in
    let bytes = c.as_slice-shown.result.now in
    let under : settings_in b ≡ settings = c.end-ending.ensures.settings ∙ h.took.under in
    let e = c.end-ending.ensures.told settings given h.answers h.took in
    let of_items = subst (λ s. IsTold settings h.answers e.0 (told_text s (bench_of b) items last ++ told_text s (bench_of b) items open_statement)) (sym under) e.1 in
    let told = subst (λ x. IsTold settings h.answers e.0 (told_text (settings_in b) (bench_of b) x last ++ told_text (settings_in b) (bench_of b) x open_statement)) (sym c.as_slice-shown.ensures.value) of_items in
    let puts = puts_both _ _ _ _ _ _ (told_text (settings_in b) (bench_of b) bytes last) (told_text (settings_in b) (bench_of b) bytes open_statement)
    c.put_told.ensures c.put_told-2.ensures in
    let out = out_more settings first _ _ _ _ h.answers e.0 _ told puts h.out in
    (h.answers ++ e.0, e.2, c.in_ok-hand_out.ensures.writes first _ out, e.3)

pub returns-in_err-hand_out : goal.returns-in_err-hand_out
returns-in_err-hand_out g c = λ settings left first given end h.
    let b = c.end-ending.result.bench in
    let last = c.end-ending.result.last in
    let open_statement = c.end-ending.result.open_statement in
    let items = c.end-ending.result.shown.items in
    let bytes = c.as_slice-shown.result.now in
    let under : settings_in b ≡ settings = c.end-ending.ensures.settings ∙ h.took.under in
    let e = c.end-ending.ensures.told settings given h.answers h.took in
    let of_items = subst (λ s. IsTold settings h.answers e.0 (told_text s (bench_of b) items last ++ told_text s (bench_of b) items open_statement)) (sym under) e.1 in
    let told = subst (λ x. IsTold settings h.answers e.0 (told_text (settings_in b) (bench_of b) x last ++ told_text (settings_in b) (bench_of b) x open_statement)) (sym c.as_slice-shown.ensures.value) of_items in
    let puts = puts_both _ _ _ _ _ _ (told_text (settings_in b) (bench_of b) bytes last) (told_text (settings_in b) (bench_of b) bytes open_statement)
    c.put_told.ensures c.put_told-2.ensures in
    let out = out_more settings first _ _ _ _ h.answers e.0 _ told puts h.out in
    subst (Finishes settings left first (g.W.Write.contents c.hand_out.new.writer) given) (sym (passed_up c.from_residual.result fault.Write c.from_residual.ensures.1))
    (h.answers ++ e.0, inr (end, e.2), c.in_err-hand_out.ensures.writes first _ out)
