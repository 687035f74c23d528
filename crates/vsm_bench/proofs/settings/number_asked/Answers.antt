use Rattle.std.proofs.Common.{◌∙◌, ℕ, List, ap, sym, Ok, Err, Result}
use Rattle.std.specs.Str.Parse.{ParsesUnsigned, ExplainsUnsignedError, HasUnsignedDigitsIfOk}
use Rattle.std.specs.declared.num.ParseIntError.{ParseIntError}
use Rattle.vsm_bench.proofs.SettingsAsked.{given, number_given}
use Rattle.vsm_bench.proofs.settings.number_asked.Goals as goal

-- what u32 reads of a text
abbrev Gives : List ℕ → Result ℕ ParseIntError → Type 0
Gives t r = ParsesUnsigned 32 10 t r × ExplainsUnsignedError 10 t r × HasUnsignedDigitsIfOk t r

pub returns-in-Ok-Some : goal.returns-in-Ok-Some
returns-in-Ok-Some c = ap (λ o. given {E = ParseIntError} c.args.default (Ok o)) (sym c.in-Ok-Some.field-0-is)
    ∙ number_given Gives (λ t r h. h.0) c.args.matches.now c.args.name.now c.args.default (Ok c.in-Ok-Some.field-0) c.in-Ok-Some.ensures.none
    c.in-Ok-Some.ensures.value

pub returns-in-Ok-None : goal.returns-in-Ok-None
returns-in-Ok-None c = ap (λ o. given {E = ParseIntError} c.args.default (Ok o)) (sym c.in-Ok-None.field-0-is)
    ∙ number_given Gives (λ t r h. h.0) c.args.matches.now c.args.name.now c.args.default (Ok c.in-Ok-None.field-0) c.in-Ok-None.ensures.none
    c.in-Ok-None.ensures.value

pub returns-in-Err : goal.returns-in-Err
returns-in-Err c =
    number_given Gives (λ t r h. h.0) c.args.matches.now c.args.name.now c.args.default (Err c.in-Err.field-0) c.in-Err.ensures.none c.in-Err.ensures.value
