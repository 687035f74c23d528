use Rattle.std.proofs.Common.{◌∙◌, ap, sym, codes, Some}
use Rattle.std.specs.Option.{option_map_or}
use Rattle.clap.proofs.WalkLemmas.{first_value-rows}
use Rattle.vsm_model.specs.declared.limits.Residence.TheVariants.{Below}
use Rattle.vsm_bench.specs.Settings.{residence_in}
use Rattle.vsm_bench.proofs.SettingsAsked.{other_residence}
use Rattle.clap.specs.Words.{found_of}
use Rattle.vsm_bench.proofs.settings.residence_asked.Goals as goal

pub returns-in-Some-text : goal.returns-in-Some-text
returns-in-Some-text c =
    ap (λ o. option_map_or residence_in o Below) (ap Some (sym c.in-Some-text.is-text) ∙ c.in-Some-text.ensures ∙ first_value-rows (found_of c.args.matches.now) (codes "residence"))

pub returns-in-Some : goal.returns-in-Some
returns-in-Some c =
    other_residence c.in-Some.field-0.now c.in-Some.not-text
    ∙ ap (λ o. option_map_or residence_in o Below) (c.in-Some.ensures ∙ first_value-rows (found_of c.args.matches.now) (codes "residence"))

pub returns-in-None : goal.returns-in-None
returns-in-None c = ap (λ o. option_map_or residence_in o Below) (c.in-None.ensures ∙ first_value-rows (found_of c.args.matches.now) (codes "residence"))
