use Rattle.std.proofs.Common.{◌≡◌, ◌*◌, ◌/◌, ℕ, max, Some, ap, ◌∙◌}
use Rattle.std.specs.Prelude.{option_map}
use Rattle.storage_core.specs.Meaning.{state_of}
use Rattle.explain_findings.specs.Accesses.{first_outside, words_of}
use Rattle.explain_findings.specs.Homes.{home_at}
use Rattle.explain_standing.specs.NumberMaps.{number_in}
use Rattle.explain_findings.specs.declared.findings.Outside.{Outside}
use Rattle.explain_findings.specs.declared.homes.Home.{Home}
use Rattle.explain_findings.proofs.accesses.outside_at.Goals as goal

there : ℕ → Home → Outside
there a h = record { address = a; home = h }

pub returns-in-Some : goal.returns-in-Some
unfolding there
returns-in-Some c =
    let a = c.args in
    let homes : ℕ → Home = home_at (state_of a.storage.now) (number_in a.lines.now) in
    let word = a.address / 4 in
    let first : Some c.in-Some.at ≡ first_outside homes (homes word) (words_of a.address a.count) word =
    c.in-Some.ensures.first ∙ ap (λ h. first_outside homes h c.words_of-count.result word) c.home_at-first.ensures
    ∙ ap (λ n. first_outside homes (homes word) n word) c.words_of-count.ensures in
    ap (λ n. Some (there n c.in-Some.home)) c.max.ensures ∙ ap (λ h. Some (there (max a.address (4 * c.in-Some.at)) h)) c.in-Some.ensures.home
    ∙ ap (option_map (λ w. there (max a.address (4 * w)) (homes w))) first
