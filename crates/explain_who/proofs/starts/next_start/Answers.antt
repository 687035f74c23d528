use Rattle.std.proofs.Common.{◌≡◌, ◌+◌, ◌-◌, ◌<◌, List, ℕ, [], ◌∷◌, drop, length, slice_index, take, refl, sym, ap, subst, ◌∙◌, arith}
use Rattle.std.proofs.lemmas.List.{drop_all, get_or-drop, length-drop, take_all}
use Rattle.script_steps.specs.Script.{NoFeed}
use Rattle.script_steps.specs.Steps.{IsLineOf}
use Rattle.explain_who.specs.ScriptLines.{after_feed}
use Rattle.explain_who.proofs.Places.{all_begin, line_left}
use Rattle.explain_who.proofs.starts.next_start.Goals as goal

none_after : (bytes : List ℕ) → NoFeed bytes → after_feed bytes ≡ []
none_after bytes plain = (all_begin bytes [] (0 ∷ []) 0 refl refl plain).1

pub returns-then-end-script-clause-next : goal.returns-then-end-script-clause-next
returns-then-end-script-clause-next c =
    let script = c.args.script.now in
    let at = c.args.at in
    let rest = c.rest_from-rest.result.now in
    let n = c.before_feed.result in
    let is = c.rest_from-rest.ensures in
    let size = ap length is ∙ length-drop at script in
    let short : n < length rest = omega (arith, size, c.if-end-script.true, c.requires) in
    let next : at + n + 1 - 1 - at ≡ n = omega arith in
    let place : at + n ≡ at + n + 1 - 1 = omega arith in
    let line : IsLineOf script at (at + n + 1) = record {
      some = omega arith;
      within = omega (arith, c.if-end-script.true);
      plain = subst (λ k. NoFeed (take k (drop at script))) (sym next) (subst (λ (bytes : List ℕ). NoFeed (take n bytes)) is c.before_feed.ensures.plain);
      feed = ap (slice_index script) (sym place) ∙ sym (get_or-drop at script n 0) ∙ ap (λ bytes. slice_index bytes n) (sym is) ∙ c.before_feed.ensures.feed short;
    } in
    sym (line_left script at (at + n + 1) line)

pub returns-else-end-script-clause-next : goal.returns-else-end-script-clause-next
returns-else-end-script-clause-next c =
    let script = c.args.script.now in
    let at = c.args.at in
    let rest = c.rest_from-rest.result.now in
    let n = c.before_feed.result in
    let is = c.rest_from-rest.ensures in
    let size = ap length is ∙ length-drop at script in
    let all : length rest ≡ n = omega (arith, size, c.if-end-script.false, c.before_feed.ensures.within, c.requires) in
    drop_all (at + n) script (omega (arith, size, all, c.requires))
    ∙ sym (ap after_feed (sym is) ∙ none_after rest (subst NoFeed (take_all n rest (omega (arith, all))) c.before_feed.ensures.plain))
