use Rattle.std.proofs.Common.{◌≡◌, ◌-◌, sym, ap, ◌∙◌, arith, inl, inr}
use Rattle.std.proofs.lemmas.Bool.{cases_lt}
use Rattle.storage_core.specs.Meaning.{state_of}
use Rattle.explain_findings.specs.Homes.{home_at, same_home}
use Rattle.explain_standing.specs.NumberMaps.{number_in}
use Rattle.explain_findings.proofs.FirstOutside.{outside_found, outside_none}
use Rattle.explain_findings.proofs.HomePages.{same_is_low}
use Rattle.explain_findings.proofs.accesses.first_outside.Goals as goal

pub returns-then-not-is_same-clause-first : goal.returns-then-not-is_same-clause-first
returns-then-not-is_same-clause-first c =
    let s = c.args.storage.now in
    let lines = number_in c.args.lines.now in
    sym (outside_found (home_at (state_of s) lines) c.args.first.now c.args.count c.args.word c.loop-at.at (omega arith) (omega arith) c.loop-at.invariant
    (ap (same_home c.args.first.now) (sym c.home_at-home.ensures) ∙ sym c.is_same.ensures ∙ c.if-not-is_same.true))

pub returns-then-not-is_same-clause-within : goal.returns-then-not-is_same-clause-within
returns-then-not-is_same-clause-within c =
    let at = c.loop-at.at in
    elim (cases_lt c.args.word at) [
      | inl after ↦
          let low = same_is_low c.args.storage.now c.args.first.now (number_in c.args.lines.now) (at - 1) (c.loop-at.invariant (at - 1) (omega (arith, after)) (omega (arith, after))) in
          omega (arith, low)
      | inr here ↦ omega (arith, here, c.requires.within)
    ]

pub loop-at-preserved : goal.loop-at-preserved
loop-at-preserved c =
    let s = c.args.storage.now in
    λ k above below. elim (cases_lt k c.loop-at.at) [
      | inl before ↦ c.loop-at.invariant k above before
      | inr here ↦
          let is : c.loop-at.at ≡ k = omega (arith, here, below) in
          ap (same_home c.args.first.now) (ap (home_at (state_of s) (number_in c.args.lines.now)) (sym is) ∙ sym c.home_at-home.ensures) ∙ sym c.is_same.ensures
          ∙ c.if-not-is_same.false
    ]

pub returns-clause-first : goal.returns-clause-first
returns-clause-first c =
    let s = c.args.storage.now in
    sym (outside_none (home_at (state_of s) (number_in c.args.lines.now)) c.args.first.now c.args.count c.args.word (λ k above below. c.loop-at.invariant k above (omega (arith, below, c.loop-at-test.false))))
