use Rattle.std.proofs.Common.{◌≡◌, ◌/◌, ℕ, Option, Some, sym, ap, ◌∙◌, arith, inl, inr}
use Rattle.std.proofs.lemmas.Bool.{cases_lt}
use Rattle.std.specs.Prelude.{unwrap_or}
use Rattle.explain_standing.specs.Carried.{state_in}
use Rattle.explain_standing.specs.NumberMaps.{number_in}
use Rattle.explain_findings.specs.Homes.{home_at}
use Rattle.explain_findings.specs.Stores.{is_unset, line_at_home, line_kept}
use Rattle.explain_findings.specs.declared.findings.Unset.{Unset}
use Rattle.explain_findings.proofs.FirstUnset.{unset_found, unset_none}
use Rattle.explain_findings.proofs.HomePages.{high_unassigned}
use Rattle.explain_findings.proofs.stores.unset_at.Goals as goal

pub loop-at-preserved : goal.loop-at-preserved
loop-at-preserved c = record {
  line = c.line_of_byte-its.ensures.line ∙ ap (line_kept c.args.carried.now) (sym c.line_of_byte-its.ensures.word);
  set = λ k above below. elim (cases_lt k c.loop-at.at) [
    | inl before ↦ c.loop-at.invariant.set k above before
    | inr here ↦
        let is : c.loop-at.at ≡ k = omega (arith, here, below) in
        ap (λ n. is_unset (line_kept c.args.carried.now (n / 4)) (number_in c.args.stored.now n)) (sym is)
        ∙ (λ i. is_unset (sym c.line_of_byte-its.ensures.line i) (sym c.number.ensures i)) ∙ sym c.is_unset.ensures ∙ c.if-is_unset.false
  ];
}

pub returns-then-is_unset : goal.returns-then-is_unset
returns-then-is_unset c =
    let carried = c.args.carried.now in
    let cells : ℕ → Option ℕ = λ cell. number_in carried.cells (cell / 4) in
    let stored = number_in c.args.stored.now in
    let at = c.loop-at.at in
    let this : ℕ → Unset = λ n. record { address = at; line = n } in
    ap (λ n. Some (this n)) (c.unwrap_or.ensures ∙ ap (λ o. unwrap_or o 0) c.line_of_byte-its.ensures.line)
    ∙ sym (unset_found (home_at (state_in carried) (number_in carried.lines)) cells stored c.args.count c.args.address at (omega arith)
    (omega (arith, c.loop-at-test.true, c.saturating_add-at-end.ensures, c.from.ensures)) c.loop-at.invariant.set
    ((λ i. is_unset (sym c.line_of_byte-its.ensures.line i) (sym c.number.ensures i)) ∙ sym c.is_unset.ensures ∙ c.if-is_unset.true))

pub returns : goal.returns
returns c =
    let carried = c.args.carried.now in
    let lines = number_in carried.lines in
    let cells : ℕ → Option ℕ = λ cell. number_in carried.cells (cell / 4) in
    let stored = number_in c.args.stored.now in
    sym (unset_none (home_at (state_in carried) lines) cells stored c.args.count c.args.address
    (λ k above below. elim (cases_lt k c.loop-at.at) [
      | inl before ↦ c.loop-at.invariant.set k above before
      | inr past ↦
          ap (λ h. is_unset (line_at_home cells h) (stored k))
          (sym (high_unassigned carried.bench.machine.storage lines (k / 4)
          (omega (arith, past, below, c.loop-at-test.false, c.saturating_add-at-end.ensures, c.from.ensures))))
    ]))
