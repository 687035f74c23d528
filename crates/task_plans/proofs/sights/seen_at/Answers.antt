use Rattle.std.proofs.Common.{◌<◌, ◌≤◌, List, ℕ, get_or, length, refl, sym, ◌∙◌, ap, arith}
use Rattle.storage_swap.specs.Storage.{state_of}
use Rattle.task_plans.proofs.SightLemmas.{rows_done, rows_pass, rows_meet}
use Rattle.task_plans.proofs.sights.seen_at.Goals as goal

pub loop-asked-preserved : goal.loop-asked-preserved
loop-asked-preserved c =
    let asked = c.loop-asked.asked in
    let less : asked < length c.args.ending.now.tasks.items = omega (arith, c.loop-asked-test.true, c.len-asked-end.ensures.value) in
    let same = c.requires.ending.tasks in
    let is = ap (λ (ts : List ℕ). get_or ts asked 0) (sym (c.deref.ensures.0 ∙ same)) in
    c.loop-asked.invariant
    ∙ rows_pass (state_of c.args.storage.now) c.args.ending.now.tree.top c.args.place.number asked (get_or c.deref.result.now asked 0) (omega (arith, less, ap length same)) is (sym c.in_default.ensures)

pub returns-in-Some : goal.returns-in-Some
returns-in-Some c =
    let asked = c.loop-asked.asked in
    let less : asked < length c.args.ending.now.tasks.items = omega (arith, c.loop-asked-test.true, c.len-asked-end.ensures.value) in
    let same = c.requires.ending.tasks in
    let is = ap (λ (ts : List ℕ). get_or ts asked 0) (sym (c.deref.ensures.0 ∙ same)) in
    record {
      none = tt;
      next = c.loop-asked.invariant
          ∙ rows_meet (state_of c.args.storage.now) c.args.ending.now.tree.top c.args.place.number asked (get_or c.deref.result.now asked 0) c.in-Some.owner (omega (arith, less, ap length same)) is (sym c.in-Some.ensures);
      number = (refl, refl);
      sees = sym c.in-Some.ensures;
    }

pub returns-clause-none : goal.returns-clause-none
returns-clause-none c =
    let asked = c.loop-asked.asked in
    let high : length c.args.ending.now.tasks.items ≤ asked = omega (arith, c.loop-asked-test.false, c.len-asked-end.ensures.value) in
    c.loop-asked.invariant
    ∙ rows_done (state_of c.args.storage.now) c.args.ending.now.tree.top c.args.place.number asked (omega (arith, high, ap length c.requires.ending.tasks))
