use Rattle.std.proofs.Common.{ℕ, ◌-◌, ◌++◌, true, false, List, length, sym, ◌∙◌, arith, refl}
use Rattle.std.proofs.lemmas.List.{get_or-replicate, length-set}
use Rattle.task_plans.proofs.NumberLists.{bad_zero, bad_high, bad_again, fine_here, seen_here, fine_behind_all, none_behind_all}
use Rattle.task_plans.proofs.numbers.has_bad_number.Goals.{then-number-eq0-via-then-number-eq0, then-number-eq0-via-else-number-eq0+then-number-ge-SUBPOOL_NUMBERS}
use Rattle.task_plans.proofs.numbers.has_bad_number.Goals as goal

pub loop-k-init : goal.loop-k-init
loop-k-init c =
    let both : List ℕ = c.args.given.now.items ++ c.args.shared.now.items in record {
      fine = fine_behind_all both (length both - 0) (omega arith);
      seen = λ n low. get_or-replicate 128 n false false low ∙ sym (none_behind_all both (length both - 0) n (omega arith));
      long = refl;
    }

pub returns-then-number-eq0 : goal.returns-then-number-eq0
returns-then-number-eq0 c =
    elim c.then-number-eq0.branch [
      | then-number-eq0-via-then-number-eq0 w ↦
          bad_zero c.args.given.now.items c.args.shared.now.items c.len.result c.len-2.result c.loop-k.k c.number_at-number.result
          c.len.ensures.value c.len-2.ensures.value c.loop-k-test.true c.number_at-number.ensures w.if-number-eq0.true
      | then-number-eq0-via-else-number-eq0+then-number-ge-SUBPOOL_NUMBERS w ↦
          bad_high c.args.given.now.items c.args.shared.now.items c.len.result c.len-2.result c.loop-k.k c.number_at-number.result
          c.len.ensures.value c.len-2.ensures.value c.loop-k-test.true c.number_at-number.ensures (omega (arith, w.if-number-ge-SUBPOOL_NUMBERS.true))
    ]

pub returns-then-behind-number : goal.returns-then-behind-number
returns-then-behind-number c =
    bad_again c.args.given.now.items c.args.shared.now.items c.len.result c.len-2.result c.loop-k.k c.number_at-number.result
    c.len.ensures.value c.len-2.ensures.value c.loop-k-test.true c.number_at-number.ensures
    (sym (c.loop-k.invariant.seen c.number_at-number.result (omega (arith, c.if-number-ge-SUBPOOL_NUMBERS.false))) ∙ c.if-behind-number.true)

pub loop-k-preserved : goal.loop-k-preserved
loop-k-preserved c = record {
  fine =
      fine_here c.args.given.now.items c.args.shared.now.items c.len.result c.len-2.result c.loop-k.k c.number_at-number.result
      c.len.ensures.value c.len-2.ensures.value c.loop-k-test.true c.number_at-number.ensures c.if-number-eq0.false (omega (arith, c.if-number-ge-SUBPOOL_NUMBERS.false))
      (sym (c.loop-k.invariant.seen c.number_at-number.result (omega (arith, c.if-number-ge-SUBPOOL_NUMBERS.false))) ∙ c.if-behind-number.false)
      c.loop-k.invariant.fine;
  seen =
      seen_here c.args.given.now.items c.args.shared.now.items c.len.result c.len-2.result c.loop-k.k c.number_at-number.result
      c.len.ensures.value c.len-2.ensures.value c.loop-k-test.true c.number_at-number.ensures
      c.loop-k.behind (omega (arith, c.loop-k.invariant.long, c.if-number-ge-SUBPOOL_NUMBERS.false)) c.loop-k.invariant.seen;
  long = length-set c.loop-k.behind c.number_at-number.result true ∙ c.loop-k.invariant.long;
}
