use Rattle.std.proofs.Common.{◌≡◌, ◌≤◌, ◌-◌, ◌∷◌, length, take, sym, ap, ◌∙◌, arith}
use Rattle.std.proofs.lemmas.List.{length-take-le}
use Rattle.step_history.proofs.Cursor.{take_first}
use Rattle.step_history.proofs.history.History.forget_oldest.Goals as goal

pub returns-clause-oldest : goal.returns-clause-oldest
returns-clause-oldest g c =
    let items = c.self.inside.changes.items in
    let at = c.self.inside.kept in
    let kept : take at items ≡ c.args.self.now.kept = ap (λ h. h.kept) c.self.view_is in
    let some : 1 ≤ at = omega (arith, c.requires.some, ap length kept, length-take-le at items c.self.invariant.kept_held) in (
      c.unwrap-change.result,
      sym kept ∙ take_first items at c.unwrap-change.result some (sym c.pop_front.ensures.value ∙ c.unwrap-change.ensures)
          ∙ ap (λ b. c.unwrap-change.result ∷ take (at - 1) b.items) (sym c.pop_front.ensures.items),
      c.discard.ensures,
    )
