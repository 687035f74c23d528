use Rattle.std.proofs.Common.{◌||◌, sym, ap, ◌∙◌, length, arith}
use Rattle.run_set.specs.Runs.{inside}
use Rattle.free_queue.specs.FreeQueue.{owned}
use Rattle.free_queue.proofs.QueueLemmas.{queues_stand}
use Rattle.storage_swap.specs.Growth.{MakesElements}
use Rattle.storage_swap.proofs.AsideLemmas.{aside-same}
use Rattle.storage_swap.proofs.BuilderLemmas.{if-refused}
use Rattle.cell_plans.proofs.NotedLemmas.{owned-live, notes-one, grown-stands, grown-free, grown-owned, grown-moves, then-moves}
use Rattle.cell_plans.proofs.noting.note.Goals as goal

pub returns-in_err-reserve-clause-queue : goal.returns-in_err-reserve-clause-queue
returns-in_err-reserve-clause-queue c = grown-stands c.args.storage.now.elements c.reserve.new.self c.args.noted.now c.requires.queue c.reserve.ensures.kept

pub returns-in_err-reserve-clause-moves : goal.returns-in_err-reserve-clause-moves
returns-in_err-reserve-clause-moves c = grown-moves c.args.storage.now.elements c.reserve.new.self c.args.noted.now c.requires.queue c.reserve.ensures.kept

pub returns-in_err-reserve-clause-made : goal.returns-in_err-reserve-clause-made
returns-in_err-reserve-clause-made c = if-refused (MakesElements c.args.storage.now.elements c.reserve.new.self 2) c.from_residual.result (omega (arith, c.reserve.ensures.made))

pub note_area-requires-clause-queue : goal.note_area-requires-clause-queue
note_area-requires-clause-queue c = grown-stands c.args.storage.now.elements c.reserve.new.self c.args.noted.now c.requires.queue c.reserve.ensures.kept

pub returns-clause-moves : goal.returns-clause-moves
returns-clause-moves c =
    let done = c.note_area in
    then-moves c.args.storage.now.elements c.reserve.new.self c.args.noted.now c.requires.queue c.reserve.ensures.kept done.new.elements done.new.noted done.ensures.owned

pub returns-clause-set : goal.returns-clause-set
returns-clause-set c = λ d.
    c.note_area.ensures.set d
    ∙ ap (λ b. inside d c.args.area || b) (grown-free c.args.storage.now.elements c.reserve.new.self c.args.noted.now c.requires.queue c.reserve.ensures.kept d)

pub returns-clause-one : goal.returns-clause-one
returns-clause-one c =
    let s = c.args.storage.now.elements in
    let e = c.reserve.new.self in
    let q = c.args.noted.now in
    let done = c.note_area in
    let stand = grown-stands s e q c.requires.queue c.reserve.ensures.kept in
    notes-one e done.new.elements (owned e q) (owned done.new.elements done.new.noted) done.ensures.owned
    (owned-live e (owned e q) (queues_stand e q stand).1 c.live_are_counted.ensures) s (length (owned s q))
    (sym (ap length (grown-owned s e q c.requires.queue c.reserve.ensures.kept)))
    c.reserve.ensures.grows (omega (arith, c.reserve.ensures.made)) c.reserve.ensures.live done.ensures.spares

pub returns-clause-aside : goal.returns-clause-aside
returns-clause-aside c = aside-same c.reserve.new.self c.note_area.new.elements c.note_area.ensures.owned.as_many ∙ c.reserve.ensures.aside
