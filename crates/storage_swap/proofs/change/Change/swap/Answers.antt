use Rattle.std.proofs.Common.{◌≡◌, ◌≤◌, ◌+◌, ℕ, List, [], length, ap, sym, subst, ◌∙◌, arith}
use Rattle.std.specs.Option.{option_or}
use Rattle.raw_region.specs.Frames.{PageFrame}
use Rattle.raw_region.specs.Pages.{bytes_at}
use Rattle.raw_region.specs.Parked.{held_at, CanEnter}
use Rattle.storage_swap.proofs.SwapLemmas.{can-enter, beside, fits-turn, room, swaps}
use Rattle.storage_swap.proofs.change.Change.swap.Goals as goal

pub swap_records-requires-clause-beside : goal.swap_records-requires-clause-beside
swap_records-requires-clause-beside c =
    let b : (x : ℕ) → bytes_at c.restore.new.self x ≡ option_or (held_at c.args.self.now.frames x) (bytes_at c.args.storage.now.region x) = λ x. c.restore.ensures.pages x ∙ ap (λ (z : List PageFrame). option_or (held_at z x) (bytes_at c.args.storage.now.region x)) c.replace-frames.ensures.value in
    let o : c.restore.new.self.out + length c.args.self.now.frames ≡ c.args.storage.now.region.out = ap (λ (z : List PageFrame). c.restore.new.self.out + length z) (sym c.replace-frames.ensures.value) ∙ c.restore.ensures.out in
    let n : c.replace-frames.new.dest ≡ [] = c.replace-frames.ensures.after ∙ c.empty.ensures in
    beside c.args.storage.now c.args.self.now c.requires.ready c.requires.fits c.put_back.new.self c.restore.new.self c.replace-frames.new.dest c.put_back.ensures b c.restore.ensures.tables o n (record { spare = c.restore.ensures.spares; made = c.restore.ensures.made })

pub swap_records-requires-clause-fits : goal.swap_records-requires-clause-fits
swap_records-requires-clause-fits c =
    let b : (x : ℕ) → bytes_at c.restore.new.self x ≡ option_or (held_at c.args.self.now.frames x) (bytes_at c.args.storage.now.region x) = λ x. c.restore.ensures.pages x ∙ ap (λ (z : List PageFrame). option_or (held_at z x) (bytes_at c.args.storage.now.region x)) c.replace-frames.ensures.value in
    let o : c.restore.new.self.out + length c.args.self.now.frames ≡ c.args.storage.now.region.out = ap (λ (z : List PageFrame). c.restore.new.self.out + length z) (sym c.replace-frames.ensures.value) ∙ c.restore.ensures.out in
    let n : c.replace-frames.new.dest ≡ [] = c.replace-frames.ensures.after ∙ c.empty.ensures in
    fits-turn c.args.storage.now c.args.self.now c.requires.ready c.requires.fits c.put_back.new.self c.restore.new.self c.replace-frames.new.dest c.put_back.ensures b c.restore.ensures.tables o n (record { spare = c.restore.ensures.spares; made = c.restore.ensures.made })

pub overflow_sub-self : goal.overflow_sub-self
overflow_sub-self c =
    let b : (x : ℕ) → bytes_at c.restore.new.self x ≡ option_or (held_at c.args.self.now.frames x) (bytes_at c.args.storage.now.region x) = λ x. c.restore.ensures.pages x ∙ ap (λ (z : List PageFrame). option_or (held_at z x) (bytes_at c.args.storage.now.region x)) c.replace-frames.ensures.value in
    let o : c.restore.new.self.out + length c.args.self.now.frames ≡ c.args.storage.now.region.out = ap (λ (z : List PageFrame). c.restore.new.self.out + length z) (sym c.replace-frames.ensures.value) ∙ c.restore.ensures.out in
    let n : c.replace-frames.new.dest ≡ [] = c.replace-frames.ensures.after ∙ c.empty.ensures in
    let enough : c.args.storage.now.elements.spare ≤ c.swap_records.new.storage.elements.spare = room c.args.storage.now c.args.self.now c.requires.ready c.requires.fits c.put_back.new.self c.restore.new.self c.replace-frames.new.dest c.put_back.ensures b c.restore.ensures.tables o n (record { spare = c.restore.ensures.spares; made = c.restore.ensures.made }) c.swap_records.new.storage c.swap_records.new.given c.swap_records.new.parked c.swap_records.new.records c.swap_records.ensures in
    omega (arith, enough, c.spare-kept.ensures)

pub returns : goal.returns
returns c =
    let b : (x : ℕ) → bytes_at c.restore.new.self x ≡ option_or (held_at c.args.self.now.frames x) (bytes_at c.args.storage.now.region x) = λ x. c.restore.ensures.pages x ∙ ap (λ (z : List PageFrame). option_or (held_at z x) (bytes_at c.args.storage.now.region x)) c.replace-frames.ensures.value in
    let o : c.restore.new.self.out + length c.args.self.now.frames ≡ c.args.storage.now.region.out = ap (λ (z : List PageFrame). c.restore.new.self.out + length z) (sym c.replace-frames.ensures.value) ∙ c.restore.ensures.out in
    let n : c.replace-frames.new.dest ≡ [] = c.replace-frames.ensures.after ∙ c.empty.ensures in
    swaps c.args.storage.now c.args.self.now c.requires.ready c.requires.fits c.put_back.new.self c.restore.new.self c.replace-frames.new.dest c.put_back.ensures b c.restore.ensures.tables o n (record { spare = c.restore.ensures.spares; made = c.restore.ensures.made }) c.swap_records.new.storage c.swap_records.new.given c.swap_records.new.parked c.swap_records.new.records c.swap_records.ensures c.set_aside.new.self _ (omega (arith, c.spare.ensures, c.spare-kept.ensures)) c.set_aside.ensures

pub restore-requires-clause-enters : goal.restore-requires-clause-enters
restore-requires-clause-enters c =
    let P : List PageFrame → Type 0 = λ z. CanEnter c.args.storage.now.region z in
    subst P (sym c.replace-frames.ensures.value) (can-enter c.args.storage.now c.args.self.now c.requires.ready c.requires.fits)
