use Rattle.std.proofs.Common.{◌≡◌, ◌-◌, ◌++◌, ◌∷◌, [], IsOk, length, drop, take, arith, sym, ◌∙◌, ap, subst}
use Rattle.std.proofs.lemmas.List.{append-nil}
use Rattle.vsm_machine.specs.Meaning.{settings_of}
use Rattle.vsm_model.specs.Names.{NamedState}
use Rattle.vsm_model.specs.Standing.{Bench, Accepted}
use Rattle.vsm_machine.specs.NameSteps.{gives_undefines_none, GivesBy}
use Rattle.vsm_machine.specs.NameTable.{rows_of}
use Rattle.vsm_machine.specs.Changes.{Whole, DefineNone, UndefineNone, plain_of, named_of, machine_fits, machine_states}
use Rattle.bench_core.specs.Stands.{bench_of, bench_at}
use Rattle.bench_core.proofs.Accepted.{reserved_of, accepted_as, stays_readied, failed_isnt_ok}
use Rattle.bench_core.proofs.Applied.{can_swap, applied_fits, applied_apart, applied_whole, applied_settings, kept_bench, kept_directed, next, unchanged_bench, unchanged_fits}
use Rattle.vsm_machine.proofs.MakingLemmas.{makes_in_all, made_none, makes_wanting}
use Rattle.bench_core.proofs.Supplied.{needs_no_more}
use Rattle.bench_core.proofs.Moves.{discards_settings}
use Rattle.bench_core.proofs.bench.Bench.carry_out.Goals as goal

pub reserve-requires-clause-fits : goal.reserve-requires-clause-fits
reserve-requires-clause-fits c = c.requires.1.can

pub reserve-requires-clause-gives : goal.reserve-requires-clause-gives
reserve-requires-clause-gives c = c.requires.1.gives

-- if there is no memory, all is as it was

pub invariant_of-self-in-Err : goal.invariant_of-self-in-Err
invariant_of-self-in-Err c =
    let b = c.args.self.now in
    let r = c.reserve.new.machine in
    let h = c.reserve_place.new.self in
    let e = c.reserve_place.ensures in
    let left = c.in-Err.ensures in
    let same = stays_readied b.machine r left.settings left.rows left.stays in
    let fits = unchanged_fits b.machine r same left.same b.history.kept b.history.undone b.fits in
    record {
      fits = subst (λ zs. machine_fits zs r h.undone) (sym e.kept) (subst (λ zs. machine_fits b.history.kept r zs) (sym e.undone) fits);
      whole = subst (λ zs. Whole r (zs ++ h.undone)) (sym e.kept) (subst (λ zs. Whole r (b.history.kept ++ zs)) (sym e.undone) (left.stays.whole _ b.whole));
      kept_define_none = subst DefineNone (sym e.kept) b.kept_define_none;
      undone_undefine_none = subst UndefineNone (sym e.undone) b.undone_undefine_none;
      limit = e.limit ∙ b.limit ∙ sym (ap (λ s. s.history) left.settings);
    }

pub returns-in-Err-clause-keeps : goal.returns-in-Err-clause-keeps
returns-in-Err-clause-keeps c = λ x planned.
    let b = c.args.self.now in
    let r = c.reserve.new.machine in
    let e = c.reserve_place.ensures in
    let left = c.in-Err.ensures in
    let same = stays_readied b.machine r left.settings left.rows left.stays in (
      planned.accepts,
      (λ i. bench_at (e.kept i) r (e.undone i)) ∙ unchanged_bench b.machine r same left.same b.history.kept b.history.undone b.fits,
    )

-- the change that was made, next to those of the history

pub swap-requires : goal.swap-requires
swap-requires c =
    let b = c.args.self.now in
    let r = c.reserve.new.machine in
    let h = c.reserve_place.new.self in
    let e = c.reserve_place.ensures in
    let change = c.in-Ok.change in
    let made = c.in-Ok.ensures in
    can_swap h.kept h.undone b.machine r change
    (reserved_of b.machine r made.settings made.rows c.args.planned.now change made.is c.requires.0
    b.history.kept b.history.undone h.kept h.undone e.kept e.undone b.fits b.whole b.kept_define_none c.requires.1 made.can)

pub push_reserved-requires-clause-fits : goal.push_reserved-requires-clause-fits
push_reserved-requires-clause-fits c =
    let b = c.args.self.now in
    let r = c.reserve.new.machine in
    let h = c.reserve_place.new.self in
    let e = c.reserve_place.ensures in
    let change = c.in-Ok.change in
    let made = c.in-Ok.ensures in
    applied_fits h.kept h.undone b.machine r c.swap.new.self change c.swap.new.c
    (reserved_of b.machine r made.settings made.rows c.args.planned.now change made.is c.requires.0
    b.history.kept b.history.undone h.kept h.undone e.kept e.undone b.fits b.whole b.kept_define_none c.requires.1 made.can)
    c.swap.ensures

pub push_reserved-requires-clause-apart : goal.push_reserved-requires-clause-apart
push_reserved-requires-clause-apart c =
    let b = c.args.self.now in
    let r = c.reserve.new.machine in
    let h = c.reserve_place.new.self in
    let e = c.reserve_place.ensures in
    let change = c.in-Ok.change in
    let made = c.in-Ok.ensures in
    applied_apart h.kept h.undone b.machine r c.swap.new.self change c.swap.new.c
    (reserved_of b.machine r made.settings made.rows c.args.planned.now change made.is c.requires.0
    b.history.kept b.history.undone h.kept h.undone e.kept e.undone b.fits b.whole b.kept_define_none c.requires.1 made.can)
    c.swap.ensures

pub invariant_of-self-2 : goal.invariant_of-self-2
invariant_of-self-2 c =
    let b = c.args.self.now in
    let r = c.reserve.new.machine in
    let h = c.reserve_place.new.self in
    let e = c.reserve_place.ensures in
    let change = c.in-Ok.change in
    let made = c.in-Ok.ensures in
    let reserved = reserved_of b.machine r made.settings made.rows c.args.planned.now change made.is c.requires.0
    b.history.kept b.history.undone h.kept h.undone e.kept e.undone b.fits b.whole b.kept_define_none c.requires.1 made.can in
    let t = c.swap.new.self in
    let d = c.swap.new.c in
    let u = c.push_reserved.new.s in
    let n = c.push_reserved.new.self in
    let kept = c.push_reserved.ensures in
    let settings = discards_settings _ t u kept.discarded ∙ applied_settings h.kept h.undone b.machine r t change d reserved c.swap.ensures in
    let gives = gives_undefines_none r.names (rows_of b.machine.names) change.name (subst (GivesBy (rows_of b.machine.names)) (sym made.is.step) c.requires.1.gives) in
    let directed = kept_directed h.kept h.undone b.machine r t change d reserved c.swap.ensures h.limit n gives kept.kept kept.undone in
    let whole : Whole u n.kept = kept.whole (applied_whole h.kept h.undone b.machine r t change d reserved c.swap.ensures) in
    record {
      fits = subst (λ us. machine_fits n.kept u us) (sym kept.undone) kept.fits;
      whole = subst (λ us. Whole u (n.kept ++ us)) (sym kept.undone) (subst (Whole u) (sym (append-nil n.kept)) whole);
      kept_define_none = directed.kept_define_none;
      undone_undefine_none = directed.undone_undefine_none;
      limit = kept.limit ∙ e.limit ∙ b.limit ∙ sym (ap (λ s. s.history) settings);
    }

pub returns-clause-settings : goal.returns-clause-settings
returns-clause-settings c =
    let b = c.args.self.now in
    let r = c.reserve.new.machine in
    let h = c.reserve_place.new.self in
    let e = c.reserve_place.ensures in
    let change = c.in-Ok.change in
    let made = c.in-Ok.ensures in
    discards_settings _ c.swap.new.self c.push_reserved.new.s c.push_reserved.ensures.discarded
    ∙ applied_settings h.kept h.undone b.machine r c.swap.new.self change c.swap.new.c
    (reserved_of b.machine r made.settings made.rows c.args.planned.now change made.is c.requires.0
    b.history.kept b.history.undone h.kept h.undone e.kept e.undone b.fits b.whole b.kept_define_none c.requires.1 made.can)
    c.swap.ensures

pub returns-clause-keeps : goal.returns-clause-keeps
returns-clause-keeps c = λ x planned.
    let b = c.args.self.now in
    let r = c.reserve.new.machine in
    let h = c.reserve_place.new.self in
    let e = c.reserve_place.ensures in
    let change = c.in-Ok.change in
    let made = c.in-Ok.ensures in
    let reserved = reserved_of b.machine r made.settings made.rows c.args.planned.now change made.is x
    b.history.kept b.history.undone h.kept h.undone e.kept e.undone b.fits b.whole b.kept_define_none planned made.can in
    let t = c.swap.new.self in
    let d = c.swap.new.c in
    let u = c.push_reserved.new.s in
    let n = c.push_reserved.new.self in
    let kept = c.push_reserved.ensures in
    let limit = (settings_of b.machine.storage).history in
    let states : machine_states n.kept u [] ≡ drop (length (h.kept ++ d ∷ []) - limit) (machine_states (h.kept ++ d ∷ []) t []) =
    subst (λ k. machine_states n.kept u [] ≡ drop (length (h.kept ++ d ∷ []) - k) (machine_states (h.kept ++ d ∷ []) t [])) (e.limit ∙ b.limit)
    kept.states in
    let led = named_of (next h.kept h.undone b.machine r t change d reserved c.swap.ensures) in
    let new : bench_at n.kept u n.undone ≡ record { past = take limit (plain_of b.machine ∷ (bench_of b).past); present = led; later = [] } =
    kept_bench h.kept h.undone b.machine r t change d reserved c.swap.ensures limit n u kept.undone kept.fits states
    ∙ (λ i. record { past = take limit (plain_of b.machine ∷ (bench_at (e.kept i) b.machine (e.undone i)).past); present = led; later = [] }) in
    let accepted = accepted_as b.machine r x c.args.planned.now change planned made.is in (
      accepted ∙ (λ i. Accepted (sym (ap (λ (y : Bench NamedState). y.present) new) i) (sym c.reply-reply.ensures i)),
      ap (λ (y : Bench NamedState). y.past) new,
      ap (λ (y : Bench NamedState). y.later) new,
    )

-- if there is already memory

pub returns-in-Err-clause-needless : goal.returns-in-Err-clause-needless
returns-in-Err-clause-needless c = λ x planned supplied.
    let ok : IsOk c.reserve.result = c.reserve.ensures.needless (omega (arith, planned.light, supplied.elements)) (needs_no_more c.fresh_pages_are_newly_assigned.ensures c.args.self.now.machine x c.args.planned.now planned supplied) in
    failed_isnt_ok c.in-Err.field-0 c.reserve.result c.in-Err.is ok

-- what is made

pub returns-clause-made : goal.returns-clause-made
returns-clause-made c = λ x planned.
    makes_in_all c.args.self.now.machine c.reserve.new.machine c.swap.new.self c.push_reserved.new.s x c.args.planned.now c.in-Ok.change c.swap.new.c _
    planned c.reserve.ensures.made c.reserve.ensures.gets c.swap.ensures c.push_reserved.ensures.discarded

pub returns-in_err-reserve_place-clause-made : goal.returns-in_err-reserve_place-clause-made
returns-in_err-reserve_place-clause-made c = λ x planned. made_none c.args.self.now.machine x c.args.planned.now

pub returns-in-Err-clause-made : goal.returns-in-Err-clause-made
returns-in-Err-clause-made c = λ x planned. makes_wanting c.args.self.now.machine c.reserve.new.machine x c.args.planned.now planned c.reserve.ensures.made c.reserve.ensures.gets
