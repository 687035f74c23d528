use Rattle.std.proofs.Common.{◌++◌, sym, ◌∙◌, ap, subst}
use Rattle.vsm_model.specs.Standing.{new_bench}
use Rattle.storage_changes.specs.Meaning.{model_of}
use Rattle.step_history.specs.Log.{Log}
use Rattle.vsm_machine.specs.declared.machine.Machine.{Machine}
use Rattle.vsm_machine.specs.declared.machine.MachineChange.{MachineChange}
use Rattle.vsm_machine.specs.Changes.{machine_fits, Whole, DefineNone, UndefineNone}
use Rattle.bench_core.specs.Stands.{bench_at}
use Rattle.bench_core.proofs.bench.Bench.new.Goals as goal

pub returns : goal.returns
returns c =
    let first = ap model_of c.in_ok-storage.ensures.state ∙ c.first_is_first.ensures c.args.settings in (
      sym c.if-not-valid.ensures,
      (λ i. bench_at (c.in_ok-history.ensures i).kept (record { storage = c.in_ok-storage.storage; names = c.new-3.result }) (c.in_ok-history.ensures i).undone)
          ∙ (λ i. new_bench (record { storage = first i; names = c.new-3.ensures.rows i })),
      c.in_ok-storage.ensures.settings,
      c.in_ok-storage.ensures.made,
    )

pub invariant_of-result : goal.invariant_of-result
invariant_of-result c =
    let m : Machine = record { storage = c.in_ok-storage.storage; names = c.new-3.result } in
    let whole = c.in_ok-storage.ensures.whole in
    let empty = sym c.in_ok-history.ensures in
    record {
      fits = subst (λ (l : Log MachineChange). machine_fits l.kept m l.undone) empty ((tt, tt), whole.apart);
      whole = subst (λ (l : Log MachineChange). Whole m (l.kept ++ l.undone)) empty whole;
      kept_define_none = subst (λ (l : Log MachineChange). DefineNone l.kept) empty tt;
      undone_undefine_none = subst (λ (l : Log MachineChange). UndefineNone l.undone) empty tt;
      limit = ap (λ l. l.limit) c.in_ok-history.ensures ∙ ap (λ s. s.history) (sym c.in_ok-storage.ensures.settings);
    }
