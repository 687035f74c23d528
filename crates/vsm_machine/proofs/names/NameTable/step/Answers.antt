-- A row that is written keeps its name, and the rows before the last defined one stay.
use Rattle.std.proofs.Common.{◌+◌, ◌-◌, ◌∙◌, Some, ap, refl, subst, sym, take}
use Rattle.vsm_machine.specs.NameChanges.{step_in, stepped, turned}
use Rattle.vsm_machine.specs.NameSteps.{FitsTable}
use Rattle.vsm_machine.specs.NameTable.{all_rows, rows_of}
use Rattle.vsm_machine.proofs.TableSteps.{place-there, written-names, defined-rows, undefined-rows, undefined-turned, reworded-rows}
use Rattle.vsm_machine.proofs.names.NameTable.step.Goals as goal

pub returns-in-Define-clause-rows : goal.returns-in-Define-clause-rows
returns-in-Define-clause-rows c =
    let t = c.args.self.now in
    let u = c.exchange.new.self in
    let place = c.in-Define.place in
    let fits = subst (λ x. FitsTable t (Some x)) c.in-Define.is c.requires in
    defined-rows t (all_rows u) _ place c.in-Define.word c.exchange.ensures.rows (ap (λ n. n + 1) c.exchange.ensures.defined) fits.0 (place-there t place fits.1)
    ∙ ap (λ x. stepped (rows_of t) (step_in t x)) (sym c.in-Define.is)

pub returns-in-Define-clause-same : goal.returns-in-Define-clause-same
returns-in-Define-clause-same c = written-names c.args.self.now (all_rows c.exchange.new.self) c.in-Define.place c.in-Define.word c.exchange.ensures.rows

pub returns-in-Undefine-clause-rows : goal.returns-in-Undefine-clause-rows
returns-in-Undefine-clause-rows c =
    let t = c.args.self.now in
    let u = c.exchange-word.new.self in
    let fits = subst (λ x. FitsTable t (Some x)) c.in-Undefine.is c.requires in
    ap (λ n. take n (all_rows u)) c.exchange-word.ensures.defined
    ∙ undefined-rows t (all_rows u) (t.defined - 1) 0 c.exchange-word.ensures.rows refl fits.0
    ∙ ap (λ x. stepped (rows_of t) (step_in t x)) (sym c.in-Undefine.is)

pub returns-in-Undefine-clause-turned : goal.returns-in-Undefine-clause-turned
returns-in-Undefine-clause-turned c =
    let t = c.args.self.now in
    let u = c.exchange-word.new.self in
    let fits = subst (λ x. FitsTable t (Some x)) c.in-Undefine.is c.requires in
    let same = written-names t (all_rows u) (t.defined - 1) 0 c.exchange-word.ensures.rows in
    undefined-turned t (all_rows u) (t.defined - 1) c.exchange-word.result same refl fits.0 c.exchange-word.ensures.old
    ∙ ap (λ x. turned (rows_of t) (step_in t x)) (sym c.in-Undefine.is)

pub returns-in-Undefine-clause-same : goal.returns-in-Undefine-clause-same
returns-in-Undefine-clause-same c =
    let t = c.args.self.now in
    written-names t (all_rows c.exchange-word.new.self) (t.defined - 1) 0 c.exchange-word.ensures.rows

pub returns-in-Reword-clause-rows : goal.returns-in-Reword-clause-rows
returns-in-Reword-clause-rows c =
    let t = c.args.self.now in
    let u = c.exchange-word-in-Reword.new.self in
    reworded-rows t (all_rows u) u.defined c.in-Reword.place c.in-Reword.word c.exchange-word-in-Reword.ensures.rows c.exchange-word-in-Reword.ensures.defined
    ∙ ap (λ x. stepped (rows_of t) (step_in t x)) (sym c.in-Reword.is)

pub returns-in-Reword-clause-same : goal.returns-in-Reword-clause-same
returns-in-Reword-clause-same c =
    written-names c.args.self.now (all_rows c.exchange-word-in-Reword.new.self) c.in-Reword.place c.in-Reword.word c.exchange-word-in-Reword.ensures.rows
