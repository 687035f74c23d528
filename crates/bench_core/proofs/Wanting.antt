-- What was made for a statement, whatever the answer.
use Rattle.std.proofs.Common.{◌≡◌, Result, Ok, Err, IfOk, IfErr, sym, subst}
use Rattle.vsm_model.specs.declared.replies.Reply.{Reply}
use Rattle.macro_statements.specs.Requests.{Act}
use Rattle.vsm_machine.specs.declared.machine.Machine.{Machine}
use Rattle.vsm_machine.specs.declared.refusals.Refusal.{Refusal}
use Rattle.vsm_machine.specs.declared.refusals.Refusal.TheVariants.{NoMemory}
use Rattle.bench_core.specs.Sparing.{MakesForStatement, Spares}

pub if_ok : (r : Result Reply Refusal) (P : Type 0) → P → IfOk r (λ _. P)
if_ok (Ok x) P h = h
if_ok (Err e) P h = tt

-- if memory ran out
pub spares_wanting : (m : Machine) (x : Act) (n : Machine) (r : Result Reply Refusal) → IfErr r (λ refusal. refusal ≡ NoMemory) → MakesForStatement m x n → IfErr r (Spares m x n)
spares_wanting m x n (Ok y) wants made = tt
spares_wanting m x n (Err e) wants made = subst (Spares m x n) (sym wants) made
