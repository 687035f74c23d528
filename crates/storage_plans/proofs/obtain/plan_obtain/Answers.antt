use Rattle.std.proofs.Common.{refl}
use Rattle.std.proofs.Math.Logic.{∥∥₁_map}
use Rattle.vsm_model.specs.Services.{obtain}
use Rattle.storage_swap.specs.Storage.{state_of}
use Rattle.storage_plans.proofs.Obtained.{in_words, obtain_carried_out}
use Rattle.storage_plans.proofs.obtain.plan_obtain.Goals as goal

pub plan_area-requires-clause-words : goal.plan_area-requires-clause-words
plan_area-requires-clause-words c =
    in_words c.args.settings c.args.names_full (state_of c.args.storage.now) c.args.o c.in-Ok.found c.requires.valid c.in-Ok.ensures.found

pub returns-in-Ok-clause-planned : goal.returns-in-Ok-clause-planned
returns-in-Ok-clause-planned c =
    ∥∥₁_map c.requires.sound.sound (λ h. obtain_carried_out c.args.settings c.args.names_full (state_of c.args.storage.now) c.args.o c.in-Ok.found
    c.requires.valid c.in-Ok.ensures.found h c.requires.register c.plan_area.result c.plan_area.ensures.emptied c.plan_area.ensures.records c.plan_area.ensures.blanks c.plan_area.ensures.fresh c.plan_area.ensures.reply)

pub returns-in-Err-clause-planned : goal.returns-in-Err-clause-planned
returns-in-Err-clause-planned c =
    c.answer_cause.ensures.planned c.args.settings c.args.names_full (obtain c.args.o) c.requires.sound.sound refl c.in-Err.ensures.err
