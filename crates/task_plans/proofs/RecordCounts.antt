-- Records that follow one another, and how many registers an end sets.
use Rattle.std.proofs.Common.{◌≡◌, ℕ, List, [], ◌++◌, length, refl}
use Rattle.std.proofs.lemmas.List.{append_assoc}
use Rattle.vsm_model.specs.declared.replies.Reply.{Reply}
use Rattle.vsm_model.specs.declared.replies.Reply.TheVariants.{Obtained, Returned, Cell, Attached, Turn, Stored}
use Rattle.storage_changes.specs.declared.record.Record.{Record}
use Rattle.task_plans.specs.TaskPlans.{end_registers}

-- four lists one after another
pub four_together : (a b c d : List Record) → a ++ b ++ c ++ d ≡ a ++ (b ++ (c ++ d))
four_together a b c d = simp append_assoc

-- an end that returns no code sets no register
pub no_register : (reply : Reply) → ((code : ℕ) → reply ≡ Returned code → ⊥) → end_registers reply ≡ []
no_register (Obtained address length) h = refl
no_register (Returned code) h = absurd (h code refl)
no_register (Cell cell) h = refl
no_register (Attached task) h = refl
no_register (Turn task) h = refl
no_register Stored h = refl
