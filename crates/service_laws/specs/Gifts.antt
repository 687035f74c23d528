-- What a gift leaves the old owner of a subpool.
-- Assembler Services Guide, "Virtual storage management", "Subpool handling"; Assembler Services Reference, ATTACH.
use Rattle.std.specs.Prelude.{◌≡◌, ◌≢◌, ℕ, ◌≤◌, true, Some, None}
use Rattle.vsm_model.specs.State.{State, is_task}
use Rattle.vsm_model.specs.Passing.{with_gift}
use Rattle.vsm_model.specs.WellFormed.{SightIsSound}

-- After a gift no page is the old owner's, and the old owner doesn't see the subpool; its pages are the new owner's.
abbrev pub AGiftLeavesNothing : Type 0
AGiftLeavesNothing =
    (s : State) (old new number : ℕ) → old ≢ new →
    ((k : ℕ) → (with_gift s old new number).pages k ≢ Some (record { number = number; owner = old }))
    × ((with_gift s old new number).sight old number ≡ None)
    × ((k : ℕ) → s.pages k ≡ Some (record { number = number; owner = old }) →
    (with_gift s old new number).pages k ≡ Some (record { number = number; owner = new }))

-- A gift from a task to a task leaves sight sound.
abbrev pub AGiftLeavesSightSound : Type 0
AGiftLeavesSightSound =
    (s : State) (old new number : ℕ) → is_task s old ≡ true → is_task s new ≡ true → 1 ≤ number → number ≤ 127 →
    SightIsSound s → SightIsSound (with_gift s old new number)
