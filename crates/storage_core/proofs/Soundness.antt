-- Each storage is sound.
use Rattle.storage_changes.specs.Meaning.{IsSound}
use Rattle.storage_core.specs.declared.storage.Storage.{Storage}
use Rattle.storage_core.specs.Meaning.{state_in_place, settings_of}

pub is_sound : (s : Storage) → ∥ IsSound (settings_of s) (state_in_place s) ∥₁
is_sound s = s.held.sound
