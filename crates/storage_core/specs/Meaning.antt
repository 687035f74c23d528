-- What a storage represents: its state in place, the state of the plain machine, and the settings.
use Rattle.vsm_model.specs.declared.limits.Settings.{Settings}
use Rattle.vsm_model.specs.State.{State}
use Rattle.storage_changes.specs.State.{StorageState}
use Rattle.storage_changes.specs.Meaning.{model_of}
use Rattle.storage_swap.specs.Storage as parts
use Rattle.storage_core.specs.declared.storage.Storage.{Storage}

-- pages, free storage and bytes, in the terms of records of changes
abbrev pub state_in_place : Storage → StorageState
state_in_place s = parts.state_of s.parts

-- the state of the plain machine
abbrev pub state_of : Storage → State
state_of s = model_of (state_in_place s)

-- the settings that it was made with
abbrev pub settings_of : Storage → Settings
settings_of s = s.settings
