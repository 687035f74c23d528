pub mod Stands
pub mod Sparing
pub mod Causes
pub use Rattle.vsm_machine.specs.Machine
pub use Rattle.vsm_machine.specs.Refusals
pub use Rattle.vsm_machine.specs.declared.refusals.Refusal
pub use Rattle.vsm_machine.specs.declared.refusals.NewFault
