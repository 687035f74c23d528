-- A record of an area and a register changed sides with the storage: the area did, and then the register.
use Rattle.std.proofs.Common.{◌≡◌, ℕ, ◌≤◌, List, sym, ap, ◌∙◌, arith, subst}
use Rattle.vsm_elements.proofs.MoveLemmas.{moves-follow}
use Rattle.raw_region.specs.Frames.{PageFrame}
use Rattle.subpool_storage.specs.declared.storage.SubpoolStorage.{SubpoolStorage as Head}
use Rattle.storage_changes.specs.declared.record.ObtainRecord.{ObtainRecord}
use Rattle.storage_changes.specs.declared.record.Record.TheVariants.{Area, Register, Obtain}
use Rattle.storage_changes.specs.Walk.{Walk}
use Rattle.storage_changes.specs.Steps.{register_step}
use Rattle.storage_changes.specs.Fits.{ObtainFits, RegisterFits}
use Rattle.storage_swap.specs.declared.storage.Parts.{Parts}
use Rattle.storage_swap.specs.Storage.{hold_with, state_of, walk_of}
use Rattle.storage_swap.specs.Exchange.{Exchanges}

module _ (p s : Parts) (r : ObtainRecord) (given : List PageFrame) (parked : Head) (area : Exchanges p s given given parked parked (Area r.area)) where
  module _ (kept : ℕ) (le : kept ≤ p.elements.spare) (fits : ObtainFits (walk_of p given parked kept) r) where
    -- after the area the register fits,
    pub register-fits : RegisterFits (walk_of s given parked kept) r.register
    register-fits =
        let P : Walk → Type 0 = λ w. RegisterFits w r.register in
        subst P (sym (area.steps kept le fits.0).1) (record { task = fits.1.task; register = fits.1.register })

    -- with the word that it had before
    pub word-stays : (state_of s).tasks.words r.register.task r.register.register ≡ (state_of p).tasks.words r.register.task r.register.register
    word-stays = ap (λ (w : Walk). w.state.tasks.words r.register.task r.register.register) (area.steps kept le fits.0).1

  pub obtain-exchanged : (t : Parts) → Exchanges s t given given parked parked (Register r.register) → Exchanges p t given given parked parked (Obtain r)
  obtain-exchanged t register = record {
    stands = register.stands;
    moves = moves-follow p.elements s.elements t.elements (hold_with p parked) (hold_with s parked) (hold_with t parked) area.moves register.moves;
    as_many = register.as_many ∙ area.as_many;
    steps = λ kept le fits. (let one = area.steps kept le fits.0 in
        let two = register.steps kept one.0 (register-fits kept le fits) in
        (two.0, two.1 ∙ ap (λ (w : Walk). register_step w r.register) one.1));
    out = omega (arith, area.out, register.out);
    tables = record { tables = λ z. register.tables.tables z ∙ area.tables.tables z; segments = λ z. register.tables.segments z ∙ area.tables.segments z };
    frames = record { spare = register.frames.spare ∙ area.frames.spare; made = register.frames.made ∙ area.frames.made };
    places = λ h. register.places (area.places h);
  }
