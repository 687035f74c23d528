use Rattle.std.proofs.Common.{ℕ, not, ap, ◌∙◌}
use Rattle.storage_changes.specs.declared.record.ObtainRecord.{ObtainRecord}
use Rattle.storage_changes.specs.declared.record.RegisterRecord.{RegisterRecord}
use Rattle.storage_swap.proofs.ObtainLemmas.{register-fits, word-stays, obtain-exchanged}
use Rattle.storage_swap.proofs.storage.Parts.exchange_obtain.Goals as goal

pub exchange_register-requires-clause-stands : goal.exchange_register-requires-clause-stands
exchange_register-requires-clause-stands c = (c.exchange_area.ensures c.requires.fits.0 c.requires.fits.1 c.requires.fits.3).stands.storage

pub exchange_register-requires-clause-fits : goal.exchange_register-requires-clause-fits
exchange_register-requires-clause-fits c =
    let given = c.requires.fits.0 in
    let parked = c.requires.fits.1 in (
      given,
      parked,
      c.requires.fits.2,
      register-fits c.args.self.now c.exchange_area.new.self c.args.r given parked (c.exchange_area.ensures given parked c.requires.fits.3) c.requires.fits.2 c.requires.fits.4 c.requires.fits.5,
    )

pub returns-clause-exchanges : goal.returns-clause-exchanges
returns-clause-exchanges c = λ given parked k.
    let area = c.exchange_area.ensures given parked k in
    obtain-exchanged c.args.self.now c.exchange_area.new.self c.args.r given parked area c.exchange_register.new.self (c.exchange_register.ensures.exchanges given parked area.stands)

pub returns-clause-turned : goal.returns-clause-turned
returns-clause-turned c =
    let given = c.requires.fits.0 in
    let parked = c.requires.fits.1 in
    let of : RegisterRecord → ObtainRecord = λ register. record { area = record c.args.r.area { free = not c.args.r.area.free }; register = register } in
    ap of c.exchange_register.ensures.turned
    ∙ ap (λ (w : ℕ). of (record c.args.r.register { word = w }))
    (word-stays c.args.self.now c.exchange_area.new.self c.args.r given parked (c.exchange_area.ensures given parked c.requires.fits.3) c.requires.fits.2 c.requires.fits.4 c.requires.fits.5)
