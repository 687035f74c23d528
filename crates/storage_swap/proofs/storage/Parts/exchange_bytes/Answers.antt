use Rattle.std.proofs.Common.{ℕ, List, ap, arith}
use Rattle.storage_swap.proofs.ByteLemmas.{block-in-range, never-refused, bytes-read, bytes-exchanged}
use Rattle.storage_swap.proofs.storage.Parts.exchange_bytes.Goals as goal

pub overflow_mul-r : goal.overflow_mul-r
overflow_mul-r c =
    omega (arith, block-in-range c.args.self.now c.args.r c.requires.fits.0 c.requires.fits.1 c.requires.fits.2 c.requires.fits.3 c.pages_in_range.ensures.range)

pub returns-in-Ok-clause-turned : goal.returns-in-Ok-clause-turned
returns-in-Ok-clause-turned c = ap (λ (bytes : List ℕ). record c.args.r { bytes = bytes })
    (bytes-read c.args.self.now c.args.r c.requires.fits.0 c.requires.fits.1 c.requires.fits.2 c.requires.fits.3 c.swap_bytes.new.self _ c.swap_bytes.new.buf c.requires.fits.3.sixteen c.in-Ok.ensures.ok)

pub returns-in-Ok-clause-exchanges : goal.returns-in-Ok-clause-exchanges
returns-in-Ok-clause-exchanges c = bytes-exchanged c.args.self.now c.args.r c.swap_bytes.new.self c.swap_bytes.new.buf c.in-Ok.ensures.ok c.swap_bytes.ensures.tables c.swap_bytes.ensures.counts

pub returns-in-Err-clause-exchanges : goal.returns-in-Err-clause-exchanges
returns-in-Err-clause-exchanges c =
    absurd (never-refused c.args.self.now c.args.r c.requires.fits.0 c.requires.fits.1 c.requires.fits.2 c.requires.fits.3 c.in-Err.field-0.0 c.in-Err.ensures.err)

pub returns-in-Err-clause-turned : goal.returns-in-Err-clause-turned
returns-in-Err-clause-turned c =
    absurd (never-refused c.args.self.now c.args.r c.requires.fits.0 c.requires.fits.1 c.requires.fits.2 c.requires.fits.3 c.in-Err.field-0.0 c.in-Err.ensures.err)
