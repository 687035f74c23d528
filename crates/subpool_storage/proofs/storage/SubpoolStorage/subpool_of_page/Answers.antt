use Rattle.std.proofs.Common.{inl, inr, arith}
use Rattle.std.proofs.lemmas.Bool.{cases_lt}
use Rattle.subpool_storage.proofs.LawLemmas.{out_of_range}
use Rattle.subpool_storage.proofs.storage.SubpoolStorage.subpool_of_page.Goals as goal

pub returns-clause-none : goal.returns-clause-none
returns-clause-none c p = elim (cases_lt p.number 128) [
  | inl low ↦ c.loop-number.invariant p.number p.owner (omega (arith, low, c.loop-number-test.false))
  | inr high ↦ out_of_range c.args.elements.now c.args.self.now p.number p.owner c.args.page c.requires (inl high)
]
