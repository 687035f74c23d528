use Rattle.std.proofs.Common.{inl, inr, arith}
use Rattle.std.proofs.lemmas.Bool.{cases_lt}
use Rattle.subpool_storage.proofs.LawLemmas.{out_of_range}
use Rattle.subpool_storage.proofs.storage.SubpoolStorage.owner_of_page.Goals as goal

pub returns-clause-none : goal.returns-clause-none
returns-clause-none c o = elim (cases_lt o 65) [
  | inl low ↦ c.loop-owner.invariant o (omega (arith, low, c.loop-owner-test.false))
  | inr high ↦ out_of_range c.args.elements.now c.args.self.now c.args.number o c.args.page c.requires (inr high)
]
