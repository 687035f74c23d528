use Rattle.std.proofs.Common.{◌≡◌, ◌-◌, ℕ, vec_len}
use Rattle.explain_standing.specs.NumberMaps.{page_number}
use Rattle.explain_standing.proofs.number_map.NumberMap.lengthen.Given as goal

abbrev pub invariant-loop-self : goal.invariant-loop-self
invariant-loop-self l = (k d : ℕ) → page_number l.self k d ≡ page_number l.initial.self k d

abbrev pub decreases-loop-self : goal.decreases-loop-self
decreases-loop-self l = l.count - vec_len l.self.pages
