-- Facts of chains and of what structures own, each of which has one proof at most.
use Rattle.std.specs.Prelude.{ℕ, List, [], ◌∷◌}
use Rattle.std.proofs.Props.{props}
use mathlib.Core.HLevel.{Unit-prop, ×_prop}
use Rattle.vsm_elements.specs.declared.element.Element.{Element}
use Rattle.vsm_elements.specs.declared.chain.Chain.{Chain}
use Rattle.vsm_elements.specs.Store.{Store, Distinct}
use Rattle.vsm_elements.specs.Ownership.{Apart}
use Rattle.vsm_elements.specs.Chain.{Link, Holds, IsChainOf, IsChain, links}

pub Element-set : IsSet Element
Element-set = hlevel props

pub Distinct-prop : (ids : List ℕ) → IsProp (Distinct ids)
Distinct-prop [] = Unit-prop
Distinct-prop (j ∷ js) = ×_prop (hlevel props) (Distinct-prop js)

pub Apart-prop : (ids others : List ℕ) → IsProp (Apart ids others)
Apart-prop ids others = hlevel props

pub Holds-prop : (s : Store) (ns : List Link) (last : ℕ) → IsProp (Holds s ns last)
Holds-prop s [] last = Unit-prop
Holds-prop s (n ∷ ns) last = ×_prop (hlevel (Element-set, props)) (Holds-prop s ns last)

pub IsChainOf-prop : (s : Store) (c : Chain) (ns : List Link) → IsProp (IsChainOf s c ns)
IsChainOf-prop s c ns = hlevel (Holds-prop, Distinct-prop, props)

pub IsChain-prop : (s : Store) (c : Chain) → IsProp (IsChain s c)
IsChain-prop s c = IsChainOf-prop s c (links s c)
