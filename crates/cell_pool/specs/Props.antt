-- That cell pools are kept in elements has at most one proof, and what they are is a set.
use Rattle.std.specs.Prelude.{ℕ, ◌+◌, List, [], ◌∷◌, Option, Some, None, IfSome}
use Rattle.std.proofs.Props.{props}
use mathlib.Core.HLevel.{Unit-prop, ×_prop}
use Rattle.vsm_model.specs.declared.Subpool.{Subpool}
use Rattle.vsm_elements.specs.Store.{Store}
use Rattle.vsm_elements.specs.Chain.{Link}
use Rattle.vsm_elements.specs.Props.{Apart-prop, Distinct-prop, IsChain-prop}
use Rattle.vsm_elements.specs.declared.chain.Chain.{Chain}
use Rattle.row_table.specs.Props as RowTable
use Rattle.list_table.specs.Entries.{Entry}
use Rattle.list_table.specs.Stocks.{IsStock}
use Rattle.list_table.specs.declared.stock.Stock.{Stock}
use Rattle.list_table.specs.Kept.{AllStand}
use Rattle.list_table.specs.Kept as rows
use Rattle.list_table.specs.ListTable.{IsTable}
use Rattle.list_table.specs.declared.table.ListTable.{ListTable}
use Rattle.cell_pool.specs.declared.label.Label.{Label}
use Rattle.cell_pool.specs.declared.settings.CellSettings.{CellSettings}
use Rattle.cell_pool.specs.declared.settings.Extent.{Extent}
use Rattle.cell_pool.specs.Names.{AreBytes, AreTexts}
use Rattle.cell_pool.specs.Notes.{AreNumbered}
use Rattle.cell_pool.specs.Places.{LiesBeside, AreSeparate}
use Rattle.cell_pool.specs.Reach.{AreWithin}
use Rattle.cell_pool.specs.Items.{IsSound}
use Rattle.cell_pool.specs.declared.pools.CellPools.{CellPools}
use Rattle.cell_pool.specs.Pools.{Pool, AreApart, HasCells, Single}
use Rattle.cell_pool.specs.Kept.{AllSound, IsKept}
use Rattle.cell_pool.specs.CellPools.{IsCellPools}

pub Subpool-set : IsSet Subpool
Subpool-set = hlevel props

pub Settings-set : IsSet CellSettings
Settings-set = hlevel (Subpool-set, props)

pub Extent-set : IsSet Extent
Extent-set = hlevel props

pub Pool-set : IsSet Pool
Pool-set = hlevel (Settings-set, Extent-set, props)

Label-set : IsSet Label
Label-set = hlevel props

IsStock-prop : (s : Store) (k : Stock) → IsProp (IsStock s k)
IsStock-prop s k = hlevel (IsChain-prop, RowTable.IsTable-prop, Apart-prop, props)

AllStand-prop : (s : Store) (ns : List Link) → IsProp (AllStand s ns)
AllStand-prop s [] = Unit-prop
AllStand-prop s (n ∷ ns) = hlevel (IsStock-prop, Apart-prop, AllStand-prop s ns, props)

rows-prop : (s : Store) (c : Chain) → IsProp (rows.IsKept s c)
rows-prop s c = hlevel (IsChain-prop, Apart-prop, AllStand-prop, props)

IsTable-prop : (s : Store) (q : ListTable) → IsProp (IsTable s q)
unfolding IsTable
IsTable-prop s q = rows-prop s q.chain

AreBytes-prop : (bytes : List ℕ) → IsProp (AreBytes bytes)
AreBytes-prop [] = Unit-prop
AreBytes-prop (b ∷ bs) = ×_prop (hlevel props) (AreBytes-prop bs)

header-prop : (header : Option (List ℕ)) → IsProp (IfSome header AreBytes)
header-prop None = Unit-prop
header-prop (Some bytes) = AreBytes-prop bytes

AreTexts-prop : (name : List ℕ) (header : Option (List ℕ)) → IsProp (AreTexts name header)
AreTexts-prop name header = hlevel (AreBytes-prop, header-prop, props)

AreApart-prop : (size : ℕ) (extents : List Extent) → IsProp (AreApart size extents)
AreApart-prop size [] = Unit-prop
AreApart-prop size (x ∷ xs) = ×_prop (hlevel props) (AreApart-prop size xs)

AreNumbered-prop : (k : ℕ) (rows : List (List ℕ)) → IsProp (AreNumbered k rows)
AreNumbered-prop k [] = Unit-prop
AreNumbered-prop k (ws ∷ rest) = ×_prop (hlevel props) (AreNumbered-prop (k + 1) rest)

LiesBeside-prop : (size : ℕ) (x : Extent) (ys : List Extent) → IsProp (LiesBeside size x ys)
LiesBeside-prop size x [] = Unit-prop
LiesBeside-prop size x (y ∷ ys) = ×_prop (hlevel props) (LiesBeside-prop size x ys)

AreSeparate-prop : (size : ℕ) (extents : List Extent) → IsProp (AreSeparate size extents)
AreSeparate-prop size [] = Unit-prop
AreSeparate-prop size (x ∷ xs) = hlevel (LiesBeside-prop, AreSeparate-prop size xs, props)

AreWithin-prop : (words : List ℕ) (size : ℕ) (extents : List Extent) → IsProp (AreWithin words size extents)
AreWithin-prop words size [] = Unit-prop
AreWithin-prop words size (x ∷ xs) = hlevel (AreWithin-prop words size xs, props)

HasCells-prop : (p : Pool) → IsProp (HasCells p)
HasCells-prop p = hlevel (Distinct-prop, AreApart-prop, props)

IsSound-prop : (e : Entry) → IsProp (IsSound e)
IsSound-prop e =
    hlevel (Label-set, AreTexts-prop, AreNumbered-prop, AreSeparate-prop, AreWithin-prop, HasCells-prop, props)

AllSound-prop : (es : List Entry) → IsProp (AllSound es)
AllSound-prop [] = Unit-prop
AllSound-prop (e ∷ es) = ×_prop (IsSound-prop e) (AllSound-prop es)

Single-prop : (ps : List Pool) → IsProp (Single ps)
Single-prop [] = Unit-prop
Single-prop (p ∷ ps) = ×_prop (hlevel (Pool-set, props)) (Single-prop ps)

IsKept-prop : (s : Store) (q : ListTable) → IsProp (IsKept s q)
IsKept-prop s q = hlevel (IsTable-prop, Single-prop, AllSound-prop, props)

pub IsCellPools-prop : (s : Store) (q : CellPools) → IsProp (IsCellPools s q)
unfolding IsCellPools
IsCellPools-prop s q = IsKept-prop s q.table
