-- The name for which a request is refused: the first in its values that isn't defined.
use Rattle.std.specs.Prelude.{ℕ, List, [], ◌∷◌, ◌++◌, Option, Some, None}
use Rattle.std.specs.Option.{option_or}
use Rattle.macro_operands.specs.Requests.{Act, Asked, Stored, Written, WrittenLength, WrittenSubpools, act, attach}
use Rattle.macro_operands.specs.Requests.{back}
use Rattle.macro_operands.specs.Requests.{between, build, delete, detach, end_task, fixed, forward, free, get, listed}
use Rattle.macro_operands.specs.Requests.{map_asked, named, nothing, number, obtain, one, peek, poke, register, release}
use Rattle.macro_operands.specs.Requests.{run, spelled, whole, word}
use Rattle.vsm_model.specs.Names.{NamedState, word_of}

-- a name, if it has no word
abbrev pub if_undefined : List ℕ → Option ℕ → Option (List ℕ)
if_undefined name None = Some name
if_undefined name (Some its) = None

-- the name of a value, if it isn't defined
abbrev pub undefined_in : NamedState → Written → Option (List ℕ)
undefined_in m (number n) = None
undefined_in m (named name) = if_undefined name (word_of m.names name)
undefined_in m (register r) = None

-- the first name in values that isn't defined
abbrev pub first_undefined : NamedState → List Written → Option (List ℕ)
first_undefined m [] = None
first_undefined m (value ∷ values) = option_or (undefined_in m value) (first_undefined m values)

-- The values of a request, in the order in which they're looked up.
abbrev pub values_of_length : WrittenLength → List Written
values_of_length (fixed length) = length ∷ []
values_of_length (between maximum minimum) = maximum ∷ minimum ∷ []

abbrev pub values_of_subpools : WrittenSubpools → List Written
values_of_subpools nothing = []
values_of_subpools (one n) = n ∷ []
values_of_subpools (listed address) = address ∷ []

abbrev pub pool_values : Written → Option Written → Written → Written → List Written
pool_values primary None size subpool = primary ∷ size ∷ subpool ∷ []
pool_values primary (Some secondary) size subpool = primary ∷ secondary ∷ size ∷ subpool ∷ []

abbrev pub values_of_store : Written → Stored → List Written
values_of_store address (spelled bytes) = address ∷ []
values_of_store address (word value) = address ∷ value ∷ []

abbrev pub values_of_act : Act → List Written
values_of_act (obtain length subpool target boundary location form) = values_of_length length ++ subpool ∷ []
values_of_act (release length address subpool form) = length ∷ address ∷ subpool ∷ []
values_of_act (whole subpool form) = subpool ∷ []
values_of_act (build pool header primary secondary size subpool location) = pool_values primary secondary size subpool
values_of_act (get pool target conditional) = []
values_of_act (free pool cell) = cell ∷ []
values_of_act (delete pool) = []
values_of_act (attach given shared shares_zero) = values_of_subpools given ++ values_of_subpools shared
values_of_act (detach task) = task ∷ []
values_of_act (run task) = task ∷ []
values_of_act end_task = []
values_of_act (poke address content) = values_of_store address content

abbrev pub values_asked : Asked → List Written
values_asked (act x) = values_of_act x
values_asked (peek address len) = address ∷ []
values_asked map_asked = []
values_asked (back n) = []
values_asked (forward n) = []
