-- What the code found of what is listed.
use Rattle.std.specs.Prelude.{◌≡◌, ℕ, List, Option, map}
use Rattle.macro_statements.specs.Requests.{Act}
use Rattle.vsm_model.specs.declared.limits.Settings.{Settings}
use Rattle.explain_standing.specs.Carried.{IsCarried}
use Rattle.explain_standing.specs.declared.carried.Carried.{Carried}
use Rattle.explain_areas.specs.Keeps.{page_of}
use Rattle.explain_areas.specs.Rows.{pages_listed, rows_listed}
use Rattle.explain_areas.specs.declared.asked.Listed.{Listed}
use Rattle.explain_areas.specs.declared.listed.Found.{Found}

-- It's all that is listed after the statements that were carried out.
abbrev pub IsFound : Carried → Option ℕ → Listed → Found → Type 0
IsFound c since what f =
    (settings : Settings) (xs : List (ℕ × Act)) → IsCarried settings xs c →
    (map page_of f.pages.items ≡ pages_listed settings xs what) × (f.rows.items ≡ rows_listed settings xs since what)
