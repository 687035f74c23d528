-- The lines after that of a response.
use Rattle.std.proofs.Common.{◌≡◌, ℕ, [], refl, sym, ap}
use Rattle.vsm_model.specs.declared.limits.Settings.{Settings}
use Rattle.vsm_model.specs.Map.{map_text}
use Rattle.vsm_model.specs.Names.{NamedState}
use Rattle.script_steps.specs.Responses.{lines_behind}
use Rattle.script_steps.specs.declared.responses.Response.{Response}
use Rattle.script_steps.specs.declared.responses.Response.TheVariants as response

-- no line follows that of a response that is no map
pub none_behind : (settings : Settings) (m : NamedState) (kept : ℕ) (r : Response) → (r ≡ response.Map → ⊥) → lines_behind settings m kept r ≡ []
none_behind settings m kept (response.Replied reply) not_map = refl
none_behind settings m kept (response.Refused why) not_map = refl
none_behind settings m kept response.Shown not_map = refl
none_behind settings m kept (response.Kept n) not_map = refl
none_behind settings m kept (response.TooFar n) not_map = refl
none_behind settings m kept (response.TooFarAhead n) not_map = refl
none_behind settings m kept (response.Fault kind) not_map = refl
none_behind settings m kept response.Map not_map = absurd (not_map refl)

-- the map follows the line of a map
pub map_behind : (settings : Settings) (m : NamedState) (kept : ℕ) (r : Response) → r ≡ response.Map → map_text settings m kept ≡ lines_behind settings m kept r
map_behind settings m kept r is = ap (lines_behind settings m kept) (sym is)
