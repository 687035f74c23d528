-- What a map has at a place: a number, if there is one.
use Rattle.std.specs.Prelude.{ℕ, ◌/◌, ◌%◌, ◌==◌, Bool, true, false, Option, Some, None, slice_get}
use Rattle.vsm_model.specs.Search.{all_pass}
use Rattle.explain_standing.specs.declared.number_map.NumberMap.{NumberMap}
use Rattle.explain_standing.specs.declared.number_map.PageNumbers.{PageNumbers}
use Rattle.explain_standing.specs.declared.number_map.PageNumbers.TheVariants as page

abbrev pub joined : Option (Option ℕ) → Option ℕ
joined None = None
joined (Some number) = number

-- at a place of a page
abbrev pub on_page : PageNumbers → ℕ → Option ℕ
on_page (page.One number) d = number
on_page (page.Each numbers) d = joined (slice_get numbers.items d)

abbrev pub in_page : Option PageNumbers → ℕ → Option ℕ
in_page None d = None
in_page (Some numbers) d = on_page numbers d

abbrev pub page_number : NumberMap → ℕ → ℕ → Option ℕ
page_number m page d = in_page (slice_get m.pages.items page) d

abbrev pub number_in : NumberMap → ℕ → Option ℕ
number_in m d = page_number m (d / 512) (d % 512)

-- both are the same number, or neither is one
abbrev pub same_number : Option ℕ → Option ℕ → Bool
same_number None None = true
same_number (Some a) (Some b) = a == b
same_number _ _ = false

-- this many places have the first one's number
abbrev pub is_of_one : (ℕ → Option ℕ) → ℕ → ℕ → Bool
is_of_one numbers first count = all_pass (λ d. same_number (numbers first) (numbers d)) first count
