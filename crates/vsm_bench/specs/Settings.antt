-- The options of a bench on a command line, and what they ask for.
use Rattle.std.specs.Prelude.{◌≡◌, ◌&&◌, ◌^◌, ℕ, Bool, List, [], ◌∷◌, length, map, nat_lt, if◌then◌else◌, codes, Option}
use Rattle.std.specs.Prelude.{Some, None}
use Rattle.std.specs.List.{list_all}
use Rattle.std.specs.Option.{option_map_or}
use Rattle.std.specs.Borrow.{Bor}
use Rattle.std.specs.Char.{digit_value}
use Rattle.std.specs.Str.{bytes_eq}
use Rattle.std.specs.Str.Parse.{digits_value, without_leading_plus}
use Rattle.clap.specs.Words.{App, Row, Rule, Text, new_rule, with_rule, first_of, one_of}
use Rattle.clap.specs.declared.builder.ValueParser.TheVariants as parser
use Rattle.vsm_model.specs.declared.limits.Settings.{Settings}
use Rattle.vsm_model.specs.declared.limits.Residence.{Residence}
use Rattle.vsm_model.specs.declared.limits.Residence.TheVariants.{Below, Above}

-- ---- the options

abbrev pub number_option : Text → Rule
number_option name =
    record (new_rule name) { long = Some name; value_names = 1; parser = Some (parser.Unsigned 0 18446744073709551615) }

-- the values of --residence
abbrev pub Residences : Type 0
Residences = Bor (List (Bor Text))

abbrev pub AreResidences : Residences → Type 0
AreResidences values = map (λ s. s.now) values.now ≡ codes "24" ∷ codes "31" ∷ []

abbrev pub residence_option : Residences → Rule
residence_option values = record (new_rule (codes "residence"))
    { long = Some (codes "residence"); value_names = 1; parser = Some (parser.Names values) }

-- the four options of a bench, each of them at most once
abbrev pub with_settings : Residences → App → App
with_settings values app =
    with_rule (with_rule (with_rule (with_rule app (number_option (codes "low"))) (number_option (codes "high")))
    (residence_option values)) (number_option (codes "history"))

-- ---- what they say

-- if no option is written: 64K below the line and above it, a caller below it, and 1,024 changes that can be undone
abbrev pub default_settings : Settings
default_settings = record { low_k = 64; high_k = 64; residence = Below; history = 1024 }

abbrev pub is_numeral : List ℕ → Bool
is_numeral digits = nat_lt 0 (length digits) && list_all (λ d. nat_lt (digit_value d) 10) digits

-- the number that a text writes, if it has 32 bits
abbrev pub number_in : List ℕ → Option ℕ
number_in text =
    let digits = without_leading_plus text in
    if is_numeral digits && nat_lt (digits_value 10 digits) (2 ^ 32) then Some (digits_value 10 digits) else None

abbrev pub number_or : ℕ → Option (List ℕ) → Option ℕ
number_or default text = option_map_or number_in text (Some default)

abbrev pub residence_in : List ℕ → Residence
residence_in text = if bytes_eq text (codes "31") then Above else Below

abbrev pub residence_or : Residence → Option (List ℕ) → Residence
residence_or default text = option_map_or residence_in text default

abbrev pub settings_from : Option ℕ → Option ℕ → Residence → Option ℕ → Option Settings
settings_from (Some low) (Some high) residence (Some history) =
    Some (record { low_k = low; high_k = high; residence = residence; history = history })
settings_from _ _ residence _ = None

-- the settings by what --low, --high, --residence and --history say, unless a number has more than 32 bits
abbrev pub settings_of : Option (List ℕ) → Option (List ℕ) → Option (List ℕ) → Option (List ℕ) → Option Settings
settings_of low high residence history = settings_from
    (number_or default_settings.low_k low)
    (number_or default_settings.high_k high)
    (residence_or default_settings.residence residence)
    (number_or default_settings.history history)

-- ---- the same, of what clap read

abbrev pub number_asked : Text → ℕ → List Row → Option ℕ
number_asked name default rows = number_or default (one_of name rows)

abbrev pub residence_asked : List Row → Residence
residence_asked rows = residence_or default_settings.residence (first_of (codes "residence") rows)

abbrev pub settings_asked : List Row → Option Settings
settings_asked rows = settings_of (one_of (codes "low") rows) (one_of (codes "high") rows)
    (first_of (codes "residence") rows) (one_of (codes "history") rows)
