-- What clap read of the options is what they ask for.
use Rattle.std.proofs.Common.{codes, ◌≡◌, ◌∙◌, ◌^◌, ◌&&◌, ℕ, Bool, true, false, refl, ap, List, [], ◌∷◌, length, nat_lt, lt-ltb, ltb-true, Option, Some, None, Result, Ok, Err}
use Rattle.std.specs.List.{list_all}
use Rattle.std.specs.Option.{option_map_or}
use Rattle.std.specs.Char.{digit_value}
use Rattle.std.specs.Str.Parse.{AllDigits, ParsesUnsigned, digits_value, without_leading_plus}
use Rattle.clap.specs.Words.{Text, found_of, one_text, rows_of}
use Rattle.clap.specs.Matches.{TriesOne}
use Rattle.clap.proofs.WalkLemmas.{both, one_text-rows}
use Rattle.clap.specs.declared.parser.ArgMatches.{ArgMatches}
use Rattle.std.specs.Str.{bytes_eq}
use Rattle.std.proofs.lemmas.Slice.Eq.{bytes_eq-Decides}
use Rattle.vsm_model.specs.declared.limits.Residence.TheVariants.{Below}
use Rattle.vsm_bench.specs.Settings.{is_numeral, number_in, number_asked, residence_in}

-- ---- numbers

digits_pass : (ds : List ℕ) → AllDigits 10 ds → list_all (λ d. nat_lt (digit_value d) 10) ds ≡ true
digits_pass [] h = refl
digits_pass (d ∷ ds) h = rw (lt-ltb (digit_value d) 10 h.0) (digits_pass ds h.1)

digits_from : (ds : List ℕ) → list_all (λ d. nat_lt (digit_value d) 10) ds ≡ true → AllDigits 10 ds
digits_from [] e = tt
digits_from (d ∷ ds) e =
    let parts = both _ _ e in
    (ltb-true _ _ parts.0, digits_from ds parts.1)

abbrev fits : List ℕ → Bool
fits ds = is_numeral ds && nat_lt (digits_value 10 ds) (2 ^ 32)

abbrev read_number : {E : Type 0} → Result ℕ E → Option ℕ
read_number (Ok n) = Some n
read_number (Err e) = None

parsed : {E : Type 0} (text : Text) (r : Result ℕ E) → ParsesUnsigned 32 10 text r → read_number r ≡ number_in text
parsed text (Ok n) h =
    let ds = without_leading_plus text in
    rw (lt-ltb 0 (length ds) h.0.0.0, digits_pass ds h.0.0.1, lt-ltb (digits_value 10 ds) (2 ^ 32) h.0.1) (ap Some h.1)
parsed text (Err e) h = go (fits (without_leading_plus text)) refl
  where
    go : (b : Bool) → fits (without_leading_plus text) ≡ b → None ≡ number_in text
    go false t = rw t refl
    go true t =
        let outer = both _ _ t in
        let inner = both _ _ outer.0 in
        absurd (h ((ltb-true _ _ inner.0, digits_from (without_leading_plus text) inner.1), ltb-true _ _ outer.1))

-- what a typed getter gave, if an option that wasn't written has a default
abbrev pub given : {E : Type 0} → ℕ → Result (Option ℕ) E → Option ℕ
given default (Ok (Some n)) = Some n
given default (Ok None) = Some default
given default (Err e) = None

module _ {E : Type 0} (gives : Text → Result ℕ E → Type 0) (parses : (t : Text) (r : Result ℕ E) → gives t r → ParsesUnsigned 32 10 t r) where
  read_one : (t : Text) (default : ℕ) (r : Result (Option ℕ) E) → TriesOne gives t r → given default r ≡ number_in t
  read_one t default (Ok (Some n)) h = parsed {E = E} t (Ok n) (parses t (Ok n) h)
  read_one t default (Ok None) h = absurd h
  read_one t default (Err e) h = parsed t (Err e) (parses t (Err e) h)

  found : (o : Option Text) (default : ℕ) (r : Result (Option ℕ) E) → (o ≡ None → r ≡ Ok None) → ((t : Text) → o ≡ Some t → TriesOne gives t r)
      → given default r ≡ option_map_or number_in o (Some default)
  found None default r none value = ap (given default) (none refl)
  found (Some t) default r none value = read_one t default r (value t refl)

  pub number_given : (m : ArgMatches) (name : Text) (default : ℕ) (r : Result (Option ℕ) E) → (one_text (found_of m) name ≡ None → r ≡ Ok None)
      → ((t : Text) → one_text (found_of m) name ≡ Some t → TriesOne gives t r) → given default r ≡ number_asked name default (rows_of (found_of m))
  number_given m name default r none value =
      found (one_text (found_of m) name) default r none value ∙ ap (λ o. option_map_or number_in o (Some default)) (one_text-rows (found_of m) name)

-- anything except 31 is below the line
pub other_residence : (text : Text) → (text ≡ codes "31" → ⊥) → Below ≡ residence_in text
other_residence text differs = go (bytes_eq text (codes "31")) refl
  where
    go : (b : Bool) → bytes_eq text (codes "31") ≡ b → Below ≡ residence_in text
    go true e = absurd (differs ((bytes_eq-Decides text (codes "31")).0 e))
    go false e = rw e refl
