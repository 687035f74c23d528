-- What clap makes of the words is what `specs/Words.antt` says.
use Rattle.std.proofs.Common.{◌≡◌, ◌⊎◌, ◌∙◌, ◌&&◌, ◌||◌, ◌++◌, ◌==◌, ◌+◌, ◌<◌, ◌^◌, ⊎_elim, inl, inr, ℕ, Bool, true, false, not, cond, refl, sym, ap, subst, List, [], ◌∷◌, map, find, fold, min, codes, chars, slice_get, nat_lt, nat_le, ltb-true, le-leb, arith, length, Option, Some, None, is_some, append-nil, option_map, unwrap_or, true≢false, bytes_eq}
use Rattle.std.proofs.lemmas.List.{map-append}
use Rattle.std.specs.Prelude.{option_and_then}
use Rattle.std.specs.List.{list_all, list_any}
use Rattle.std.specs.Option.{option_map_or}
use Rattle.std.specs.Borrow.{Bor}
use Rattle.std.specs.Str.Parse.{digits_value, without_leading_plus}
use Rattle.std.proofs.lemmas.Slice.Eq.{bytes_eq-Decides}
use Rattle.clap.specs.declared.builder.ArgAction.TheVariants.{Set, SetTrue}
use Rattle.clap.specs.declared.builder.ValueParser.{ValueParser}
use Rattle.clap.specs.declared.builder.ValueParser.TheVariants as parser
use Rattle.clap.specs.declared.error.ErrorKind.{ErrorKind}
use Rattle.clap.specs.declared.error.ErrorKind.TheVariants as kind
use Rattle.clap.specs.declared.parser.ValueSource.TheVariants.{CommandLine, DefaultValue}
use Rattle.clap.specs.Lexer.{long_of, short_of, usize_max}
use Rattle.clap.specs.Values.{refused_kind}
use Rattle.clap.specs.ValueTests.{accepts}
use Rattle.clap.specs.Words.{Kinds, Row, Rule, Shape, Text, first_of, new_rule, one_of, reading_of}
use Rattle.clap.specs.Kinds.{or_else}
use Rattle.clap.specs.Takes as takes_of
use Rattle.clap.specs.Facts.{explicit_source}
use Rattle.clap.specs.Walk.{has_long, Held, Step, Waiting, Walk, after_step, arg_by_id, arg_by_index, arg_by_long, arg_by_short, at_row, finished, has_row, idle, is_empty, is_pending, more_values, next, nothing_held, option, plain_word, positional, row_text, rows_after, settled, settled_rows, subcommand_met, subcommand_or_other, trailing, used, value, walk_from, walked, with_default, with_values, bundle_met}
use Rattle.clap.specs.Simple.{filled, help_rule, new_shape, version_rule}
use Rattle.clap.specs.Faults.{check_fault, default_fault, defaults_fault, flags_fault, given_default_fault, level_fault, other_fault, settle_fault, step_fault, turn_fault, use_fault, walk_fault}
use Rattle.clap.proofs.SimpleLemmas.{is_nil}
use Rattle.clap.proofs.WalkLemmas.{both, find-map, list_any-map}
use Rattle.vsm_bench.specs.Settings.{Residences, AreResidences, is_numeral}
use Rattle.vsm_bench.specs.Options.{IsKindOf, is_wrong, row_of_use, said, said_in}
use Rattle.vsm_bench.specs.Words as words
use Rattle.vsm_bench.specs.Words.{Asked, Form, Operands, Options, Progress, Syntax, Takes, Uses, after_form, after_name, after_value, after_word, asked, asked_at, asked_for, awaits, dashes, ends, form_of, given, help, hyphen_form, is_given, is_number, is_taken, letter, long_form, named, nothing, number, any, operands, plain, ready, requested, residence, run, takes, version, whole, with_operand, with_option, with_use, with_value, wrong}

-- ---- truth values

neither : (a b : Bool) → (a || b) ≡ false → (a ≡ false) × (b ≡ false)
neither true b e = absurd (true≢false e)
neither false b e = (refl, e)

or_false : (b : Bool) → (b || false) ≡ b
or_false true = refl
or_false false = refl

or_true : (b : Bool) → (b || true) ≡ true
or_true true = refl
or_true false = refl

pub and_false : (b : Bool) → (b && false) ≡ false
and_false true = refl
and_false false = refl

and_true : (b : Bool) → (b && true) ≡ b
and_true true = refl
and_true false = refl

same_either : {X : Type 0} (b : Bool) (x : X) → cond b x x ≡ x
same_either true x = refl
same_either false x = refl

pub or_nothing : (ks : Kinds) → or_else ks [] ≡ ks
or_nothing [] = refl
or_nothing (k ∷ ks) = refl

-- the kinds of error and the rows are as the words ask
abbrev pub Agrees : Kinds → List Row → Asked → Type 0
Agrees kinds rows (run uses) = (kinds ≡ []) × (map said rows ≡ map said_in uses)
Agrees kinds rows what = (k : ErrorKind) × (kinds ≡ k ∷ []) × IsKindOf k what

-- ---- the form of a word, as clap sees it

abbrev pub Views : Text → Form → Type 0
Views word dashes = bytes_eq word (45 ∷ 45 ∷ []) ≡ true
Views word (named name text) = (bytes_eq word (45 ∷ 45 ∷ []) ≡ false) × (long_of word ≡ Some (name, text))
Views word (letter x) = (bytes_eq word (45 ∷ 45 ∷ []) ≡ false) × (long_of word ≡ None)
    × ((y : ℕ) × (ys : Text) × (short_of word ≡ Some (y ∷ ys)) × (slice_get (chars (y ∷ ys)) 0 ≡ Some x))
Views word plain = (bytes_eq word (45 ∷ 45 ∷ []) ≡ false) × (long_of word ≡ None)
    × ((short_of word ≡ None) ⊎ ((y : ℕ) × (ys : Text) × (short_of word ≡ Some (y ∷ ys)) × (slice_get (chars (y ∷ ys)) 0 ≡ None)))

view_long : (x y : ℕ) (ys : Text) → (x == 45) ≡ true → (y == 45) ≡ true → Views (x ∷ y ∷ ys) (long_form ys)
view_long x y [] e f = rw (e, f) refl
view_long x y (z ∷ zs) e f = (rw (e, f) refl, rw (e, f) refl)

view_letter : (x y : ℕ) (ys : Text) (o : Option ℕ) → (x == 45) ≡ true → (y == 45) ≡ false → slice_get (chars (y ∷ ys)) 0 ≡ o
    → Views (x ∷ y ∷ ys) (option_map_or letter o plain)
view_letter x y ys (Some z) e f g = (rw (e, f) refl, rw (e, f) refl, (y, ys, rw (e, f) refl, g))
view_letter x y ys None e f g = (rw (e, f) refl, rw (e, f) refl, inr (y, ys, rw (e, f) refl, g))

view_hyphen : (x : ℕ) (xs : Text) → (x == 45) ≡ true → Views (x ∷ xs) (hyphen_form xs)
view_hyphen x [] e = (rw e refl, rw e refl, inl (rw e refl))
view_hyphen x (y ∷ ys) e = go (y == 45) refl
  where
    go : (b : Bool) → (y == 45) ≡ b → Views (x ∷ y ∷ ys) (cond b (long_form ys) (option_map_or letter (slice_get (chars (y ∷ ys)) 0) plain))
    go true f = view_long x y ys e f
    go false f = view_letter x y ys (slice_get (chars (y ∷ ys)) 0) e f refl

pub view : (word : Text) → Views word (form_of word)
view [] = (refl, refl, inl refl)
view (x ∷ xs) = go (x == 45) refl
  where
    go : (b : Bool) → (x == 45) ≡ b → Views (x ∷ xs) (cond b (hyphen_form xs) plain)
    go true e = view_hyphen x xs e
    go false e = (rw e refl, rw e refl, inl (rw e refl))

-- ---- a use of an option or of an operand

abbrev value_rule : Text → Option Text → Option ℕ → ℕ → Bool → ValueParser → Rule
value_rule id long index names need p = record (new_rule id) {
  long = long;
  index = index;
  action = Some Set;
  range = Some (record { start_inclusive = 1; end_inclusive = 1 });
  value_names = names;
  parser = Some p;
  required = need;
}

abbrev option_rule : Text → ValueParser → Rule
option_rule name p = value_rule name (Some name) None 1 false p

abbrev pub operand_rule : Text → ℕ → ℕ → Bool → Rule
operand_rule name index names need = value_rule name None (Some index) names need parser.String

abbrev flag_rule : Text → Rule
flag_rule name = record (new_rule name) {
  long = Some name;
  action = Some SetTrue;
  range = Some (record { start_inclusive = 0; end_inclusive = 0 });
  defaults = codes "false" ∷ [];
  missing = codes "true" ∷ [];
  parser = Some parser.Bool;
}

abbrev any_number : ValueParser
any_number = parser.Unsigned 0 18446744073709551615

-- the rule of an option, by what it takes
abbrev pub option_by : Residences → Text → Takes → Rule
option_by values name nothing = flag_rule name
option_by values name number = option_rule name any_number
option_by values name residence = option_rule name (parser.Names values)
option_by values name any = option_rule name parser.String

no_row : (id : Text) (change : Row → List Row) (missing : List Row) (rs : List Row) → has_row id rs ≡ false → at_row id change missing rs ≡ rs ++ missing
no_row id change missing [] e = refl
no_row id change missing (r ∷ rs) e =
    let parts = neither (bytes_eq r.id id) (has_row id rs) e in
    rw parts.0 (ap (λ (l : List Row). r ∷ l) (no_row id change missing rs parts.1))

-- the row of a use is added at the end
added : (id v : Text) (rows : List Row) → has_row id rows ≡ false
    → with_values id (reading_of parser.String) CommandLine (v ∷ []) (at_row id (λ _. []) [] rows) ≡ rows ++ row_of_use (id, v) ∷ []
added id v rows first =
    ap (with_values id (reading_of parser.String) CommandLine (v ∷ [])) (no_row id (λ _. []) [] rows first ∙ append-nil rows)
    ∙ no_row id (more_values CommandLine (v ∷ [])) (row_of_use (id, v) ∷ []) rows first

has_is : (name : Text) (uses : Uses) → has_row name (map row_of_use uses) ≡ is_given name uses
has_is name [] = refl
has_is name (pair ∷ uses) = ap (λ b. bytes_eq pair.0 name || b) (has_is name uses)

rows_more : (uses : Uses) (pair : Text × Text) → map row_of_use uses ++ row_of_use pair ∷ [] ≡ map row_of_use (uses ++ pair ∷ [])
rows_more [] pair = refl
rows_more (first ∷ uses) pair = ap (λ (l : List Row). row_of_use first ∷ l) (rows_more uses pair)

-- the kinds and the rows of a use, which fails or is kept
abbrev Comes : Bool → Kinds → List Row → Uses → Type 0
Comes true kinds rows later = (k : ErrorKind) × (kinds ≡ k ∷ []) × (is_wrong k ≡ true)
Comes false kinds rows later = (kinds ≡ []) × (rows ≡ map row_of_use later)

module _ (id : Text) (long : Option Text) (index : Option ℕ) (names : ℕ) (need : Bool) (p : ValueParser) (v : Text) (uses : Uses) where
  value_comes : (tests : Bool) → accepts false p v ≡ tests → is_wrong (refused_kind p) ≡ true → reading_of p ≡ reading_of parser.String
      → Comes (is_given id uses || not tests) (use_fault false (value_rule id long index names need p) (v ∷ []) (map row_of_use uses)) (used (value_rule id long index names need p) (v ∷ []) (map row_of_use uses))
      (uses ++ (id, v) ∷ [])
  value_comes tests test bad written = go (is_given id uses) tests refl test
    where
      go : (g t : Bool) → is_given id uses ≡ g → accepts false p v ≡ t
          → Comes (g || not t) (use_fault false (value_rule id long index names need p) (v ∷ []) (map row_of_use uses)) (used (value_rule id long index names need p) (v ∷ []) (map row_of_use uses)) (uses ++ (id, v) ∷ [])
      go true t again e = (kind.ArgumentConflict, rw (has_is id uses, again) refl, refl)
      go false false first e = (refused_kind p, rw (has_is id uses, first, e) refl, bad)
      go false true first e = (
        rw (has_is id uses, first, e) refl,
        (λ i. with_values id (written i) CommandLine (v ∷ []) (at_row id (λ _. []) [] (map row_of_use uses)))
            ∙ added id v (map row_of_use uses) (has_is id uses ∙ first) ∙ rows_more uses (id, v),
      )

flag_comes : (name : Text) (uses : Uses)
    → Comes (is_given name uses || false) (use_fault false (flag_rule name) [] (map row_of_use uses)) (used (flag_rule name) [] (map row_of_use uses)) (uses ++ (name, codes "true") ∷ [])
flag_comes name uses = go (is_given name uses) refl
  where
    go : (g : Bool) → is_given name uses ≡ g
        → Comes (g || false) (use_fault false (flag_rule name) [] (map row_of_use uses)) (used (flag_rule name) [] (map row_of_use uses)) (uses ++ (name, codes "true") ∷ [])
    go true again = (kind.ArgumentConflict, rw (has_is name uses, again) refl, refl)
    go false first = (rw (has_is name uses, first) refl, added name (codes "true") (map row_of_use uses) (has_is name uses ∙ first) ∙ rows_more uses (name, codes "true"))

numbers : (b : Bool) (n : ℕ) → (b && (nat_lt n (2 ^ 64) && (nat_le 0 n && nat_le n 18446744073709551615))) ≡ (b && nat_lt n (2 ^ 64))
numbers b n = ap (λ t. b && t) (go (nat_lt n (2 ^ 64)) refl)
  where
    go : (t : Bool) → nat_lt n (2 ^ 64) ≡ t → (nat_lt n (2 ^ 64) && (nat_le 0 n && nat_le n 18446744073709551615)) ≡ nat_lt n (2 ^ 64)
    go false e = rw e refl
    go true e =
        let below : n < 2 ^ 64 = ltb-true _ _ e in
        let least : nat_le 0 n ≡ true = le-leb 0 n (omega arith) in
        let most : nat_le n 18446744073709551615 ≡ true = le-leb n 18446744073709551615 (omega arith) in
        (λ i. nat_lt n (2 ^ 64) && (least i && most i)) ∙ and_true (nat_lt n (2 ^ 64))

number_tests : (v : Text) → accepts false any_number v ≡ is_number v
number_tests v = numbers (is_numeral (without_leading_plus v)) (digits_value 10 (without_leading_plus v))

residence_tests : (values : Residences) → AreResidences values → (v : Text) → accepts false (parser.Names values) v ≡ is_taken residence v
residence_tests values are v =
    list_any-map (λ (s : Text). bytes_eq s v) (λ (s : Bor Text). s.now) values.now ∙ ap (list_any (λ (s : Text). bytes_eq s v)) are

-- ---- a value of an option

abbrev IsValued : Takes → Type 0
IsValued nothing = ⊥
IsValued _ = Unit {0}

abbrev parser_by : Residences → Takes → ValueParser
parser_by values number = any_number
parser_by values residence = parser.Names values
parser_by values _ = parser.String

is_option_rule : (values : Residences) (name : Text) (what : Takes) → IsValued what → option_by values name what ≡ option_rule name (parser_by values what)
is_option_rule values name nothing h = absurd h
is_option_rule values name number h = refl
is_option_rule values name residence h = refl
is_option_rule values name any h = refl

option_comes : (values : Residences) → AreResidences values → (name v : Text) (what : Takes) (uses : Uses)
    → Comes (is_given name uses || not (is_taken what v)) (use_fault false (option_rule name (parser_by values what)) (v ∷ []) (map row_of_use uses)) (used (option_rule name (parser_by values what)) (v ∷ []) (map row_of_use uses))
    (uses ++ (name, v) ∷ [])
option_comes values are name v nothing uses = value_comes name (Some name) None 1 false parser.String v uses true refl refl refl
option_comes values are name v number uses = value_comes name (Some name) None 1 false any_number v uses (is_number v) (number_tests v) refl refl
option_comes values are name v residence uses = value_comes name (Some name) None 1 false (parser.Names values) v uses (is_taken residence v) (residence_tests values are v) refl refl
option_comes values are name v any uses = value_comes name (Some name) None 1 false parser.String v uses true refl refl refl

operand_comes : (name : Text) (index names : ℕ) (need : Bool) (v : Text) (uses : Uses)
    → Comes (is_given name uses || false) (use_fault false (operand_rule name index names need) (v ∷ []) (map row_of_use uses)) (used (operand_rule name index names need) (v ∷ []) (map row_of_use uses)) (uses ++ (name, v) ∷ [])
operand_comes name index names need v uses = value_comes name None (Some index) names need parser.String v uses true refl refl refl

-- ---- what the arguments of the command line are

-- the operands from a position on
abbrev pub AreLeft : List Rule → ℕ → Operands → Type 0
AreLeft c n [] = arg_by_index c n ≡ None
AreLeft c n (name ∷ left) = (names : ℕ) × (need : Bool) × (arg_by_index c n ≡ Some (operand_rule name n names need)) × (arg_by_id c name ≡ Some (operand_rule name n names need))
    × (min (n + 1) usize_max ≡ n + 1) × AreLeft c (n + 1) left

pub record Facts (c : List Rule) (syntax : Syntax) (values : Residences) : Type 0 where
  pub are : AreResidences values
  pub long : (name : Text) (what : Takes) → takes syntax name ≡ Some what → arg_by_long c name ≡ Some (option_by values name what)
  pub id : (name : Text) (what : Takes) → takes syntax name ≡ Some what → arg_by_id c name ≡ Some (option_by values name what)
  pub help_long : (name : Text) → takes syntax name ≡ None → bytes_eq (codes "help") name ≡ true → arg_by_long c name ≡ Some (filled help_rule)
  pub version_long : (name : Text) → takes syntax name ≡ None → bytes_eq (codes "help") name ≡ false → (syntax.has_version && bytes_eq (codes "version") name) ≡ true
      → arg_by_long c name ≡ Some (filled version_rule)
  pub no_long : (name : Text) → takes syntax name ≡ None → bytes_eq (codes "help") name ≡ false → (syntax.has_version && bytes_eq (codes "version") name) ≡ false
      → arg_by_long c name ≡ None
  pub help_short : (x : ℕ) → (104 == x) ≡ true → arg_by_short c x ≡ Some (filled help_rule)
  pub version_short : (x : ℕ) → (104 == x) ≡ false → (syntax.has_version && (86 == x)) ≡ true → arg_by_short c x ≡ Some (filled version_rule)
  pub no_short : (x : ℕ) → (104 == x) ≡ false → (syntax.has_version && (86 == x)) ≡ false → arg_by_short c x ≡ None
  pub left : AreLeft c 1 syntax.operands
  pub defaults : (rows : List Row) → defaults_fault rows c ≡ []
  pub says : (uses : Uses) → map said (fold with_default (map row_of_use uses) c) ≡ map said_in (fold words.with_default uses syntax.options)
  pub lacks : (uses : Uses) → list_any (λ (a : Rule). a.required && not (takes_of.is_given a.id (fold with_default (map row_of_use uses) c))) c
      ≡ not (list_all (λ name. is_given name uses) syntax.needed)

-- ---- the walk, over any arguments of which these facts hold

abbrev pub shape : Text → Bool → List Rule → Shape
shape name has_version c = record (new_shape name) { rules = c; disable_help_subcommand = true; has_version = has_version; is_built = true }

abbrev pub held : List Row → Option (Text × List Text) → Held
held rs p = record { rows = rs; pending = p; skip = 0 }

abbrev walk_at : Bool → Waiting → ℕ → List Row → Option (Text × List Text) → Walk
walk_at trails waiting n rs p = record { held = held rs p; waiting = waiting; position = n; is_trailing = trails; stopped = None }

-- what an earlier fault makes of a later one
abbrev kinds_of : Option ErrorKind → Kinds
kinds_of None = []
kinds_of (Some k) = k ∷ []

abbrev pub request_kind : Option ErrorKind → Bool → Bool → ErrorKind
request_kind o is_help is_version = cond is_help (unwrap_or o kind.DisplayHelp) (cond is_version (unwrap_or o kind.DisplayVersion) kind.UnknownArgument)

request_wrong : (k : ErrorKind) → is_wrong k ≡ true → (a b : Bool) → is_wrong (request_kind (Some k) a b) ≡ true
request_wrong k bad true b = bad
request_wrong k bad false true = bad
request_wrong k bad false false = refl

-- `--name=value` that no option takes
abbrev pub attached_kind : Bool → Bool → ErrorKind
attached_kind is_help is_version = cond is_help kind.TooManyValues (cond is_version kind.TooManyValues kind.UnknownArgument)

pub attached_wrong : (a b : Bool) → is_wrong (attached_kind a b) ≡ true
attached_wrong true b = refl
attached_wrong false true = refl
attached_wrong false false = refl

-- the walk ends with this kind, as the words ask
abbrev pub Stops : Kinds → Progress → Type 0
Stops kinds (ends what) = (k : ErrorKind) × (kinds ≡ k ∷ []) × IsKindOf k what
Stops kinds _ = ⊥

-- the progress after a word that asks for help or the version, or is wrong
abbrev asks_so : Bool → Bool → Progress
asks_so is_help is_version = cond is_help (ends help) (cond is_version (ends version) (ends wrong))

pub request_stops : (kinds : Kinds) (a b : Bool) → kinds ≡ request_kind None a b ∷ [] → Stops kinds (asks_so a b)
request_stops kinds true b e = (kind.DisplayHelp, e, refl)
request_stops kinds false true e = (kind.DisplayVersion, e, refl)
request_stops kinds false false e = (kind.UnknownArgument, e, refl)

abbrev IsFlag : Form → Type 0
IsFlag plain = ⊥
IsFlag _ = Unit {0}

asks_after : (o : Option ErrorKind) (k : ErrorKind) → or_else (kinds_of o) (k ∷ []) ≡ unwrap_or o k ∷ []
asks_after None k = refl
asks_after (Some j) k = refl

no_subcommand : (waiting : Waiting) (word : Text) → subcommand_met [] waiting word ≡ None
no_subcommand idle word = refl
no_subcommand (option id) word = refl
no_subcommand positional word = refl

module _ (syntax : Syntax) where
  pub ended : (words : List Text) (what : Asked) → fold (after_word syntax) (ends what) words ≡ ends what
  ended [] what = refl
  ended (word ∷ words) what = ended words what

  pub stopped : (kinds more most : Kinds) (rows : List Row) (words : List Text) (r : Progress) → Stops kinds r
      → Agrees (or_else (or_else kinds more) most) rows (asked_at syntax (fold (after_word syntax) r words))
  stopped kinds more most rows words (ends what) s =
      subst (λ (q : Progress). Agrees (or_else (or_else kinds more) most) rows (asked_at syntax q)) (sym (ended words what)) (go what s)
    where
      go : (a : Asked) → Stops kinds (ends a) → Agrees (or_else (or_else kinds more) most) rows a
      go help t = (t.0, ap (λ (ks : Kinds). or_else (or_else ks more) most) t.1, t.2)
      go version t = (t.0, ap (λ (ks : Kinds). or_else (or_else ks more) most) t.1, t.2)
      go wrong t = (t.0, ap (λ (ks : Kinds). or_else (or_else ks more) most) t.1, t.2)
      go (run uses) t = absurd t.2
  stopped kinds more most rows words (ready left uses) s = absurd s
  stopped kinds more most rows words (awaits name what left uses) s = absurd s
  stopped kinds more most rows words (operands left uses) s = absurd s

module _ (c : List Rule) (syntax : Syntax) (values : Residences) (facts : Facts c syntax values) (label : Text) where
  abbrev is_version_name : Text → Bool
  is_version_name name = syntax.has_version && bytes_eq (codes "version") name

  abbrev is_version_letter : ℕ → Bool
  is_version_letter x = syntax.has_version && (86 == x)

  abbrev its : Shape
  its = shape label syntax.has_version c

  abbrev Settles : List Row → Option (Text × List Text) → Uses → Type 0
  Settles rs p uses = (settle_fault c false (held rs p) ≡ []) × (settled_rows c p rs ≡ map row_of_use uses)

  -- the walk is between two words, where nothing waits
  abbrev IsBetween : Bool → Walk → Operands → Uses → Type 0
  IsBetween trails w left uses = (n : ℕ) × AreLeft c n left × ((rs : List Row) × (p : Option (Text × List Text)) × (w ≡ walk_at trails idle n rs p) × Settles rs p uses)

  -- a fault is certain, and is yet to be met
  record IsDoomed (w : Walk) : Type 0 where
    n : ℕ
    left : Operands
    are_left : AreLeft c n left
    rows : List Row
    pending : Option (Text × List Text)
    fault : ErrorKind
    fails : settle_fault c false (held rows pending) ≡ fault ∷ []
    bad : is_wrong fault ≡ true
    at : (w ≡ walk_at false idle n rows pending) ⊎ ((waiting : Waiting) × (w ≡ walk_at true waiting n rows pending))

  abbrev Follows : Walk → Progress → Type 0
  Follows w (ready left uses) = IsBetween false w left uses
  Follows w (operands left uses) = IsBetween true w left uses
  Follows w (awaits name what left uses) = (n : ℕ) × AreLeft c n left × (takes syntax name ≡ Some what) × IsValued what × (w ≡ walk_at false (option name) n (map row_of_use uses) (Some (name, [])))
  Follows w (ends wrong) = IsDoomed w
  Follows w (ends _) = ⊥

  abbrev Goes : Walk → Text → Progress → Type 0
  Goes w word r = ((turn_fault its [] w word ≡ []) × Follows (walked c [] w word) r) ⊎ Stops (turn_fault its [] w word) r

  -- ---- a flag word that is no option: what it refuses, if the pending use fails by `o`

  module _ (rs : List Row) (p : Option (Text × List Text)) (o : Option ErrorKind) (is : settle_fault c false (held rs p) ≡ kinds_of o) where
    pub letter_fault : (word : Text) (x : ℕ) → Views word (letter x) → other_fault its None word (held rs p) ≡ request_kind o (104 == x) (is_version_letter x) ∷ []
    unfolding flags_fault
    letter_fault word x v = go o is (104 == x) (is_version_letter x) refl refl
      where
        go : (q : Option ErrorKind) → settle_fault c false (held rs p) ≡ kinds_of q → (a b : Bool) → (104 == x) ≡ a → is_version_letter x ≡ b
            → other_fault its None word (held rs p) ≡ request_kind q a b ∷ []
        go None e true b h k = rw (v.0, v.1, v.2.2, v.2.3, facts.help_short x h, e) refl
        go (Some q) e true b h k = rw (v.0, v.1, v.2.2, v.2.3, facts.help_short x h, e) refl
        go None e false true h k = rw (v.0, v.1, v.2.2, v.2.3, facts.version_short x h k, e) refl
        go (Some q) e false true h k = rw (v.0, v.1, v.2.2, v.2.3, facts.version_short x h k, e) refl
        go q e false false h k = rw (v.0, v.1, v.2.2, v.2.3, facts.no_short x h k) refl

    pub name_fault : (word name : Text) → Views word (named name None) → takes syntax name ≡ None
        → other_fault its None word (held rs p) ≡ request_kind o (bytes_eq (codes "help") name) (is_version_name name) ∷ []
    name_fault word name u out = go (bytes_eq (codes "help") name) (is_version_name name) refl refl
      where
        go : (a b : Bool) → bytes_eq (codes "help") name ≡ a → is_version_name name ≡ b → other_fault its None word (held rs p) ≡ request_kind o a b ∷ []
        go true b h k = rw (u.0, u.1, facts.help_long name out h, is) (asks_after o kind.DisplayHelp)
        go false true h k = rw (u.0, u.1, facts.version_long name out h k, is) (asks_after o kind.DisplayVersion)
        go false false h k = rw (u.0, u.1, facts.no_long name out h k) refl

    pub attached_fault : (word name t : Text) → Views word (named name (Some t)) → takes syntax name ≡ None
        → other_fault its None word (held rs p) ≡ attached_kind (bytes_eq (codes "help") name) (is_version_name name) ∷ []
    attached_fault word name t u out = go (bytes_eq (codes "help") name) (is_version_name name) refl refl
      where
        go : (a b : Bool) → bytes_eq (codes "help") name ≡ a → is_version_name name ≡ b → other_fault its None word (held rs p) ≡ attached_kind a b ∷ []
        go true b h k = rw (u.0, u.1, facts.help_long name out h) refl
        go false true h k = rw (u.0, u.1, facts.version_long name out h k) refl
        go false false h k = rw (u.0, u.1, facts.no_long name out h k) refl

  -- ---- a word's turn

  abbrev met : Waiting → ℕ → Text → List Row → Option (Text × List Text) → Held × Step
  met waiting n word rs p = subcommand_or_other c None waiting n word (held rs p)

  module _ (waiting : Waiting) (n : ℕ) (rs : List Row) (p : Option (Text × List Text)) (word : Text) where
    turn_is : turn_fault its [] (walk_at false waiting n rs p) word
        ≡ or_else (other_fault its None word (held rs p)) (step_fault its n (met waiting n word rs p).0 (met waiting n word rs p).1)
    turn_is = ap (λ (s : Option Text). or_else (other_fault its s word (held rs p))
        (step_fault its n (subcommand_or_other c s waiting n word (held rs p)).0 (subcommand_or_other c s waiting n word (held rs p)).1)) (no_subcommand waiting word)

    walk_is : walked c [] (walk_at false waiting n rs p) word ≡ after_step c word (walk_at false waiting n rs p) (met waiting n word rs p).0 (met waiting n word rs p).1
    unfolding walked
    walk_is = ap (λ (s : Option Text). after_step c word (walk_at false waiting n rs p)
        (subcommand_or_other c s waiting n word (held rs p)).0 (subcommand_or_other c s waiting n word (held rs p)).1) (no_subcommand waiting word)

    turn_stops : (k : ErrorKind) → other_fault its None word (held rs p) ≡ k ∷ [] → turn_fault its [] (walk_at false waiting n rs p) word ≡ k ∷ []
    turn_stops k e = turn_is ∙ ap (λ (ks : Kinds). or_else ks (step_fault its n (met waiting n word rs p).0 (met waiting n word rs p).1)) e

    turn_passes : (m : Held × Step) → other_fault its None word (held rs p) ≡ [] → met waiting n word rs p ≡ m
        → turn_fault its [] (walk_at false waiting n rs p) word ≡ step_fault its n m.0 m.1
    turn_passes m e f = turn_is ∙ (λ i. or_else (e i) (step_fault its n (f i).0 (f i).1))

    -- the fault of an option that reads no further word
    turn_uses : (m : Held) (kinds : Kinds) → other_fault its None word (held rs p) ≡ kinds → met waiting n word rs p ≡ (m, next idle)
        → turn_fault its [] (walk_at false waiting n rs p) word ≡ kinds
    turn_uses m kinds e f = turn_is ∙ (λ i. or_else (e i) (step_fault its n (f i).0 (f i).1)) ∙ or_nothing kinds

    walk_passes : (m : Held × Step) → met waiting n word rs p ≡ m → walked c [] (walk_at false waiting n rs p) word ≡ after_step c word (walk_at false waiting n rs p) m.0 m.1
    walk_passes m f = walk_is ∙ ap (λ (q : Held × Step). after_step c word (walk_at false waiting n rs p) q.0 q.1) f

    dashes_turn : Views word dashes → turn_fault its [] (walk_at false waiting n rs p) word ≡ []
    dashes_turn v = turn_passes (held rs p, trailing n) (rw v refl) (rw v refl)

    dashes_walk : Views word dashes → walked c [] (walk_at false waiting n rs p) word ≡ walk_at true waiting n rs p
    dashes_walk v = walk_passes (held rs p, trailing n) (rw v refl)

    pub plain_fault : Views word plain → other_fault its None word (held rs p) ≡ []
    unfolding flags_fault
    plain_fault v = go v.2
      where
        go : (short_of word ≡ None) ⊎ ((y : ℕ) × (ys : Text) × (short_of word ≡ Some (y ∷ ys)) × (slice_get (chars (y ∷ ys)) 0 ≡ None))
            → other_fault its None word (held rs p) ≡ []
        go (inl e) = rw (v.0, v.1, e) refl
        go (inr q) = rw (v.0, v.1, q.2, q.3) refl

    pub plain_met : Views word plain → met waiting n word rs p ≡ plain_word c waiting word (held rs p)
    unfolding bundle_met
    plain_met v = go v.2
      where
        go : (short_of word ≡ None) ⊎ ((y : ℕ) × (ys : Text) × (short_of word ≡ Some (y ∷ ys)) × (slice_get (chars (y ∷ ys)) 0 ≡ None))
            → met waiting n word rs p ≡ plain_word c waiting word (held rs p)
        go (inl e) = rw (v.0, v.1, e) refl
        go (inr q) = rw (v.0, v.1, q.2, q.3) refl

    module _ (name : Text) where
      -- an option with a value
      module _ (by : ValueParser) (long : arg_by_long c name ≡ Some (option_rule name by)) where
        with_value_fault : (v : Text) → Views word (named name (Some v))
            → other_fault its None word (held rs p) ≡ or_else (settle_fault c false (held rs p)) (use_fault false (option_rule name by) (v ∷ []) (settled_rows c p rs))
        with_value_fault v u = rw (u.0, u.1, long) refl

        with_value_met : (v : Text) → Views word (named name (Some v))
            → met waiting n word rs p ≡ (held (used (option_rule name by) (v ∷ []) (settled_rows c p rs)) None, next idle)
        with_value_met v u = rw (u.0, u.1, long) refl

        before_value_fault : Views word (named name None) → other_fault its None word (held rs p) ≡ settle_fault c false (held rs p)
        before_value_fault u = rw (u.0, u.1, long) refl

        before_value_met : Views word (named name None) → met waiting n word rs p ≡ (held (settled_rows c p rs) (Some (name, [])), next (option name))
        before_value_met u = rw (u.0, u.1, long) refl

      -- one without
      module _ (long : arg_by_long c name ≡ Some (flag_rule name)) where
        flag_fault : Views word (named name None)
            → other_fault its None word (held rs p) ≡ or_else (settle_fault c false (held rs p)) (use_fault false (flag_rule name) [] (settled_rows c p rs))
        flag_fault u = rw (u.0, u.1, long) refl

        flag_met : Views word (named name None) → met waiting n word rs p ≡ (held (used (flag_rule name) [] (settled_rows c p rs)) None, next idle)
        flag_met u = rw (u.0, u.1, long) refl

        flag_with_value : (v : Text) → Views word (named name (Some v)) → other_fault its None word (held rs p) ≡ kind.TooManyValues ∷ []
        flag_with_value v u = rw (u.0, u.1, long) refl

  -- ---- an operand

  no_operand : (n : ℕ) (rs : List Row) (p : Option (Text × List Text)) → arg_by_index c n ≡ None → step_fault its n (held rs p) value ≡ kind.UnknownArgument ∷ []
  no_operand n rs p none = rw none refl

  module _ (name : Text) (n names : ℕ) (need : Bool) (rs : List Row) (p : Option (Text × List Text)) (at : arg_by_index c n ≡ Some (operand_rule name n names need)) where
    operand_fault : step_fault its n (held rs p) value ≡ settle_fault c false (held rs p)
    operand_fault = rw (at, and_false (is_pending (operand_rule name n names need) p)) refl

    to_operand : (trails : Bool) (word : Text) → min (n + 1) usize_max ≡ n + 1
        → after_step c word (walk_at trails idle n rs p) (held rs p) value ≡ walk_at trails idle (n + 1) (settled_rows c p rs) (Some (name, word ∷ []))
    to_operand true word few = rw (at, and_false (is_pending (operand_rule name n names need) p), few) refl
    to_operand false word few = rw (at, and_false (is_pending (operand_rule name n names need) p), few) refl

  -- what a use leaves pending, if it's the last word's
  module _ (name v : Text) (a : Rule) (uses : Uses) (id : arg_by_id c name ≡ Some a) where
    settles_use : (b : Bool) → Comes b (use_fault false a (v ∷ []) (map row_of_use uses)) (used a (v ∷ []) (map row_of_use uses)) (uses ++ (name, v) ∷ []) → b ≡ false
        → Settles (map row_of_use uses) (Some (name, v ∷ [])) (uses ++ (name, v) ∷ [])
    settles_use false h none = (rw id h.0, rw id h.1)
    settles_use true h none = absurd (true≢false none)

    fails_use : (b : Bool) → Comes b (use_fault false a (v ∷ []) (map row_of_use uses)) (used a (v ∷ []) (map row_of_use uses)) (uses ++ (name, v) ∷ []) → b ≡ true
        → (k : ErrorKind) × (settle_fault c false (held (map row_of_use uses) (Some (name, v ∷ []))) ≡ k ∷ []) × (is_wrong k ≡ true)
    fails_use true h all = (h.0, rw id h.1, h.2)
    fails_use false h all = absurd (true≢false (sym all))

  -- the progress after a path
  abbrev going : Bool → Operands → Uses → Progress
  going false left uses = ready left uses
  going true left uses = operands left uses

  going_follows : (trails : Bool) (w : Walk) (left : Operands) (uses : Uses) → IsBetween trails w left uses → Follows w (going trails left uses)
  going_follows true w left uses h = h
  going_follows false w left uses h = h

  doomed_after : (trails : Bool) (w : Walk) (n : ℕ) (left : Operands) (rs : List Row) (p : Option (Text × List Text)) (k : ErrorKind) → AreLeft c n left
      → settle_fault c false (held rs p) ≡ k ∷ [] → is_wrong k ≡ true → w ≡ walk_at trails idle n rs p → IsDoomed w
  doomed_after true w n left rs p k are fails bad e = record { n = n; left = left; are_left = are; rows = rs; pending = p; fault = k; fails = fails; bad = bad; at = inr (idle, e) }
  doomed_after false w n left rs p k are fails bad e = record { n = n; left = left; are_left = are; rows = rs; pending = p; fault = k; fails = fails; bad = bad; at = inl e }

  module _ (trails : Bool) (n : ℕ) (uses : Uses) (rs : List Row) (p : Option (Text × List Text)) (word : Text) (ok : Settles rs p uses)
      (turn : turn_fault its [] (walk_at trails idle n rs p) word ≡ step_fault its n (held rs p) value)
      (walk : walked c [] (walk_at trails idle n rs p) word ≡ after_step c word (walk_at trails idle n rs p) (held rs p) value) where
    operand_goes : (left : Operands) → AreLeft c n left → Goes (walk_at trails idle n rs p) word (with_operand (going trails) word left uses)
    operand_goes [] none = inr (kind.UnknownArgument, turn ∙ no_operand n rs p none, refl)
    operand_goes (name ∷ left) (names, need, at, id, few, are) = inl (
      turn ∙ operand_fault name n names need rs p at ∙ ok.0,
      go (is_given name uses || false) refl,
    )
      where
        moved : walked c [] (walk_at trails idle n rs p) word ≡ walk_at trails idle (n + 1) (map row_of_use uses) (Some (name, word ∷ []))
        moved = walk ∙ to_operand name n names need rs p at trails word few ∙ ap (λ (l : List Row). walk_at trails idle (n + 1) l (Some (name, word ∷ []))) ok.1

        go : (b : Bool) → (is_given name uses || false) ≡ b
            → Follows (walked c [] (walk_at trails idle n rs p) word) (cond b (ends wrong) (going trails left (uses ++ (name, word) ∷ [])))
        go true e =
            let found = fails_use name word (operand_rule name n names need) uses id _ (operand_comes name n names need word uses) e in
            doomed_after trails _ (n + 1) left (map row_of_use uses) (Some (name, word ∷ [])) found.0 are found.1 found.2 moved
        go false e =
            going_follows trails _ left (uses ++ (name, word) ∷ []) (
              n + 1,
              are,
              (
                map row_of_use uses,
                Some (name, word ∷ []),
                moved,
                settles_use name word (operand_rule name n names need) uses id _ (operand_comes name n names need word uses) e,
              ),
            )

  -- ---- between two uses

  uses_goes : (n : ℕ) (left : Operands) (w : Walk) (word : Text) (b : Bool) (kinds : Kinds) (rows : List Row) (later : Uses) → AreLeft c n left → Comes b kinds rows later
      → turn_fault its [] w word ≡ kinds → walked c [] w word ≡ walk_at false idle n rows None → Goes w word (cond b (ends wrong) (ready left later))
  uses_goes n left w word false kinds rows later are h turn walk = inl (turn ∙ h.0, (n, are, (rows, None, walk, (refl, h.1))))
  uses_goes n left w word true kinds rows later are h turn walk = inr (h.0, turn ∙ h.1, h.2)

  module _ (n : ℕ) (left : Operands) (are : AreLeft c n left) (uses : Uses) (rs : List Row) (p : Option (Text × List Text)) (word : Text) (ok : Settles rs p uses) where
    abbrev here : Walk
    here = walk_at false idle n rs p

    module _ (name : Text) (what : Takes) (is : takes syntax name ≡ Some what) (valued : IsValued what) where
      abbrev its_parser : ValueParser
      its_parser = parser_by values what

      its_long : arg_by_long c name ≡ Some (option_rule name its_parser)
      its_long = facts.long name what is ∙ ap Some (is_option_rule values name what valued)

      attached_goes : (v : Text) → Views word (named name (Some v)) → Goes here word (with_option name what v left uses)
      attached_goes v u =
          let a = option_rule name its_parser in
          let rows = map row_of_use uses in
          uses_goes n left here word (is_given name uses || not (is_taken what v)) (use_fault false a (v ∷ []) rows) (used a (v ∷ []) rows) (uses ++ (name, v) ∷ []) are
          (option_comes values facts.are name v what uses)
          (turn_uses idle n rs p word (held (used a (v ∷ []) (settled_rows c p rs)) None) (use_fault false a (v ∷ []) rows)
          (with_value_fault idle n rs p word name its_parser its_long v u ∙ (λ i. or_else (ok.0 i) (use_fault false a (v ∷ []) (ok.1 i))))
          (with_value_met idle n rs p word name its_parser its_long v u))
          (walk_passes idle n rs p word (held (used a (v ∷ []) (settled_rows c p rs)) None, next idle) (with_value_met idle n rs p word name its_parser its_long v u)
          ∙ ap (λ (l : List Row). walk_at false idle n (used a (v ∷ []) l) None) ok.1)

      separate_goes : Views word (named name None) → Goes here word (awaits name what left uses)
      separate_goes u =
          let m : Held × Step = (held (settled_rows c p rs) (Some (name, [])), next (option name)) in
          let by = before_value_met idle n rs p word name its_parser its_long u in
          inl (
            turn_passes idle n rs p word m (before_value_fault idle n rs p word name its_parser its_long u ∙ ok.0) by,
            (n, are, is, valued, walk_passes idle n rs p word m by ∙ ap (λ (l : List Row). walk_at false (option name) n l (Some (name, []))) ok.1),
          )

    flag_goes : (name : Text) → takes syntax name ≡ Some nothing → Views word (named name None) → Goes here word (with_option name nothing (codes "true") left uses)
    flag_goes name is u =
        let a = flag_rule name in
        let rows = map row_of_use uses in
        let long = facts.long name nothing is in
        uses_goes n left here word (is_given name uses || false) (use_fault false a [] rows) (used a [] rows) (uses ++ (name, codes "true") ∷ []) are (flag_comes name uses)
        (turn_uses idle n rs p word (held (used a [] (settled_rows c p rs)) None) (use_fault false a [] rows)
        (flag_fault idle n rs p word name long u ∙ (λ i. or_else (ok.0 i) (use_fault false a [] (ok.1 i)))) (flag_met idle n rs p word name long u))
        (walk_passes idle n rs p word (held (used a [] (settled_rows c p rs)) None, next idle) (flag_met idle n rs p word name long u)
        ∙ ap (λ (l : List Row). walk_at false idle n (used a [] l) None) ok.1)

    option_goes : (name : Text) (what : Takes) → takes syntax name ≡ Some what → (v : Option Text) → Views word (named name v) → Goes here word (with_value name what v left uses)
    option_goes name nothing is None u = flag_goes name is u
    option_goes name nothing is (Some v) u = inr (
      kind.TooManyValues,
      turn_stops idle n rs p word kind.TooManyValues (flag_with_value idle n rs p word name (facts.long name nothing is) v u),
      refl,
    )
    option_goes name number is None u = separate_goes name number is tt u
    option_goes name number is (Some v) u = attached_goes name number is tt v u
    option_goes name residence is None u = separate_goes name residence is tt u
    option_goes name residence is (Some v) u = attached_goes name residence is tt v u
    option_goes name any is None u = separate_goes name any is tt u
    option_goes name any is (Some v) u = attached_goes name any is tt v u

    other_goes : (name : Text) → takes syntax name ≡ None → (v : Option Text) → Views word (named name v) → Goes here word (requested syntax name v)
    other_goes name out (Some v) u = inr (
      attached_kind (bytes_eq (codes "help") name) (is_version_name name),
      turn_stops idle n rs p word (attached_kind (bytes_eq (codes "help") name) (is_version_name name)) (attached_fault rs p None ok.0 word name v u out),
      attached_wrong (bytes_eq (codes "help") name) (is_version_name name),
    )
    other_goes name out None u =
        inr (request_stops (turn_fault its [] here word) (bytes_eq (codes "help") name) (is_version_name name)
        (turn_stops idle n rs p word (request_kind None (bytes_eq (codes "help") name) (is_version_name name)) (name_fault rs p None ok.0 word name u out)))

    name_goes : (name : Text) (v : Option Text) → Views word (named name v) → (o : Option Takes) → takes syntax name ≡ o → Goes here word (after_name syntax o name v left uses)
    name_goes name v u (Some what) is = option_goes name what is v u
    name_goes name v u None out = other_goes name out v u

    ready_goes : (f : Form) → Views word f → Goes here word (after_form syntax f word left uses)
    ready_goes (letter x) v =
        inr (request_stops (turn_fault its [] here word) (104 == x) (is_version_letter x)
        (turn_stops idle n rs p word (request_kind None (104 == x) (is_version_letter x)) (letter_fault rs p None ok.0 word x v)))
    ready_goes dashes v = inl (dashes_turn idle n rs p word v, (n, are, (rs, p, dashes_walk idle n rs p word v, ok)))
    ready_goes (named name v) u = name_goes name v u (takes syntax name) refl
    ready_goes plain v =
        operand_goes false n uses rs p word ok (turn_passes idle n rs p word (held rs p, value) (plain_fault idle n rs p word v) (plain_met idle n rs p word v))
        (walk_passes idle n rs p word (held rs p, value) (plain_met idle n rs p word v)) left are

    operands_goes : Goes (walk_at true idle n rs p) word (with_operand operands word left uses)
    unfolding walked
    operands_goes = operand_goes true n uses rs p word ok refl refl left are

  -- ---- if a fault is certain, and is yet to be met

  module _ (n : ℕ) (left : Operands) (are : AreLeft c n left) (rs : List Row) (p : Option (Text × List Text)) (word : Text) (k : ErrorKind) (fails : settle_fault c false (held rs p) ≡ k ∷ [])
      (bad : is_wrong k ≡ true) where
    operand_dooms : (kinds : Kinds) → kinds ≡ step_fault its n (held rs p) value → Stops kinds (ends wrong)
    operand_dooms kinds = go left are
      where
        go : (l : Operands) → AreLeft c n l → kinds ≡ step_fault its n (held rs p) value → Stops kinds (ends wrong)
        go [] none e = (kind.UnknownArgument, e ∙ no_operand n rs p none, refl)
        go (name ∷ l) (names, need, at, id, few, more) e = (k, e ∙ operand_fault name n names need rs p at ∙ fails, bad)

    abbrev Dooms : Waiting → Type 0
    Dooms waiting = Stops (turn_fault its [] (walk_at false waiting n rs p) word) (ends wrong)

    fails_then : (more : Kinds) → or_else (settle_fault c false (held rs p)) more ≡ k ∷ []
    fails_then more = ap (λ (ks : Kinds). or_else ks more) fails

    module _ (waiting : Waiting) (name : Text) (what : Takes) (is : takes syntax name ≡ Some what) where
      valued_dooms : IsValued what → (v : Option Text) → Views word (named name v) → Dooms waiting
      valued_dooms valued (Some v) u =
          let long = its_long n left are [] [] None word (refl, refl) name what is valued in (
            k,
            turn_stops waiting n rs p word k (with_value_fault waiting n rs p word name (parser_by values what) long v u ∙ fails_then (use_fault false (option_rule name (parser_by values what)) (v ∷ []) (settled_rows c p rs))),
            bad,
          )
      valued_dooms valued None u =
          let long = its_long n left are [] [] None word (refl, refl) name what is valued in
          (k, turn_stops waiting n rs p word k (before_value_fault waiting n rs p word name (parser_by values what) long u ∙ fails), bad)

    option_dooms : (waiting : Waiting) (name : Text) (what : Takes) → takes syntax name ≡ Some what → (v : Option Text) → Views word (named name v) → Dooms waiting
    option_dooms waiting name nothing is None u =
        let long = facts.long name nothing is in
        (k, turn_stops waiting n rs p word k (flag_fault waiting n rs p word name long u ∙ fails_then (use_fault false (flag_rule name) [] (settled_rows c p rs))), bad)
    option_dooms waiting name nothing is (Some v) u =
        (kind.TooManyValues, turn_stops waiting n rs p word kind.TooManyValues (flag_with_value waiting n rs p word name (facts.long name nothing is) v u), refl)
    option_dooms waiting name number is v u = valued_dooms waiting name number is tt v u
    option_dooms waiting name residence is v u = valued_dooms waiting name residence is tt v u
    option_dooms waiting name any is v u = valued_dooms waiting name any is tt v u

    other_dooms : (waiting : Waiting) (name : Text) → takes syntax name ≡ None → (v : Option Text) → Views word (named name v) → Dooms waiting
    other_dooms waiting name out (Some v) u = (
      attached_kind (bytes_eq (codes "help") name) (is_version_name name),
      turn_stops waiting n rs p word (attached_kind (bytes_eq (codes "help") name) (is_version_name name)) (attached_fault rs p (Some k) fails word name v u out),
      attached_wrong (bytes_eq (codes "help") name) (is_version_name name),
    )
    other_dooms waiting name out None u = (
      request_kind (Some k) (bytes_eq (codes "help") name) (is_version_name name),
      turn_stops waiting n rs p word (request_kind (Some k) (bytes_eq (codes "help") name) (is_version_name name)) (name_fault rs p (Some k) fails word name u out),
      request_wrong k bad (bytes_eq (codes "help") name) (is_version_name name),
    )

    name_dooms : (waiting : Waiting) (name : Text) (v : Option Text) → Views word (named name v) → (o : Option Takes) → takes syntax name ≡ o → Dooms waiting
    name_dooms waiting name v u (Some what) is = option_dooms waiting name what is v u
    name_dooms waiting name v u None out = other_dooms waiting name out v u

    flag_dooms : (waiting : Waiting) (f : Form) → IsFlag f → Views word f → Goes (walk_at false waiting n rs p) word (ends wrong)
    flag_dooms waiting (letter x) i v = inr (
      request_kind (Some k) (104 == x) (is_version_letter x),
      turn_stops waiting n rs p word (request_kind (Some k) (104 == x) (is_version_letter x)) (letter_fault rs p (Some k) fails word x v),
      request_wrong k bad (104 == x) (is_version_letter x),
    )
    flag_dooms waiting dashes i v = inl (
      dashes_turn waiting n rs p word v,
      record { n = n; left = left; are_left = are; rows = rs; pending = p; fault = k; fails = fails; bad = bad; at = inr (waiting, dashes_walk waiting n rs p word v) },
    )
    flag_dooms waiting (named name v) i u = inr (name_dooms waiting name v u (takes syntax name) refl)
    flag_dooms waiting plain i v = absurd i

    idle_dooms : (f : Form) → Views word f → Goes (walk_at false idle n rs p) word (ends wrong)
    idle_dooms plain v = inr (operand_dooms _ (turn_passes idle n rs p word (held rs p, value) (plain_fault idle n rs p word v) (plain_met idle n rs p word v)))
    idle_dooms (letter x) v = flag_dooms idle (letter x) tt v
    idle_dooms dashes v = flag_dooms idle dashes tt v
    idle_dooms (named name v) u = flag_dooms idle (named name v) tt u

    trailing_dooms : (waiting : Waiting) → Goes (walk_at true waiting n rs p) word (ends wrong)
    trailing_dooms waiting = inr (operand_dooms (turn_fault its [] (walk_at true waiting n rs p) word) refl)

  -- ---- at the value of an option

  module _ (name : Text) (what : Takes) (n : ℕ) (left : Operands) (are : AreLeft c n left) (uses : Uses) (word : Text) (is : takes syntax name ≡ Some what) (valued : IsValued what) where
    abbrev waits : Walk
    waits = walk_at false (option name) n (map row_of_use uses) (Some (name, []))

    abbrev its_rule : Rule
    its_rule = option_rule name (parser_by values what)

    its_id : arg_by_id c name ≡ Some its_rule
    its_id = facts.id name what is ∙ ap Some (is_option_rule values name what valued)

    missing_value : settle_fault c false (held (map row_of_use uses) (Some (name, []))) ≡ kind.InvalidValue ∷ []
    missing_value = rw its_id refl

    same_name : bytes_eq name name ≡ true
    same_name = (bytes_eq-Decides name name).1 refl

    value_walk : after_step c word waits (plain_word c (option name) word waits.held).0 (plain_word c (option name) word waits.held).1
        ≡ walk_at false idle n (map row_of_use uses) (Some (name, word ∷ []))
    value_walk = rw (its_id, same_name) refl

    value_goes : turn_fault its [] waits word ≡ [] → walked c [] waits word ≡ walk_at false idle n (map row_of_use uses) (Some (name, word ∷ [])) → Goes waits word (with_option name what word left uses)
    value_goes turn walk = inl (turn, go (is_given name uses || not (is_taken what word)) refl)
      where
        comes : Comes (is_given name uses || not (is_taken what word)) (use_fault false its_rule (word ∷ []) (map row_of_use uses)) (used its_rule (word ∷ []) (map row_of_use uses)) (uses ++ (name, word) ∷ [])
        comes = option_comes values facts.are name word what uses

        go : (b : Bool) → (is_given name uses || not (is_taken what word)) ≡ b → Follows (walked c [] waits word) (cond b (ends wrong) (ready left (uses ++ (name, word) ∷ [])))
        go true e =
            let found = fails_use name word its_rule uses its_id _ comes e in
            doomed_after false _ n left (map row_of_use uses) (Some (name, word ∷ [])) found.0 are found.1 found.2 walk
        go false e = (n, are, (map row_of_use uses, Some (name, word ∷ []), walk, settles_use name word its_rule uses its_id _ comes e))

    awaits_goes : (f : Form) → Views word f → Goes waits word (after_value f word name what left uses)
    awaits_goes plain v =
        let rows = map row_of_use uses in
        let m = plain_word c (option name) word waits.held in
        value_goes
        (turn_passes (option name) n rows (Some (name, [])) word m (plain_fault (option name) n rows (Some (name, [])) word v) (plain_met (option name) n rows (Some (name, [])) word v)
        ∙ value_step)
        (walk_passes (option name) n rows (Some (name, [])) word m (plain_met (option name) n rows (Some (name, [])) word v) ∙ value_walk)
      where
        value_step : step_fault its n (plain_word c (option name) word waits.held).0 (plain_word c (option name) word waits.held).1 ≡ []
        value_step = refl
    awaits_goes (letter x) v = flag_dooms n left are (map row_of_use uses) (Some (name, [])) word kind.InvalidValue missing_value refl (option name) (letter x) tt v
    awaits_goes dashes v = flag_dooms n left are (map row_of_use uses) (Some (name, [])) word kind.InvalidValue missing_value refl (option name) dashes tt v
    awaits_goes (named other v) u = flag_dooms n left are (map row_of_use uses) (Some (name, [])) word kind.InvalidValue missing_value refl (option name) (named other v) tt u

  -- ---- all the words

  moved : (v w : Walk) (word : Text) (r : Progress) → w ≡ v → Goes v word r → Goes w word r
  moved v w word r e g = subst (λ (u : Walk). Goes u word r) (sym e) g

  step_ready : (w : Walk) (left : Operands) (uses : Uses) (word : Text) → IsBetween false w left uses → Goes w word (after_form syntax (form_of word) word left uses)
  step_ready w left uses word (n, are, (rs, p, e, ok)) =
      moved (walk_at false idle n rs p) w word _ e (ready_goes n left are uses rs p word ok (form_of word) (view word))

  step_operands : (w : Walk) (left : Operands) (uses : Uses) (word : Text) → IsBetween true w left uses → Goes w word (with_operand operands word left uses)
  step_operands w left uses word (n, are, (rs, p, e, ok)) =
      moved (walk_at true idle n rs p) w word _ e (operands_goes n left are uses rs p word ok)

  step_awaits : (w : Walk) (name : Text) (what : Takes) (left : Operands) (uses : Uses) (word : Text) → Follows w (awaits name what left uses)
      → Goes w word (after_value (form_of word) word name what left uses)
  step_awaits w name what left uses word (n, are, is, valued, e) =
      moved (waits name what n left are uses word is valued) w word _ e (awaits_goes name what n left are uses word is valued (form_of word) (view word))

  step_wrong : (w : Walk) (word : Text) → IsDoomed w → Goes w word (ends wrong)
  step_wrong w word d = elim d.at [
    | inl e ↦
        moved (walk_at false idle d.n d.rows d.pending) w word (ends wrong) e
        (idle_dooms d.n d.left d.are_left d.rows d.pending word d.fault d.fails d.bad (form_of word) (view word))
    | inr e ↦
        moved (walk_at true e.0 d.n d.rows d.pending) w word (ends wrong) e.1
        (trailing_dooms d.n d.left d.are_left d.rows d.pending word d.fault d.fails d.bad e.0)
  ]

  step : (w : Walk) (r : Progress) (word : Text) → Follows w r → Goes w word (after_word syntax r word)
  step w (ready left uses) word f = step_ready w left uses word f
  step w (operands left uses) word f = step_operands w left uses word f
  step w (awaits name what left uses) word f = step_awaits w name what left uses word f
  step w (ends wrong) word f = step_wrong w word f
  step w (ends help) word f = absurd f
  step w (ends version) word f = absurd f
  step w (ends (run uses)) word f = absurd f

  -- what is checked after the walk
  abbrev last_kinds : Held → Kinds
  last_kinds h = or_else (settle_fault c false h) (or_else (defaults_fault (settled c h).rows c) (check_fault its (finished c h) false))

  lacking : List Row → Bool
  lacking rows = list_any (λ (a : Rule). a.required && not (takes_of.is_given a.id (fold with_default rows c))) c

  whole_agrees : (w : Walk) (rs : List Row) (uses : Uses) → settle_fault c false w.held ≡ [] → (settled c w.held).rows ≡ map row_of_use uses
      → Agrees (last_kinds w.held) (finished c w.held) (whole syntax uses)
  whole_agrees w rs uses passes are = go (list_all (λ name. is_given name uses) syntax.needed) refl
    where
      checks : (b : Bool) → list_all (λ name. is_given name uses) syntax.needed ≡ b → last_kinds w.held ≡ cond (not b) (kind.MissingRequiredArgument ∷ []) []
      checks b e =
          (λ i. or_else (passes i) (or_else (facts.defaults (settled c w.held).rows i) (check_fault its (fold with_default (are i) c) false)))
          ∙ ap (λ x. cond x (kind.MissingRequiredArgument ∷ []) []) (facts.lacks uses ∙ ap not e)

      go : (b : Bool) → list_all (λ name. is_given name uses) syntax.needed ≡ b
          → Agrees (last_kinds w.held) (finished c w.held) (cond b (run (fold words.with_default uses syntax.options)) wrong)
      go true e = (checks true e, ap (λ (rows : List Row). map said (fold with_default rows c)) are ∙ facts.says uses)
      go false e = (kind.MissingRequiredArgument, checks false e, refl)

  at_end : (w : Walk) (r : Progress) → Follows w r → Agrees (last_kinds w.held) (finished c w.held) (asked_at syntax r)
  at_end w (ready left uses) (n, are, (rs, p, e, ok)) =
      whole_agrees w rs uses (ap (λ (v : Walk). settle_fault c false v.held) e ∙ ok.0) (ap (λ (v : Walk). (settled c v.held).rows) e ∙ ok.1)
  at_end w (operands left uses) (n, are, (rs, p, e, ok)) =
      whole_agrees w rs uses (ap (λ (v : Walk). settle_fault c false v.held) e ∙ ok.0) (ap (λ (v : Walk). (settled c v.held).rows) e ∙ ok.1)
  at_end w (awaits name what left uses) (n, are, is, valued, e) = (
    kind.InvalidValue,
    ap (λ (ks : Kinds). or_else ks (or_else (defaults_fault (settled c w.held).rows c) (check_fault its (finished c w.held) false)))
        (ap (λ (v : Walk). settle_fault c false v.held) e ∙ missing_value name what n left are uses [] is valued),
    refl,
  )
  at_end w (ends wrong) d =
      let same : settle_fault c false w.held ≡ settle_fault c false (held d.rows d.pending) =
      ⊎_elim (λ e. ap (λ (v : Walk). settle_fault c false v.held) e) (λ e. ap (λ (v : Walk). settle_fault c false v.held) e.1) d.at in
      (d.fault, ap (λ (ks : Kinds). or_else ks (or_else (defaults_fault (settled c w.held).rows c) (check_fault its (finished c w.held) false))) (same ∙ d.fails), d.bad)
  at_end w (ends help) f = absurd f
  at_end w (ends version) f = absurd f
  at_end w (ends (run uses)) f = absurd f

  abbrev kinds_from : Walk → List Text → Kinds
  kinds_from w words = or_else (walk_fault its [] w words) (last_kinds (fold (walked c []) w words).held)

  abbrev rows_from : Walk → List Text → List Row
  rows_from w words = finished c (fold (walked c []) w words).held

  agrees_after : (words : List Text) (w : Walk) (word : Text) (what : Asked) → turn_fault its [] w word ≡ []
      → Agrees (kinds_from (walked c [] w word) words) (rows_from (walked c [] w word) words) what → Agrees (kinds_from w (word ∷ words)) (rows_from w (word ∷ words)) what
  unfolding walk_fault
  agrees_after words w word what turn later =
      let same : kinds_from w (word ∷ words) ≡ kinds_from (walked c [] w word) words =
      ap (λ (ks : Kinds). or_else (or_else ks (walk_fault its [] (walked c [] w word) words)) (last_kinds (fold (walked c []) (walked c [] w word) words).held)) turn in
      subst (λ (ks : Kinds). Agrees ks (rows_from w (word ∷ words)) what) (sym same) later

  agrees_by : (words : List Text) (w : Walk) (word : Text) (r : Progress) → Goes w word r
      → (Follows (walked c [] w word) r → Agrees (kinds_from (walked c [] w word) words) (rows_from (walked c [] w word) words) (asked_at syntax (fold (after_word syntax) r words)))
      → Agrees (kinds_from w (word ∷ words)) (rows_from w (word ∷ words)) (asked_at syntax (fold (after_word syntax) r words))
  unfolding walk_fault
  agrees_by words w word r (inl g) later = agrees_after words w word (asked_at syntax (fold (after_word syntax) r words)) g.0 (later g.1)
  agrees_by words w word r (inr s) later =
      stopped syntax (turn_fault its [] w word) (walk_fault its [] (walked c [] w word) words) (last_kinds (fold (walked c []) (walked c [] w word) words).held)
      (rows_from w (word ∷ words)) words r s

  agrees : (words : List Text) (w : Walk) (r : Progress) → Follows w r → Agrees (kinds_from w words) (rows_from w words) (asked_at syntax (fold (after_word syntax) r words))
  unfolding walk_fault
  agrees [] w r f = at_end w r f
  agrees (word ∷ words) w r f = agrees_by words w word (after_word syntax r word) (step w r word f) (agrees words (walked c [] w word) (after_word syntax r word))

  -- what the words ask for is what clap reads of them, or the kind of its error
  pub leaf_agrees : (words : List Text) → Agrees (level_fault its [] nothing_held words false []) (rows_after c [] words) (asked syntax words)
  leaf_agrees words = agrees words (walk_from nothing_held) (ready syntax.operands []) (1, facts.left, ([], None, refl, (refl, refl)))

-- ---- rules by a syntax

-- the rules of options, which come before those of operands and of help
abbrev pub rules_by : Residences → Options → List Rule → List Rule
rules_by values options tail = map (λ option. option_by values option.0 option.1) options ++ tail

abbrev pub requests : Bool → List Rule
requests has_version = filled help_rule ∷ cond has_version (filled version_rule ∷ []) []

module _ (values : Residences) where
  is_long : (known name : Text) (what : Takes)
      → (not (is_some (option_by values known what).index) && has_long (option_by values known what) name) ≡ bytes_eq known name
  is_long known name nothing = or_false (bytes_eq known name)
  is_long known name number = or_false (bytes_eq known name)
  is_long known name residence = or_false (bytes_eq known name)
  is_long known name any = or_false (bytes_eq known name)

  is_id : (known name : Text) (what : Takes) → bytes_eq (option_by values known what).id name ≡ bytes_eq known name
  is_id known name nothing = refl
  is_id known name number = refl
  is_id known name residence = refl
  is_id known name any = refl

  abbrev found_in : Options → Text → Option Takes
  found_in options name = option_map (λ option. option.1) (find (λ option. bytes_eq option.0 name) options)

  by_long : (options : Options) (tail : List Rule) (name : Text)
      → arg_by_long (rules_by values options tail) name ≡ option_map_or (λ what. Some (option_by values name what)) (found_in options name) (arg_by_long tail name)
  by_long [] tail name = refl
  by_long (first ∷ options) tail name = go (bytes_eq first.0 name) refl (by_long options tail name)
    where
      go : (b : Bool) → bytes_eq first.0 name ≡ b
          → arg_by_long (rules_by values options tail) name ≡ option_map_or (λ what. Some (option_by values name what)) (found_in options name) (arg_by_long tail name)
          → arg_by_long (rules_by values (first ∷ options) tail) name
          ≡ option_map_or (λ what. Some (option_by values name what)) (option_map (λ (p : Text × Takes). p.1) (cond b (Some first) (find (λ option. bytes_eq option.0 name) options))) (arg_by_long tail name)
      go true e rest = rw (is_long first.0 name first.1, e) (ap (λ (n : Text). Some (option_by values n first.1)) ((bytes_eq-Decides first.0 name).0 e))
      go false e rest = rw (is_long first.0 name first.1, e) rest

  by_id : (options : Options) (tail : List Rule) (name : Text)
      → arg_by_id (rules_by values options tail) name ≡ option_map_or (λ what. Some (option_by values name what)) (found_in options name) (arg_by_id tail name)
  by_id [] tail name = refl
  by_id (first ∷ options) tail name = go (bytes_eq first.0 name) refl (by_id options tail name)
    where
      go : (b : Bool) → bytes_eq first.0 name ≡ b
          → arg_by_id (rules_by values options tail) name ≡ option_map_or (λ what. Some (option_by values name what)) (found_in options name) (arg_by_id tail name)
          → arg_by_id (rules_by values (first ∷ options) tail) name
          ≡ option_map_or (λ what. Some (option_by values name what)) (option_map (λ (p : Text × Takes). p.1) (cond b (Some first) (find (λ option. bytes_eq option.0 name) options))) (arg_by_id tail name)
      go true e rest = rw (is_id first.0 name first.1, e) (ap (λ (n : Text). Some (option_by values n first.1)) ((bytes_eq-Decides first.0 name).0 e))
      go false e rest = rw (is_id first.0 name first.1, e) rest

help_named : (v : Bool) (name : Text) → bytes_eq (codes "help") name ≡ true → arg_by_long (requests v) name ≡ Some (filled help_rule)
help_named v name e = rw e refl

version_named : (v : Bool) (name : Text) → bytes_eq (codes "help") name ≡ false → (v && bytes_eq (codes "version") name) ≡ true → arg_by_long (requests v) name ≡ Some (filled version_rule)
version_named true name h e = rw (h, e) refl
version_named false name h e = absurd (true≢false (sym e))

none_named : (v : Bool) (name : Text) → bytes_eq (codes "help") name ≡ false → (v && bytes_eq (codes "version") name) ≡ false → arg_by_long (requests v) name ≡ None
none_named true name h e = rw (h, e) refl
none_named false name h e = rw h refl

help_letter : (v : Bool) (x : ℕ) → (104 == x) ≡ true → arg_by_short (requests v) x ≡ Some (filled help_rule)
help_letter v x e = rw e refl

version_letter : (v : Bool) (x : ℕ) → (104 == x) ≡ false → (v && (86 == x)) ≡ true → arg_by_short (requests v) x ≡ Some (filled version_rule)
version_letter true x h e = rw (h, e) refl
version_letter false x h e = absurd (true≢false (sym e))

no_letter : (v : Bool) (x : ℕ) → (104 == x) ≡ false → (v && (86 == x)) ≡ false → arg_by_short (requests v) x ≡ None
no_letter true x h e = rw (h, e) refl
no_letter false x h e = rw h refl

-- ---- defaults

-- a default of the rule is no fault
abbrev pub is_quiet : Rule → Bool
is_quiet a = is_empty a.defaults || is_empty (given_default_fault a a.defaults)

quiet_default : (a : Rule) (rows : List Row) → is_quiet a ≡ true → default_fault rows a ≡ []
quiet_default a rows e = go (has_row a.id rows) (is_empty a.defaults) e
  where
    go : (h b : Bool) → (b || is_empty (given_default_fault a a.defaults)) ≡ true → cond (h || b) [] (given_default_fault a a.defaults) ≡ []
    go true b q = refl
    go false true q = refl
    go false false q = is_nil (given_default_fault a a.defaults) q

quiet_defaults : (args : List Rule) (rows : List Row) → list_all is_quiet args ≡ true → defaults_fault rows args ≡ []
unfolding defaults_fault
quiet_defaults [] rows e = refl
quiet_defaults (a ∷ args) rows e =
    let parts = both (is_quiet a) _ e in
    rw (quiet_default a rows parts.0) (quiet_defaults args (with_default rows a) parts.1)

abbrev pub has_none : Rule → Bool
has_none a = is_empty a.defaults

one_stays : (a : Rule) (rows : List Row) → has_none a ≡ true → with_default rows a ≡ rows
one_stays a rows none = rw (is_nil a.defaults none, same_either (has_row a.id rows) rows) refl

pub defaults_stay : (args : List Rule) (rows : List Row) → list_all has_none args ≡ true → fold with_default rows args ≡ rows
defaults_stay [] rows e = refl
defaults_stay (a ∷ args) rows e =
    let parts = both (has_none a) _ e in
    ap (λ (l : List Row). fold with_default l args) (one_stays a rows parts.0) ∙ defaults_stay args rows parts.1

abbrev Say : List Row → Uses → Type 0
Say rows uses = map said rows ≡ map said_in uses

say_given : (name : Text) (rows : List Row) (uses : Uses) → Say rows uses → has_row name rows ≡ is_given name uses
say_given name rows uses h =
    list_any-map (λ (k : Text × (Option Text × Option Text)). bytes_eq k.0 name) said rows
    ∙ ap (list_any (λ (k : Text × (Option Text × Option Text)). bytes_eq k.0 name)) h
    ∙ sym (list_any-map (λ (k : Text × (Option Text × Option Text)). bytes_eq k.0 name) said_in uses)

says_uses : (uses : Uses) → Say (map row_of_use uses) uses
says_uses [] = refl
says_uses (pair ∷ uses) = ap (λ (l : List (Text × (Option Text × Option Text))). said_in pair ∷ l) (says_uses uses)

abbrev default_row : Text → Row
default_row name = record { id = name; values = codes "false" ∷ []; count = None; source = Some DefaultValue; reading = reading_of parser.String }

default_added : (name : Text) (rows : List Row) → has_row name rows ≡ false → with_default rows (flag_rule name) ≡ rows ++ default_row name ∷ []
default_added name rows none = rw none (no_row name (more_values DefaultValue (codes "false" ∷ [])) (default_row name ∷ []) rows none)

default_kept : (name : Text) (rows : List Row) → has_row name rows ≡ true → with_default rows (flag_rule name) ≡ rows
default_kept name rows some = rw some refl

flag_default : (name : Text) (rows : List Row) (uses : Uses) → Say rows uses → Say (with_default rows (flag_rule name)) (words.with_default uses (name, nothing))
flag_default name rows uses h = go (is_given name uses) refl
  where
    go : (b : Bool) → is_given name uses ≡ b → Say (with_default rows (flag_rule name)) (cond b uses (uses ++ (name, codes "false") ∷ []))
    go true e = ap (map said) (default_kept name rows (say_given name rows uses h ∙ e)) ∙ h
    go false e =
        ap (map said) (default_added name rows (say_given name rows uses h ∙ e)) ∙ map-append said rows (default_row name ∷ [])
        ∙ ap (λ (l : List (Text × (Option Text × Option Text))). l ++ said_in (name, codes "false") ∷ []) h
        ∙ sym (map-append said_in uses ((name, codes "false") ∷ []))

module _ (values : Residences) where
  step_default : (name : Text) (what : Takes) (rows : List Row) (uses : Uses) → Say rows uses → Say (with_default rows (option_by values name what)) (words.with_default uses (name, what))
  step_default name nothing rows uses h = flag_default name rows uses h
  step_default name number rows uses h = ap (map said) (one_stays (option_by values name number) rows refl) ∙ h
  step_default name residence rows uses h = ap (map said) (one_stays (option_by values name residence) rows refl) ∙ h
  step_default name any rows uses h = ap (map said) (one_stays (option_by values name any) rows refl) ∙ h

  defaults_say : (options : Options) (tail : List Rule) (rows : List Row) (uses : Uses) → list_all has_none tail ≡ true → Say rows uses
      → Say (fold with_default rows (rules_by values options tail)) (fold words.with_default uses options)
  defaults_say [] tail rows uses none h = ap (map said) (defaults_stay tail rows none) ∙ h
  defaults_say (first ∷ options) tail rows uses none h =
      defaults_say options tail (with_default rows (option_by values first.0 first.1)) (words.with_default uses first) none (step_default first.0 first.1 rows uses h)

-- an operand that is needed
pub given_is : (name : Text) (uses : Uses) → takes_of.is_given name (map row_of_use uses) ≡ is_given name uses
given_is name [] = refl
given_is name (pair ∷ uses) = go (bytes_eq pair.0 name) (given_is name uses)
  where
    go : (b : Bool) → takes_of.is_given name (map row_of_use uses) ≡ is_given name uses → option_map_or (λ (r : Row). explicit_source r.source) (cond b (Some (row_of_use pair)) (find (λ (r : Row). bytes_eq r.id name) (map row_of_use uses))) false
        ≡ (b || is_given name uses)
    go true rest = refl
    go false rest = rest

-- ---- the facts

-- what can be computed of the rules of a syntax
pub record IsLiteral (values : Residences) (syntax : Syntax) (tail : List Rule) : Type 0 where
  pub long : (name : Text) → arg_by_long tail name ≡ arg_by_long (requests syntax.has_version) name
  pub short : (x : ℕ) → arg_by_short (rules_by values syntax.options tail) x ≡ arg_by_short (requests syntax.has_version) x
  pub left : AreLeft (rules_by values syntax.options tail) 1 syntax.operands
  pub quiet : list_all is_quiet (rules_by values syntax.options tail) ≡ true
  pub plain : list_all has_none tail ≡ true
  pub lacks : (uses : Uses) → list_any (λ (a : Rule). a.required && not (takes_of.is_given a.id (fold with_default (map row_of_use uses) (rules_by values syntax.options tail))))
      (rules_by values syntax.options tail) ≡ not (list_all (λ name. is_given name uses) syntax.needed)

module _ (values : Residences) (are : AreResidences values) (syntax : Syntax) (tail : List Rule) (is : IsLiteral values syntax tail) where
  abbrev own : List Rule
  own = rules_by values syntax.options tail

  found_long : (name : Text) (o : Option Takes) → takes syntax name ≡ o
      → arg_by_long own name ≡ option_map_or (λ what. Some (option_by values name what)) o (arg_by_long (requests syntax.has_version) name)
  found_long name o e =
      by_long values syntax.options tail name
      ∙ (λ i. option_map_or (λ what. Some (option_by values name what)) (e i) (is.long name i))

  found_id : (name : Text) (o : Option Takes) → takes syntax name ≡ o → arg_by_id own name ≡ option_map_or (λ what. Some (option_by values name what)) o (arg_by_id tail name)
  found_id name o e = by_id values syntax.options tail name ∙ ap (λ (p : Option Takes). option_map_or (λ what. Some (option_by values name what)) p (arg_by_id tail name)) e

  pub facts_of : Facts own syntax values
  facts_of = record {
    are = are;
    long = λ name what e. found_long name (Some what) e;
    id = λ name what e. found_id name (Some what) e;
    help_long = λ name e h. found_long name None e ∙ help_named syntax.has_version name h;
    version_long = λ name e h k. found_long name None e ∙ version_named syntax.has_version name h k;
    no_long = λ name e h k. found_long name None e ∙ none_named syntax.has_version name h k;
    help_short = λ x h. is.short x ∙ help_letter syntax.has_version x h;
    version_short = λ x h k. is.short x ∙ version_letter syntax.has_version x h k;
    no_short = λ x h k. is.short x ∙ no_letter syntax.has_version x h k;
    left = is.left;
    defaults = λ rows. quiet_defaults own rows is.quiet;
    says = λ uses. defaults_say values syntax.options tail (map row_of_use uses) uses is.plain (says_uses uses);
    lacks = is.lacks;
  }

-- ---- what is said of an option or operand

module _ (name : Text) (rows : List Row) (uses : Uses) (h : Say rows uses) where
  same_found : option_map said (find (λ (r : Row). bytes_eq r.id name) rows) ≡ option_map said_in (find (λ (p : Text × Text). bytes_eq p.0 name) uses)
  same_found =
      find-map (λ (k : Text × (Option Text × Option Text)). bytes_eq k.0 name) said rows
      ∙ ap (find (λ (k : Text × (Option Text × Option Text)). bytes_eq k.0 name)) h
      ∙ sym (find-map (λ (k : Text × (Option Text × Option Text)). bytes_eq k.0 name) said_in uses)

  pub first_is : first_of name rows ≡ given name uses
  first_is = sayings (find (λ (r : Row). bytes_eq r.id name) rows) ∙ ap (option_and_then (λ (k : Text × (Option Text × Option Text)). k.1.0)) same_found ∙ givings (find (λ (p : Text × Text). bytes_eq p.0 name) uses)
    where
      sayings : (o : Option Row) → option_and_then (λ (r : Row). slice_get r.values 0) o ≡ option_and_then (λ (k : Text × (Option Text × Option Text)). k.1.0) (option_map said o)
      sayings None = refl
      sayings (Some r) = refl

      givings : (o : Option (Text × Text)) → option_and_then (λ (k : Text × (Option Text × Option Text)). k.1.0) (option_map said_in o) ≡ option_map (λ (p : Text × Text). p.1) o
      givings None = refl
      givings (Some p) = refl

  pub one_is : one_of name rows ≡ given name uses
  one_is = sayings (find (λ (r : Row). bytes_eq r.id name) rows) ∙ ap (option_and_then (λ (k : Text × (Option Text × Option Text)). k.1.1)) same_found ∙ givings (find (λ (p : Text × Text). bytes_eq p.0 name) uses)
    where
      sayings : (o : Option Row) → option_and_then row_text o ≡ option_and_then (λ (k : Text × (Option Text × Option Text)). k.1.1) (option_map said o)
      sayings None = refl
      sayings (Some r) = refl

      givings : (o : Option (Text × Text)) → option_and_then (λ (k : Text × (Option Text × Option Text)). k.1.1) (option_map said_in o) ≡ option_map (λ (p : Text × Text). p.1) o
      givings None = refl
      givings (Some p) = refl
