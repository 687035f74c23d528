-- What clap read of a command line is what its arguments ask for.
use Rattle.std.proofs.Common.{◌≡◌, ◌≤◌, true, false, refl, sym, subst, ⊎_elim, inl, inr, arith, codes, drop, map, List, [], ◌∷◌, length, Result, Ok, Err}
use Rattle.std.specs.Prelude.{IfOk}
use Rattle.clap.specs.Simple.{built}
use Rattle.clap.specs.Walk.{nothing_held}
use Rattle.clap.specs.Words.{App, FailsBy, HasMatchesOf, IsAmong, Kinds, Row, Rule, Text, fault_of, found_of, is_simple, kind_of, matches_of, rows_of}
use Rattle.clap.specs.Words.{is_simple_and_free}
use Rattle.clap.proofs.FaultLemmas.{leaf_fault}
use Rattle.clap.proofs.OnLiterals.{clap_on_literals}
use Rattle.clap.specs.declared.parser.ArgMatches.{ArgMatches}
use Rattle.clap.specs.declared.error.ErrorKind.{ErrorKind}
use Rattle.clap.specs.declared.Error.{Error}
use Rattle.vsm_bench.specs.Settings.{AreResidences, Residences, settings_asked, settings_of}
use Rattle.vsm_bench.specs.Options.{Gives, IsKindOf, Reads, command_line, file_asked, said, said_in}
use Rattle.vsm_bench.specs.Words.{Asked, Uses, asked_words, bench_syntax, given, help, run, settings_in, settings_options, version, wrong}
use Rattle.vsm_bench.proofs.WordsRead.{Agrees, IsLiteral, facts_of, first_is, leaf_agrees, one_is, operand_rule, requests, rules_by, shape}

-- ---- the command line

simple : (values : Residences) → is_simple (command_line values) ≡ true
unfolding clap_on_literals
simple values = refl

free : (values : Residences) → is_simple_and_free (command_line values) ≡ true
unfolding clap_on_literals
free values = refl

abbrev tail : List Rule
tail = operand_rule (codes "FILE") 1 0 false ∷ requests true

abbrev bench_rules : Residences → List Rule
bench_rules values = rules_by values settings_options tail

is_literal : (values : Residences) → IsLiteral values bench_syntax tail
is_literal values = record {
  long = λ name. refl;
  short = λ x. refl;
  left = (0, false, refl, refl, refl, refl);
  quiet = refl;
  plain = refl;
  lacks = λ uses. refl;
}

built_is : (values : Residences) → built (command_line values) ≡ record { top = shape (codes "vsm") true (bench_rules values); subs = [] }
built_is values = refl

-- what the words ask for is what clap reads of them, or the kind of its error
words_agree : (values : Residences) → AreResidences values → (words : List Text)
    → Agrees (fault_of (command_line values) words) (matches_of (command_line values) words) (asked_words words)
words_agree values are words =
    subst (λ (ks : Kinds). Agrees ks (matches_of (command_line values) words) (asked_words words))
    (sym (leaf_fault (record { top = shape (codes "vsm") true (bench_rules values); subs = [] }) nothing_held (drop 1 words) refl))
    (leaf_agrees (bench_rules values) bench_syntax values (facts_of values are bench_syntax tail (is_literal values)) (codes "vsm") (drop 1 words))

-- ---- what it reads

pub gives : (kinds : Kinds) (rows : List Row) (what : Asked) → Agrees kinds rows what → kinds ≡ [] → Gives rows what
gives kinds rows (run uses) is none = is.1
gives kinds rows help is none = cc
gives kinds rows version is none = cc
gives kinds rows wrong is none = cc

alone : (k j : ErrorKind) (what : Asked) → IsKindOf j what → IsAmong k (j ∷ []) → IsKindOf k what
alone k j what of among = ⊎_elim (λ (e : k ≡ j). subst (λ (i : ErrorKind). IsKindOf i what) (sym e) of) (λ none. absurd none) among

pub kind_among : (k : ErrorKind) (kinds : Kinds) (rows : List Row) (what : Asked) → Agrees kinds rows what → IsAmong k kinds → IsKindOf k what
kind_among k kinds rows (run uses) is among = absurd (subst (IsAmong k) is.0 among)
kind_among k kinds rows help is among = alone k is.0 help is.2 (subst (IsAmong k) is.1 among)
kind_among k kinds rows version is among = alone k is.0 version is.2 (subst (IsAmong k) is.1 among)
kind_among k kinds rows wrong is among = alone k is.0 wrong is.2 (subst (IsAmong k) is.1 among)

reads : (values : Residences) → AreResidences values → (words : List Text) (r : Result ArgMatches Error) → IfOk r (HasMatchesOf (command_line values) words)
    → (is_simple_and_free (command_line values) ≡ true → FailsBy (fault_of (command_line values) words) r) → Reads words r
reads values are words (Ok m) matches kinds =
    gives (fault_of (command_line values) words) (rows_of (found_of m)) (asked_words words)
    (subst (λ (rows : List Row). Agrees (fault_of (command_line values) words) rows (asked_words words)) (sym (matches (simple values)).0) (words_agree values are words)) (kinds (free values))
reads values are words (Err e) matches kinds =
    ⊎_elim (λ memory. inl memory)
    (λ among. inr (kind_among (kind_of e) (fault_of (command_line values) words) (matches_of (command_line values) words) (asked_words words) (words_agree values are words) among))
    (kinds (free values))

pub reads_as : (values : Residences) → AreResidences values → (a : App) → a ≡ command_line values → (words : List Text) (r : Result ArgMatches Error)
    → IfOk r (HasMatchesOf a words) → (is_simple_and_free a ≡ true → FailsBy (fault_of a words) r) → Reads words r
reads_as values are a is words r matches kinds =
    reads values are words r (subst (λ (b : App). IfOk r (HasMatchesOf b words)) is matches)
    (subst (λ (b : App). is_simple_and_free b ≡ true → FailsBy (fault_of b words) r) is kinds)

-- ---- settings and the file

pub settings_are : (rows : List Row) (uses : Uses) → map said rows ≡ map said_in uses → settings_asked rows ≡ settings_in uses
settings_are rows uses is = λ i. settings_of (one_is (codes "low") rows uses is i) (one_is (codes "high") rows uses is i) (first_is (codes "residence") rows uses is i)
    (one_is (codes "history") rows uses is i)

pub file_is : (rows : List Row) (uses : Uses) → map said rows ≡ map said_in uses → file_asked rows ≡ given (codes "FILE") uses
file_is rows uses is = first_is (codes "FILE") rows uses is

-- no arguments except the program's name give nothing
pub nothing_asked : (words : List Text) → length words ≤ 1 → asked_words words ≡ run []
nothing_asked [] few = refl
nothing_asked (name ∷ []) few = refl
nothing_asked (name ∷ word ∷ words) few = absurd (omega arith)
