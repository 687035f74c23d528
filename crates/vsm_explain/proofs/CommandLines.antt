-- The command line is one that clap reads simply.
use Rattle.std.proofs.Common.{◌≡◌, ◌&&◌, not, inl, inr, ⊎_elim, ℕ, suc, ◌+◌, ◌<◌, Bool, true, false, List, [], ◌∷◌, ◌++◌, Option, arith, drop, fold, get_or, length, map, take, refl, sym, subst, ap, ap₂, ◌∙◌, true≢false}
use Rattle.std.proofs.lemmas.List.{map-append}
use Rattle.std.proofs.lemmas.List.Sums.{fold-append}
use Rattle.clap.proofs.OnLiterals.{clap_on_literals}
use Rattle.std.proofs.Math.Seq.{take-suc}
use Rattle.std.specs.Prelude.{Result, Ok, Err, IfOk, IsSomeAnd}
use Rattle.clap.specs.Words.{App, FailsBy, HasMatchesOf, Row, Rule, Shape, Text, built, fault_of, is_simple, is_simple_and_free, kind_of, new_app, subcommand_of, with_rule, with_subcommand}
use Rattle.clap.specs.declared.parser.ArgMatches.{ArgMatches}
use Rattle.clap.specs.declared.Error.{Error}
use Rattle.vsm_bench.specs.Settings.{AreResidences, Residences, with_settings}
use Rattle.vsm_explain.specs.declared.forms.WordRow.{WordRow}
use Rattle.vsm_explain.specs.Options.{AreShapesOf, CommandRules, GivesTo, IsCommandLine, IsShapeOf, Reads, app_in, check_form, forms, list_form, program, report_form, rule_in, who_form, why_form}
use Rattle.vsm_explain.specs.Words.{asked_words}
use Rattle.vsm_explain.proofs.CommandWords.{AgreesTo, all, words_agree}

abbrev shapes : Residences → Residences → Residences → Residences → Residences → List Shape
shapes z a b c d = (app_in z check_form).top ∷ (app_in a list_form).top ∷ (app_in b why_form).top ∷ (app_in c report_form).top ∷ (app_in d who_form).top ∷ []

abbrev line : Residences → Residences → Residences → Residences → Residences → App
line z a b c d = record { top = record program { is_leaf = false }; subs = shapes z a b c d }

simple : (z a b c d : Residences) → is_simple (line z a b c d) ≡ true
unfolding clap_on_literals
simple z a b c d = refl

-- the shapes of the five commands
record AreOf (shapes_there : List Shape) : Type 0 where
  z : Residences
  a : Residences
  b : Residences
  c : Residences
  d : Residences
  are_z : AreResidences z
  are_a : AreResidences a
  are_b : AreResidences b
  are_c : AreResidences c
  are_d : AreResidences d
  is : shapes_there ≡ shapes z a b c d

shapes_are : (there : List Shape) → AreShapesOf forms there → AreOf there
shapes_are [] bad = absurd bad
shapes_are (s ∷ []) (x, bad) = absurd bad
shapes_are (s ∷ t ∷ []) (x, (y, bad)) = absurd bad
shapes_are (s ∷ t ∷ u ∷ []) (x, (y, (z, bad))) = absurd bad
shapes_are (s ∷ t ∷ u ∷ v ∷ []) (x, (y, (z, (q, bad)))) = absurd bad
shapes_are (s ∷ t ∷ u ∷ v ∷ w ∷ []) ((z, zn, ze), ((a, an, ae), ((b, bn, be), ((c, cn, ce), ((d, dn, de), last))))) = record {
  z = z;
  a = a;
  b = b;
  c = c;
  d = d;
  are_z = zn;
  are_a = an;
  are_b = bn;
  are_c = cn;
  are_d = dn;
  is = ap₂ ◌∷◌ ze (ap₂ ◌∷◌ ae (ap₂ ◌∷◌ be (ap₂ ◌∷◌ ce (ap₂ ◌∷◌ de refl))));
}
shapes_are (s ∷ t ∷ u ∷ v ∷ w ∷ m ∷ more) (x, (y, (z, (q, (r, bad))))) = absurd bad

abbrev app_of_both : Shape → List Shape → App
app_of_both t xs = record { top = t; subs = xs }

app_is : (app : App) (top : Shape) (subs : List Shape) → app.top ≡ top → app.subs ≡ subs → app ≡ app_of_both top subs
app_is app top subs e f = ap₂ app_of_both e f

-- the program with them, and the options of a bench
record IsLine (app : App) : Type 0 where
  there : AreOf app.subs
  is : app ≡ line there.z there.a there.b there.c there.d

line_of : (app : App) → IsCommandLine app → IsLine app
line_of app is =
    let found = shapes_are app.subs is.commands in
    record { there = found; is = app_is app (record program { is_leaf = false }) (shapes found.z found.a found.b found.c found.d) is.top found.is }

line_is_simple : (app : App) → IsCommandLine app → is_simple app ≡ true
line_is_simple app is =
    let found = line_of app is in
    subst (λ (x : App). is_simple x ≡ true) (sym found.is) (simple found.there.z found.there.a found.there.b found.there.c found.there.d)

free : (z a b c d : Residences) → is_simple_and_free (line z a b c d) ≡ true
unfolding clap_on_literals
free z a b c d = refl

line_is_free : (app : App) → IsCommandLine app → is_simple_and_free app ≡ true
line_is_free app is =
    let found = line_of app is in
    subst (λ (x : App). is_simple_and_free x ≡ true) (sym found.is) (free found.there.z found.there.a found.there.b found.there.c found.there.d)

-- ---- what was read of the words

built_is : (z a b c d : Residences) → built (line z a b c d) ≡ all z a b c d
built_is z a b c d = refl

agrees : (app : App) → IsCommandLine app → (words : List Text) → AgreesTo (fault_of app words) (subcommand_of app words) (asked_words words)
agrees app is words =
    let found = line_of app is in
    let its = found.there in
    subst (λ (x : App). AgreesTo (fault_of x words) (subcommand_of x words) (asked_words words)) (sym found.is)
    (words_agree its.z its.a its.b its.c its.d its.are_z its.are_a its.are_b its.are_c its.are_d (drop 1 words))

pub read_as : (app : App) (words : List Text) (r : Result ArgMatches Error) → IsCommandLine app → IfOk r (HasMatchesOf app words)
    → (is_simple_and_free app ≡ true → FailsBy (fault_of app words) r) → Reads words r
read_as app words (Ok m) is matches kinds =
    subst (λ (o : Option (Text × List Row)). IsSomeAnd o (λ read. GivesTo read (asked_words words))) (sym (matches (line_is_simple app is)).1)
    ((agrees app is words).passes (kinds (line_is_free app is)))
read_as app words (Err e) is matches kinds =
    ⊎_elim (λ memory. inl memory) (λ among. inr ((agrees app is words).fails (kind_of e) among)) (kinds (line_is_free app is))

-- ---- options and operands, one by one

pub next_row : (app before after : App) (rows : List WordRow) (i : ℕ) (d : WordRow) (rule : Rule) → i < length rows → before ≡ fold with_rule app (map rule_in (take i rows))
    → after ≡ with_rule before rule → rule ≡ rule_in (get_or rows i d) → after ≡ fold with_rule app (map rule_in (take (i + 1) rows))
next_row app before after rows i d rule within was is its =
    let next : i + 1 ≡ suc i = omega arith in
    let more : map rule_in (take (i + 1) rows) ≡ map rule_in (take i rows) ++ rule_in (get_or rows i d) ∷ [] =
    ap (λ (n : ℕ). map rule_in (take n rows)) next ∙ ap (map rule_in) (take-suc rows i d within) ∙ map-append rule_in (take i rows) (get_or rows i d ∷ []) in
    is ∙ ap₂ with_rule was its ∙ sym (fold-append with_rule app (map rule_in (take i rows)) (rule_in (get_or rows i d) ∷ []))
    ∙ ap (fold with_rule app) (sym more)

-- a command with any rules is plain if it was
plain_fold : (rules : List Rule) (app : App) → (fold with_rule app rules).top.is_plain ≡ app.top.is_plain
plain_fold [] app = refl
plain_fold (r ∷ rs) app = plain_fold rs (with_rule app r)

pub shape_is_plain : (form : CommandRules) (shape : Shape) → IsShapeOf form shape → shape.is_plain ≡ true
shape_is_plain form shape (values, are, is) =
    ap (λ (s : Shape). s.is_plain) is ∙ plain_fold form.rules (with_settings values (new_app form.name))

-- the program with its five commands
pub line_is : (app : App) (z a b c d : Shape) → IsShapeOf check_form z → IsShapeOf list_form a → IsShapeOf why_form b → IsShapeOf report_form c → IsShapeOf who_form d
    → app ≡ with_subcommand (with_subcommand (with_subcommand (with_subcommand (with_subcommand (record { top = program; subs = [] }) z) a) b) c) d → IsCommandLine app
line_is app z a b c d iz ia ib ic id is = subst IsCommandLine (sym is) (record { top = refl; commands = (iz, (ia, (ib, (ic, (id, tt))))) })

-- of what makes a command plain, the third
pub third_of : (a b h rest : Bool) → (a && (b && (not h && rest))) ≡ true → h ≡ false
third_of true true false rest e = refl
third_of true true true rest e = absurd (true≢false (sym e))
third_of true false h rest e = absurd (true≢false (sym e))
third_of false b h rest e = absurd (true≢false (sym e))
