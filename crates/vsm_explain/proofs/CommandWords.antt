-- What clap makes of the words is what `specs/Words.antt` says.
use Rattle.std.proofs.Common.{◌≡◌, ◌∙◌, ◌||◌, ◌&&◌, ◌++◌, ⊎_elim, inl, inr, Bool, true, false, cond, refl, sym, ap, subst, List, [], ◌∷◌, append-nil, bytes_eq, codes, fold, is_some, map, not, ◌==◌, Option, Some, None, ℕ}
use Rattle.std.proofs.lemmas.List.{append_assoc}
use Rattle.std.specs.Prelude.{IsSomeAnd}
use Rattle.clap.specs.declared.error.ErrorKind.{ErrorKind}
use Rattle.clap.specs.declared.error.ErrorKind.TheVariants as kind
use Rattle.clap.specs.Kinds.{or_else}
use Rattle.clap.specs.Faults.{built_fault, check_fault, defaults_fault, entered_fault, flags_fault, level_fault, other_fault, settle_fault, step_fault, turn_fault, walk_fault}
use Rattle.clap.specs.Simple.{App, entered, filled, help_rule, names_of, version_rule}
use Rattle.clap.specs.Walk.{Held, Names, Step, Walk, finished, idle, nothing_held, rows_after, settled, stop_after, subcommand_met, subcommand_or_other, takes_values, value, walk, walk_from, walked, word_met}
use Rattle.clap.specs.Words.{IsAmong, Kinds, Row, Rule, Shape, Text, is_simple, new_rule}
use Rattle.clap.proofs.FaultLemmas.{stopped_fault}
use Rattle.clap.proofs.WalkLemmas.{both}
use Rattle.vsm_bench.specs.Options.{Gives, IsKindOf, is_wrong, row_of_use}
use Rattle.vsm_bench.specs.Settings.{AreResidences, Residences}
use Rattle.vsm_bench.specs.Words.{Asked, Form, Progress, Syntax, Uses, after_form, after_word, asked, asked_at, awaits, dashes, ends, form_of, is_given, letter, named, operands, plain, ready, wrong}
use Rattle.vsm_bench.proofs.Asked.{gives, kind_among}
use Rattle.vsm_bench.proofs.WordsRead.{Agrees, Facts, IsLiteral, and_false, Stops, Views, attached_fault, attached_kind, attached_wrong, defaults_stay, ended, facts_of, given_is, leaf_agrees, letter_fault, name_fault, operand_rule, or_nothing, plain_fault, plain_met, request_stops, requests, rules_by, shape, view}
use Rattle.vsm_explain.specs.Options.{GivesTo, program}
use Rattle.vsm_explain.specs.Words.{asked_of, check_syntax, commands, list_syntax, no_command, report_syntax, who_syntax, why_syntax}

-- ---- what clap's kinds and the command's rows say

pub record AgreesTo (kinds : Kinds) (its : Option (Text × List Row)) (what : Text × Asked) : Type 0 where
  pub passes : kinds ≡ [] → IsSomeAnd its (λ read. GivesTo read what)
  pub fails : (k : ErrorKind) → IsAmong k kinds → IsKindOf k what.1

-- of a command that was entered
by_command : (kinds : Kinds) (rows : List Row) (name : Text) (what : Asked) → Agrees kinds rows what → AgreesTo kinds (Some (name, rows)) (name, what)
by_command kinds rows name what is = record {
  passes = λ none. (refl, gives kinds rows what is none);
  fails = λ k among. kind_among k kinds rows what is among;
}

-- if none was, for one fault
by_kind : (kinds : Kinds) (o : Option (Text × List Row)) (k : ErrorKind) (what : Asked) → kinds ≡ k ∷ [] → IsKindOf k what → AgreesTo kinds o ([], what)
by_kind kinds o k what e is = record {
  passes = λ none. cc;
  fails = λ j among. ⊎_elim (λ (g : j ≡ k). subst (λ (i : ErrorKind). IsKindOf i what) (sym g) is) (λ none. absurd none) (subst (IsAmong j) e among);
}

-- or for one of two
by_stray : (kinds : Kinds) (o : Option (Text × List Row)) (what : Asked) → kinds ≡ kind.UnknownArgument ∷ kind.InvalidSubcommand ∷ [] → what ≡ wrong → AgreesTo kinds o ([], what)
by_stray kinds o what e f = record {
  passes = λ none. cc;
  fails = λ k among.
      subst (IsKindOf k) (sym f)
      (⊎_elim (λ (g : k ≡ kind.UnknownArgument). ap is_wrong g) (λ more. ⊎_elim (λ (g : k ≡ kind.InvalidSubcommand). ap is_wrong g) (λ none. absurd none) more) (subst (IsAmong k) e among));
}

-- ---- the commands

abbrev operand_at : Text → ℕ → Rule
operand_at name n = operand_rule name n 1 false

abbrev check_tail : List Rule
check_tail = operand_at (codes "FILE") 1 ∷ requests false

abbrev list_tail : List Rule
list_tail = operand_at (codes "FILE") 1 ∷ requests false

abbrev why_tail : List Rule
why_tail = operand_rule (codes "FILE") 1 0 true ∷ operand_at (codes "LINE") 2 ∷ requests false

abbrev report_tail : List Rule
report_tail = operand_at (codes "FILE") 1 ∷ operand_at (codes "LINE") 2 ∷ requests false

abbrev who_tail : List Rule
who_tail = operand_at (codes "FILE") 1 ∷ operand_at (codes "ADDRESS") 2 ∷ operand_at (codes "COUNT") 3 ∷ requests false

abbrev rules_for : Residences → Syntax → List Rule → List Rule
rules_for values syntax tail = rules_by values syntax.options tail

module _ (values : Residences) where
  check_literal : IsLiteral values check_syntax check_tail
  check_literal = record {
    long = λ name. refl;
    short = λ x. refl;
    left = (1, false, refl, refl, refl, refl);
    quiet = refl;
    plain = refl;
    lacks = λ uses. refl;
  }

  list_literal : IsLiteral values list_syntax list_tail
  list_literal = record {
    long = λ name. refl;
    short = λ x. refl;
    left = (1, false, refl, refl, refl, refl);
    quiet = refl;
    plain = refl;
    lacks = λ uses. refl;
  }

  report_literal : IsLiteral values report_syntax report_tail
  report_literal = record {
    long = λ name. refl;
    short = λ x. refl;
    left = (1, false, refl, refl, refl, (1, false, refl, refl, refl, refl));
    quiet = refl;
    plain = refl;
    lacks = λ uses. refl;
  }

  who_literal : IsLiteral values who_syntax who_tail
  who_literal = record {
    long = λ name. refl;
    short = λ x. refl;
    left = (1, false, refl, refl, refl, (1, false, refl, refl, refl, (1, false, refl, refl, refl, refl)));
    quiet = refl;
    plain = refl;
    lacks = λ uses. refl;
  }

  abbrev why_rules : List Rule
  why_rules = rules_for values why_syntax why_tail

  -- only FILE is needed
  why_lacks : (uses : Uses) → (not (is_given (codes "FILE") uses) || false) ≡ not (is_given (codes "FILE") uses && true)
  why_lacks uses = go (is_given (codes "FILE") uses)
    where
      go : (b : Bool) → (not b || false) ≡ not (b && true)
      go true = refl
      go false = refl

  why_literal : IsLiteral values why_syntax why_tail
  why_literal = record {
    long = λ name. refl;
    short = λ x. refl;
    left = (0, true, refl, refl, refl, (1, false, refl, refl, refl, refl));
    quiet = refl;
    plain = refl;
    lacks = λ uses. rw (defaults_stay why_rules (map row_of_use uses) refl, given_is (codes "FILE") uses) (why_lacks uses);
  }

-- ---- the program

abbrev IsNotDashes : Form → Type 0
IsNotDashes dashes = ⊥
IsNotDashes _ = Unit {0}

abbrev top : Shape
top = record program { rules = requests true; is_leaf = false; is_built = true }

abbrev pub subs : Residences → Residences → Residences → Residences → Residences → List Shape
subs z a b c d = shape (codes "check") false (rules_for z check_syntax check_tail) ∷ shape (codes "list") false (rules_for a list_syntax list_tail) ∷ shape (codes "why") false (rules_for b why_syntax why_tail)
    ∷ shape (codes "report") false (rules_for c report_syntax report_tail) ∷ shape (codes "who") false (rules_for d who_syntax who_tail) ∷ []

abbrev pub all : Residences → Residences → Residences → Residences → Residences → App
all z a b c d = record { top = top; subs = subs z a b c d }

-- a walk that has stopped at a command takes all further words for it
stays : (c : List Rule) (names : Names) (w : Walk) (label : Text) (before words : List Text)
    → fold (walked c names) (record w { stopped = Some (label, before) }) words ≡ record w { stopped = Some (label, before ++ words) }
unfolding walked
stays c names w label before [] = ap (λ (l : List Text). record w { stopped = Some (label, l) }) (sym (append-nil before))
stays c names w label before (word ∷ words) =
    stays c names w label (before ++ word ∷ []) words ∙ ap (λ (l : List Text). record w { stopped = Some (label, l) }) (append_assoc before (word ∷ []) words)

module _ (z a b c d : Residences) where
  abbrev app : App
  app = all z a b c d

  abbrev names : Names
  names = names_of app

  abbrev kinds_after : List Text → Kinds
  kinds_after words = built_fault app nothing_held words

  abbrev entered_after : List Text → Option (Text × List Row)
  entered_after words = entered app (stop_after top.rules names words)

  nothing_given : AgreesTo (kinds_after []) (entered_after []) (asked_of [])
  unfolding walk_fault defaults_fault
  nothing_given = by_kind (kinds_after []) (entered_after []) kind.MissingSubcommand wrong refl refl

  -- ---- a command is named

  module _ (word label : Text) (words : List Text) (met : subcommand_met names idle word ≡ Some label) where
    at_command : walked top.rules names (walk_from nothing_held) word ≡ record (walk_from nothing_held) { stopped = Some (label, []) }
    unfolding walked
    at_command = rw met refl

    no_fault : walk_fault top names (walk_from nothing_held) (word ∷ words) ≡ []
    unfolding walk_fault
    no_fault =
        (λ i. or_else (turn_fault top names (walk_from nothing_held) word) (walk_fault top names (at_command i) words))
        ∙ ap (or_else (turn_fault top names (walk_from nothing_held) word)) (stopped_fault top names (walk_from nothing_held) (label, []) words)
        ∙ turn
      where
        turn : or_else (turn_fault top names (walk_from nothing_held) word) [] ≡ []
        turn = rw (met, and_false (bytes_eq label (codes "help"))) refl

    stops_there : walk top.rules names nothing_held (word ∷ words) ≡ record (walk_from nothing_held) { stopped = Some (label, words) }
    stops_there = ap (λ (w : Walk). fold (walked top.rules names) w words) at_command ∙ stays top.rules names (walk_from nothing_held) label [] words

    -- the command's own fault, if it's one of the program's
    kinds_there : is_some (entered app (Some (label, words))) ≡ true → kinds_after (word ∷ words) ≡ entered_fault app (Some (label, words))
    unfolding defaults_fault
    kinds_there is =
        (λ i. level_fault top names nothing_held (word ∷ words) (is_some (entered app (stops_there i).stopped)) (entered_fault app (stops_there i).stopped))
        ∙ (λ i. or_else (no_fault i) (or_else (entered_fault app (Some (label, words))) (or_else (settle_fault top.rules false (stops_there i).held)
        (or_else (defaults_fault (settled top.rules (stops_there i).held).rows top.rules) (check_fault top (finished top.rules (stops_there i).held) (is i))))))
        ∙ or_nothing (entered_fault app (Some (label, words)))

    there : entered_after (word ∷ words) ≡ entered app (Some (label, words))
    there = ap (λ (w : Walk). entered app w.stopped) stops_there

  -- ---- none is

  module _ (word : Text) (words : List Text) (met : subcommand_met names idle word ≡ None) where
    abbrev turn : Kinds
    turn = turn_fault top names (walk_from nothing_held) word

    abbrev more : Kinds
    more = walk_fault top names (walked top.rules names (walk_from nothing_held) word) words

    abbrev later : Kinds
    later =
        let stop = (walk top.rules names nothing_held (word ∷ words)).stopped in
        let end = (walk top.rules names nothing_held (word ∷ words)).held in
        or_else (entered_fault app stop) (or_else (settle_fault top.rules false end) (or_else (defaults_fault (settled top.rules end).rows top.rules)
        (check_fault top (finished top.rules end) (is_some (entered app stop)))))

    parts : kinds_after (word ∷ words) ≡ or_else (or_else turn more) later
    unfolding walk_fault
    parts = refl

    -- what the first word is
    abbrev seen : Held × Step
    seen = subcommand_or_other top.rules None idle 1 word nothing_held

    turn_is : turn ≡ or_else (other_fault top None word nothing_held) (step_fault top 1 seen.0 seen.1)
    turn_is = rw met refl

    ends_here : (what : Asked) → after_form no_command (form_of word) word [] [] ≡ ends what → asked no_command (word ∷ words) ≡ what
    ends_here what e = ap (λ (r : Progress). asked_at no_command (fold (after_word no_command) r words)) e ∙ ap (asked_at no_command) (ended no_command words what)

    abbrev Is : Asked → Type 0
    Is what = AgreesTo (kinds_after (word ∷ words)) (entered_after (word ∷ words)) ([], what)

    -- a fault of the first word
    by_fault : (k : ErrorKind) (what : Asked) → other_fault top None word nothing_held ≡ k ∷ [] → IsKindOf k what → Is what
    by_fault k what e is =
        by_kind (kinds_after (word ∷ words)) (entered_after (word ∷ words)) k what
        (parts ∙ ap (λ (ks : Kinds). or_else (or_else ks more) later) (turn_is ∙ ap (λ (ks : Kinds). or_else ks (step_fault top 1 seen.0 seen.1)) e)) is

    by_stop : (r : Progress) → after_form no_command (form_of word) word [] [] ≡ r → Stops (other_fault top None word nothing_held) r → Is (asked no_command (word ∷ words))
    by_stop (ends what) e s = subst Is (sym (ends_here what e)) (by_fault s.0 what s.1 s.2)
    by_stop (ready left uses) e s = absurd s
    by_stop (awaits name what left uses) e s = absurd s
    by_stop (operands left uses) e s = absurd s

    module _ (are : AreResidences a) where
      -- `--help` and `--version`
      abbrev only_requests : Syntax
      only_requests = record { options = []; operands = []; needed = []; has_version = true }

      facts : Facts (requests true) only_requests a
      facts = facts_of a are only_requests (requests true) (record { long = λ name. refl; short = λ x. refl; left = refl; quiet = refl; plain = refl; lacks = λ uses. refl })

      plain_here : Views word plain → form_of word ≡ plain → Is (asked no_command (word ∷ words))
      plain_here v e =
          let fault = plain_fault (requests true) only_requests a facts (codes "vsm-explain") idle 1 [] None word v in
          let plainly = plain_met (requests true) only_requests a facts (codes "vsm-explain") idle 1 [] None word v in
          by_stray (kinds_after (word ∷ words)) (entered_after (word ∷ words)) (asked no_command (word ∷ words))
          (parts ∙ ap (λ (ks : Kinds). or_else (or_else ks more) later) (turn_is ∙ (λ i. or_else (fault i) (step_fault top 1 (plainly i).0 (plainly i).1))))
          (ends_here wrong (ap (λ (f : Form). after_form no_command f word [] []) e))

      by_form : (f : Form) → IsNotDashes f → form_of word ≡ f → Views word f → Is (asked no_command (word ∷ words))
      by_form (letter x) i e v =
          by_stop (after_form no_command (letter x) word [] []) (ap (λ (f : Form). after_form no_command f word [] []) e)
          (request_stops (other_fault top None word nothing_held) (104 == x) (86 == x) (letter_fault (requests true) only_requests a facts (codes "vsm-explain") [] None None refl word x v))
      by_form (named name None) i e v =
          by_stop (after_form no_command (named name None) word [] []) (ap (λ (f : Form). after_form no_command f word [] []) e)
          (request_stops (other_fault top None word nothing_held) (bytes_eq (codes "help") name) (bytes_eq (codes "version") name)
          (name_fault (requests true) only_requests a facts (codes "vsm-explain") [] None None refl word name v refl))
      by_form (named name (Some said)) i e v =
          by_stop (ends wrong) (ap (λ (f : Form). after_form no_command f word [] []) e) (
            attached_kind (bytes_eq (codes "help") name) (bytes_eq (codes "version") name),
            attached_fault (requests true) only_requests a facts (codes "vsm-explain") [] None None refl word name said v refl,
            attached_wrong (bytes_eq (codes "help") name) (bytes_eq (codes "version") name),
          )
      by_form plain i e v = plain_here v e
      by_form dashes i e v = absurd i

  -- after `--` nothing is right
  module _ (word : Text) (met : subcommand_met names idle word ≡ None) (e : form_of word ≡ dashes) (v : Views word dashes) (are : AreResidences a) where
    after_dashes : (words : List Text) → AgreesTo (kinds_after (word ∷ words)) (entered_after (word ∷ words)) ([], asked no_command (word ∷ words))
    unfolding walk_fault walked defaults_fault
    after_dashes [] =
        by_kind (kinds_after (word ∷ [])) (entered_after (word ∷ [])) kind.MissingSubcommand (asked no_command (word ∷ [])) (rw (met, v) refl) (rw e refl)
    after_dashes (next ∷ words) =
        by_stray (kinds_after (word ∷ next ∷ words)) (entered_after (word ∷ next ∷ words)) (asked no_command (word ∷ next ∷ words)) (rw (met, v) refl)
        (ap (λ (f : Form). asked_at no_command (fold (after_word no_command) (after_form no_command f word [] []) (next ∷ words))) e
        ∙ ap (asked_at no_command) (ended no_command words wrong))

  -- ---- the first word

  module _ (are_z : AreResidences z) (are_a : AreResidences a) (are_b : AreResidences b) (are_c : AreResidences c) (are_d : AreResidences d) (word : Text) (words : List Text) where
    abbrev WordsAgree : Type 0
    WordsAgree = AgreesTo (kinds_after (word ∷ words)) (entered_after (word ∷ words)) (asked_of (word ∷ words))

    enters : (label : Text) (kinds : Kinds) (its : Option (Text × List Row)) (what : Text × Asked) → subcommand_met names idle word ≡ Some label
        → is_some (entered app (Some (label, words))) ≡ true → entered_fault app (Some (label, words)) ≡ kinds → entered app (Some (label, words)) ≡ its
        → asked_of (word ∷ words) ≡ what → AgreesTo kinds its what → WordsAgree
    enters label kinds its what met is fault there_is asks agrees =
        subst (AgreesTo (kinds_after (word ∷ words)) (entered_after (word ∷ words))) (sym asks)
        (subst (λ (o : Option (Text × List Row)). AgreesTo (kinds_after (word ∷ words)) o what) (sym (there word label words met ∙ there_is))
        (subst (λ (ks : Kinds). AgreesTo ks its what) (sym (kinds_there word label words met is ∙ fault)) agrees))

    by_word : (n p q r s : Bool) → bytes_eq (codes "check") word ≡ n → bytes_eq (codes "list") word ≡ p → bytes_eq (codes "why") word ≡ q → bytes_eq (codes "report") word ≡ r → bytes_eq (codes "who") word ≡ s → WordsAgree
    by_word true p q r s m e f g h =
        let rules = rules_for z check_syntax check_tail in
        enters (codes "check") (level_fault (shape (codes "check") false rules) [] nothing_held words false []) (Some (codes "check", rows_after rules [] words)) (codes "check", asked check_syntax words)
        (rw m refl) refl refl refl (rw m refl)
        (by_command _ _ (codes "check") (asked check_syntax words) (leaf_agrees rules check_syntax z (facts_of z are_z check_syntax check_tail (check_literal z)) (codes "check") words))
    by_word false true q r s m e f g h =
        let rules = rules_for a list_syntax list_tail in
        enters (codes "list") (level_fault (shape (codes "list") false rules) [] nothing_held words false []) (Some (codes "list", rows_after rules [] words)) (codes "list", asked list_syntax words)
        (rw (m, e) refl) refl refl refl (rw (m, e) refl)
        (by_command _ _ (codes "list") (asked list_syntax words) (leaf_agrees rules list_syntax a (facts_of a are_a list_syntax list_tail (list_literal a)) (codes "list") words))
    by_word false false true r s m e f g h =
        let rules = rules_for b why_syntax why_tail in
        enters (codes "why") (level_fault (shape (codes "why") false rules) [] nothing_held words false []) (Some (codes "why", rows_after rules [] words)) (codes "why", asked why_syntax words)
        (rw (m, e, f) refl) refl refl refl (rw (m, e, f) refl)
        (by_command _ _ (codes "why") (asked why_syntax words) (leaf_agrees rules why_syntax b (facts_of b are_b why_syntax why_tail (why_literal b)) (codes "why") words))
    by_word false false false true s m e f g h =
        let rules = rules_for c report_syntax report_tail in
        enters (codes "report") (level_fault (shape (codes "report") false rules) [] nothing_held words false []) (Some (codes "report", rows_after rules [] words)) (codes "report", asked report_syntax words)
        (rw (m, e, f, g) refl) refl refl refl (rw (m, e, f, g) refl)
        (by_command _ _ (codes "report") (asked report_syntax words) (leaf_agrees rules report_syntax c (facts_of c are_c report_syntax report_tail (report_literal c)) (codes "report") words))
    by_word false false false false true m e f g h =
        let rules = rules_for d who_syntax who_tail in
        enters (codes "who") (level_fault (shape (codes "who") false rules) [] nothing_held words false []) (Some (codes "who", rows_after rules [] words)) (codes "who", asked who_syntax words)
        (rw (m, e, f, g, h) refl) refl refl refl (rw (m, e, f, g, h) refl)
        (by_command _ _ (codes "who") (asked who_syntax words) (leaf_agrees rules who_syntax d (facts_of d are_d who_syntax who_tail (who_literal d)) (codes "who") words))
    by_word false false false false false m e f g h = subst (AgreesTo (kinds_after (word ∷ words)) (entered_after (word ∷ words))) (sym asks) (go (form_of word) refl (view word))
      where
        met : subcommand_met names idle word ≡ None
        met = rw (m, e, f, g, h) refl

        asks : asked_of (word ∷ words) ≡ ([], asked no_command (word ∷ words))
        asks = rw (m, e, f, g, h) refl

        go : (form : Form) → form_of word ≡ form → Views word form → AgreesTo (kinds_after (word ∷ words)) (entered_after (word ∷ words)) ([], asked no_command (word ∷ words))
        go dashes i v = after_dashes word met i v are_a words
        go (letter x) i v = by_form word words met are_a (letter x) tt i v
        go (named name said) i v = by_form word words met are_a (named name said) tt i v
        go plain i v = by_form word words met are_a plain tt i v

  pub words_agree : AreResidences z → AreResidences a → AreResidences b → AreResidences c → AreResidences d → (words : List Text) → AgreesTo (kinds_after words) (entered_after words) (asked_of words)
  words_agree are_z are_a are_b are_c are_d [] = nothing_given
  words_agree are_z are_a are_b are_c are_d (word ∷ words) =
      by_word are_z are_a are_b are_c are_d word words (bytes_eq (codes "check") word) (bytes_eq (codes "list") word) (bytes_eq (codes "why") word) (bytes_eq (codes "report") word) (bytes_eq (codes "who") word) refl refl refl refl refl
