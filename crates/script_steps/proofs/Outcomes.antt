-- A run, after another piece.
use Rattle.std.proofs.Common.{◌≡◌, ◌≢◌, ℕ, List, [], ◌∷◌, ◌++◌, length, take, Option, Result, Ok, Err, IsErr, IsErrAnd, true≢false, sym, ◌∙◌, ap, subst, refl, arith, append_assoc, inl, inr}
use Rattle.std.proofs.lemmas.List.{append-nil}
use Rattle.std.specs.Io.KnownBytes.{Appends, Consumes, IsAtEnd}
use Rattle.vsm_model.specs.declared.limits.Settings.{Settings}
use Rattle.vsm_model.specs.Standing.{nothing_stands}
use Rattle.script_steps.specs.Output.{Marked, output}
use Rattle.script_steps.specs.Script.{last_line}
use Rattle.script_steps.specs.Taken.{Took, Unended, PassesBound, IsTold}
use Rattle.text_output.specs.Writing.{AppendsFront, Holds, Puts, IsEmpty}
use Rattle.script_steps.specs.Run.{Runs, Passes, Takes, TakesLine, FaultAt, Finishes, Ran}
use Rattle.script_steps.specs.declared.totals.RunTotals.{RunTotals}
use Rattle.script_steps.specs.declared.faults.RunFault.{RunFault}
use Rattle.script_steps.specs.declared.faults.RunFault.TheVariants as fault
use Rattle.script_steps.specs.declared.session.Session.{Session}
use Rattle.script_steps.specs.declared.session.TooLong.{TooLong}
use Rattle.text_output.specs.declared.writing.Gathered.{Gathered}
use Rattle.text_output.proofs.Gathering.{empty_holds, empty_out}
use Rattle.script_steps.proofs.Standings.{texts_push}

-- the fault that a conversion makes
pub passed_up : {T : Type 0} (r : Result T RunFault) (e : RunFault) → IsErrAnd r (λ x. x ≡ e) → r ≡ Err e
passed_up (Ok x) e h = absurd h
passed_up (Err x) e h = ap Err h

module _ (settings : Settings) where
  pub unended : (given : List ℕ) (answers : List Marked) (s : Session) → Took settings given answers s → Unended settings given answers
  unended given answers s h = record { lines = h.lines; rest = h.rest; within = h.within; told = (s.reader, h.told); met = h.led.met }

  -- the output of more answers
  pub output_more : (answers more : List Marked) (text : List ℕ) → IsTold settings answers more text → output settings (answers ++ more) ≡ output settings answers ++ text
  output_more answers more text e = texts_push settings nothing_stands answers more ∙ ap (λ t. output settings answers ++ t) (sym e)

  -- a bound that is passed whatever follows is passed if nothing follows
  pub bound_passed : (given : List ℕ) (answers : List Marked) → ((behind : List ℕ) → PassesBound settings (given ++ behind) answers) → PassesBound settings given answers
  bound_passed given answers h = subst (λ g. PassesBound settings g answers) (append-nil given) (h [])

  module _ (first : Option (List ℕ)) where
    -- the text of further answers is put after that of others
    pub out_more : (old now : Option (List ℕ)) (before after : Gathered) (answers more : List Marked) (text : List ℕ) → IsTold settings answers more text →
        Puts old now before after text → Holds first old before (output settings answers) → Holds first now after (output settings (answers ++ more))
    out_more old now before after answers more text told puts h =
        subst (Holds first now after) (sym (output_more answers more text told)) (puts first (output settings answers) h)

    -- a bound that is passed in a prefix of the bytes is passed in all of them
    pub passes_behind : (now : Option (List ℕ)) (g : Gathered) (given front rest : List ℕ) → Passes settings first now g (given ++ front) →
        Passes settings first now g (given ++ (front ++ rest))
    passes_behind now g given front rest h = record {
      answers = h.answers;
      past = λ behind.
          let same : (given ++ front) ++ (rest ++ behind) ≡ (given ++ (front ++ rest)) ++ behind =
          sym (append_assoc (given ++ front) rest behind) ∙ ap (λ x. x ++ behind) (append_assoc given front rest) in
          subst (λ x. PassesBound settings x h.answers) same (h.past (rest ++ behind));
      out = h.out;
    }

    -- the output of a read is written, or a prefix of it
    pub write_fault : (now new left : Option (List ℕ)) (g : Gathered) (given : List ℕ) (s : Session) (r : Result (Unit {0}) TooLong) →
        Takes settings first now g given s r → ((text : List ℕ) → Holds first now g text → AppendsFront first new text) →
        FaultAt settings left first new given fault.Write
    write_fault now new left g given s (Ok u) h w = (h.answers, inl (inl (unended given h.answers s h.took)), w (output settings h.answers) h.out)
    write_fault now new left g given s (Err e) h w = (h.answers, inl (inr (bound_passed given h.answers h.past)), w (output settings h.answers) h.out)

    pub bound_fault : (now new left : Option (List ℕ)) (g : Gathered) (given : List ℕ) → Passes settings first now g given →
        ((text : List ℕ) → Holds first now g text → Appends first new text) → FaultAt settings left first new given fault.TooLong
    bound_fault now new left g given h w = (h.answers, bound_passed given h.answers h.past, w (output settings h.answers) h.out)

    pub read_taken : (now new : Option (List ℕ)) (g after : Gathered) (given : List ℕ) (s : Session) → Runs settings first now g given s → IsEmpty after →
        ((text : List ℕ) → Holds first now g text → Appends first new text) → Runs settings first new after given s
    read_taken now new g after given s h empty w = record {
      answers = h.answers;
      took = h.took;
      out = empty_holds first new after (output settings h.answers) empty (w (output settings h.answers) h.out);
    }

    -- a read fault, if nothing is gathered
    pub read_fault : (now left : Option (List ℕ)) (g : Gathered) (given : List ℕ) (s : Session) → Runs settings first now g given s → IsEmpty g →
        FaultAt settings left first now given fault.Read
    read_fault now left g given s h empty = (h.answers, unended given h.answers s h.took, empty_out first now g (output settings h.answers) empty h.out)

    -- a bound that is passed gives an error
    pub line_past : (now : Option (List ℕ)) (g : Gathered) (given rest : List ℕ) (s : Session) (r : Result ℕ TooLong) → IsErr r →
        Passes settings first now g (given ++ rest) → TakesLine settings first now g given rest s r
    line_past now g given rest s (Ok n) is h = absurd (true≢false (sym is))
    line_past now g given rest s (Err e) is h = h

    pub piece_past : (now : Option (List ℕ)) (g : Gathered) (given : List ℕ) (s : Session) (r : Result (Unit {0}) TooLong) → IsErr r →
        Passes settings first now g given → Takes settings first now g given s r
    piece_past now g given s (Ok u) is h = absurd (true≢false (sym is))
    piece_past now g given s (Err e) is h = h

    pub finished : (unread left now : Option (List ℕ)) (given : List ℕ) (r : Result RunTotals RunFault) → Consumes unread left given → IsAtEnd left →
        Finishes settings left first now given r → Ran settings unread left first now r
    finished unread left now given (Ok totals) c e h = (given, c, e, h)
    finished unread left now given (Err x) c e h = (given, c, h)

pub last_none : (rest : List ℕ) → length rest ≡ 0 → last_line rest ≡ []
last_none [] h = refl
last_none (x ∷ rest) h = absurd (omega (arith, h))

pub last_some : (rest : List ℕ) → length rest ≢ 0 → last_line rest ≡ take 80 rest ∷ []
last_some [] h = absurd (h refl)
last_some (x ∷ rest) h = refl
