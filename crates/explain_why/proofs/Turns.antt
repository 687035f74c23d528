-- Which answers turn a name.
use Rattle.std.proofs.Common.{◌≡◌, ℕ, zero, suc, ◌-◌, Bool, true, false, not, inl, inr, List, [], ◌∷◌, ◌++◌, length, Option, Some, None, is_some, append_assoc, arith, refl, subst, sym, ap, ◌∙◌}
use Rattle.std.proofs.lemmas.Bool.Decides.{eqb_tells}
use Rattle.std.proofs.lemmas.List.{append-nil, length-append, take-append-le, take_all}
use Rattle.vsm_model.specs.declared.limits.Settings.{Settings}
use Rattle.script_steps.specs.Output.{Marked}
use Rattle.script_steps.specs.Taken.{Brings, Took, Unended}
use Rattle.script_steps.specs.declared.responses.Response.{Response}
use Rattle.script_steps.specs.declared.session.Session.{Session}
use Rattle.bench_core.specs.Stands.{bench_of}
use Rattle.script_steps.proofs.Standings.{stands_for}
use Rattle.vsm_model.specs.Names.{word_of}
use Rattle.explain_why.specs.Defined.{AreItsLines, IsDefinition, IsNeverDefined, IsTurned, is_made, word_after}
use Rattle.explain_why.specs.declared.definitions.Definition.{Definition}
use Rattle.explain_why.specs.declared.definitions.Definition.TheVariants as definition

-- the word that the bench has
pub word_is : (settings : Settings) (name : List ℕ) (given : List ℕ) (answers : List Marked) (s : Session) → Took settings given answers s
    → word_of (bench_of s.bench).present.names name ≡ word_after settings name answers
word_is settings name given answers s took = ap (λ m. word_of m.names name) (stands_for settings answers (bench_of s.bench) took.led).present

module _ (settings : Settings) (name : List ℕ) where
  -- with more answers after them
  turned_more : (answers more : List Marked) (line : ℕ) (defined : Bool) → IsTurned settings name answers line defined
      → IsTurned settings name (answers ++ more) line defined
  turned_more answers more line defined t = record {
    before = t.before;
    its = t.its;
    behind = t.behind ++ more;
    split = ap (λ xs. xs ++ more) t.split ∙ append_assoc t.before (t.its ∷ t.behind) more;
    number = t.number;
    was = t.was;
    is = t.is;
  }

  pub lines_more : (answers more : List Marked) (its : Definition) → AreItsLines settings name answers its → AreItsLines settings name (answers ++ more) its
  lines_more answers more definition.Missing h = tt
  lines_more answers more (definition.Made line) h = turned_more answers more line true h
  lines_more answers more (definition.Undone line back steps) (h, k) = (turned_more answers more line true h, turned_more answers more back false k)
  lines_more answers more (definition.Discarded line back by) (h, k) = (turned_more answers more line true h, turned_more answers more back false k)

  -- one more answer after which the name isn't defined
  never_more : (answers : List Marked) (m : Marked) → IsNeverDefined settings name answers
      → is_some (word_after settings name (answers ++ m ∷ [])) ≡ false → IsNeverDefined settings name (answers ++ m ∷ [])
  never_more answers m never is n = elim (eqb_tells (n - length answers) 0) [
    | inl few ↦ ap (λ (xs : List Marked). is_some (word_after settings name xs)) (take-append-le n answers (m ∷ []) (omega (arith, few.1))) ∙ never n
    | inr many ↦ ap (λ (xs : List Marked). is_some (word_after settings name xs)) (take_all n (answers ++ m ∷ []) (omega (arith, length-append answers (m ∷ []), many.1))) ∙ is
  ]

  pub none_more : (answers more : List Marked) (told : Option (ℕ × Response)) → Brings settings answers more told → IsNeverDefined settings name answers
      → is_some (word_after settings name (answers ++ more)) ≡ false → IsNeverDefined settings name (answers ++ more)
  none_more answers [] told brings never is = subst (λ xs. IsNeverDefined settings name xs) (sym (append-nil answers)) never
  none_more answers (m ∷ []) told brings never is = never_more answers m never is
  none_more answers (m ∷ n ∷ ms) None brings never is = absurd brings
  none_more answers (m ∷ n ∷ ms) (Some told) brings never is = absurd brings

  -- a definition, after an answer that doesn't turn the name
  pub definition_more : (answers more : List Marked) (told : Option (ℕ × Response)) (its : Definition) → Brings settings answers more told
      → is_some (word_after settings name answers) ≡ is_some (word_after settings name (answers ++ more))
      → IsDefinition settings name answers its → IsDefinition settings name (answers ++ more) its
  definition_more answers more told its brings same h = record {
    lines = lines_more answers more its h.lines;
    now = sym same ∙ h.now;
    missing = λ e. none_more answers more told brings (h.missing e) (sym same ∙ h.now ∙ ap is_made e);
  }

  -- the answer that a line brings
  pub turned_by : (answers more : List Marked) (line : ℕ) (response : Response) (defined : Bool) → Brings settings answers more (Some (line, response))
      → is_some (word_after settings name answers) ≡ not defined → is_some (word_after settings name (answers ++ more)) ≡ defined
      → IsTurned settings name (answers ++ more) line defined
  turned_by answers [] line response defined brings was is = absurd brings
  turned_by answers (m ∷ []) line response defined (number, responds) was is =
      record { before = answers; its = m; behind = []; split = refl; number = sym number; was = was; is = is }
  turned_by answers (m ∷ n ∷ ms) line response defined brings was is = absurd brings

-- before the first answer it's missing
none_at_first : (settings : Settings) (name : List ℕ) → IsNeverDefined settings name []
none_at_first settings name zero = refl
none_at_first settings name (suc n) = refl

pub at_first : (settings : Settings) (name : List ℕ) → IsDefinition settings name [] definition.Missing
at_first settings name = record { lines = tt; now = refl; missing = λ e n. none_at_first settings name n }

-- a session that has taken some bytes
pub unended : (settings : Settings) (given : List ℕ) (answers : List Marked) (s : Session) → Took settings given answers s → Unended settings given answers
unended settings given answers s t = record { lines = t.lines; rest = t.rest; within = t.within; told = (_, t.told); met = t.led.met }
