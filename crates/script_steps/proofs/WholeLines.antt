-- A session after a line that was taken, by what its reader and its bench made of it.
use Rattle.std.proofs.Common.{◌≡◌, ℕ, ◌+◌, ◌∙◌, List, [], ◌∷◌, ◌++◌, Option, length, take, map, ap, sym, subst, refl, arith}
use Rattle.std.proofs.lemmas.List.{length_push, length-append, map_push, map-append}
use Rattle.vsm_model.specs.declared.limits.Settings.{Settings}
use Rattle.vsm_model.specs.Standing.{nothing_stands}
use Rattle.macro_reader.specs.Scripts as grammar
use Rattle.macro_reader.specs.Scripts.{IsBehind}
use Rattle.bench_core.specs.Stands.{bench_of, settings_in}
use Rattle.script_steps.specs.Answers.{Tells, told_count, told_refused, told_text}
use Rattle.script_steps.specs.Output.{Marked}
use Rattle.script_steps.specs.Script.{columns, Within}
use Rattle.script_steps.specs.Taken.{Took, Brings, IsTold, Shows, answers_of}
use Rattle.script_steps.specs.declared.responses.Response.{Response}
use Rattle.script_steps.specs.declared.session.Session.{Session}
use Rattle.script_steps.proofs.Standings.{tells_more, refusals_push}

-- a line of which nothing was taken
pub none_taken : (rest : List ℕ) → length rest ≡ 0 → rest ≡ []
none_taken [] h = refl
none_taken (c ∷ cs) h = absurd (omega (arith, h))

pub none_kept : (rest : List ℕ) → rest ≡ [] → take 80 rest ≡ []
none_kept rest h = ap (take 80) h

-- what is reported of the line, and that it was taken
pub record TookLine (settings : Settings) (answers : List Marked) (said : List grammar.Answer) (all : List ℕ) (new : Session) (told : Option (ℕ × Response)) : Type 0 where
  pub more : List Marked
  pub text : IsTold settings answers more (told_text settings (bench_of new.bench) new.shown.items told)
  pub brings : Brings settings answers more told
  pub took : Took settings all (answers ++ more) new
  pub shows : Shows settings answers more new.shown.items
  pub said_is : answers_of more ≡ said

-- how a session differs from what it was before a line, the reader and the bench aside: one more line has ended, and none has begun
pub record Counted (old new : Session) (told : Option (ℕ × Response)) : Type 0 where
  pub lines : new.lines ≡ old.lines + 1
  pub length : new.length ≡ 0
  pub kept : new.kept.items ≡ []
  pub statements : new.statements ≡ old.statements + told_count told
  pub refused : new.refused ≡ old.refused + told_refused told

pub took_line : (settings : Settings) (given all line shown : List ℕ) (answers : List Marked) (said : List grammar.Answer) (old new : Session) (told : Option (ℕ × Response))
    → (h : Took settings given answers old) → Within all (h.lines ++ line ∷ []) [] → shown ≡ columns line
    → IsBehind (map columns h.lines ++ shown ∷ []) (answers_of answers ++ said) new.reader
    → Tells (settings_in old.bench) (bench_of old.bench) said told new.shown.items (bench_of new.bench) → settings_in new.bench ≡ settings_in old.bench
    → Counted old new told → TookLine settings answers said all new told
took_line settings given all line shown answers said old new told h within is behind tells under counted =
    let here : Tells settings (bench_of old.bench) said told new.shown.items (bench_of new.bench) =
    subst (λ s. Tells s (bench_of old.bench) said told new.shown.items (bench_of new.bench)) h.under tells in
    let t = tells_more settings answers (bench_of old.bench) (bench_of new.bench) said told new.shown.items h.led here in
    let lines : map columns h.lines ++ shown ∷ [] ≡ map columns (h.lines ++ line ∷ []) =
    ap (λ x. map columns h.lines ++ x ∷ []) is ∙ sym (map_push columns h.lines line) in
    let both : answers_of answers ++ said ≡ answers_of (answers ++ t.more) = ap (λ x. answers_of answers ++ x) (sym t.answers) ∙ sym (map-append _ answers t.more) in
    record {
      more = t.more;
      text = t.text;
      brings = t.brings;
      took = record {
        lines = h.lines ++ line ∷ [];
        rest = [];
        within = within;
        count = counted.lines ∙ ap (λ n. n + 1) h.count ∙ sym (length_push h.lines line);
        long = counted.length;
        kept = counted.kept;
        told = subst (λ ls. IsBehind ls (answers_of (answers ++ t.more)) new.reader) lines
            (subst (λ xs. IsBehind (map columns h.lines ++ shown ∷ []) xs new.reader) both behind);
        led = t.led;
        under = under ∙ h.under;
        statements = (let e = length-append answers t.more in let n = counted.statements in omega (arith, e, n, h.statements, t.count));
        refused = (let e = refusals_push settings nothing_stands answers t.more in let n = counted.refused in omega (arith, e, n, h.refused, t.refused));
      };
      shows = t.shows;
      said_is = t.answers;
    }
