-- A line of a script that lies in memory.
use Rattle.std.proofs.Common.{◌≡◌, ℕ, ◌+◌, ◌-◌, ◌<◌, ◌≤◌, List, [], ◌∷◌, ◌++◌, length, take, drop, slice_index, Option, Some, Result, Ok, Err, IsErr, true≢false, arith, ap, ◌∙◌, sym, subst, append_assoc}
use Rattle.std.proofs.Math.Seq.{take-add}
use Rattle.std.proofs.lemmas.List.{take-append-drop, take_all, length-drop, get_or-drop}
use Rattle.macro_statements.specs.Requests.{Asked}
use Rattle.vsm_model.specs.declared.limits.Settings.{Settings}
use Rattle.bench_core.specs.Stands.{bench_of}
use Rattle.script_steps.specs.Answers.{told_text}
use Rattle.script_steps.specs.Output.{Marked}
use Rattle.script_steps.specs.Script.{NoFeed}
use Rattle.script_steps.specs.Steps.{AsksStep, BringsStep, ShowsStep, IsLineOf, TakesStep}
use Rattle.script_steps.specs.Taken.{Took, PassesBound, Brings, IsTold, Shows}
use Rattle.script_steps.specs.declared.responses.Response.{Response}
use Rattle.script_steps.specs.declared.session.Session.{Session}
use Rattle.script_steps.specs.declared.session.TooLong.{TooLong}
use Rattle.script_steps.specs.declared.steps.Step.{Step}
use Rattle.script_steps.proofs.Feeds.{feed_behind}

module _ (script : List ℕ) (at n : ℕ) where
  -- what follows from the place on, as it's cut out
  abbrev pub rest_of : List ℕ
  rest_of = take (length script - at) (drop at script)

  rest_is : rest_of ≡ drop at script
  rest_is = let size = length-drop at script in take_all (length script - at) (drop at script) (omega (arith, size))

  -- what is before a line, its bytes and its line feed
  pub behind_line : n < length rest_of → slice_index rest_of n ≡ 10 → (take at script ++ take n rest_of) ++ 10 ∷ [] ≡ take (at + n + 1) script
  behind_line inside feed =
      let more : at + (n + 1) ≡ at + n + 1 = omega arith in
      feed_behind (take at script) rest_of n inside feed
      ∙ ap (λ rest. take at script ++ take (n + 1) rest) rest_is
      ∙ sym (take-add at (n + 1) script)
      ∙ ap (λ k. take k script) more

  -- what is before a line, its bytes, and the rest
  pub whole_script : (take at script ++ take n rest_of) ++ drop n rest_of ≡ script
  whole_script =
      append_assoc (take at script) (take n rest_of) (drop n rest_of)
      ∙ ap (λ x. take at script ++ x) (take-append-drop n rest_of)
      ∙ ap (λ x. take at script ++ x) rest_is
      ∙ take-append-drop at script

  pub is_line : at ≤ length script → n < length (drop at script) → NoFeed (take n (drop at script)) → slice_index (drop at script) n ≡ 10 →
      IsLineOf script at (at + n + 1)
  is_line short inside plain feed =
      let size = length-drop at script in
      let line : n ≡ at + n + 1 - 1 - at = omega arith in
      let last : at + n + 1 - 1 ≡ at + n = omega arith in
      record {
        some = omega arith;
        within = omega (arith, size);
        plain = subst (λ k. NoFeed (take k (drop at script))) line plain;
        feed = ap (slice_index script) last ∙ sym (get_or-drop at script n 0) ∙ feed;
      }

-- a byte that passes a bound gives an error,
pub step_past : (settings : Settings) (script : List ℕ) (at : ℕ) (answers : List Marked) (s : Session) (r : Result (Option Step) TooLong) → IsErr r →
    PassesBound settings script answers → TakesStep settings script at answers s r
step_past settings script at answers s (Ok x) is h = absurd (true≢false (sym is))
step_past settings script at answers s (Err e) is h = h

-- which adds no answer
pub step_brings_none : (settings : Settings) (script : List ℕ) (answers : List Marked) (s : Session) (r : Result (Option Step) TooLong) → IsErr r →
    BringsStep settings script answers s r
step_brings_none settings script answers s (Ok x) is = absurd (true≢false (sym is))
step_brings_none settings script answers s (Err e) is = tt

pub step_shows_none : (settings : Settings) (script : List ℕ) (answers : List Marked) (s : Session) (r : Result (Option Step) TooLong) → IsErr r →
    ShowsStep settings script answers s r
step_shows_none settings script answers s (Ok x) is = absurd (true≢false (sym is))
step_shows_none settings script answers s (Err e) is = tt

pub step_asks_none : (settings : Settings) (script : List ℕ) (answers : List Marked) (s : Session) (r : Result (Option Step) TooLong) (asked : Asked) → IsErr r →
    AsksStep settings script answers s r asked
step_asks_none settings script answers s (Ok x) asked is = absurd (true≢false (sym is))
step_asks_none settings script answers s (Err e) asked is = tt

-- a line that was taken, with its line feed, and its answers
pub step_taken : (settings : Settings) (script : List ℕ) (at n : ℕ) (answers : List Marked) (s : Session) (step : Step) (told : Option (ℕ × Response)) → step.next ≡ at + n + 1 →
    step.told ≡ told → n < length (rest_of script at n) → slice_index (rest_of script at n) n ≡ 10 →
    ((more : List Marked) × IsTold settings answers more (told_text settings (bench_of s.bench) s.shown.items told) × Brings settings answers more told
    × Took settings ((take at script ++ take n (rest_of script at n)) ++ 10 ∷ []) (answers ++ more) s × Shows settings answers more s.shown.items) →
    TakesStep settings script at answers s (Ok (Some step)) × BringsStep settings script answers s (Ok (Some step)) × ShowsStep settings script answers s (Ok (Some step))
step_taken settings script at n answers s step told next same inside feed (more, is, brings, took, shows) =
    let taken : Took settings (take step.next script) (answers ++ more) s =
    subst (λ k. Took settings (take k script) (answers ++ more) s) (sym next)
    (subst (λ given. Took settings given (answers ++ more) s) (behind_line script at n inside feed) took) in (
      (more, subst (λ t. IsTold settings answers more (told_text settings (bench_of s.bench) s.shown.items t)) (sym same) is, taken),
      (more, subst (λ t. Brings settings answers more t) (sym same) brings, taken),
      (more, subst (λ t. Brings settings answers more t) (sym same) brings, shows, taken),
    )
