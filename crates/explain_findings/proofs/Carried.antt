-- What is known after another statement.
use Rattle.std.proofs.Common.{◌≡◌, ℕ, ◌^◌, ◌<◌, not, ◌&&◌, if◌then◌else◌, Option, Some, None, List, ◌∷◌, refl, sym, ap, ◌∙◌}
use Rattle.bench_core.specs.Machine.{Why, name_asked, statement_step}
use Rattle.macro_statements.specs.Requests.{Act}
use Rattle.vsm_model.specs.declared.limits.Settings.{Settings}
use Rattle.vsm_model.specs.declared.replies.Reply.{Reply}
use Rattle.vsm_model.specs.Names.{NamedState, names_after, word_of}
use Rattle.vsm_model.specs.Standing.{Outcome, Accepted, Refused, reply_in, state_after}
use Rattle.vsm_model.specs.State.{State}
use Rattle.service_laws.proofs.Cases.{same_some}
use Rattle.vsm_bench.proofs.Served.{accepted_is_its_service}
use Rattle.explain_who.specs.Taken.{taken_at}
use Rattle.explain_standing.specs.Carried.{IsCarried, state_in}
use Rattle.explain_standing.specs.NumberMaps.{number_in}
use Rattle.explain_standing.specs.Since.{machine_after, reply_to}
use Rattle.explain_standing.specs.declared.carried.Carried.{Carried}
use Rattle.explain_findings.specs.Endings.{can_end, ended_by, ends_at, first_line, gives, is_used}
use Rattle.explain_findings.specs.NameEndings.{ended_now, ending_kept, word_kept}
use Rattle.explain_findings.specs.Replays.{IsGiven, IsServed, Knows, is_among, word_given}
use Rattle.explain_findings.specs.Stores.{stores}
use Rattle.explain_findings.specs.declared.endings.CanEnd.{CanEnd}
use Rattle.explain_findings.specs.declared.endings.Endings.{Endings}
use Rattle.explain_findings.specs.declared.judging.Known.{Known}
use Rattle.explain_findings.proofs.KeptNames.{word_after}

pub accepted_from : (o : Outcome NamedState Reply Why) (r : Reply) → reply_in o ≡ Some r → (n : NamedState) × (o ≡ Accepted n r)
accepted_from (Accepted n q) r e = let same : q ≡ r = same_some q r e in (n, ap (λ r. Accepted n r) same)
accepted_from (Refused why) r e = absurd (cc)

module _ (settings : Settings) (older : List (ℕ × Act)) (x : ℕ × Act) (c after : Carried) (known : Known) (ends : CanEnd) (bytes : Option (ℕ × ℕ)) (reply : Reply)
    (knows : Knows settings older c known) (served : IsServed (machine_after settings older) x.1 ends bytes)
    (carried : IsCarried settings (x ∷ older) after) (replied : reply_to settings older x.1 ≡ Some reply) where
  abbrev m : NamedState
  m = machine_after settings older

  outcome : (n : NamedState) × (statement_step settings m x.1 ≡ Accepted n reply)
  outcome = accepted_from (statement_step settings m x.1) reply replied

  names_are : (machine_after settings (x ∷ older)).names ≡ names_after m.names (name_asked x.1) reply
  names_are =
      ap (λ (o : Outcome NamedState Reply Why). (state_after m o).names) outcome.1
      ∙ (accepted_is_its_service settings m outcome.0 x.1 reply outcome.1).3

  module _ (knew : Known) (middle : Endings) (storage : State) (storage_is : storage ≡ state_in after)
      (took : (byte : ℕ) → byte < 2 ^ 32 → number_in knew.stored byte ≡ (if is_among bytes byte then Some x.0 else number_in known.stored byte))
      (ended : (name : List ℕ) → ending_kept middle name ≡ first_line (ending_kept known.endings name) (if ended_now storage ends (word_kept known.endings name) then Some x.0 else None))
      (words : (name : List ℕ) → word_kept middle name ≡ word_kept known.endings name)
      (given : IsGiven middle (name_asked x.1) reply knew.endings) where
    now_is : storage ≡ (machine_after settings (x ∷ older)).storage
    now_is = storage_is ∙ ap (λ (k : NamedState). k.storage) carried.present

    -- what a word's area or cell was ended by
    ends_now : (word : Option ℕ) → ended_now storage ends word ≡ ends_at settings older x word
    ends_now None = refl
    ends_now (Some word) =
        λ i. (served.ends_it word ∙ ap (λ o. can_end o word) (sym served.asked)) i && not (is_used (taken_at (now_is i) word))

    middle_is : (name : List ℕ) → ending_kept middle name
        ≡ first_line (ended_by settings older name) (if ends_at settings older x (word_of m.names name) then Some x.0 else None)
    middle_is name =
        ended name ∙ (λ i. first_line (knows.endings name i) (if ends_now (word_kept known.endings name) i then Some x.0 else None))
        ∙ ap (λ w. first_line (ended_by settings older name) (if ends_at settings older x w then Some x.0 else None)) (knows.words name)

    pub knows_more : Knows settings (x ∷ older) after knew
    knows_more = record {
      carried = carried;
      words = λ name.
          given.words name ∙ ap (λ w. if gives (Some reply) (name_asked x.1) name then word_given reply else w) (words name ∙ knows.words name)
          ∙ sym (word_after m.names (name_asked x.1) reply name)
          ∙ ap (λ rows. word_of rows name) (sym names_are);
      endings = λ name.
          given.endings name ∙ ap (λ e. if gives (Some reply) (name_asked x.1) name then None else e) (middle_is name)
          ∙ ap (λ r. if gives r (name_asked x.1) name then None else first_line (ended_by settings older name) (if ends_at settings older x (word_of m.names name) then Some x.0 else None)) (sym replied);
      stored = λ byte low.
          took byte low
          ∙ (λ i. if (served.stores_it byte ∙ ap (λ o. stores o byte) (sym served.asked)) i then Some x.0 else knows.stored byte low i);
    }
