-- What is found of a statement or a PEEK by what is known is what is found of it by the definition.
use Rattle.std.proofs.Common.{◌≡◌, ℕ, ◌/◌, ◌^◌, Bool, true, false, if◌then◌else◌, Option, Some, None, List, length, refl, sym, ap, ◌∙◌, arith, inl, inr}
use Rattle.std.proofs.lemmas.Bool.{cases_lt, eqb-true}
use Rattle.std.specs.Prelude.{◌==◌}
use Rattle.bench_core.specs.Machine.{looked_up, name_asked, service_asked, statement_step}
use Rattle.bench_core.specs.Stands.{bench_of}
use Rattle.macro_statements.specs.Requests.{Act, Written, act, peek}
use Rattle.vsm_model.specs.declared.limits.Settings.{Settings}
use Rattle.vsm_model.specs.declared.replies.Reply.{Reply}
use Rattle.vsm_model.specs.declared.replies.Reply.TheVariants.{Obtained, Returned, Cell, Attached, Turn, Stored}
use Rattle.vsm_model.specs.declared.services.Release.{Release}
use Rattle.vsm_model.specs.Names.{NamedState, is_one_too_many}
use Rattle.vsm_model.specs.Regions.{doublewords}
use Rattle.vsm_model.specs.Services.{Service, obtain, release, whole, attach, detach, end_task, run, store, build, get, free, delete}
use Rattle.vsm_model.specs.Standing.{Accepted}
use Rattle.vsm_model.specs.State.{State}
use Rattle.vsm_model.specs.Step.{step}
use Rattle.service_laws.proofs.Cases.{same_some}
use Rattle.vsm_bench.proofs.Served.{accepted_is_its_service}
use Rattle.explain_findings.specs.Accesses.{outside_at}
use Rattle.explain_standing.specs.Carried.{state_in}
use Rattle.explain_standing.specs.Since.{got_since, is_cell_in_use, machine_after, reply_to, taken_since}
use Rattle.explain_standing.specs.declared.carried.Carried.{Carried}
use Rattle.explain_findings.specs.Endings.{name_used, stale_name}
use Rattle.explain_findings.specs.Found.{finding_at, read_outside, read_unset, reading_finding, released_part, stored_outside}
use Rattle.explain_findings.specs.Homes.{home_after, home_at}
use Rattle.explain_findings.specs.Judged.{finding_by, outside_by, part_by, read_by, reading_by, unset_by}
use Rattle.explain_standing.specs.NumberMaps.{number_in}
use Rattle.explain_findings.specs.NameEndings.{ending_kept}
use Rattle.explain_findings.specs.Parts.{part_at}
use Rattle.explain_findings.specs.Replays.{Knows, part_kept}
use Rattle.explain_findings.specs.Stores.{first_unset, is_unset, line_at_home, stored_since}
use Rattle.explain_findings.specs.declared.findings.Finding.{Finding}
use Rattle.explain_findings.specs.declared.findings.Part.{Part}
use Rattle.explain_findings.specs.declared.homes.Home.{Home}
use Rattle.explain_findings.specs.declared.judging.Known.{Known}
use Rattle.explain_findings.proofs.Carried.{accepted_from}
use Rattle.explain_findings.proofs.FirstUnset.{same_unset}
use Rattle.explain_findings.proofs.HomePages.{high_unassigned}
use Rattle.explain_findings.proofs.KeptLines.{same_homes, same_part}
use Rattle.explain_findings.proofs.Replies.{released_was_taken}
use Rattle.explain_findings.proofs.UsedCells.{same_line}

module _ (settings : Settings) (older : List (ℕ × Act)) (c : Carried) (known : Known) (knows : Knows settings older c known) where
  abbrev m : NamedState
  m = machine_after settings older

  abbrev lines : ℕ → Option ℕ
  lines = number_in c.lines

  abbrev homes : ℕ → Home
  homes = home_at (state_in c) lines

  homes_are : homes ≡ home_after settings older
  homes_are =
      ap (λ (k : NamedState). home_at k.storage lines) knows.carried.present
      ∙ same_homes m.storage lines (taken_since settings older) knows.carried.lines

  outside_is : (service : Service) → stored_outside settings older (Some service) ≡ outside_by homes (Some service)
  outside_is (store address bytes) = ap (λ h. outside_at h address (length bytes)) (sym homes_are)
  outside_is (obtain o) = refl
  outside_is (release r) = refl
  outside_is (whole number) = refl
  outside_is (attach a) = refl
  outside_is (detach task) = refl
  outside_is end_task = refl
  outside_is (run task) = refl
  outside_is (build name header numbers) = refl
  outside_is (get name operands) = refl
  outside_is (free name cell) = refl
  outside_is (delete name) = refl

  abbrev ended : Option (List ℕ) → Option ℕ
  ended None = None
  ended (Some name) = ending_kept known.endings name

  stale_is : (name : Option (List ℕ)) → stale_name settings older name ≡ ended name
  stale_is None = refl
  stale_is (Some name) = sym (knows.endings name)

  abbrev meant : Release → Option Part
  meant r = part_at (home_after settings older) (taken_since settings older) (r.address / 8) (doublewords r.length)

  abbrev found : Release → Option Part
  found r = part_at homes lines (r.address / 8) (doublewords r.length)

  part_is : (names_full : Bool) (t : State) (r : Release) (reply : Reply) → step settings names_full m.storage (release r) ≡ Accepted t reply →
      released_part settings older (Some (release r)) (Some reply) ≡ part_kept reply (part_at homes lines (r.address / 8) (doublewords r.length))
  part_is names_full t r (Returned code) e = go (code == 0) refl where
    go : (z : Bool) → (code == 0) ≡ z → (if code == 0 then meant r else None) ≡ (if code == 0 then found r else None)
    go true is =
        let zero_code : code ≡ 0 = eqb-true code 0 is in
        let were = released_was_taken settings names_full m.storage t r (e ∙ ap (λ k. Accepted t (Returned k)) zero_code) in
        ap (λ z. if z then meant r else None) is
        ∙ sym (same_part m.storage lines (taken_since settings older) knows.carried.lines (r.address / 8) (doublewords r.length) were.0 were.1)
        ∙ ap (λ (k : NamedState). part_at (home_at k.storage lines) lines (r.address / 8) (doublewords r.length)) (sym knows.carried.present)
        ∙ sym (ap (λ z. if z then found r else None) is)
    go false is = ap (λ z. if z then meant r else None) is ∙ sym (ap (λ z. if z then found r else None) is)
  part_is names_full t r (Obtained address length) e = refl
  part_is names_full t r (Cell address) e = refl
  part_is names_full t r (Attached task) e = refl
  part_is names_full t r (Turn task) e = refl
  part_is names_full t r Stored e = refl

  none_kept : (reply : Reply) → part_kept reply None ≡ None
  none_kept (Returned code) = go (code == 0) where
    go : (z : Bool) → ◌≡◌ {A = Option Part} (if z then None else None) None
    go true = refl
    go false = refl
  none_kept (Obtained address length) = refl
  none_kept (Cell address) = refl
  none_kept (Attached task) = refl
  none_kept (Turn task) = refl
  none_kept Stored = refl

  all_parts : (names_full : Bool) (t : State) (service : Service) (reply : Reply) → step settings names_full m.storage service ≡ Accepted t reply →
      released_part settings older (Some service) (Some reply) ≡ part_kept reply (part_by homes lines (Some service))
  all_parts names_full t (release r) reply e = part_is names_full t r reply e
  all_parts names_full t (obtain o) reply e = sym (none_kept reply)
  all_parts names_full t (whole number) reply e = sym (none_kept reply)
  all_parts names_full t (attach a) reply e = sym (none_kept reply)
  all_parts names_full t (detach task) reply e = sym (none_kept reply)
  all_parts names_full t end_task reply e = sym (none_kept reply)
  all_parts names_full t (run task) reply e = sym (none_kept reply)
  all_parts names_full t (store address bytes) reply e = sym (none_kept reply)
  all_parts names_full t (build name header numbers) reply e = sym (none_kept reply)
  all_parts names_full t (get name operands) reply e = sym (none_kept reply)
  all_parts names_full t (free name cell) reply e = sym (none_kept reply)
  all_parts names_full t (delete name) reply e = sym (none_kept reply)

  -- A statement that asks for a service and is answered.
  pub found_before : (x : Act) (service : Service) (f : Finding) (reply : Reply) → service_asked m x ≡ Some service → f ≡ finding_by homes lines (ending_kept known.endings) (Some service) x →
      reply_to settings older x ≡ Some reply → finding_at settings older x ≡ record f { part = part_kept reply f.part }
  found_before x service f reply asked is replied =
      let outcome = accepted_from (statement_step settings m x) reply replied in
      let its = accepted_is_its_service settings m outcome.0 x reply outcome.1 in
      let steps : step settings (is_one_too_many m.names (name_asked x)) m.storage service ≡ Accepted outcome.0.storage reply =
      ap (step settings (is_one_too_many m.names (name_asked x)) m.storage) (sym (same_some its.0 service (sym its.1 ∙ asked))) ∙ its.2 in
      let parts = all_parts (is_one_too_many m.names (name_asked x)) outcome.0.storage service reply steps in
      (λ i. record {
        outside = stored_outside settings older (asked i);
        stale = stale_is (name_used (act x)) i;
        part = released_part settings older (asked i) (replied i);
        unset = None;
      })
      ∙ (λ i. record {
        outside = outside_is service i;
        stale = ended (name_used (act x));
        part = parts i;
        unset = None;
      })
      ∙ ap (λ (f : Finding). record f { part = part_kept reply f.part }) (sym is)

  outside_read : (word : Option ℕ) (count : ℕ) → read_outside settings older word count ≡ read_by homes word count
  outside_read None count = refl
  outside_read (Some word) count = ap (λ h. outside_at h word count) (sym homes_are)

  abbrev cells : ℕ → Option ℕ
  cells cell = number_in c.cells (cell / 4)

  -- the line of what a fullword is in,
  lines_are : (k : ℕ) → line_at_home cells (homes k) ≡ line_at_home (got_since settings older) (homes k)
  lines_are k =
      same_line (state_in c) lines k cells (got_since settings older)
      (λ cell used. knows.carried.cells cell (sym (ap (λ (n : NamedState). is_cell_in_use n.storage cell) knows.carried.present) ∙ used))

  -- and the line that stored a byte: no page is there if the byte has no address
  stored_are : (k : ℕ) → is_unset (line_at_home (got_since settings older) (homes (k / 4))) (number_in known.stored k)
      ≡ is_unset (line_at_home (got_since settings older) (homes (k / 4))) (stored_since settings older k)
  stored_are k = elim (cases_lt k (2 ^ 32)) [
    | inl low ↦ ap (is_unset (line_at_home (got_since settings older) (homes (k / 4)))) (knows.stored k low)
    | inr high ↦
        ap (λ h. is_unset (line_at_home (got_since settings older) h) (number_in known.stored k)) (sym (high_unassigned c.bench.machine.storage lines (k / 4) (omega arith)))
        ∙ ap (λ h. is_unset (line_at_home (got_since settings older) h) (stored_since settings older k)) (high_unassigned c.bench.machine.storage lines (k / 4) (omega arith))
  ]

  unset_read : (word : Option ℕ) (count : ℕ) → read_unset settings older word count ≡ unset_by homes cells (number_in known.stored) word count
  unset_read None count = refl
  unset_read (Some word) count =
      ap (λ h. first_unset h (got_since settings older) (stored_since settings older) count word) (sym homes_are)
      ∙ sym (same_unset homes cells (got_since settings older) (number_in known.stored) (stored_since settings older) (λ k. lines_are (k / 4)) stored_are count word)

  -- A PEEK.
  pub found_of_reading : (address : Written) (count : ℕ) →
      reading_finding settings older address count
      ≡ reading_by homes cells (number_in known.stored) (ending_kept known.endings) (bench_of c.bench).present address count
  found_of_reading address count = λ i. record {
    outside = (outside_read (looked_up m address) count ∙ ap (λ k. read_by homes (looked_up k address) count) (sym knows.carried.present)) i;
    stale = stale_is (name_used (peek address count)) i;
    part = None;
    unset =
        (unset_read (looked_up m address) count
        ∙ ap (λ k. unset_by homes cells (number_in known.stored) (looked_up k address) count) (sym knows.carried.present)) i;
  }
