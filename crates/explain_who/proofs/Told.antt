-- What is written of a script that was followed is what the definitions say.
use Rattle.std.proofs.Common.{◌≡◌, ℕ, Bool, true, false, if◌then◌else◌, List, [], ◌∷◌, length, reverse, Option, Some, None, Result, Ok, Err, sym, ap, ◌∙◌, subst}
use Rattle.std.proofs.lemmas.List.{length-reverse}
use Rattle.std.specs.Io.KnownBytes.{Appends}
use Rattle.explain_text.specs.declared.json.Form.{Form}
use Rattle.vsm_model.specs.declared.limits.Settings.{Settings}
use Rattle.text_output.specs.Writing.{AppendsFront}
use Rattle.text_output.proofs.Known.{appends_nothing}
use Rattle.explain_standing.specs.Faults.{FollowsNot}
use Rattle.explain_standing.specs.Lined.{standing}
use Rattle.explain_who.specs.Readings.{reading}
use Rattle.explain_who.specs.Forms.{found_in, in_order, shown_in}
use Rattle.explain_who.specs.Told.{is_absent, missing, lacking, TellsFound, TellsShown, changes_of, who_in, lacking_of, NamesChanges}
use Rattle.explain_who.specs.Traced.{IsTraced, reading_alone}
use Rattle.explain_who.specs.Who.{Difference, differences_of}
use Rattle.explain_who.specs.declared.faults.WhoFault.{WhoFault}
use Rattle.explain_who.specs.declared.faults.WhoFault.TheVariants as fault
use Rattle.explain_standing.specs.declared.faults.FollowFault.{FollowFault}
use Rattle.explain_standing.specs.declared.faults.FollowFault.TheVariants as follow
use Rattle.explain_who.specs.declared.orders.ChangeOrder.{ChangeOrder}
use Rattle.explain_who.specs.declared.readings.Subject.{Subject as AskedOf}
use Rattle.explain_who.specs.declared.readings.Subject.TheVariants as asked
use Rattle.explain_who.specs.declared.tracing.Traced.{Traced}
use Rattle.explain_who.proofs.Traced.{found_along}
use Rattle.explain_standing.proofs.Moves.{seen_count}

module _ (settings : Settings) (script : List ℕ) (form : Form) (order : ChangeOrder) (t : Traced) (question : AskedOf) (found : List Difference) (old : Option (List ℕ)) where
  abbrev Says : WhoFault → Type 0
  Says f = lacking question t.first found ≡ Some f → TellsFound settings script form order t question found old old (Err f)

  says : (q : AskedOf) (f : WhoFault) → missing q ≡ Some f → Says f
  says (asked.Bytes address count) f e = absurd (let no : ◌≡◌ {A = Option WhoFault} None (Some f) = e in cc)
  says (asked.Register task register) f e =
      let is : fault.NoTask task ≡ f = cc in subst Says is (λ h. (h, appends_nothing old))
  says (asked.Name name) f e = let is : fault.NoName name ≡ f = cc in subst Says is (λ h. (h, appends_nothing old))
  says (asked.Subpool task number) f e =
      let is : fault.NoTask task ≡ f = cc in subst Says is (λ h. (h, appends_nothing old))

  -- What is lacking is a task or a name.
  is_missing : (b : Bool) (f : WhoFault) → (if b then missing question else None) ≡ Some f → missing question ≡ Some f
  is_missing true f e = e
  is_missing false f e = absurd (let no : ◌≡◌ {A = Option WhoFault} None (Some f) = e in cc)

  from_lacking : (ds : List Difference) (f : WhoFault) → lacking question t.first ds ≡ Some f → missing question ≡ Some f
  from_lacking [] f e = is_missing (is_absent t.first) f e
  from_lacking (d ∷ ds) f e = absurd (let no : ◌≡◌ {A = Option WhoFault} None (Some f) = e in cc)

  pub lacking_told : (f : WhoFault) → lacking question t.first found ≡ Some f → TellsFound settings script form order t question found old old (Err f)
  lacking_told f e = says question f (from_lacking found f e) e

  -- What is written of these changes in an order is what is said of them.
  pub shown_told : (shown : List Difference) (new : Option (List ℕ)) (r : Result (Unit {0}) WhoFault) → lacking question t.first found ≡ None → shown ≡ in_order order found →
      TellsShown settings script form t question shown old new r → TellsFound settings script form order t question found old new r
  shown_told shown new (Ok u) none is out = (none, subst (λ xs. Appends old new (shown_in form settings script question xs (length t.entries.items))) is out)
  shown_told shown new (Err fault.Write) none is out = (none, subst (λ xs. AppendsFront old new (shown_in form settings script question xs (length t.entries.items))) is out)
  shown_told shown new (Err (fault.NoTask task)) none is out = absurd out
  shown_told shown new (Err (fault.NoName name)) none is out = absurd out
  shown_told shown new (Err (fault.Follow f)) none is out = absurd out
  shown_told shown new (Err fault.Count) none is out = absurd out

module _ (settings : Settings) (script : List ℕ) (form : Form) (order : ChangeOrder) where
  -- how many statements are in effect
  stand_count : (asked : AskedOf) (t : Traced) (h : IsTraced settings script asked t) → length t.entries.items ≡ length (standing settings h.answers)
  stand_count asked t h =
      ap length h.along ∙ seen_count (reading_alone settings asked) [] (reverse (standing settings h.answers)) ∙ length-reverse (standing settings h.answers)

  module _ (question : AskedOf) (t : Traced) (h : IsTraced settings script question t) where
    abbrev found : List Difference
    found = differences_of None t.first t.entries.items

    found_is : found ≡ changes_of settings script question h.answers
    found_is = found_along settings (reading settings question) h.answers t.first t.entries.items h.first h.along

    text_is : found_in form settings script question order found (length t.entries.items) ≡ who_in settings script form question order h.answers
    text_is = λ i. found_in form settings script question order (found_is i) (stand_count question t h i)

    lacking_is : lacking question t.first found ≡ lacking_of settings script question h.answers
    lacking_is = λ i. lacking question (h.first i) (found_is i)

    pub changes_named : (old new : Option (List ℕ)) (r : Result (Unit {0}) WhoFault) → TellsFound settings script form order t question found old new r →
        NamesChanges settings script form question order old new r
    changes_named old new (Ok u) (none, out) =
        (h.answers, h.ended, sym lacking_is ∙ none, subst (Appends old new) text_is out)
    changes_named old new (Err fault.Write) (none, out) =
        (h.answers, h.ended, sym lacking_is ∙ none, subst (AppendsFront old new) text_is out)
    changes_named old new (Err (fault.NoTask task)) (some, out) = (h.answers, h.ended, sym lacking_is ∙ some, out)
    changes_named old new (Err (fault.NoName name)) (some, out) = (h.answers, h.ended, sym lacking_is ∙ some, out)
    changes_named old new (Err (fault.Follow follow.Memory)) out = (tt, out)
    changes_named old new (Err fault.Count) out = absurd out
    changes_named old new (Err (fault.Follow follow.TooLong)) out = absurd out
    changes_named old new (Err (fault.Follow (follow.New f))) out = absurd out

  -- A script that isn't followed.
  pub changes_unnamed : (question : AskedOf) (old : Option (List ℕ)) (f : FollowFault) → FollowsNot settings script f →
      NamesChanges settings script form question order old old (Err (fault.Follow f))
  changes_unnamed question old f h = (h, appends_nothing old)
