-- Lines on places in a file that are put one after another.
use Rattle.std.proofs.Common.{◌≡◌, List, [], ◌∷◌, ◌++◌, map, Option, ℕ, refl, sym, ap, ◌∙◌, subst, append_assoc}
use Rattle.std.proofs.lemmas.List.{append-nil, map-append}
use Rattle.std.proofs.lemmas.List.Concat.{flat_map-cons}
use Rattle.std.proofs.lemmas.Grind.{flat_map-append}
use Rattle.std.specs.List.{flat_map}
use Rattle.script_steps.proofs.Feeds.{each_append}
use Rattle.text_output.specs.Writing.{Puts}
use Rattle.text_output.specs.declared.writing.Gathered.{Gathered}
use Rattle.text_output.proofs.Gathering.{puts_both, puts_none}
use Rattle.explain_list.specs.Rows.{Mark}
use Rattle.explain_check.specs.Findings.{Found}
use Rattle.explain_check.specs.Lines.{CheckLine, IsCheckLine, IsNote, Manner, PutsChecks, Said, check_row, fault_at_mark, fault_noted, faults_of, found_in, found_noted, refusal_noted, refusals_of}

-- the faults among lines on places
faults_push : (xs ys : List CheckLine) → faults_of (xs ++ ys) ≡ faults_of xs ++ faults_of ys
faults_push [] ys = refl
faults_push (x ∷ xs) ys =
    ap (λ t. fault_noted x.number x.place x.said ++ t) (faults_push xs ys)
    ∙ sym (append_assoc (fault_noted x.number x.place x.said) (faults_of xs) (faults_of ys))

-- and the refusals
pub refusals_push : (xs ys : List CheckLine) → refusals_of (xs ++ ys) ≡ refusals_of xs ++ refusals_of ys
refusals_push [] ys = refl
refusals_push (x ∷ xs) ys =
    ap (λ t. refusal_noted x.number x.said ++ t) (refusals_push xs ys)
    ∙ sym (append_assoc (refusal_noted x.number x.said) (refusals_of xs) (refusals_of ys))

-- and what is found
pub found_push : (xs ys : List CheckLine) → found_in (xs ++ ys) ≡ found_in xs ++ found_in ys
found_push [] ys = refl
found_push (x ∷ xs) ys =
    ap (λ t. found_noted x.said ++ t) (found_push xs ys) ∙ sym (append_assoc (found_noted x.said) (found_in xs) (found_in ys))

-- no line
pub checks_no : (m : Manner) (now : Option (List ℕ)) (g : Gathered) → PutsChecks m [] [] [] now now g g
checks_no m now g = ([], tt, refl, refl, refl, puts_none now g)

-- some after others
pub checks_each : (m : Manner) (ms ns : List Mark) (rs ss : List Said) (ts us : List Found) (old mid new : Option (List ℕ)) (f g h : Gathered) → PutsChecks m ms rs ts old mid f g
    → PutsChecks m ns ss us mid new g h → PutsChecks m (ms ++ ns) (rs ++ ss) (ts ++ us) old new f h
checks_each m ms ns rs ss ts us old mid new f g h (xs, is, a, c, e, p) (ys, are, b, d, k, q) = (
  xs ++ ys,
  each_append IsCheckLine xs ys is are,
  faults_push xs ys ∙ (λ i. a i ++ b i) ∙ sym (map-append fault_at_mark ms ns),
  refusals_push xs ys ∙ (λ i. c i ++ d i),
  found_push xs ys ∙ (λ i. e i ++ k i),
  subst (Puts old new f h) (sym (flat_map-append (check_row m) xs ys))
      (puts_both old mid new f g h (flat_map (check_row m) xs) (flat_map (check_row m) ys) p q),
)

-- one line
pub one_line : (m : Manner) (line : CheckLine) (marks : List Mark) (said : List Said) (finds : List Found) (old new : Option (List ℕ)) (f g : Gathered) → IsNote line.said
    → fault_noted line.number line.place line.said ≡ map fault_at_mark marks → refusal_noted line.number line.said ≡ said → found_noted line.said ≡ finds → Puts old new f g (check_row m line)
    → PutsChecks m marks said finds old new f g
one_line m line marks said finds old new f g plain faults refusals founds p = (
  line ∷ [],
  (plain, tt),
  append-nil (fault_noted line.number line.place line.said) ∙ faults,
  append-nil (refusal_noted line.number line.said) ∙ refusals,
  append-nil (found_noted line.said) ∙ founds,
  subst (Puts old new f g) (sym (flat_map-cons (check_row m) line [] ∙ append-nil (check_row m line))) p,
)
