-- Output that is gathered before it goes out.
use Rattle.std.proofs.Common.{◌≡◌, ℕ, Bool, true, false, List, [], ◌++◌, Option, Result, Ok, Err, sym, ◌∙◌, ap, subst, append_assoc, is_err, is_some, Some, None, refl}
use Rattle.std.proofs.lemmas.List.{append-nil}
use Rattle.std.proofs.KnownBytes.{Appends-trans}
use Rattle.std.specs.Io.KnownBytes.{Appends}
use Rattle.text_output.specs.Writing.{AppendsFront, Writes, Holds, HoldsWhere, Puts, IsEmpty}
use Rattle.text_output.specs.declared.writing.Gathered.{Gathered}
use Rattle.text_output.specs.declared.writing.WriteFault.{WriteFault}

-- a prefix of a further text after what went out
front_behind : (first now new : Option (List ℕ)) (out more text : List ℕ) → text ≡ out ++ more → Appends first now out → AppendsFront now new more → AppendsFront first new text
front_behind first now new out more text e h k = (
  out ++ k.0,
  k.1,
  e ∙ ap (λ x. out ++ x) k.2 ∙ sym (append_assoc out k.0 k.1),
  Appends-trans first now new out k.0 h k.3,
)

-- a prefix of a text is one of a longer text
pub front_more : (first now : Option (List ℕ)) (text more : List ℕ) → AppendsFront first now text → AppendsFront first now (text ++ more)
front_more first now text more (front, behind, e, h) = (front, behind ++ more, ap (λ x. x ++ more) e ∙ append_assoc front behind more, h)

-- what was gathered is written
pub handed_out : (first now new : Option (List ℕ)) (gathered text : List ℕ) (r : Result (Unit {0}) WriteFault) →
    Writes now new gathered r → HoldsWhere false first now gathered text → Writes first new text r
handed_out first now new gathered text (Ok u) w (out, e, h) = subst (Appends first new) (sym e) (Appends-trans first now new out gathered h w)
handed_out first now new gathered text (Err x) w (out, e, h) = front_behind first now new out gathered text e h w

-- if there is no fault
pub none_failed : (fault : Option WriteFault) → ((f : WriteFault) → fault ≡ Some f → ⊥) → is_some fault ≡ false
none_failed None h = refl
none_failed (Some f) h = absurd (h f refl)

-- if nothing is gathered, all went out
pub all_out : (first now : Option (List ℕ)) (text : List ℕ) → HoldsWhere false first now [] text → Appends first now text
all_out first now text (out, e, h) = subst (Appends first now) (sym (e ∙ append-nil out)) h

pub none_gathered : (first now : Option (List ℕ)) (text : List ℕ) → Appends first now text → HoldsWhere false first now [] text
none_gathered first now text h = (text, sym (append-nil text), h)

-- the same of what is empty
pub empty_out : (first now : Option (List ℕ)) (g : Gathered) (text : List ℕ) → IsEmpty g → Holds first now g text → Appends first now text
empty_out first now g text (none, well) h =
    all_out first now text (subst (λ f. HoldsWhere (is_some f) first now [] text) well (subst (λ t. HoldsWhere (is_some g.fault) first now t text) none h))

pub empty_holds : (first now : Option (List ℕ)) (g : Gathered) (text : List ℕ) → IsEmpty g → Appends first now text → Holds first now g text
empty_holds first now g text (none, well) h =
    subst (λ t. HoldsWhere (is_some g.fault) first now t text) (sym none) (subst (λ f. HoldsWhere (is_some f) first now [] text) (sym well) (none_gathered first now text h))

-- more text is gathered, also if a write has failed,
pub gathers_more : (failed : Bool) (first now : Option (List ℕ)) (gathered text more : List ℕ) → HoldsWhere failed first now gathered text →
    HoldsWhere failed first now (gathered ++ more) (text ++ more)
gathers_more false first now gathered text more (out, e, h) = (out, ap (λ x. x ++ more) e ∙ append_assoc out gathered more, h)
gathers_more true first now gathered text more h = front_more first now text more h

-- or more text is written at once.
pub written : (first now new : Option (List ℕ)) (text more : List ℕ) (r : Result (Unit {0}) WriteFault) → Writes now new more r → Appends first now text →
    Writes first new (text ++ more) r
written first now new text more (Ok u) w h = Appends-trans first now new text more h w
written first now new text more (Err x) w h = front_behind first now new text more (text ++ more) (λ i. text ++ more) h w

-- one text after another
pub puts_both : (old now new : Option (List ℕ)) (a b c : Gathered) (x y : List ℕ) → Puts old now a b x → Puts now new b c y → Puts old new a c (x ++ y)
puts_both old now new a b c x y h k = λ first text before.
    subst (Holds first new c) (append_assoc text x y) (k first (text ++ x) (h first text before))

-- no text
pub puts_none : (now : Option (List ℕ)) (g : Gathered) → Puts now now g g []
puts_none now g = λ first text before. subst (Holds first now g) (sym (append-nil text)) before

-- the text is written after what went out, or a prefix of it
pub written_where : (failed : Bool) (first now new : Option (List ℕ)) (text more : List ℕ) (r : Result (Unit {0}) WriteFault) → failed ≡ is_err r →
    Writes now new more r → Appends first now text → HoldsWhere failed first new [] (text ++ more)
written_where failed first now new text more (Ok u) is w h =
    subst (λ b. HoldsWhere b first new [] (text ++ more)) (sym is) (none_gathered first new (text ++ more) (written first now new text more (Ok u) w h))
written_where failed first now new text more (Err x) is w h =
    subst (λ b. HoldsWhere b first new [] (text ++ more)) (sym is) (written first now new text more (Err x) w h)

-- more text after that of which a prefix went out
pub held_failed : (first now : Option (List ℕ)) (g : Gathered) (text more : List ℕ) → is_some g.fault ≡ true → AppendsFront first now text → Holds first now g (text ++ more)
held_failed first now g text more failed h = subst (λ b. HoldsWhere b first now g.text.items (text ++ more)) (sym failed) (front_more first now text more h)
