-- What a writer holds, with text that is gathered before it goes out.
use Rattle.std.specs.Prelude.{◌≡◌, ℕ, Bool, true, false, List, [], ◌++◌, Option, None, is_some, Result}
use Rattle.std.specs.Prelude.{Ok, Err}
use Rattle.std.specs.Io.KnownBytes.{Appends}
use Rattle.text_output.specs.declared.writing.Gathered.{Gathered}

-- known bytes grow by a prefix of the text
abbrev pub AppendsFront : Option (List ℕ) → Option (List ℕ) → List ℕ → Type 0
AppendsFront old new text = (front behind : List ℕ) × (text ≡ front ++ behind) × Appends old new front

-- Known bytes grow by the text; or by a prefix of it, if a write failed.
abbrev pub Writes : {E : Type 0} → Option (List ℕ) → Option (List ℕ) → List ℕ → Result (Unit {0}) E → Type 0
Writes old new text (Ok u) = Appends old new text
Writes old new text (Err e) = AppendsFront old new text

-- Of the text everything except what is gathered went out; or a prefix of it, if a write has failed.
abbrev pub HoldsWhere : Bool → Option (List ℕ) → Option (List ℕ) → List ℕ → List ℕ → Type 0
HoldsWhere false at_first now gathered text = (out : List ℕ) × (text ≡ out ++ gathered) × Appends at_first now out
HoldsWhere true at_first now gathered text = AppendsFront at_first now text

abbrev pub Holds : Option (List ℕ) → Option (List ℕ) → Gathered → List ℕ → Type 0
Holds at_first now g text = HoldsWhere (is_some g.fault) at_first now g.text.items text

-- More text follows all text before it.
abbrev pub Puts : Option (List ℕ) → Option (List ℕ) → Gathered → Gathered → List ℕ → Type 0
Puts old new before after more =
    (at_first : Option (List ℕ)) (text : List ℕ) → Holds at_first old before text
    → Holds at_first new after (text ++ more)

-- Nothing is gathered, and no write has failed.
abbrev pub IsEmpty : Gathered → Type 0
IsEmpty g = (g.text.items ≡ []) × (g.fault ≡ None)
