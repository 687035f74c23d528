-- Words of which one or two are others.
use Rattle.std.proofs.Common.{◌≡◌, ℕ, Bool, List, [], ◌∷◌, length, ◌==◌, ap, ◌∙◌, arith}
use Rattle.storage_changes.specs.declared.record.Record.TheVariants.{Area, Register, Obtain}
use Rattle.storage_changes.specs.Records.{word, subpool_in, run_in, register_in, obtain_in, record_of}
use Rattle.storage_changes.specs.InWords.{area_in, with_placed}

pub area_with_free : (words : List ℕ) (value : ℕ) (free : Bool) → (value == 1) ≡ free → length words ≡ 7 → word words 0 ≡ 0
    → record_of (with_placed words (record { place = 5; word = value })) ≡ Area (record (area_in words) { free = free })
unfolding record_of
area_with_free (a ∷ b ∷ c ∷ d ∷ e ∷ f ∷ g ∷ []) value free is s area =
    ap (λ (k : ℕ). record_of (k ∷ b ∷ c ∷ d ∷ e ∷ value ∷ g ∷ [])) area
    ∙ ap (λ (v : Bool). Area (record { subpool = subpool_in (a ∷ b ∷ c ∷ d ∷ e ∷ f ∷ g ∷ []); area = run_in (a ∷ b ∷ c ∷ d ∷ e ∷ f ∷ g ∷ []); free = v })) is
area_with_free words value free is s area = absurd (omega (arith, s))

pub register_with_word : (words : List ℕ) (value : ℕ) → length words ≡ 7 → word words 0 ≡ 5
    → record_of (with_placed words (record { place = 3; word = value })) ≡ Register (record (register_in words) { word = value })
unfolding record_of
register_with_word (a ∷ b ∷ c ∷ d ∷ e ∷ f ∷ g ∷ []) value s register = ap (λ (k : ℕ). record_of (k ∷ b ∷ c ∷ value ∷ e ∷ f ∷ g ∷ [])) register
register_with_word words value s register = absurd (omega (arith, s))

pub obtain_with_both : (words : List ℕ) (value new : ℕ) (free : Bool) → (value == 1) ≡ free → length words ≡ 7 → word words 0 ≡ 15
    → record_of (with_placed (with_placed words (record { place = 5; word = value })) (record { place = 6; word = new }))
    ≡ Obtain (record { area = record (obtain_in words).area { free = free }; register = record (obtain_in words).register { word = new } })
unfolding record_of
obtain_with_both (a ∷ b ∷ c ∷ d ∷ e ∷ f ∷ g ∷ []) value new free is s obtain =
    let old = obtain_in (a ∷ b ∷ c ∷ d ∷ e ∷ f ∷ g ∷ []) in
    ap (λ (k : ℕ). record_of (k ∷ b ∷ c ∷ d ∷ e ∷ value ∷ new ∷ [])) obtain
    ∙ ap (λ (v : Bool). Obtain (record { area = record old.area { free = v }; register = record old.register { word = new } })) is
obtain_with_both words value new free is s obtain = absurd (omega (arith, s))
