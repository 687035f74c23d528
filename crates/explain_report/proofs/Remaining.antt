-- A text that is put piece by piece: what was put so far, and what remains.
use Rattle.std.proofs.Common.{◌≡◌, ℕ, suc, ◌+◌, ◌<◌, ◌≤◌, List, [], ◌∷◌, ◌++◌, length, drop, get_or, flat_map, Option, sym, ap, ◌∙◌, subst, append_assoc, arith, refl}
use Rattle.std.proofs.lemmas.List.{append-nil, drop_all}
use Rattle.std.proofs.Math.Seq.{drop-cons}
use Rattle.explain_text.specs.declared.json.Form.{Form}
use Rattle.text_output.specs.Writing.{Puts}
use Rattle.text_output.specs.declared.writing.Gathered.{Gathered}
use Rattle.text_output.proofs.Gathering.{puts_both, puts_none}
use Rattle.storage_core.specs.declared.storage.Storage.{Storage}
use Rattle.storage_changes.specs.MapLists.{SharersAreShown}
use Rattle.subpool_set.specs.Pools as pools
use Rattle.subpool_set.specs.declared.sharers.SharerPlace.{SharerPlace}
use Rattle.storage_core.specs.Walks.{sharers_left}
use Rattle.storage_core.specs.Meaning.{settings_of, state_in_place, state_of}
use Rattle.vsm_model.specs.Map.{sharers}
use Rattle.vsm_model.specs.declared.Subpool.{Subpool}
use Rattle.explain_report.specs.Figures.{IsRowOf}
use Rattle.explain_report.specs.Tables.{AreRowsOf}
use Rattle.explain_report.specs.Forms.{row_in}
use Rattle.explain_report.specs.declared.rows.SubpoolRow.{SubpoolRow}

-- of the whole text a front was put, and the rest remains
abbrev pub Remains : (old now : Option (List ℕ)) (before after : Gathered) (whole rest : List ℕ) → Type 0
Remains old now before after whole rest = (front : List ℕ) × (whole ≡ front ++ rest) × Puts old now before after front

-- at first all of it remains
pub remains_all : (now : Option (List ℕ)) (g : Gathered) (whole rest : List ℕ) → whole ≡ rest → Remains now now g g whole rest
remains_all now g whole rest e = ([], e, puts_none now g)

-- what is put no longer remains
pub remains_less : (old now new : Option (List ℕ)) (a b c : Gathered) (whole rest more behind : List ℕ) → Remains old now a b whole rest → rest ≡ more ++ behind
    → Puts now new b c more → Remains old new a c whole behind
remains_less old now new a b c whole rest more behind (front, e, h) is k = (
  front ++ more,
  e ∙ ap (λ (x : List ℕ). front ++ x) is ∙ sym (append_assoc front more behind),
  puts_both old now new a b c front more h k,
)

-- and where nothing remains all of it was put
pub all_put : (old now : Option (List ℕ)) (a b : Gathered) (whole rest : List ℕ) → Remains old now a b whole rest → rest ≡ [] → Puts old now a b whole
all_put old now a b whole rest (front, e, h) none = subst (Puts old now a b) (sym (e ∙ ap (λ (x : List ℕ). front ++ x) none ∙ append-nil front)) h

pub shorter : {A : Type 0} (xs ys : List A) (x : A) → xs ≡ x ∷ ys → length ys < length xs
shorter xs ys x e = (let k = ap length e in omega (arith, k))

-- Lines of subpools were put, and those of these remain.
pub record RowsRemain (form : Form) (s : Storage) (old now : Option (List ℕ)) (before after : Gathered) (all rest : List Subpool) : Type 0 where
  pub front : List ℕ
  pub puts : Puts old now before after front
  pub whole : (more : List ℕ) → AreRowsOf (settings_of s) form (state_of s) rest more → AreRowsOf (settings_of s) form (state_of s) all (front ++ more)

pub rows_remain : (form : Form) (s : Storage) (now : Option (List ℕ)) (g : Gathered) (all rest : List Subpool) → rest ≡ all → RowsRemain form s now now g g all rest
rows_remain form s now g all rest e = record { front = []; puts = puts_none now g; whole = λ more h. subst (λ ps. AreRowsOf (settings_of s) form (state_of s) ps more) e h }

pub rows_less : (form : Form) (s : Storage) (old now new : Option (List ℕ)) (a b c : Gathered) (all rest behind : List Subpool) (p : Subpool) → RowsRemain form s old now a b all rest
    → rest ≡ p ∷ behind → ((row : SubpoolRow) × IsRowOf (settings_of s) (state_of s) p row × Puts now new b c (row_in form row (sharers (state_of s) p.number p.owner)))
    → RowsRemain form s old new a c all behind
rows_less form s old now new a b c all rest behind p h e (row, is, puts) =
    let text = row_in form row (sharers (state_of s) p.number p.owner) in
    record {
      front = h.front ++ text;
      puts = puts_both old now new a b c h.front text h.puts puts;
      whole = λ more rows. subst (AreRowsOf (settings_of s) form (state_of s) all) (sym (append_assoc h.front text more))
          (h.whole (text ++ more) (subst (λ ps. AreRowsOf (settings_of s) form (state_of s) ps (text ++ more)) (sym e) (row, more, is, refl, rows)));
    }

pub rows_all : (form : Form) (s : Storage) (old now : Option (List ℕ)) (a b : Gathered) (all rest : List Subpool) → RowsRemain form s old now a b all rest → rest ≡ []
    → (text : List ℕ) × AreRowsOf (settings_of s) form (state_of s) all text × Puts old now a b text
rows_all form s old now a b all rest h none =
    (h.front, subst (AreRowsOf (settings_of s) form (state_of s) all) (append-nil h.front) (h.whole [] (subst (λ ps. AreRowsOf (settings_of s) form (state_of s) ps []) (sym none) refl)), h.puts)

-- the sharers of the plain machine are those from the first place on
pub sharers_begin : SharersAreShown → (s : Storage) (front : SharerPlace) (p : Subpool)
    → sharers_left s front p ≡ pools.sharers (state_in_place s).subpools.sight p.number p.owner
    → sharers (state_of s) p.number p.owner ≡ sharers_left s front p
sharers_begin shown s front p all = shown (state_in_place s) p.number p.owner ∙ sym all

-- the text of the items from an index on begins with that of the first of them
pub next_text : {A : Type 0} (f : A → List ℕ) (xs : List A) (i : ℕ) (d : A) → i < length xs → flat_map f (drop i xs) ≡ f (get_or xs i d) ++ flat_map f (drop (i + 1) xs)
next_text {A} f xs i d h =
    let same : suc i ≡ i + 1 = omega arith in
    ap (flat_map f) (drop-cons xs i d h ∙ ap (λ (k : ℕ). get_or xs i d ∷ drop k xs) same)

pub none_left : {A : Type 0} (f : A → List ℕ) (xs : List A) (i : ℕ) → length xs ≤ i → flat_map f (drop i xs) ≡ []
none_left f xs i h = ap (flat_map f) (drop_all i xs h)
