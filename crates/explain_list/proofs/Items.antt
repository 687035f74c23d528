-- Listings that grow by pages.
use Rattle.std.proofs.Common.{◌≡◌, ℕ, List, [], ◌∷◌, ◌++◌, if◌then◌else◌, Option, Some, None, refl, sym, ap, ◌∙◌, subst, append_assoc}
use Rattle.std.proofs.lemmas.Grind.{flat_map-append}
use Rattle.std.proofs.lemmas.List.{append-nil}
use Rattle.std.specs.List.{flat_map}
use Rattle.macro_statements.specs.Requests.{Act}
use Rattle.vsm_model.specs.declared.limits.Settings.{Settings}
use Rattle.vsm_model.specs.declared.replies.Reply.{Reply}
use Rattle.vsm_model.specs.Standing.{Standing, nothing_stands}
use Rattle.script_steps.specs.Output.{Marked, stands_all}
use Rattle.script_steps.proofs.Feeds.{each_append}
use Rattle.text_output.specs.Writing.{Holds, Puts}
use Rattle.text_output.specs.declared.writing.Gathered.{Gathered}
use Rattle.explain_faults.specs.declared.lines.SourceLine.{SourceLine}
use Rattle.macro_reader.specs.Roles.{Role}
use Rattle.explain_list.specs.Groups.{roles_in}
use Rattle.explain_list.specs.Listing.{ArePagesBy, IsPageBy, AreNoted, IsNoted, Item, paged, answers_in, head_in, is_written, item_text, items_text, lines_in, listing_text, stands_past, HoldsListing, IsItemOf, PutsFilePage}
use Rattle.explain_list.specs.Answers.{Notes}
use Rattle.explain_list.specs.Pages.{one_of}
use Rattle.explain_list.specs.Rows.{Row, lines_of, row_in}
use Rattle.explain_list.specs.declared.layouts.Layout.{Layout}

-- the answers among items, some after others
answers_push : (xs ys : List Item) → answers_in (xs ++ ys) ≡ answers_in xs ++ answers_in ys
answers_push [] ys = refl
answers_push (paged rows m last notes ∷ xs) ys =
    ap (λ t. one_of m ++ t) (answers_push xs ys) ∙ sym (append_assoc (one_of m) (answers_in xs) (answers_in ys))

-- and the lines
lines_push : (xs ys : List Item) → lines_in (xs ++ ys) ≡ lines_in xs ++ lines_in ys
lines_push [] ys = refl
lines_push (paged rows m last notes ∷ xs) ys =
    ap (λ t. lines_of rows ++ t) (lines_push xs ys) ∙ sym (append_assoc (lines_of rows) (lines_in xs) (lines_in ys))

-- pages and their roles, and another page
pages_push : (groups : List (List Role)) (items : List Item) (roles : List Role) (item : Item) → ArePagesBy groups items → IsPageBy roles item
    → ArePagesBy (groups ++ roles ∷ []) (items ++ item ∷ [])
pages_push [] [] roles item h by = (by, tt)
pages_push (g ∷ groups) (x ∷ items) roles item h by = (h.0, pages_push groups items roles item h.1 by)
pages_push [] (x ∷ items) roles item h by = absurd h
pages_push (g ∷ groups) [] roles item h by = absurd h

module _ (layout : Layout) (settings : Settings) (script : List ℕ) where
  stands_one : (l : Standing Act Reply) (m : Option Marked) (ms : List Marked)
      → stands_all settings l (one_of m ++ ms) ≡ stands_all settings (stands_past settings l m) ms
  stands_one l None ms = refl
  stands_one l (Some m) ms = refl

  -- the text of items, some after others
  text_push : (l : Standing Act Reply) (xs ys : List Item)
      → items_text settings layout script l (xs ++ ys) ≡ items_text settings layout script l xs ++ items_text settings layout script (stands_all settings l (answers_in xs)) ys
  text_push l [] ys = refl
  text_push l (paged rows m last notes ∷ xs) ys =
      let its = item_text settings layout script l (paged rows m last notes) in
      let next = stands_past settings l m in
      let more = items_text settings layout script next xs in
      ap (λ t. its ++ t) (text_push next xs ys) ∙ sym (append_assoc its more (items_text settings layout script (stands_all settings next (answers_in xs)) ys))
      ∙ ap (λ k. (its ++ more) ++ items_text settings layout script k ys) (sym (stands_one l m (answers_in xs)))

  one_text : (l : Standing Act Reply) (rows : List Row) (m : Option Marked) (last : SourceLine) (notes : Notes)
      → items_text settings layout script l (paged rows m last notes ∷ []) ≡ item_text settings layout script l (paged rows m last notes)
  one_text l rows m last notes = append-nil (item_text settings layout script l (paged rows m last notes))

  -- what pages say of their statements, some after others
  noted_push : (l : Standing Act Reply) (xs ys : List Item) → AreNoted settings layout.form l xs
      → AreNoted settings layout.form (stands_all settings l (answers_in xs)) ys → AreNoted settings layout.form l (xs ++ ys)
  noted_push l [] ys h k = k
  noted_push l (paged rows m last notes ∷ xs) ys h k = (
    h.0,
    noted_push (stands_past settings l m) xs ys h.1 (subst (λ s. AreNoted settings layout.form s ys) (stands_one l m (answers_in xs)) k),
  )

  -- a listing with another page
  pub holds_item : (first old now : Option (List ℕ)) (before after : Gathered) (answers : List Marked) (lines : List SourceLine) (rows : List Row) (m : Option Marked) (last : SourceLine)
      (notes : Notes) (roles : List Role) → IsPageBy roles (paged rows m last notes) → roles_in script (lines ++ lines_of rows) ≡ roles_in script lines ++ roles
      → IsItemOf script (paged rows m last notes)
      → IsNoted settings layout.form (stands_all settings nothing_stands answers) m notes
      → Puts old now before after (item_text settings layout script (stands_all settings nothing_stands answers) (paged rows m last notes))
      → HoldsListing layout settings script first old before answers lines
      → HoldsListing layout settings script first now after (answers ++ one_of m) (lines ++ lines_of rows)
  holds_item first old now before after answers lines rows m last notes roles by split is noted p (xs, (same, has, each, all_noted, grouped), h) =
      let head = head_in layout.form in
      let text = items_text settings layout script nothing_stands xs in
      let its = λ (ms : List Marked). item_text settings layout script (stands_all settings nothing_stands ms) (paged rows m last notes) in
      let all : items_text settings layout script nothing_stands (xs ++ paged rows m last notes ∷ []) ≡ text ++ its answers =
      text_push nothing_stands xs (paged rows m last notes ∷ [])
      ∙ ap (λ t. text ++ t) (one_text (stands_all settings nothing_stands (answers_in xs)) rows m last notes ∙ ap its same) in (
        xs ++ paged rows m last notes ∷ [],
        (
          answers_push xs (paged rows m last notes ∷ []) ∙ (λ i. same i ++ append-nil (one_of m) i),
          lines_push xs (paged rows m last notes ∷ []) ∙ (λ i. has i ++ append-nil (lines_of rows) i),
          each_append (IsItemOf script) xs (paged rows m last notes ∷ []) each (is, tt),
          noted_push nothing_stands xs (paged rows m last notes ∷ []) all_noted
              (subst (λ ms. IsNoted settings layout.form (stands_all settings nothing_stands ms) m notes) (sym same) noted, tt),
          (
            grouped.0 ++ roles ∷ [],
            flat_map-append (λ g. g) grouped.0 (roles ∷ []) ∙ (λ i. grouped.1 i ++ append-nil roles i) ∙ sym split,
            pages_push grouped.0 xs roles (paged rows m last notes) grouped.2 by,
          ),
        ),
        subst (Holds first now after) (append_assoc head text (its answers) ∙ ap (λ t. head ++ t) (sym all))
            (p first (listing_text layout settings script xs) h),
      )

  -- a listing that has only begun
  pub holds_head : (first old now : Option (List ℕ)) (before after : Gathered) → Puts old now before after (head_in layout.form) → Holds first old before []
      → HoldsListing layout settings script first now after [] []
  holds_head first old now before after p h =
      ([], (refl, refl, tt, tt, ([], refl, tt)), subst (Holds first now after) (sym (append-nil (head_in layout.form))) (p first [] h))

  -- and its first page, without an answer
  pub holds_file : (first old now : Option (List ℕ)) (before after : Gathered) → PutsFilePage layout script old now before after
      → HoldsListing layout settings script first old before [] [] → HoldsListing layout settings script first now after [] []
  holds_file first old now before after (rows, are, have, lost, p) h =
      let l = stands_all settings nothing_stands [] in
      let text = flat_map (row_in layout.form script) rows in
      let none : SourceLine = record { number = 0; start = 0; end = 0 } in
      let notes : Notes = record { cause = []; name = []; pool = [] } in
      let same : (if is_written layout None then text else []) ≡ item_text settings layout script l (paged rows None none notes) =
      sym (ap (λ (t : List ℕ). if is_written layout None then t else []) (append-nil text)) in
      subst (λ ls. HoldsListing layout settings script first now after [] ls) have
      (holds_item first old now before after [] [] rows None none notes [] (tt, lost) (subst (λ ls. roles_in script ls ≡ []) (sym have) refl) are tt (subst (Puts old now before after) same p) h)
