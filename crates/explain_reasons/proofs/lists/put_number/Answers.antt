use Rattle.std.proofs.Common.{ℕ, ◌++◌, [], ◌∷◌, ◌==◌, List, length, sym, ap, ◌∙◌}
use Rattle.std.proofs.lemmas.Bool.{cond-false, cond-true}
use Rattle.std.proofs.lemmas.List.{append-nil}
use Rattle.std.specs.Prelude.{codes, decimal}
use Rattle.storage_core.specs.Meaning.{state_of}
use Rattle.text_output.proofs.Gathering.{puts_both}
use Rattle.explain_text.specs.Pieces.{line}
use Rattle.explain_reasons.specs.SightTexts.{seen_text}
use Rattle.explain_text.proofs.Alike.{alike}
use Rattle.explain_reasons.proofs.lists.put_number.Goals as goal

pub returns-then-is_empty : goal.returns-then-is_empty
returns-then-is_empty g c =
    let s = state_of c.args.storage.now in
    let first = line (c.args.named.now.word.now ∷ codes ": " ∷ decimal c.args.named.now.number ∷ c.args.named.now.wrong.now ∷ c.args.named.now.note.now ∷ []) in
    let seen = seen_text s c.args.named.now.number [] in
    let none = sym c.is_empty.ensures ∙ c.if-is_empty.true in
    alike _ _ _ _ _ _ (ap (λ (z : List ℕ). first ++ z) (sym (cond-true (length c.args.named.now.wrong.now == 0) seen [] none)))
    (puts_both (g.W.Write.contents c.args.writer.now) (g.W.Write.contents c.put_line.new.writer) (g.W.Write.contents c.put_seen.new.writer)
    c.args.gathered.now c.put_line.new.gathered c.put_seen.new.gathered first seen c.put_line.ensures.text c.put_seen.ensures)

pub returns-else-is_empty : goal.returns-else-is_empty
returns-else-is_empty g c =
    let s = state_of c.args.storage.now in
    let first = line (c.args.named.now.word.now ∷ codes ": " ∷ decimal c.args.named.now.number ∷ c.args.named.now.wrong.now ∷ c.args.named.now.note.now ∷ []) in
    let seen = seen_text s c.args.named.now.number [] in
    let some = sym c.is_empty.ensures ∙ c.if-is_empty.false in
    alike _ _ _ _ _ _ (sym (append-nil first) ∙ ap (λ (z : List ℕ). first ++ z) (sym (cond-false (length c.args.named.now.wrong.now == 0) seen [] some)))
    c.put_line.ensures.text
