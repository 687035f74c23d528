use Rattle.std.proofs.Common.{◌∷◌, ap, ◌∙◌}
use Rattle.cell_pool.proofs.lists.put_texts.Goals as goal

pub returns-clause-items : goal.returns-clause-items
returns-clause-items c =
    let name = c.args.name in
    c.insert-5.ensures.items ∙ ap (λ xs. name.first ∷ xs) (
    c.insert-4.ensures.items ∙ ap (λ xs. name.second ∷ xs) (
    c.insert-3.ensures.items ∙ ap (λ xs. name.third ∷ xs) (
    c.insert-2.ensures.items ∙ ap (λ xs. c.args.form.header ∷ xs) c.insert.ensures.items)))
