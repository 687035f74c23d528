use Rattle.explain_check.proofs.found_texts.put_part.Goals as goal

pub returns-in-OfArea : goal.returns-in-OfArea
returns-in-OfArea g c = rw c.in-OfArea.is c.put_number.ensures

pub returns-in-OfSeveral : goal.returns-in-OfSeveral
returns-in-OfSeveral g c = rw c.in-OfSeveral.is c.put.ensures.puts
