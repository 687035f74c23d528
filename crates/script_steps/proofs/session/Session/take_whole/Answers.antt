use Rattle.std.proofs.Common.{◌≡◌, ◌+◌, ◌∙◌, ◌++◌, [], map, ap, sym, subst, refl, arith}
use Rattle.script_steps.specs.Script.{columns, Within}
use Rattle.script_steps.specs.Taken.{answers_of}
use Rattle.script_steps.proofs.Columns.{columns_short}
use Rattle.script_steps.proofs.Takes.{within_more, within_feed}
use Rattle.script_steps.proofs.WholeLines.{took_line, none_taken, none_kept}
use Rattle.script_steps.proofs.session.Session.take_whole.Goals as goal

pub returns : goal.returns
returns c = λ settings given answers h.
    let line = c.args.line.now in
    let none : h.rest ≡ [] = none_taken h.rest (sym h.long ∙ c.requires.between) in
    let more : Within (given ++ line) h.lines (h.rest ++ line) =
    within_more given h.lines h.rest line h.within c.requires.plain (omega (arith, h.count, c.requires.fewer)) (omega (arith, h.long, c.requires.between, c.requires.short)) in
    let taken : Within (given ++ line) h.lines line = subst (λ rest. Within (given ++ line) h.lines (rest ++ line)) none more in
    let made = c.take_columns-told.ensures.tells (map columns h.lines) (answers_of answers) h.told in
    let t = took_line settings given _ line c.strip.result.now answers made.0 c.args.self.now _ c.take_columns-told.result h
    (within_feed (given ++ line) h.lines line taken (omega (arith, h.count, c.requires.fewer))) (c.strip.ensures ∙ sym (columns_short line c.requires.short))
    made.1 made.2 c.take_columns-told.ensures.settings
    (record {
      lines = refl;
      length = c.requires.between;
      kept = h.kept ∙ none_kept h.rest none;
      statements = ap (λ n. c.args.self.now.statements + n) c.told_count.ensures.count;
      refused = ap (λ n. c.args.self.now.refused + n) c.told_refused.ensures.count;
    }) in
    (t.more, t.text, t.brings, t.took, t.shows)
