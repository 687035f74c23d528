use Rattle.std.proofs.Common.{◌<◌, length, refl, subst}
use Rattle.explain_faults.specs.Places.{first_card, further_cards, HasFault, IsCaretOf, IsHeadPlace}
use Rattle.explain_list.proofs.Marked.{lacks_of}
use Rattle.explain_list.proofs.pages.place_of.Goals as goal

pub returns-in-Some-clause-own : goal.returns-in-Some-clause-own
returns-in-Some-clause-own c =
    let own = rw c.in-Some.is at c.own_caret.ensures.own in
    (refl, subst (λ lines. IsCaretOf (first_card c.args.script.now lines) (further_cards c.args.script.now lines) c.args.kind c.in-Some.caret) c.as_slice.ensures.value own)

pub returns-in-Some-clause-head : goal.returns-in-Some-clause-head
returns-in-Some-clause-head c =
    let head = rw c.in-Some.is at c.own_caret.ensures.head in
    subst (λ lines. IsHeadPlace (first_card c.args.script.now lines) c.args.kind c.in-Some.caret.place) c.as_slice.ensures.value head

pub returns-in-Some-clause-on : goal.returns-in-Some-clause-on
returns-in-Some-clause-on c =
    let on = rw c.in-Some.is at c.own_caret.ensures.on in
    subst (λ lines. 0 < length lines → c.in-Some.caret.place.line < length lines) c.as_slice.ensures.value on

pub returns-in-Some-clause-lacks : goal.returns-in-Some-clause-lacks
returns-in-Some-clause-lacks c = λ none. cc

pub returns-in-None-clause-own : goal.returns-in-None-clause-own
returns-in-None-clause-own c = tt

pub returns-in-None-clause-head : goal.returns-in-None-clause-head
returns-in-None-clause-head c = tt

pub returns-in-None-clause-on : goal.returns-in-None-clause-on
returns-in-None-clause-on c = tt

pub returns-in-None-clause-lacks : goal.returns-in-None-clause-lacks
returns-in-None-clause-lacks c = λ none.
    lacks_of c.args.script.now c.args.lines.now.lines.items c.args.kind
    (subst (λ lines. HasFault (first_card c.args.script.now lines) (further_cards c.args.script.now lines) c.args.kind → ⊥) c.as_slice.ensures.value
    (c.own_caret.ensures.none c.in-None.is))
