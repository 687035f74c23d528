use Rattle.std.proofs.Common.{[], sym}
use Rattle.storage_core.specs.Meaning.{state_of}
use Rattle.explain_reasons.specs.Pages.{pages_text}
use Rattle.text_output.proofs.Gathering.{puts_none}
use Rattle.explain_list.proofs.CauseTexts.{none_is_some, same_word}
use Rattle.explain_list.proofs.causes.put_reading_cause.Goals as goal

pub returns-in-Some : goal.returns-in-Some
returns-in-Some g c = (
  pages_text (state_of c.storage.result.now) c.in-Some.word c.args.count,
  λ word is. (λ i. pages_text (c.storage.ensures.state i) (same_word _ c.in-Some.word word (sym c.in-Some.ensures) is i) c.args.count),
  c.put_pages.ensures,
)

pub returns-in_default : goal.returns-in_default
returns-in_default g c = ([], λ word is. absurd (none_is_some _ word (sym c.in_default.ensures) is), puts_none _ _)
