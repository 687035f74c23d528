use Rattle.std.proofs.Common.{◌≡◌, ap, ◌∙◌, rules}
use Rattle.std.specs.Prelude.{filter}
use Rattle.std.proofs.lemmas.Fn.{filter_same}
use Rattle.storage_core.specs.Meaning.{state_of}
use Rattle.vsm_model.specs.Names.{NamedState}
use Rattle.explain_areas.specs.Rows.{is_seen}
use Rattle.explain_areas.proofs.listed.areas_listed.Goals as goal

pub returns : goal.returns
returns c = λ settings xs carried.
    let subpool = c.args.subpool in
    let kept : c.retain.new.self.items ≡ filter (is_seen (state_of c.storage-storage.result.now) subpool) c.in_ok-areas.areas.items =
    filter_same _ _ _ (λ x b f' k. search rules) _ _ c.retain.ensures.filtered in
    kept
    ∙ (λ i. filter (is_seen ((c.storage-storage.ensures.state ∙ ap (λ (k : NamedState). k.storage) carried.present) i) subpool) (c.in_ok-areas.ensures settings xs carried i))
