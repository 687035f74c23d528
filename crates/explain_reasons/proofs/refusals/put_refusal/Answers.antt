use Rattle.std.proofs.Common.{refl, ap}
use Rattle.storage_core.specs.Meaning.{state_of}
use Rattle.explain_reasons.proofs.Endings.{some_of}
use Rattle.explain_reasons.specs.Pages.{pages_text}
use Rattle.explain_text.proofs.Alike.{alike}
use Rattle.explain_reasons.proofs.AreaLemmas.{some_of_one}
use Rattle.explain_reasons.proofs.Refused.{told_by}
use Rattle.explain_reasons.proofs.refusals.put_refusal.Goals as goal

pub returns-in-Release-clause-told : goal.returns-in-Release-clause-told
returns-in-Release-clause-told g c = told_by _ _ _ _ c.args.storage.now _ _ c.args.cause c.in-Release.is (_, refl, c.put_release.ensures)

pub returns-in-Release-clause-some : goal.returns-in-Release-clause-some
returns-in-Release-clause-some g c = some_of _ _ _ _ _ c.put_release.ensures

pub returns-in-Whole-clause-told : goal.returns-in-Whole-clause-told
returns-in-Whole-clause-told g c = told_by _ _ _ _ c.args.storage.now _ _ c.args.cause c.in-Whole.is (_, refl, c.put_whole.ensures)

pub returns-in-Whole-clause-some : goal.returns-in-Whole-clause-some
returns-in-Whole-clause-some g c = some_of _ _ _ _ _ c.put_whole.ensures

pub returns-in-Attach-clause-told : goal.returns-in-Attach-clause-told
returns-in-Attach-clause-told g c = told_by _ _ _ _ c.args.storage.now _ _ c.args.cause c.in-Attach.is (_, refl, c.put_attach.ensures)

pub returns-in-Attach-clause-some : goal.returns-in-Attach-clause-some
returns-in-Attach-clause-some g c = some_of _ _ _ _ _ c.put_attach.ensures

pub returns-in-Detach-clause-told : goal.returns-in-Detach-clause-told
returns-in-Detach-clause-told g c = told_by _ _ _ _ c.args.storage.now _ _ c.args.cause c.in-Detach.is (_, refl, c.put_detach.ensures)

pub returns-in-Detach-clause-some : goal.returns-in-Detach-clause-some
returns-in-Detach-clause-some g c = some_of _ _ _ _ _ c.put_detach.ensures

pub returns-in-EndTask-clause-told : goal.returns-in-EndTask-clause-told
returns-in-EndTask-clause-told g c = told_by _ _ _ _ c.args.storage.now _ _ c.args.cause c.in-EndTask.is (_, refl, c.put_end.ensures)

pub returns-in-EndTask-clause-some : goal.returns-in-EndTask-clause-some
returns-in-EndTask-clause-some g c = some_of _ _ _ _ _ c.put_end.ensures

pub returns-in-Run-clause-told : goal.returns-in-Run-clause-told
returns-in-Run-clause-told g c = told_by _ _ _ _ c.args.storage.now _ _ c.args.cause c.in-Run.is (_, refl, c.put_no_task.ensures)

pub returns-in-Run-clause-some : goal.returns-in-Run-clause-some
returns-in-Run-clause-some g c = some_of _ _ _ _ _ c.put_no_task.ensures

pub returns-in-Free-clause-told : goal.returns-in-Free-clause-told
returns-in-Free-clause-told g c = told_by _ _ _ _ c.args.storage.now _ _ c.args.cause c.in-Free.is (_, refl, c.put_freed.ensures)

pub returns-in-Free-clause-some : goal.returns-in-Free-clause-some
returns-in-Free-clause-some g c = some_of _ _ _ _ _ c.put_freed.ensures

pub returns-in-Delete-clause-told : goal.returns-in-Delete-clause-told
returns-in-Delete-clause-told g c = told_by _ _ _ _ c.args.storage.now _ _ c.args.cause c.in-Delete.is (_, refl, c.put_no_pool.ensures)

pub returns-in-Delete-clause-some : goal.returns-in-Delete-clause-some
returns-in-Delete-clause-some g c = some_of _ _ _ _ _ c.put_no_pool.ensures

pub returns-in-Build-clause-told : goal.returns-in-Build-clause-told
returns-in-Build-clause-told g c = told_by _ _ _ _ c.args.storage.now _ _ c.args.cause c.in-Build.is c.put_build.ensures

pub returns-in-Build-clause-some : goal.returns-in-Build-clause-some
returns-in-Build-clause-some g c = some_of_one _ _ _ _ _ c.put_build.ensures

pub returns-in-Get-clause-told : goal.returns-in-Get-clause-told
returns-in-Get-clause-told g c = told_by _ _ _ _ c.args.storage.now _ _ c.args.cause c.in-Get.is c.put_get.ensures

pub returns-in-Get-clause-some : goal.returns-in-Get-clause-some
returns-in-Get-clause-some g c = some_of_one _ _ _ _ _ c.put_get.ensures

pub returns-in-Store-clause-told : goal.returns-in-Store-clause-told
returns-in-Store-clause-told g c =
    told_by _ _ _ _ c.args.storage.now _ _ c.args.cause c.in-Store.is
    (_, refl, alike _ _ _ _ _ _ (ap (pages_text (state_of c.args.storage.now) c.in-Store.address) c.stored_count.ensures) c.put_pages.ensures)

pub returns-in-Store-clause-some : goal.returns-in-Store-clause-some
returns-in-Store-clause-some g c = some_of _ _ _ _ _ c.put_pages.ensures
