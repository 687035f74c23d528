use Rattle.storage_plans.proofs.Obtained.{fresh_pushed}
use Rattle.storage_plans.proofs.obtain.push_fresh.Goals as goal

pub returns-clause-records : goal.returns-clause-records
returns-clause-records c =
    fresh_pushed c.args.subpool c.args.page c.args.count c.pages_from-run.result c.args.records.now.items c.push.new.self.items c.push-2.new.self.items c.push_area.new.records.items
    c.pages_from-run.ensures c.push.ensures.items c.push-2.ensures.items c.push_area.ensures.records
