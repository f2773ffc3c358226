use Rattle.promises.proofs.PlanPromises.{texts_kept}
use Rattle.promises.proofs.plan_promises.texts_are_kept.Goals as goal

pub returns : goal.returns
returns c = texts_kept c.plan_texts_read_back.ensures.whole c.tables_read_back.ensures.read
    c.tables_read_back.ensures.only c.versions_agree.ensures
