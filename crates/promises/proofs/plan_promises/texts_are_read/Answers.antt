use Rattle.promises.proofs.PlanPromises.{texts_read}
use Rattle.promises.proofs.plan_promises.texts_are_read.Goals as goal

pub returns : goal.returns
returns c = texts_read c.plan_texts_read_back.ensures.part c.plan_texts_read_back.ensures.whole
    c.tables_read_back.ensures.read c.want_texts_read_back.ensures
    c.slot_texts_read_back.ensures.plan
    c.agree_texts_read_back.ensures c.request_texts_read_back.ensures
    c.log_texts_read_back.ensures c.header_texts_read_back.ensures
    c.script_texts_read_back.ensures.whole c.read_scripts_have_texts.ensures
    c.demo_is_answered.ensures.accepted c.demo_is_answered.ensures.liars
    c.skipped_lines_are_unseen.ensures c.worked_answers.ensures
