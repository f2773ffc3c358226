use Rattle.std.proofs.Common.{◌∙◌, refl}
use Rattle.std.proofs.lemmas.Result.{err_from_is_err_and}
use Rattle.node_words.specs.HeaderParts.{read_by}
use Rattle.node_words.proofs.Chained.{first_failed, plan_whole, ends_first, halts_between}
use Rattle.node_words.proofs.Chained.{node_unread, node_whole, node_fits, second_failed}
use Rattle.node_words.proofs.Chained.{whole_second}
use Rattle.node_words.proofs.headers.read_header_by.Goals as goal

-- the plan is not read
pub returns-in-Err-clause-header : goal.returns-in-Err-clause-header
returns-in-Err-clause-header g c =
    let plans = read_by g.R.LineReader.step c.args.reader c.args.form g.R.PlanReader.shape in
    rw c.plan_failed.ensures
    (first_failed plans _ _ _ _ _ refl c.requires _ c.in-Err.ensures.fed)

-- the input ends with the plan
pub returns-then-part-clause-header : goal.returns-then-part-clause-header
returns-then-part-clause-header g c =
    let plans = read_by g.R.LineReader.step c.args.reader c.args.form g.R.PlanReader.shape in
    let w = plan_whole plans _ _ _ _ _ refl c.requires _ c.in-Ok.ensures.fed in
    ends_first plans _ _ _ _ w (w.ends ∙ c.if-part.true)

-- memory runs out between plan and node
pub returns-in_err-shape-clause-header : goal.returns-in_err-shape-clause-header
returns-in_err-shape-clause-header g c =
    let plans = read_by g.R.LineReader.step c.args.reader c.args.form g.R.PlanReader.shape in
    let p = err_from_is_err_and c.from_residual.result c.from_residual.ensures.1 in
    let w = plan_whole plans _ _ _ _ _ refl c.requires _ c.in-Ok.ensures.fed in
    rw (p.1, p.2) (halts_between plans _ _ _ _ w)

-- the node is not read
pub returns-in-Err-feed_part-clause-header : goal.returns-in-Err-feed_part-clause-header
returns-in-Err-feed_part-clause-header g c =
    let plans = read_by g.R.LineReader.step c.args.reader c.args.form g.R.PlanReader.shape in
    let w = plan_whole plans _ _ _ _ _ refl c.requires _ c.in-Ok.ensures.fed in
    let d = node_unread plans _ _ _ _ _ c.in-Ok.part.value _ _ c.in_ok-shape.ensures
    c.new-node_lines.ensures _ c.in-Err-feed_part.ensures.fed in
    rw c.node_failed.ensures (second_failed plans _ _ _ _ w _ _ (w.ends ∙ c.if-part.false) _ d)

-- the header is read
pub returns-clause-header : goal.returns-clause-header
returns-clause-header g c =
    let plans = read_by g.R.LineReader.step c.args.reader c.args.form g.R.PlanReader.shape in
    let w = plan_whole plans _ _ _ _ _ refl c.requires _ c.in-Ok.ensures.fed in
    let d = node_whole plans _ _ _ _ _ c.in-Ok.part.value _ _ c.in_ok-shape.ensures
    c.new-node_lines.ensures _ c.in-Ok-feed_part.ensures.fed in
    whole_second plans _ _ _ _ w _ _ (w.ends ∙ c.if-part.false) _ d _

pub returns-clause-fits : goal.returns-clause-fits
returns-clause-fits g c =
    let plans = read_by g.R.LineReader.step c.args.reader c.args.form g.R.PlanReader.shape in
    node_fits plans _ _ _ _ _ c.in-Ok.part.value _ _ c.in_ok-shape.ensures c.new-node_lines.ensures
    c.facts.ensures _ c.in-Ok-feed_part.ensures.fed
