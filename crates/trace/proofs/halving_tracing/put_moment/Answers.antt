use Rattle.std.proofs.Common.{List, refl, sym, ap, ◌∙◌, subst}
use Rattle.std.specs.Prelude.{slice_index_or}
use Rattle.std.proofs.lemmas.List.{with_items_is}
use Rattle.edge_io.proofs.Writing.{writes_at, writes_is, writes_none}
use Rattle.sync_types.specs.States.{State}
use Rattle.machine_runner.specs.Hearing.{HasRoom}
use Rattle.machine_runner.specs.Runners.{Running, states_of}
use Rattle.halving_plan.specs.Laws.{machine_in}
use Rattle.halving_plan.specs.Plans.{HalvingNumbers}
use Rattle.trace.specs.HalvingDesks.{IsDeskFor}
use Rattle.trace.specs.HalvingNodeTexts.{node_text}
use Rattle.trace.proofs.halving_tracing.put_moment.Goals as goal

pub loop-i-init : goal.loop-i-init
loop-i-init g c =
    let fit = c.requires.desk in
    let items = with_items_is c.args.desk.now.config c.lay_states.new.config
    (c.lay_states.auto.config ∙ c.deref_mut.ensures.len) in
    record {
      wrote = writes_none;
      same = refl;
      desk = record {
        config = subst (λ (xs : List State). HasRoom c.args.runner.now.script xs) (sym items)
            c.lay_states.ensures.room;
        heard = fit.heard;
      };
      laid = items ∙ c.lay_states.ensures.states;
    }

pub loop-i-preserved : goal.loop-i-preserved
loop-i-preserved g c =
    let r = c.args.runner.now in
    let nodes = c.args.nodes.now in
    let i = c.loop-i.i in
    let inv = c.loop-i.invariant in
    record {
      wrote = writes_at (node_text r.machine r.script r.at (states_of machine_in r)) nodes i 0
          c.loop-i-test.true inv.wrote
          (writes_is (ap (λ (r : Running HalvingNumbers). node_text r.machine r.script r.at
          (states_of machine_in r)
          (slice_index_or nodes i 0)) inv.same) c.put_node_lines.ensures.lines);
      same = c.put_node_lines.ensures.same ∙ inv.same;
      desk = subst (λ (r : Running HalvingNumbers). IsDeskFor r.script c.put_node_lines.new.desk)
          inv.same
          c.put_node_lines.ensures.desk;
      laid = c.put_node_lines.ensures.laid ∙ inv.laid;
    }
