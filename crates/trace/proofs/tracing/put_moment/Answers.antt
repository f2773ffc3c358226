use Rattle.std.proofs.Common.{◌≡◌, List, All, length, refl, sym, ap, ◌∙◌, subst}
use Rattle.std.specs.Prelude.{slice_index_or}
use Rattle.std.proofs.lemmas.List.{with_items_is}
use Rattle.edge_io.proofs.Writing.{writes_at, writes_is, writes_none}
use Rattle.sync_types.specs.States.{State}
use Rattle.round_runner.specs.Runners.{Running}
use Rattle.trace.specs.Desks.{IsFitFor}
use Rattle.trace.specs.NodeTexts.{node_text}
use Rattle.trace.proofs.tracing.put_moment.Goals as goal

pub loop-i-init : goal.loop-i-init
loop-i-init g c =
    let fit = c.requires.desk in
    let depth = c.args.runner.now.script.shape.depth in
    let HasDepth : State → Type 0 = λ s. length s.registers ≡ depth in
    let long = c.lay_states.auto.config ∙ c.deref_mut.ensures.len in
    let items = with_items_is c.args.desk.now.config c.lay_states.new.config long in
    record {
      wrote = writes_none;
      same = refl;
      desk = record {
        levels = fit.levels;
        are = fit.are;
        shallow = fit.shallow;
        deep = fit.deep;
        few = fit.few;
        config = record {
          size = ap (λ (xs : List State). length xs) items
              ∙ (c.lay_states.auto.config
              ∙ (ap (λ (xs : List State). length xs) c.deref_mut.ensures.value
              ∙ fit.config.size));
          deep = subst (λ (xs : List State). All HasDepth xs) (sym items)
              c.lay_states.ensures.deep;
        };
        heard = fit.heard;
      };
      laid = items ∙ c.lay_states.ensures.states;
    }

pub loop-i-preserved : goal.loop-i-preserved
loop-i-preserved g c =
    let r = c.args.runner.now in
    let nodes = c.args.nodes.now in
    let i = c.loop-i.i in
    let inv = c.loop-i.invariant in
    record {
      wrote = writes_at (node_text r.plan r.script r.at r.states) nodes i 0
          c.loop-i-test.true inv.wrote
          (writes_is (ap (λ (r : Running _). node_text r.plan r.script r.at r.states
          (slice_index_or nodes i 0)) inv.same) c.put_node_lines.ensures.lines);
      same = c.put_node_lines.ensures.same ∙ inv.same;
      desk = subst (λ (r : Running _). IsFitFor r c.put_node_lines.new.desk) inv.same
          c.put_node_lines.ensures.desk;
      laid = c.put_node_lines.ensures.laid ∙ inv.laid;
    }
