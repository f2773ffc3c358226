use Rattle.std.proofs.Common.{ℕ, List, ap, ap₂, ◌∙◌}
use Rattle.std.proofs.lemmas.List.{with_items_is}
use Rattle.sync_types.specs.FaultSets.{FaultIds, is_in}
use Rattle.plan_numbers.specs.Numbers.{levels_in}
use Rattle.adversary_script.specs.Scripts.{Script}
use Rattle.adversary_script.specs.Eras.{faulty_at}
use Rattle.round_runner.specs.Runners.{Running}
use Rattle.trace.proofs.Hearing.{view_is}
use Rattle.edge_io.proofs.Writing.{writes_is, writes_then}
use Rattle.trace.proofs.tracing.put_node_lines.Goals as goal

pub returns-clause-lines : goal.returns-clause-lines
returns-clause-lines g c =
    let r = c.args.runner.now in
    let same = c.hear-hears.ensures.same in
    let at = c.at-at.ensures ∙ ap (λ (r : Running _). r.at) same in
    let script = c.script.ensures ∙ ap (λ (r : Running _). r.script) same in
    let ids = ap (λ (s : FaultIds). s.ids) c.faulty_at-faulty.ensures
    ∙ ap₂ (λ (s : Script) (t : ℕ). faulty_at s t) script at in
    let long = c.hear-hears.auto.heard ∙ c.deref_mut.ensures.len in
    writes_is
    (view_is r.plan r.script r.at c.args.v r.states _ _ _ _ _ _ _ at
    (c.contains.ensures ∙ ap (λ (xs : List ℕ). is_in xs c.args.v) ids) ids
    (c.deref.ensures.value ∙ c.requires.laid) c.hear-hears.ensures.hears
    (ap levels_in c.deref-2.ensures.value ∙ c.requires.desk.levels)
    (λ hears. c.of.ensures ∙ c.deref-3.ensures.value
    ∙ (with_items_is c.args.desk.now.heard c.hear-hears.new.heard long
    ∙ c.hear-hears.ensures.heard hears)))
    (writes_then c.put_state.ensures c.put_levels.ensures)
