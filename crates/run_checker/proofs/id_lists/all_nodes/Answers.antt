use Rattle.std.proofs.Common.{◌∷◌, [], ◌++◌, List, ℕ, ap, sym, ◌∙◌, arith}
use Rattle.sync_types.specs.FaultSets.{FaultIds}
use Rattle.texts.proofs.Ranges.{range_more}
use Rattle.run_checker.proofs.Ranges.{last_below}
use Rattle.run_checker.proofs.id_lists.all_nodes.Goals as goal

pub push-requires-clause-above : goal.push-requires-clause-above
push-requires-clause-above c = rw c.loop-v.invariant (last_below c.loop-v.v)

pub loop-v-preserved : goal.loop-v-preserved
loop-v-preserved c =
    c.push.ensures
    ∙
    (ap
    (λ (s : FaultIds). let r : FaultIds = record
    { nodes = s.nodes; ids = s.ids ++ c.loop-v.v ∷ [] } in
    r)
    c.loop-v.invariant
    ∙ ap (λ (ids : List ℕ). let r : FaultIds = record { nodes = c.args.nodes; ids = ids } in r)
    (sym (range_more 0 c.loop-v.v c.loop-v.v (omega arith))))
