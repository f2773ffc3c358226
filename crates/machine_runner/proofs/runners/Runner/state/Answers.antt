use Rattle.std.proofs.Common.{◌≡◌, ◌<◌, List, length, sym, ap, ◌∙◌, subst, arith}
use Rattle.sync_types.specs.States.{State}
use Rattle.construction.specs.Steps.{state_of}
use Rattle.machine_runner.specs.Runners.{Running, states_of}
use Rattle.machine_runner.proofs.Places.{read_at}
use Rattle.machine_runner.proofs.runners.Runner.state.Goals as goal

pub index-requires : goal.index-requires
index-requires g c =
    let kept = c.self.invariant in
    let lt = subst (λ (r : Running _). c.args.v < (g.M.Machine.machine r.machine).nodes)
    (sym c.self.view_is) c.requires in
    let nodes = kept.read.right.nodes in
    let size = kept.size in
    let laid = ap (λ (xs : List State). length xs) kept.laid in
    omega (arith, lt, nodes, size, laid, c.self.inside.room.heard.ok.0)

pub returns : goal.returns
returns g c =
    let kept = c.self.invariant in
    let lt = subst (λ (r : Running _). c.args.v < (g.M.Machine.machine r.machine).nodes)
    (sym c.self.view_is) c.requires in
    let nodes = kept.read.right.nodes in
    let size = kept.size in
    let laid = ap (λ (xs : List State). length xs) kept.laid in
    let within : c.args.v < length c.self.inside.room.heard.items =
    omega (arith, lt, nodes, size, laid) in
    let is : c.index.result.now ≡ state_of c.self.inside.states.current c.args.v =
    read_at c.self.inside.room.heard.items c.args.v c.index.result.now within c.index.ensures
    ∙ ap (λ (xs : List State). state_of xs c.args.v) kept.laid in
    subst (λ (r : Running _). c.index.result.now
    ≡ state_of (states_of g.M.Machine.machine r) c.args.v) c.self.view_is
    (is ∙ ap (λ (xs : List State). state_of xs c.args.v) kept.played)
