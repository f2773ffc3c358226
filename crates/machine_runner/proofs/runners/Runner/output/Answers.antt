use Rattle.std.proofs.Common.{◌≡◌, ℕ, ◌<◌, List, length, sym, ap, ◌∙◌, subst, arith}
use Rattle.sync_types.specs.States.{State}
use Rattle.construction.specs.Steps.{state_of}
use Rattle.machines.proofs.Fronts.{whole_front}
use Rattle.machine_runner.specs.Runners.{Running, states_of}
use Rattle.machine_runner.proofs.Keeping.{state_in}
use Rattle.machine_runner.proofs.Places.{read_at}
use Rattle.machine_runner.proofs.runners.Runner.output.Goals as goal

pub index-requires : goal.index-requires
index-requires g c =
    let kept = c.self.invariant in
    let lt = subst (λ (r : Running _). c.args.v < (g.M.Machine.machine r.machine).nodes)
    (sym c.self.view_is) c.requires in
    let nodes = kept.read.right.nodes in
    let size = kept.size in
    let laid = ap (λ (xs : List State). length xs) kept.laid in
    omega (arith, lt, nodes, size, laid, c.self.inside.room.heard.ok.0)

pub output-requires-clause-state : goal.output-requires-clause-state
output-requires-clause-state g c =
    let kept = c.self.invariant in
    let lt = subst (λ (r : Running _). c.args.v < (g.M.Machine.machine r.machine).nodes)
    (sym c.self.view_is) c.requires in
    let nodes = kept.read.right.nodes in
    let size = kept.size in
    let laid = ap (λ (xs : List State). length xs) kept.laid in
    let within : c.args.v < length c.self.inside.room.heard.items =
    omega (arith, lt, nodes, size, laid) in
    let is : c.index.result.now ≡ state_of c.self.inside.states.current c.args.v =
    read_at c.self.inside.room.heard.items c.args.v c.index.result.now within c.index.ensures
    ∙ ap (λ (xs : List State). state_of xs c.args.v) kept.laid in
    whole_front (g.M.Machine.machine c.self.inside.machine.now) c.facts.ensures c.args.v lt _
    (state_in (g.M.Machine.machine c.self.inside.machine.now) c.self.inside.script
    c.self.inside.states.shape c.self.inside.states.current c.args.v _ kept.read
    kept.shape kept.size c.facts-2.ensures.current lt is)

pub returns-clause-value : goal.returns-clause-value
returns-clause-value g c =
    let kept = c.self.invariant in
    let lt = subst (λ (r : Running _). c.args.v < (g.M.Machine.machine r.machine).nodes)
    (sym c.self.view_is) c.requires in
    let nodes = kept.read.right.nodes in
    let size = kept.size in
    let laid = ap (λ (xs : List State). length xs) kept.laid in
    let within : c.args.v < length c.self.inside.room.heard.items =
    omega (arith, lt, nodes, size, laid) in
    let is : c.index.result.now ≡ state_of c.self.inside.states.current c.args.v =
    read_at c.self.inside.room.heard.items c.args.v c.index.result.now within c.index.ensures
    ∙ ap (λ (xs : List State). state_of xs c.args.v) kept.laid in
    let machine = g.M.Machine.machine c.self.inside.machine.now in
    subst (λ (r : Running _). c.output.result ≡ (g.M.Machine.machine r.machine).shows c.args.v
    (state_of (states_of g.M.Machine.machine r) c.args.v)) c.self.view_is
    (c.output.ensures ∙ ap (λ (s : State). machine.shows c.args.v s)
    (is ∙ ap (λ (xs : List State). state_of xs c.args.v) kept.played))

pub returns-clause-below : goal.returns-clause-below
returns-clause-below g c =
    let kept = c.self.invariant in
    let lt = subst (λ (r : Running _). c.args.v < (g.M.Machine.machine r.machine).nodes)
    (sym c.self.view_is) c.requires in
    let nodes = kept.read.right.nodes in
    let size = kept.size in
    let laid = ap (λ (xs : List State). length xs) kept.laid in
    let within : c.args.v < length c.self.inside.room.heard.items =
    omega (arith, lt, nodes, size, laid) in
    let is : c.index.result.now ≡ state_of c.self.inside.states.current c.args.v =
    read_at c.self.inside.room.heard.items c.args.v c.index.result.now within c.index.ensures
    ∙ ap (λ (xs : List State). state_of xs c.args.v) kept.laid in
    let machine = g.M.Machine.machine c.self.inside.machine.now in
    subst (λ (r : Running _). c.output.result < (g.M.Machine.machine r.machine).modulus)
    c.self.view_is
    (subst (λ (o : ℕ). o < machine.modulus) (sym c.output.ensures)
    (c.facts.ensures.shown c.args.v lt _ (state_in machine c.self.inside.script
    c.self.inside.states.shape c.self.inside.states.current c.args.v _ kept.read
    kept.shape kept.size c.facts-2.ensures.current lt is)))
