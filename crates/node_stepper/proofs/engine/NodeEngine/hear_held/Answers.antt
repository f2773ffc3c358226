use Rattle.std.proofs.Common.{◌≡◌, ◌≤◌, ◌+◌, ◌-◌, ◌*◌, ℕ, length, take, drop, get_or, ap, sym, ◌∙◌}
use Rattle.std.proofs.Common.{arith}
use Rattle.std.specs.Io.KnownBytes.{Consumes}
use Rattle.std.proofs.lemmas.List.{take-take}
use Rattle.edge_io.specs.Feeds.{feed_left}
use Rattle.state_codec.specs.Shapes.{bytes_in}
use Rattle.node_stepper.specs.Nodes.{hearing}
use Rattle.node_stepper.proofs.CellByCell.{held_cell}
use Rattle.node_stepper.proofs.engine.NodeEngine.hear_held.Goals as goal

pub returns-clause-cell : goal.returns-clause-cell
returns-clause-cell g c = λ _.
    let held = c.held-held.result.now in
    let n : ℕ = c.bytes_of-size.result in
    let within : 2 + n ≤ length held = omega (arith, c.if-held-size.false) in
    let size : 256 * get_or held 0 0 + get_or held 1 0 ≡ n =
    omega (arith, c.from.ensures, c.from-2.ensures, c.if-from-size.false) in
    let fed : Consumes (feed_left g.S.Source.left c.args.feed.now)
    (feed_left g.S.Source.left c.pass.new.self) (take (2 + n) held) =
    rw c.held-held.ensures c.pass.ensures.passed in
    let rest : ℕ = length held - 2 in
    let front : take (bytes_in ((g.M.Machine.machine c.args.self.now.counter).fields c.args.sender))
    (take rest (drop 2 held)) ≡ take n (drop 2 held) =
    ap (λ (k : ℕ). take k (take rest (drop 2 held))) (sym c.bytes_of-size.ensures.value)
    ∙ take-take n rest (drop 2 held) (omega (arith, within)) in
    held_cell g.M.Machine.machine n c.args.sender _ _ _ _ held within size fed
    (c.hear_front.ensures ∙ ap (hearing g.M.Machine.machine c.args.self.now c.args.sender) front)
