use Rattle.std.proofs.Common.{◌≡◌, ◌≤◌, ℕ, List, Option, length, get_or, sym, ap, ◌∙◌, subst, arith}
use Rattle.machine_runner.specs.Locks.{is_locked}
use Rattle.machine_runner.specs.Played.{played_at}
use Rattle.machine_runner.proofs.KnownLocks.{known_at}
use Rattle.machine_runner.specs.Runners.{Running, lock_of}
use Rattle.machine_runner.proofs.runners.Runner.lock_of.Goals as goal

pub index-requires : goal.index-requires
index-requires g c =
    let long = c.self.invariant.eras in
    let among = subst (λ (r : Running _). c.args.j ≤ length r.script.eras) (sym c.self.view_is)
    c.requires in
    omega (arith, among, long)

pub returns : goal.returns
returns g c =
    let machine = g.M.Machine.machine c.self.inside.machine.now in
    let script = c.self.inside.script in
    let among = subst (λ (r : Running _). c.args.j ≤ length r.script.eras) (sym c.self.view_is)
    c.requires in
    subst (λ (r : Running _). c.index.result.now ≡ lock_of g.M.Machine.machine r c.args.j)
    c.self.view_is
    (c.index.ensures
    ∙ ap (λ (xs : List (Option ℕ)). get_or xs c.args.j c.index.result.now) c.self.invariant.known
    ∙ known_at (is_locked machine) script (played_at machine script) c.self.inside.at c.args.j
    c.index.result.now (omega (arith, among)))
