use Rattle.std.proofs.Common.{◌+◌, ℕ, Bool, List, ◌∷◌, Option, None, length, replicate, sym, ap}
use Rattle.std.proofs.Common.{◌∙◌}
use Rattle.std.proofs.Common.{subst}
use Rattle.sync_types.specs.FaultSets.{FaultIds}
use Rattle.adversary_script.specs.Scripts.{Script, IsScript}
use Rattle.machine_runner.specs.FirstLocked.{first_of}
use Rattle.machine_runner.proofs.KnownLocks.{begun_long}
use Rattle.machine_runner.proofs.Rekeyed.{rekeyed, whole_still}
use Rattle.round_runner.specs.Locks.{is_locked}
use Rattle.round_runner.specs.Runners.{Running, IsPlaying}
use Rattle.round_runner.proofs.Playing.{begins}
use Rattle.round_runner.proofs.Rekeyed.{kept_anew, begun_anew}
use Rattle.round_runner.proofs.runners.Runner.restart.Goals as goal

pub start_all-requires-clause-config : goal.start_all-requires-clause-config
start_all-requires-clause-config g c = record {
  shape = c.self.invariant.shape ∙ sym (ap (λ (s : Script). s.shape) c.set_key.ensures);
  size = c.self.invariant.size ∙ sym (ap (λ (s : Script). s.nodes) c.set_key.ensures);
}

pub start_all-requires-clause-noise : goal.start_all-requires-clause-noise
start_all-requires-clause-noise g c =
    c.restart.ensures ∙ sym (ap (λ (s : Script). s.key) c.set_key.ensures)

pub start_all-requires-clause-out : goal.start_all-requires-clause-out
start_all-requires-clause-out g c =
    c.self.invariant.ready.step.out ∙ sym (ap (λ (s : Script). s.shape.depth) c.set_key.ensures)

pub is_locked-locked-requires-clause-nodes : goal.is_locked-locked-requires-clause-nodes
is_locked-locked-requires-clause-nodes g c =
    ap (λ (s : FaultIds). s.nodes) c.faulty.ensures
    ∙ ap (λ (s : Script). s.nodes) c.set_key.ensures ∙ c.self.invariant.right.nodes

pub is_locked-locked-requires-clause-size : goal.is_locked-locked-requires-clause-size
is_locked-locked-requires-clause-size g c =
    c.start_all.ensures.size ∙ sym (ap (λ (s : FaultIds). s.nodes) c.faulty.ensures)

pub begin_locks-requires : goal.begin_locks-requires
begin_locks-requires g c =
    c.self.invariant.eras ∙ sym (ap (λ (s : Script). length s.eras + 1) c.set_key.ensures)

pub invariant_of-self : goal.invariant_of-self
invariant_of-self g c =
    let now = c.set_key.new.self in
    let started = c.start_all.ensures in
    let key = ap (λ (s : Script). s.key) c.set_key.ensures in
    let deep = ap (λ (s : Script). s.shape.depth) c.set_key.ensures in
    kept_anew c.self.inside.script c.args.key c.self.inside.tower
    (g.O.Overlay.layer c.self.inside.overlay) c.self.inside.room c.start_all.new.noise
    c.start_all.new.out c.self.inside.states c.start_all.new.states c.self.inside.locks.items _
    c.self.inside.at c.self.inside.era now c.set_key.ensures c.self.invariant
    (started.noise ∙ key) (started.out ∙ deep) started.shape
    (started.size ∙ ap (λ (s : Script). s.nodes) c.set_key.ensures)
    (ap (λ (locks : List (Option ℕ)). length locks) c.begin_locks.ensures
    ∙ begun_long (is_locked c.self.inside.tower) now c.start_all.new.states.current
    ∙ ap (λ (s : Script). length s.eras + 1) c.set_key.ensures ∙ sym c.self.invariant.eras)

pub returns-clause-begun : goal.returns-clause-begun
returns-clause-begun g c =
    let now = c.set_key.new.self in
    begun_anew c.self.inside.tower c.self.inside.overlay c.self.inside.script c.self.inside.at
    c.self.inside.states.current c.self.inside.locks.items c.args.self.now c.self.view_is c.args.key
    now c.start_all.new.states.current _ c.set_key.ensures c.start_all.ensures.states
    (c.begin_locks.ensures
    ∙ ap (λ (b : Bool). first_of None b 0 ∷ replicate (length now.eras) None)
    (c.is_locked-locked.ensures
    ∙ ap (λ (s : FaultIds). is_locked c.self.inside.tower s.ids c.start_all.new.states.current)
    c.faulty.ensures))

pub returns-clause-played : goal.returns-clause-played
returns-clause-played g c =
    let script = c.args.self.now.script in
    let whole = subst (λ (r : Running _). IsScript r.script) c.self.view_is c.self.invariant.whole
    in
    subst (IsPlaying g.O.Overlay.layer g.O.Overlay.kept
    (g.O.Overlay.kept c.args.self.now.overlay)) (sym (returns-clause-begun g c))
    (begins g.O.Overlay.layer g.O.Overlay.kept c.args.self.now.plan (rekeyed script c.args.key)
    c.args.self.now.overlay (whole_still script c.args.key whole))
