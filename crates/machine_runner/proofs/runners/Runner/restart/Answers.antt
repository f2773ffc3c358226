use Rattle.std.proofs.Common.{◌≡◌, ◌+◌, Bool, ◌∷◌, length, None, replicate, sym, ap, ◌∙◌, subst}
use Rattle.std.specs.Vec.{with_items}
use Rattle.std.proofs.lemmas.List.{with_items_is}
use Rattle.sync_types.specs.FaultSets.{FaultIds}
use Rattle.adversary_script.specs.Scripts.{Script}
use Rattle.machine_runner.specs.FirstLocked.{first_of}
use Rattle.machine_runner.specs.Laws.{IsReadFor}
use Rattle.machine_runner.specs.Locks.{is_locked}
use Rattle.machine_runner.proofs.Keeping.{locks_begin}
use Rattle.machine_runner.proofs.Rekeyed.{read_still, kept_anew, begun_anew}
use Rattle.machine_runner.proofs.Laid.{room_laid}
use Rattle.machine_runner.proofs.runners.Runner.restart.Goals as goal

pub start_all-requires-clause-config : goal.start_all-requires-clause-config
start_all-requires-clause-config g c = record {
  shape = c.self.invariant.shape ∙ sym (ap (λ (s : Script). s.shape) c.set_key.ensures);
  size = c.self.invariant.size ∙ sym (ap (λ (s : Script). s.nodes) c.set_key.ensures);
}

pub start_all-requires-clause-noise : goal.start_all-requires-clause-noise
start_all-requires-clause-noise g c =
    c.restart.ensures ∙ sym (ap (λ (s : Script). s.key) c.set_key.ensures)

pub start_all-requires-clause-out : goal.start_all-requires-clause-out
start_all-requires-clause-out g c =
    c.self.invariant.ready.out ∙ sym (ap (λ (s : Script). s.shape.depth) c.set_key.ensures)

pub is_locked-locked-requires-clause-nodes : goal.is_locked-locked-requires-clause-nodes
is_locked-locked-requires-clause-nodes g c =
    ap (λ (s : FaultIds). s.nodes) c.faulty.ensures
    ∙ ap (λ (s : Script). s.nodes) c.set_key.ensures ∙ c.self.invariant.read.right.nodes

pub is_locked-locked-requires-clause-size : goal.is_locked-locked-requires-clause-size
is_locked-locked-requires-clause-size g c =
    c.start_all.ensures.size ∙ sym (ap (λ (s : FaultIds). s.nodes) c.faulty.ensures)

pub begin_locks-requires : goal.begin_locks-requires
begin_locks-requires g c =
    c.self.invariant.eras ∙ sym (ap (λ (s : Script). length s.eras + 1) c.set_key.ensures)

pub invariant_of-self : goal.invariant_of-self
invariant_of-self g c =
    let machine = g.M.Machine.machine c.self.inside.machine.now in
    let script = c.self.inside.script in
    let now = c.set_key.new.self in
    let kept = c.self.invariant in
    let same = c.set_key.ensures in
    let started = c.start_all.ensures in
    let read : IsReadFor machine now = subst (λ (s : Script). IsReadFor machine s) (sym same)
    (read_still script c.args.key machine kept.read) in
    let laid : (with_items c.self.inside.room.heard c.lay.new.heard).items
    ≡ c.start_all.new.states.current =
    with_items_is c.self.inside.room.heard c.lay.new.heard
    (c.lay.auto.heard ∙ c.deref_mut.ensures.len) ∙ c.lay.ensures in
    let shape = started.shape ∙ kept.shape in
    let size = started.size ∙ ap (λ (s : Script). s.nodes) same in
    kept_anew script c.args.key machine c.self.inside.room c.start_all.new.noise _
    c.start_all.new.out c.self.inside.states c.start_all.new.states
    c.self.inside.locks.items c.begin_locks.new.locks.items c.self.inside.at c.self.inside.era now
    same kept (started.noise ∙ ap (λ (s : Script). s.key) same)
    (room_laid script c.start_all.new.states.shape c.start_all.new.states.current _ laid shape size
    c.facts-2.ensures.current) laid
    (started.out ∙ ap (λ (s : Script). s.shape.depth) same) started.shape
    size started.states
    (c.begin_locks.ensures
    ∙ ap (λ (b : Bool). first_of None b 0 ∷ replicate (length now.eras) None)
    (c.is_locked-locked.ensures
    ∙ ap (λ (s : FaultIds). is_locked machine s.ids c.start_all.new.states.current)
    c.faulty.ensures)
    ∙ locks_begin machine now c.start_all.new.states.current read.whole started.states)

pub returns : goal.returns
returns g c =
    begun_anew c.self.inside.machine.now c.self.inside.script c.self.inside.at c.args.self.now
    c.self.view_is c.args.key c.set_key.new.self c.set_key.ensures
