use Rattle.std.proofs.Common.{◌+◌, ◌<◌, ℕ, Bool, not, List, All, refl, ap, ◌∙◌, subst, arith}
use Rattle.std.specs.Int.{from_bool}
use Rattle.construction.specs.Plans.{plan_nodes}
use Rattle.sync_types.specs.States.{State}
use Rattle.shared_board.specs.Sharing.{Shares}
use Rattle.state_codec.specs.Packs.{Pack}
use Rattle.run_checker.proofs.Ranges.{few_correct, count_more}
use Rattle.run_checker.proofs.RoundSteps.{pack_deep, pack_states, gathered_in, gathered_out}
use Rattle.run_checker.proofs.RoundSteps.{none_stepped, one_stepped, all_stepped}
use Rattle.run_checker.proofs.rounds.Round.step_all.Goals as goal

pub gather-requires-clause-deep : goal.gather-requires-clause-deep
gather-requires-clause-deep g c =
    let deep = pack_deep c.args.self.now.tower.now c.tell.ensures c.args.config.now
    c.requires.config.shape
    in omega (arith, deep)

pub gather-requires-clause-range : goal.gather-requires-clause-range
gather-requires-clause-range g c =
    (pack_states c.args.self.now.tower.now c.tell.ensures c.args.config.now c.requires.config.shape
    c.requires.config.size c.facts.ensures.current).range

pub gather-requires-clause-ids : goal.gather-requires-clause-ids
gather-requires-clause-ids g c =
    subst (λ (n : ℕ). All (λ id. id < n) c.args.self.now.faulty.now.ids) c.args.self.now.nodes
    c.args.self.now.ids.below

pub gather-requires-clause-size : goal.gather-requires-clause-size
gather-requires-clause-size g c = c.requires.config.size

pub gather-requires-clause-plan : goal.gather-requires-clause-plan
gather-requires-clause-plan g c = c.requires.room.shared

pub loop-v-init : goal.loop-v-init
loop-v-init g c =
    let room = c.requires.room in
    record {
      stepped =
          none_stepped c.args.self.now.tower.now c.args.self.now.faulty.now.ids
          c.args.new_faulty.now.ids
          c.args.config.now.current c.args.self.now.told.now.states c.args.config.now.next
          (c.facts.ensures.size ∙ c.requires.config.size);
      fixed = refl;
      before = refl;
      room = record {
        said = c.requires.said;
        is = c.requires.config;
        ready = record {
          lies = room.lies;
          shared = ap (λ (s : Shares). s.plan) c.gather.ensures.stands;
          out = room.out;
        };
        stands = c.gather.ensures.stands;
      };
    }

pub step_one-requires : goal.step_one-requires
step_one-requires g c = record {
  room = gathered_in c.args.self.now.tower.now c.args.self.now.faulty.now.ids
      c.args.self.now.told.now.states c.args.config.now c.loop-v.config.next
      c.loop-v.config c.loop-v.room c.loop-v.invariant.fixed c.loop-v.invariant.room;
}

-- so many correct nodes stand before the next node
pub overflow_add-before : goal.overflow_add-before
overflow_add-before g c =
    let ids = c.args.self.now.faulty.now.ids in
    let more = count_more ids c.loop-v.v in
    let few = few_correct ids (c.loop-v.v + 1) in
    let one = c.from-before.ensures ∙ ap (λ (b : Bool). from_bool (not b)) c.contains.ensures in
    omega (arith, few, more, one, c.loop-v.invariant.before)

pub loop-v-preserved : goal.loop-v-preserved
loop-v-preserved g c =
    let h = c.loop-v.invariant in
    let fixed = h.fixed in
    let lt : c.loop-v.v < plan_nodes c.args.self.now.tower.now =
    omega (arith, c.loop-v-test.true, c.nodes-v-end.ensures) in
    let ids = c.args.self.now.faulty.now.ids in
    let more = count_more ids c.loop-v.v in
    let one = c.from-before.ensures ∙ ap (λ (b : Bool). from_bool (not b)) c.contains.ensures in
    record {
      stepped = rw (c.step_one.ensures.config, fixed)
          (one_stepped c.args.self.now.tower.now c.args.self.now.faulty.now.ids
          c.args.new_faulty.now.ids
          c.args.config.now.current c.args.self.now.told.now.states c.loop-v.v c.loop-v.config.next
          lt h.stepped);
      fixed = rw (c.step_one.ensures.config, fixed) refl;
      before = omega (arith, more, one, h.before);
      room =
          gathered_out c.args.self.now.tower.now c.args.self.now.faulty.now.ids
          c.args.self.now.told.now.states c.args.config.now c.loop-v.config.next
          c.loop-v.config c.step_one.new.room fixed c.step_one.ensures.room;
    }

pub returns-clause-config : goal.returns-clause-config
returns-clause-config g c =
    let h = c.loop-v.invariant in
    h.fixed
    ∙ ap (λ (next : List State). let p : Pack = record c.args.config.now { next = next } in p)
    (all_stepped c.args.self.now.tower.now c.args.self.now.faulty.now.ids c.args.new_faulty.now.ids
    c.args.config.now.current c.args.self.now.told.now.states c.loop-v.v c.loop-v.config.next
    (omega (arith, c.loop-v-test.false, c.nodes-v-end.ensures)) h.stepped)
