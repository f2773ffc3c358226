use Rattle.std.proofs.Common.{◌≡◌, ◌-◌, ℕ, List, [], length, replicate, true, None, All, sym, ap}
use Rattle.std.proofs.Common.{ap₂, ◌∙◌, subst, arith}
use Rattle.std.proofs.lemmas.List.{length-replicate}
use Rattle.std.specs.List.{range_with_len}
use Rattle.sync_types.specs.FaultSets.{FaultIds}
use Rattle.sync_types.specs.States.{State, zero_state}
use Rattle.construction.specs.Plans.{Plan, plan_nodes}
use Rattle.plan_numbers.specs.Premises.{IsAccepted}
use Rattle.state_codec.specs.Packs.{Pack}
use Rattle.state_codec.specs.Shapes.{Shape, shape_of}
use Rattle.state_codec.proofs.Plans.{length-moduli_of}
use Rattle.round_runner.specs.Rooms.{IsMadeFor}
use Rattle.run_checker.specs.Grammar.{pairs_of, most_eras}
use Rattle.run_checker.specs.Bodies.{BodySeen}
use Rattle.run_checker.specs.Rounds.{AreStates}
use Rattle.run_checker.specs.Sets.{no_ids}
use Rattle.run_checker.specs.Tellings.{Telling, most_pairs}
use Rattle.run_checker.proofs.BodyKept.{Below, shape_has_nodes, zeros_known, no_states}
use Rattle.run_checker.proofs.Rooms.{pairs_few}
use Rattle.run_checker.proofs.bodies.Body.new.Goals as goal

pub begin-requires-clause-nodes : goal.begin-requires-clause-nodes
begin-requires-clause-nodes c =
    c.requires.nodes
    ∙ sym (shape_has_nodes c.args.plan.now c.in_ok-tellings.tellings.shape
    (ap (λ (t : Telling). t.shape) c.in_ok-tellings.ensures))

pub begin-requires-clause-room : goal.begin-requires-clause-room
begin-requires-clause-room c =
    let few = pairs_few c.args.plan.now c.facts.ensures.accepted c.args.faulty c.requires.nodes
    c.facts-2.ensures c.requires.few in
    let room = ap (λ (t : Telling). t.room) c.in_ok-tellings.ensures in
    omega (arith, few, room)

pub invariant_of-result : goal.invariant_of-result
invariant_of-result c =
    let tower = c.in_ok-tower.tower in
    let plan = c.in_ok-tower.ensures.plan in
    let nodes = ap plan_nodes plan in
    let accepted = subst IsAccepted c.tower.view_is c.tower.invariant.accepted in
    let count = c.nodes-2.ensures ∙ sym nodes in
    let faulty = c.requires.nodes ∙ sym nodes in
    let told = c.begin.ensures.value
    ∙ ap (λ (t : Telling). let u : Telling = record t {
      pairs = pairs_of c.args.faulty.nodes c.args.faulty.ids;
      states = [];
    } in u) c.in_ok-tellings.ensures in
    record {
      shape = ap (λ (p : Pack). p.shape) c.in_ok-config.ensures
          ∙ (c.in_ok-shape.ensures.shape ∙ sym (ap shape_of plan));
      faulty = faulty;
      unknown =
          ap (λ (s : FaultIds). s.nodes) c.in_ok-unknown.ensures ∙ (c.nodes.ensures ∙ sym nodes);
      size = ap (λ (p : Pack). length p.current) c.in_ok-config.ensures
          ∙ (length-replicate c.nodes-2.result _ ∙ count);
      pairs =
          ap (λ (t : Telling). t.pairs) told ∙ ap (λ (n : ℕ). pairs_of n c.args.faulty.ids) faulty;
      senders = subst (λ (n : ℕ). All (Below n) c.begin.new.self.pairs) faulty
          c.begin.ensures.senders;
      kept = ap (λ (t : Telling). t.shape) told ∙ sym (ap shape_of plan);
      told =
          subst (AreStates tower) (sym (ap (λ (t : Telling). t.states) told))
          (no_states tower accepted);
      most = ap (λ (t : Telling). t.room) told ∙ sym (ap most_pairs plan);
      zero = c.in_ok-zero.ensures ∙ ap zero_state c.depth.ensures;
      room = subst (λ (d : ℕ). IsMadeFor tower d c.in_ok-room.room) c.depth-2.ensures
          c.in_ok-room.ensures;
      sets = subst (λ (n : ℕ). All (λ (set : FaultIds). set ≡ no_ids n) c.in_ok-sets.sets.items)
          (c.nodes-3.ensures ∙ sym nodes) c.in_ok-sets.ensures.empty;
      eras = omega (arith, c.in_ok-sets.ensures.count, c.most_eras.ensures);
      from = omega arith;
      at = omega arith;
    }

pub returns : goal.returns
returns c =
    let view : Plan → (eras : ℕ) → List State → List ℕ → List State
    → BodySeen = λ plan eras config unknown told. record {
      known = record {
        version = c.args.version;
        plan = plan;
        eras = eras;
        at = 0;
        stand = record { faulty = c.args.faulty.ids; config = config };
        differs = None;
        locked = None;
      };
      is_putting = true;
      unknown = unknown;
      from = 0;
      told = told;
    } in
    let plan = c.args.plan.now in
    let depth = ap (λ (f : Shape). f.depth) c.in_ok-shape.ensures.shape
    ∙ length-moduli_of plan.levels in
    let zeros = ap (λ (p : Pack). p.current) c.in_ok-config.ensures
    ∙ (ap₂ (λ (n d : ℕ). replicate n (zero_state d)) c.nodes-2.ensures depth
    ∙ zeros_known plan c.args.faulty.ids) in
    let unknown = ap (λ (s : FaultIds). s.ids) c.in_ok-unknown.ensures
    ∙ ap (range_with_len 0) c.nodes.ensures in
    let eras : most_eras c.args.version - length c.in_ok-sets.sets.items ≡ 0 =
    omega (arith, c.in_ok-sets.ensures.count, c.most_eras.ensures) in
    ap₂
    (λ p eras. view p eras c.in_ok-config.config.current c.in_ok-unknown.unknown.ids
    c.begin.new.self.states)
    c.in_ok-tower.ensures.plan eras
    ∙ ap₂ (λ config unknown. view plan 0 config unknown c.begin.new.self.states) zeros unknown
    ∙ ap (view plan 0 _ _) (ap (λ (t : Telling). t.states) c.begin.ensures.value)
