use Rattle.std.proofs.Common.{◌+◌, ◌-◌, ℕ, List, true, None, length, All, subst, refl, sym, ap, ap₂}
use Rattle.std.proofs.Common.{◌∙◌, arith}
use Rattle.std.proofs.lemmas.List.FromFn.{length-map-range_with_len}
use Rattle.sync_types.specs.States.{State}
use Rattle.construction.specs.Plans.{plan_nodes, plan_faults}
use Rattle.run_checker.specs.Grammar.{pairs_of, most_eras}
use Rattle.sync_types.specs.FaultSets.{FaultIds}
use Rattle.run_checker.specs.Checking.{all_told}
use Rattle.run_checker.specs.Tellings.{Telling}
use Rattle.run_checker.specs.Bodies.{BodySeen}
use Rattle.run_checker.specs.Rounds.{AreStates}
use Rattle.run_checker.specs.Changes.{played_into}
use Rattle.run_checker.proofs.Attributed.{stepped_is}
use Rattle.run_checker.proofs.BodyKept.{Below, shape_has_nodes, told_of, none_are, round_left}
use Rattle.run_checker.proofs.Rooms.{pairs_few}
use Rattle.run_checker.proofs.bodies.Body.play_into.Goals as goal

pub begin-requires-clause-nodes : goal.begin-requires-clause-nodes
begin-requires-clause-nodes c =
    c.requires.nodes
    ∙ sym (ap (λ (b : BodySeen). plan_nodes b.known.plan) c.self.view_is)
    ∙ sym (shape_has_nodes c.self.inside.tower c.self.inside.tellings.shape c.self.invariant.kept)

pub begin-requires-clause-room : goal.begin-requires-clause-room
begin-requires-clause-room c =
    let nodes = c.requires.nodes
    ∙ sym (ap (λ (b : BodySeen). plan_nodes b.known.plan) c.self.view_is) in
    let faults = ap (λ (b : BodySeen). plan_faults b.known.plan) c.self.view_is in
    let few = pairs_few c.self.inside.tower c.tell.ensures c.args.faulty nodes c.facts.ensures
    (omega (arith, c.requires.few, faults)) in
    omega (arith, few, c.self.invariant.most)

pub play-requires-clause-told : goal.play-requires-clause-told
play-requires-clause-told c =
    told_of c.self.inside.tower c.self.inside.faulty c.self.inside.tellings c.self.invariant.faulty
    c.self.invariant.told c.self.invariant.kept _
    (ap (λ (b : BodySeen). all_told b.known b.told) c.self.view_is ∙ c.requires.told)

pub play-requires-clause-config : goal.play-requires-clause-config
play-requires-clause-config c =
    record { size = c.self.invariant.size; shape = c.self.invariant.shape }

pub play-requires-clause-zero : goal.play-requires-clause-zero
play-requires-clause-zero c = c.self.invariant.zero

pub play-requires-clause-room : goal.play-requires-clause-room
play-requires-clause-room c = c.self.invariant.room

pub returns : goal.returns
returns c =
    let view : FaultIds → FaultIds → List State → List State
    → BodySeen = λ faulty unknown config told. record {
      known = record {
        version = c.self.inside.version;
        plan = c.self.inside.tower;
        eras = most_eras c.self.inside.version - length c.self.inside.sets.items;
        at = c.self.inside.at + 1;
        stand = record { faulty = faulty.ids; config = config };
        differs = c.self.inside.differs;
        locked = None;
      };
      is_putting = true;
      unknown = unknown.ids;
      from = 0;
      told = told;
    } in
    let config = c.play.ensures.current
    ∙ (stepped_is c.self.inside.tower c.self.inside.faulty.ids
    c.args.faulty.ids c.self.inside.config.current _ c.self.inside.tellings.states refl) in
    ap₂ (λ f u. view f u c.play.new.config.current c.begin.new.self.states) c.replace.ensures.after
    c.replace.ensures.value
    ∙ ap₂ (view c.args.faulty c.self.inside.faulty) config
    (ap (λ (t : Telling). t.states) c.begin.ensures.value)
    ∙ ap (λ (b : BodySeen). played_into b c.args.faulty.ids) c.self.view_is

pub invariant_of-self : goal.invariant_of-self
invariant_of-self c =
    let i = c.self.invariant in
    let nodes = c.requires.nodes
    ∙ sym (ap (λ (b : BodySeen). plan_nodes b.known.plan) c.self.view_is) in
    let begun = c.begin.ensures.value in
    record {
      shape = c.play.ensures.shape ∙ i.shape;
      faulty = ap (λ (s : FaultIds). s.nodes) c.replace.ensures.after ∙ nodes;
      unknown = ap (λ (s : FaultIds). s.nodes) c.replace.ensures.value ∙ i.faulty;
      size = ap (λ (l : List State). length l) c.play.ensures.current
          ∙ length-map-range_with_len _ 0 (plan_nodes c.self.inside.tower);
      pairs = ap (λ (t : Telling). t.pairs) begun
          ∙ ap (λ (n : ℕ). pairs_of n c.args.faulty.ids) nodes
          ∙ ap (λ (s : FaultIds). pairs_of (plan_nodes c.self.inside.tower) s.ids)
          (sym c.replace.ensures.after);
      senders =
          subst (λ (n : ℕ). All (Below n) c.begin.new.self.pairs) nodes c.begin.ensures.senders;
      kept = ap (λ (t : Telling). t.shape) begun ∙ i.kept;
      told = subst (AreStates c.self.inside.tower)
          (sym (ap (λ (t : Telling). t.states) begun)) (none_are c.self.inside.tower);
      most = ap (λ (t : Telling). t.room) begun ∙ i.most;
      zero = i.zero;
      room = c.play.ensures.room;
      sets = i.sets;
      eras = i.eras;
      from = omega arith;
      at = round_left c.self.inside.at _ _
          (ap (λ (b : BodySeen). all_told b.known b.told) c.self.view_is ∙ c.requires.told);
    }
