use Rattle.std.proofs.Common.{◌+◌, ◌-◌, List, length, All, subst, refl, sym, ap, ap₂, ◌∙◌}
use Rattle.std.proofs.lemmas.List.FromFn.{length-map-range_with_len}
use Rattle.sync_types.specs.States.{State}
use Rattle.construction.specs.Plans.{plan_nodes}
use Rattle.run_checker.specs.Grammar.{most_eras}
use Rattle.run_checker.specs.Checking.{all_told}
use Rattle.run_checker.specs.Tellings.{Telling}
use Rattle.run_checker.specs.Bodies.{BodySeen}
use Rattle.run_checker.specs.Rounds.{AreStates}
use Rattle.run_checker.specs.Changes.{played_on}
use Rattle.run_checker.proofs.Attributed.{stepped_is}
use Rattle.run_checker.proofs.BodyKept.{Below, told_of, none_are, round_left}
use Rattle.run_checker.proofs.bodies.Body.play.Goals as goal

pub play-requires-clause-told : goal.play-requires-clause-told
play-requires-clause-told c =
    told_of c.self.inside.tower c.self.inside.faulty c.self.inside.tellings c.self.invariant.faulty
    c.self.invariant.told c.self.invariant.kept _
    (ap (λ (b : BodySeen). all_told b.known b.told) c.self.view_is ∙ c.requires)

pub play-requires-clause-config : goal.play-requires-clause-config
play-requires-clause-config c =
    record { size = c.self.invariant.size; shape = c.self.invariant.shape }

pub play-requires-clause-zero : goal.play-requires-clause-zero
play-requires-clause-zero c = c.self.invariant.zero

pub play-requires-clause-room : goal.play-requires-clause-room
play-requires-clause-room c = c.self.invariant.room

pub returns : goal.returns
returns c =
    let view : List State → List State → BodySeen = λ config told. record {
      known = record {
        version = c.self.inside.version;
        plan = c.self.inside.tower;
        eras = most_eras c.self.inside.version - length c.self.inside.sets.items;
        at = c.self.inside.at + 1;
        stand = record { faulty = c.self.inside.faulty.ids; config = config };
        differs = c.self.inside.differs;
        locked = c.self.inside.locked;
      };
      is_putting = c.self.inside.is_putting;
      unknown = c.self.inside.unknown.ids;
      from = c.self.inside.from;
      told = told;
    } in
    let config = c.play.ensures.current
    ∙ (stepped_is c.self.inside.tower c.self.inside.faulty.ids
    c.self.inside.faulty.ids c.self.inside.config.current _ c.self.inside.tellings.states refl) in
    ap₂ view config (ap (λ (t : Telling). t.states) c.clear.ensures) ∙ ap played_on c.self.view_is

pub invariant_of-self : goal.invariant_of-self
invariant_of-self c =
    let i = c.self.invariant in
    record {
      shape = c.play.ensures.shape ∙ i.shape;
      faulty = i.faulty;
      unknown = i.unknown;
      size = ap (λ (l : List State). length l) c.play.ensures.current
          ∙ length-map-range_with_len _ 0 (plan_nodes c.self.inside.tower);
      pairs = ap (λ (t : Telling). t.pairs) c.clear.ensures ∙ i.pairs;
      senders = subst (All (Below (plan_nodes c.self.inside.tower)))
          (sym (ap (λ (t : Telling). t.pairs) c.clear.ensures)) i.senders;
      kept = ap (λ (t : Telling). t.shape) c.clear.ensures ∙ i.kept;
      told = subst (AreStates c.self.inside.tower)
          (sym (ap (λ (t : Telling). t.states) c.clear.ensures)) (none_are c.self.inside.tower);
      most = ap (λ (t : Telling). t.room) c.clear.ensures ∙ i.most;
      zero = i.zero;
      room = c.play.ensures.room;
      sets = i.sets;
      eras = i.eras;
      from = i.from;
      at = round_left c.self.inside.at _ _
          (ap (λ (b : BodySeen). all_told b.known b.told) c.self.view_is ∙ c.requires);
    }
