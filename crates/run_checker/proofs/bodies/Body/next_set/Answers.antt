use Rattle.std.proofs.Common.{◌≡◌, ◌+◌, ◌-◌, ℕ, List, [], ◌∷◌, ◌++◌, length, Option, All, ap, ◌∙◌}
use Rattle.std.proofs.Common.{subst, arith}
use Rattle.std.specs.Option.{option_to_list}
use Rattle.std.proofs.Math.Seq.{get_or-append_seam}
use Rattle.std.proofs.lemmas.List.{length_push}
use Rattle.construction.specs.Plans.{plan_nodes}
use Rattle.sync_types.specs.FaultSets.{FaultIds}
use Rattle.run_checker.specs.Grammar.{most_eras}
use Rattle.run_checker.specs.Bodies.{BodySeen}
use Rattle.run_checker.specs.Changes.{era_more}
use Rattle.run_checker.specs.Sets.{no_ids}
use Rattle.run_checker.proofs.bodies.Body.next_set.Goals as goal

pub returns-clause-set : goal.returns-clause-set
returns-clause-set c =
    let left = c.pop.new.self.items in
    let set = c.unwrap.result in
    let empty : FaultIds → Type 0 = λ s. s ≡ no_ids (plan_nodes c.self.inside.tower) in
    let parts = c.pop.ensures.items
    ∙ ap (λ (o : Option FaultIds). left ++ option_to_list o) c.unwrap.ensures in
    let all : All empty (left ++ set ∷ []) = subst (All empty) parts c.self.invariant.sets in
    subst empty (get_or-append_seam left set [] set)
    (all (length left) set (omega (arith, length_push left set)))
    ∙ ap (λ (b : BodySeen). no_ids (plan_nodes b.known.plan)) c.self.view_is

pub returns-clause-counted : goal.returns-clause-counted
returns-clause-counted c =
    let left = c.pop.new.self.items in
    let set = c.unwrap.result in
    let view : ℕ → BodySeen = λ eras. record {
      known = record {
        version = c.self.inside.version;
        plan = c.self.inside.tower;
        eras = eras;
        at = c.self.inside.at;
        stand = record { faulty = c.self.inside.faulty.ids; config = c.self.inside.config.current };
        differs = c.self.inside.differs;
        locked = c.self.inside.locked;
      };
      is_putting = c.self.inside.is_putting;
      unknown = c.self.inside.unknown.ids;
      from = c.self.inside.from;
      told = c.self.inside.tellings.states;
    } in
    let parts = c.pop.ensures.items
    ∙ ap (λ (o : Option FaultIds). left ++ option_to_list o) c.unwrap.ensures in
    let size = ap (λ (l : List FaultIds). length l) parts ∙ length_push left set in
    let eras : most_eras c.self.inside.version - length left
    ≡ most_eras c.self.inside.version - length c.self.inside.sets.items + 1 =
    omega (arith, size, c.self.invariant.eras) in
    ap view eras ∙ ap era_more c.self.view_is
