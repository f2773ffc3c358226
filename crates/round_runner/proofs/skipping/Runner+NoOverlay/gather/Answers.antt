use Rattle.std.proofs.Common.{◌≡◌, ◌<◌, List, map, All, sym, ap, ◌∙◌, subst, arith, []}
use Rattle.std.proofs.lemmas.List.{length-map}
use Rattle.std.proofs.lemmas.List.Elements.{All-get_or}
use Rattle.sync_types.specs.FaultSets.{FaultIds}
use Rattle.sync_types.specs.States.{State}
use Rattle.construction.specs.Plans.{plan_nodes, plan_depth}
use Rattle.construction.specs.Runs.{IsToleratedBy}
use Rattle.construction.specs.Steps.{state_of}
use Rattle.counter_core.specs.Meanings.{cut}
use Rattle.plan_laws.specs.PlanMeaning.{IsInRange}
use Rattle.shared_board.specs.Sharing.{Shares}
use Rattle.state_codec.specs.Ranges.{InRange}
use Rattle.state_codec.specs.Shapes.{Shape, fields_at}
use Rattle.tower.specs.Settled.{IsSettled}
use Rattle.adversary_script.specs.Eras.{faulty_of_era, faulty_at}
use Rattle.adversary_script.specs.Scripts.{Era, faulty_sets}
use Rattle.round_runner.specs.Runners.{Running}
use Rattle.machine_runner.proofs.Firsts.{era_within}
use Rattle.round_runner.proofs.Grown.{uncut_settled}
use Rattle.machine_runner.proofs.Places.{all_places}
use Rattle.round_runner.proofs.skipping.Runner+NoOverlay.gather.Goals as goal

pub gather-requires-clause-deep : goal.gather-requires-clause-deep
gather-requires-clause-deep g c =
    let kept = c.self.invariant in
    let deep = kept.fits.depth in
    let same = ap (λ (s : Shape). s.depth) kept.shape in
    omega (arith, deep, same)

pub gather-requires-clause-range : goal.gather-requires-clause-range
gather-requires-clause-range g c =
    let kept = c.self.invariant in
    let config : List State = c.self.inside.states.current in
    all_places (IsInRange c.self.inside.tower) config (λ u lt.
    kept.fits.counts u (omega (arith, lt, kept.size, kept.right.nodes)) _
    (subst (λ (s : Shape). InRange (fields_at s u) (state_of config u)) kept.shape
    (c.facts.ensures.current u lt)))

pub gather-requires-clause-ids : goal.gather-requires-clause-ids
gather-requires-clause-ids g c =
    let kept = c.self.invariant in
    let script = c.self.inside.script in
    let borne : IsToleratedBy c.self.inside.tower (faulty_of_era script c.self.inside.era) =
    All-get_or (IsToleratedBy c.self.inside.tower) (faulty_sets script) c.self.inside.era []
    (omega (
      arith,
      kept.here,
      era_within script c.self.inside.at,
      length-map script.eras (λ (era : Era). era.faulty),
    )) kept.right.borne in
    subst (λ (s : FaultIds). All (λ id. id < plan_nodes c.self.inside.tower) s.ids)
    (sym c.era_faulty-faulty.ensures) borne.ids

pub returns-clause-settled : goal.returns-clause-settled
returns-clause-settled g c = λ is.
    let inside = c.self.inside in
    let kept = c.self.invariant in
    let faulty : c.era_faulty-faulty.result.now.ids ≡ faulty_at inside.script inside.at =
    ap (λ (s : FaultIds). s.ids) c.era_faulty-faulty.ensures
    ∙ ap (faulty_of_era inside.script) kept.here in
    let settled : IsSettled inside.tower (faulty_at inside.script inside.at)
    (map (cut (plan_depth inside.tower)) inside.states.current) =
    subst (λ ids. IsSettled inside.tower ids
    (map (cut (plan_depth inside.tower)) inside.states.current)) faulty
    (subst (λ (s : Shares). IsSettled s.plan s.faulty s.states) c.gather.ensures.stands
    (c.is_settled.ensures is)) in
    subst (λ (r : Running _). IsSettled r.plan (faulty_at r.script r.at) r.states) c.self.view_is
    (uncut_settled inside.tower (faulty_at inside.script inside.at) inside.states.current settled)
