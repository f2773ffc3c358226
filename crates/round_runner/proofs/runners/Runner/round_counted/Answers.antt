use Rattle.std.proofs.Common.{◌≡◌, ℕ, ◌+◌, ◌<◌, List, Option, None, set, sym, ap, ◌∙◌, refl, subst}
use Rattle.std.proofs.Common.{arith}
use Rattle.std.proofs.lemmas.List.{get_or_default}
use Rattle.construction.specs.Runs.{IsToleratedBy}
use Rattle.adversary_script.specs.Eras.{era_of, faulty_of_era}
use Rattle.sync_types.specs.FaultSets.{FaultIds}
use Rattle.state_codec.specs.Packs.{Pack}
use Rattle.plan_laws.specs.PlanMeaning.{plan_meaning}
use Rattle.machine_runner.specs.FirstLocked.{first_of}
use Rattle.machine_runner.proofs.Eras.{of_each_era}
use Rattle.machine_runner.proofs.Firsts.{era_within}
use Rattle.machine_runner.proofs.KnownLocks.{noted_is}
use Rattle.layer_laws.specs.Scenes.{Scene}
use Rattle.layer_laws.specs.PlayedScenes.{stepped_scene}
use Rattle.layer_laws.proofs.Playing.{stepped_is, scene_is}
use Rattle.round_runner.specs.Locks.{is_locked}
use Rattle.round_runner.specs.Runners.{Running}
use Rattle.round_runner.proofs.SetOn.{set_on}
use Rattle.round_runner.proofs.Playing.{plays_on, advances_of}
use Rattle.round_runner.proofs.runners.Runner.round_counted.Goals as goal

pub returns-clause-advances : goal.returns-clause-advances
returns-clause-advances g c =
    let m = plan_meaning c.self.inside.tower in
    let script = c.self.inside.script in
    let t : ℕ = c.self.inside.at in
    let config = c.self.inside.states.current in
    let layer = g.O.Overlay.layer c.self.inside.overlay in
    let begun = g.O.Overlay.layer c.begin.new.self in
    let kept_begun = g.O.Overlay.kept c.begin.new.self in
    let at : ℕ = c.self.inside.at + 1 in
    let era : ℕ = c.era_of-era.result in
    let locks : List (Option ℕ) = c.self.inside.locks.items in
    let scene = stepped_is m script layer begun t config (g.O.Overlay.kept c.self.inside.overlay)
    kept_begun c.begin.ensures.layer c.begin.ensures.kept in
    let states : c.flip.new.self.current
    ≡ (stepped_scene m script begun t config kept_begun).states =
    ap (λ (p : Pack). p.current) c.flip.ensures
    ∙ ap (λ (p : Pack). p.next) c.step_all.ensures.states in
    advances_of g.O.Overlay.layer g.O.Overlay.kept c.args.self.now _ _ (sym c.self.view_is)
    (record {
      plan = refl;
      script = refl;
      layer = c.step_all.ensures.layer ∙ c.begin.ensures.layer;
      at = refl;
      scene = scene_is (states ∙ ap (λ (s : Scene _). s.states) scene)
          (c.step_all.ensures.kept ∙ ap (λ (s : Scene _). s.kept) scene);
      locks = c.note_lock.ensures
          ∙ ap (set locks era) (subst (λ (known : Option ℕ).
          first_of known c.known_or_locked-locked.result at ≡ first_of known
          (is_locked c.self.inside.tower (c.era_faulty-faulty.result.now).ids
          c.flip.new.self.current) at)
          (c.index.ensures ∙ get_or_default locks era c.index.result.now None
          (omega (arith, c.era_of-era.ensures.most, c.self.invariant.eras)))
          (c.known_or_locked-locked.ensures at))
          ∙ noted_is (is_locked c.self.inside.tower) script locks at c.flip.new.self.current era
          (c.era_faulty-faulty.result.now).ids c.era_of-era.ensures.value
          (ap (λ (s : FaultIds). s.ids) c.era_faulty-faulty.ensures);
    })

-- how many may be faulty in each era is what the plan tolerates
pub invariant_of-round : goal.invariant_of-round
invariant_of-round g c =
    let script = c.self.inside.script in
    let kept = c.self.invariant in
    record {
      nodes = kept.right.nodes;
      borne = of_each_era (IsToleratedBy c.self.inside.tower) script
          (era_of script c.self.inside.at)
          (era_within script c.self.inside.at) kept.right.borne;
      liars = c.era_faulty.ensures ∙ ap (λ (j : ℕ). let set : FaultIds =
          record { nodes = script.nodes; ids = faulty_of_era script j } in set) kept.here;
      left = subst (λ (r : Running _). r.at < r.script.rounds) (sym c.self.view_is) c.requires;
      behind = c.beginning_in.ensures;
    }

pub step_all-requires : goal.step_all-requires
step_all-requires g c =
    let kept = c.self.invariant in
    record {
      set = set_on _ (g.O.Overlay.layer c.self.inside.overlay) _ c.begin.ensures.layer
          c.self.inside.states c.self.inside.states c.self.inside.room c.self.inside.room refl refl
          kept.ready (record {
            fits = kept.fits;
            over = kept.right.over;
            shape = kept.shape;
            size = kept.size;
            ready = kept.ready;
          });
    }

pub returns-clause-played : goal.returns-clause-played
returns-clause-played g c = λ began is. plays_on g.O.Overlay.layer g.O.Overlay.kept began _ _ is
    (returns-clause-advances g c)
