use Rattle.std.proofs.Common.{◌≡◌, ◌-◌, ◌<◌, ◌≤◌, ℕ, List, [], length, sym, ap, ap₂, ◌∙◌, subst}
use Rattle.std.proofs.Common.{arith}
use Rattle.std.proofs.lemmas.List.FromFn.{length-map-range_with_len}
use Rattle.sync_types.specs.States.{State}
use Rattle.counter_core.specs.declared.overlays.NoOverlay.{NoOverlay}
use Rattle.counter_core.specs.NoLayers.{no_layer}
use Rattle.state_codec.specs.Packs.{Pack}
use Rattle.state_codec.specs.Shapes.{Shape}
use Rattle.adversary_script.specs.Eras.{era_of, end_of_era}
use Rattle.round_runner.specs.Runners.{Running, IsPlaying}
use Rattle.round_runner.specs.Skipping.{grown}
use Rattle.machine_runner.proofs.Firsts.{era_within, end_within}
use Rattle.machine_runner.proofs.Keeping.{range_of}
use Rattle.round_runner.proofs.PlayedAhead.{bare_shape, same_era, jumps}
use Rattle.round_runner.proofs.skipping.Runner+NoOverlay.skip.Goals as goal
use Rattle.round_runner.proofs.skipping.Runner+NoOverlay.skip.Goals.{
  else-at-to-via-then-at-to+else-is_settled,
}
use Rattle.round_runner.proofs.skipping.Runner+NoOverlay.skip.Goals.{else-at-to-via-else-at-to}

pub grow-requires : goal.grow-requires
grow-requires c =
    c.self.invariant.ready.step.out ∙ sym (ap (λ (s : Shape). s.depth) c.self.invariant.shape)

pub invariant_of-self : goal.invariant_of-self
invariant_of-self c =
    let kept = c.self.invariant in
    let script = c.self.inside.script in
    let at : ℕ = c.self.inside.at in
    let to : ℕ = c.min-to.result in
    let is = c.self.view_is ∙ c.is_settled.ensures.same in
    let from = subst (λ (r : Running NoOverlay). r.at ≤ to) (sym is)
    (omega (arith, c.if-at-to.true, c.at.ensures)) in
    let before = subst (λ (r : Running NoOverlay). to < end_of_era r.script (era_of r.script r.at))
    (sym is) (omega (arith, c.min-to.ensures, c.era_end.ensures.value, c.era_end.ensures.behind)) in
    let ready = kept.ready in
    record {
      accepted = kept.accepted;
      right = kept.right;
      sound = kept.sound;
      whole = kept.whole;
      fits = kept.fits;
      ready = record {
        noise = ready.noise;
        heard = ready.heard;
        work = ready.work;
        step = record {
          lies = ready.step.lies;
          shared = ready.step.shared;
          out = c.grow.ensures.depth ∙ ready.step.out;
        };
      };
      shape = ap (λ (p : Pack). p.shape) c.flip.ensures
          ∙ (ap (λ (p : Pack). p.shape) c.grow.ensures.states ∙ kept.shape);
      size = ap (λ (p : Pack). length p.current) c.flip.ensures
          ∙ (ap (λ (p : Pack). length p.next) c.grow.ensures.states
          ∙ (length-map-range_with_len _ 0 (length c.self.inside.states.current) ∙ kept.size));
      within = end_within script kept.whole (era_of script at) to (era_within script at) before;
      here = kept.here ∙ sym (same_era script kept.whole at to from before);
      eras = kept.eras;
    }

pub returns-then-is_settled-clause-played : goal.returns-then-is_settled-clause-played
returns-then-is_settled-clause-played c = λ began plays.
    let inside = c.self.inside in
    let kept = c.self.invariant in
    let script = inside.script in
    let config : List State = inside.states.current in
    let to : ℕ = c.min-to.result in
    let view : Running NoOverlay = record {
      plan = inside.tower;
      script = script;
      overlay = inside.overlay;
      at = inside.at;
      states = config;
      locks = inside.locks.items;
    } in
    let range = range_of inside.states.shape script.shape script.nodes config kept.shape kept.size
    c.facts.ensures.current in
    let states : c.flip.new.self.current ≡ grown script.shape script.nodes (to - inside.at) config =
    ap (λ (p : Pack). p.current) c.flip.ensures
    ∙ (ap (λ (p : Pack). p.next) c.grow.ensures.states
    ∙ ap₂ (λ (s : Shape) (n : ℕ). grown s n (to - inside.at) config) kept.shape kept.size) in
    subst (λ (states : List State). IsPlaying (λ o. no_layer) (λ o. []) began
    (record view { at = to; states = states })) (sym states)
    (jumps view c.args.self.now to (c.self.view_is ∙ c.is_settled.ensures.same) kept.accepted
    kept.right.nodes (bare_shape inside.tower script.shape kept.right.shape) kept.whole kept.size
    range kept.within (omega (arith, c.if-at-to.true, c.at.ensures))
    (omega (arith, c.min-to.ensures, c.era_end.ensures.value, c.era_end.ensures.behind))
    (c.is_settled.ensures.settled c.if-is_settled.true)
    (c.is_settled.ensures.known c.if-is_settled.true) began plays)

pub returns-else-at-to-clause-played : goal.returns-else-at-to-clause-played
returns-else-at-to-clause-played c = λ began plays.
    let same : c.else-at-to.self ≡ c.args.self.now = elim c.else-at-to.branch [
      | else-at-to-via-then-at-to+else-is_settled w ↦ w.self-is ∙ w.is_settled.ensures.same
      | else-at-to-via-else-at-to w ↦ w.self-is
    ] in
    c.round.ensures.played began (subst
    (λ (r : Running NoOverlay). IsPlaying (λ o. no_layer) (λ o. []) began r) (sym same) plays)
