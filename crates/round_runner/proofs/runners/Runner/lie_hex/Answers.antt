use Rattle.std.proofs.Common.{◌≡◌, ◌<◌, ◌∙◌, true, sym, ap, subst, arith}
use Rattle.sync_types.specs.FaultSets.{is_in}
use Rattle.state_codec.specs.Shapes.{shape_nodes}
use Rattle.adversary_script.specs.Scripts.{faulty_sets}
use Rattle.adversary_script.specs.Eras.{era_of, faulty_at}
use Rattle.adversary_script.proofs.FaultyIds.{member_below}
use Rattle.adversary_script.proofs.LiesInRange.{depth_of_node}
use Rattle.round_runner.specs.Runners.{Running}
use Rattle.round_runner.proofs.runners.Runner.lie_hex.Goals as goal

pub write_hex-requires-clause-node : goal.write_hex-requires-clause-node
write_hex-requires-clause-node g c =
    let script = c.self.inside.script in
    let sender : is_in (faulty_at script c.self.inside.at) c.args.u ≡ true =
    subst (λ (r : Running _). is_in (faulty_at r.script r.at) c.args.u ≡ true)
    (sym c.self.view_is) c.requires.sender in
    let below : c.args.u < script.nodes =
    member_below script.nodes c.args.u (faulty_sets script) (era_of script c.self.inside.at)
    c.self.invariant.whole.formed.ids sender in
    let shape = ap shape_nodes (c.shape.ensures ∙ c.self.invariant.shape) in
    omega (arith, below, shape, c.self.invariant.fits.nodes, c.self.invariant.right.nodes)

pub invariant_of-self : goal.invariant_of-self
invariant_of-self g c =
    let kept = c.self.invariant in
    record {
      accepted = kept.accepted;
      right = kept.right;
      sound = kept.sound;
      whole = kept.whole;
      fits = kept.fits;
      ready = record {
        noise = c.lie_into.ensures.noise ∙ kept.ready.noise;
        heard = kept.ready.heard;
        work = kept.ready.work;
        step = record {
          lies = kept.ready.step.lies;
          shared = kept.ready.step.shared;
          out = depth_of_node c.self.inside.script.shape c.args.u _ c.lie_into.ensures.range;
        };
      };
      shape = kept.shape;
      size = kept.size;
      within = kept.within;
      here = kept.here;
      eras = kept.eras;
    }
