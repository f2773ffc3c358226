use Rattle.std.proofs.Common.{◌≡◌, ◌-◌, length, refl, ap, ◌∙◌, arith}
use Rattle.std.specs.Prelude.{is_ok}
use Rattle.std.proofs.lemmas.List.Elements.{All-set}
use Rattle.state_codec.specs.Shapes.{shape_nodes}
use Rattle.adversary_script.specs.declared.parts.Era as kept
use Rattle.adversary_script.specs.Scripts.{Script}
use Rattle.adversary_script.specs.FaultySteps.{last_era}
use Rattle.adversary_script.specs.StartSteps.{started}
use Rattle.adversary_script.proofs.DraftEras.{with_start_seen, started_formed, first_started, if_ok}
use Rattle.adversary_script.proofs.drafts.Draft.add_start.Goals as goal

pub invariant_of-self : goal.invariant_of-self
invariant_of-self c = (
  first_started _ c.args.start (is_ok c.push.result) _ c.self.invariant.0 c.push.ensures.items
      (rw (← c.self.view_is) at c.requires),
  record {
    first = c.self.invariant.1.first;
    further = c.self.invariant.1.further;
  },
)

pub invariant_of-self-2 : goal.invariant_of-self-2
invariant_of-self-2 c =
    let eras = c.self.inside.parts.eras.items in
    let size : c.len-count.result ≡ length c.self.inside.parts.eras.items = omega arith in
    let at = rw size at c.index_mut.ensures.value in
    let range = rw (← c.self.view_is) at c.requires in
    rw size (
      started_formed _ c.self.invariant.0 eras refl (is_ok c.push-2.result) c.index_mut.result.now _
          c.args.start (omega arith) at refl refl c.push-2.ensures.items range,
      record {
        first = c.self.invariant.1.first;
        further =
            All-set (λ (era : kept.Era). era.faulty.nodes ≡ shape_nodes c.self.inside.shape.now)
            eras (length eras - 1) _
            (rw (← at) at (c.self.invariant.1.further (length eras - 1) c.index_mut.result.now
            (omega arith))) c.self.invariant.1.further;
      },
    )

pub returns : goal.returns
returns c =
    let eras = c.self.inside.parts.eras.items in
    let size : c.len-count.result ≡ length c.self.inside.parts.eras.items = omega arith in
    let at = rw size at c.index_mut.ensures.value in
    if_ok c.push-2.result (λ ok.
    rw size (with_start_seen _ c.self.invariant.0 eras refl c.index_mut.result.now _ c.args.start
    (omega arith) at (rw (rw ok at c.push-2.ensures.items) refl))
    ∙ ap (λ (s : Script). started s (last_era s.eras) c.args.start) c.self.view_is)
