use Rattle.std.proofs.Common.{ℕ, ◌<◌, length, sym, ap, ◌∙◌, subst, arith}
use Rattle.std.specs.Prelude.{slice_index}
use Rattle.sync_types.specs.FaultSets.{FaultIds}
use Rattle.construction.specs.Steps.{state_of}
use Rattle.adversary_script.specs.Eras.{faulty_of_era}
use Rattle.state_codec.specs.Shapes.{Shape, fields_at}
use Rattle.state_codec.specs.Ranges.{InRange}
use Rattle.player.proofs.LiesTold.{room_with, each_with}
use Rattle.player.proofs.telling.tell_puppets.Goals as goal

pub loop-j-preserved : goal.loop-j-preserved
loop-j-preserved c =
    let script = c.args.script.now in
    let ids = faulty_of_era script c.args.era in
    let u : ℕ = c.at.result in
    let nodes = ap (λ (s : FaultIds). s.nodes) c.era_faulty-faulty.ensures in
    let inside : c.loop-j.j < script.nodes = omega (
      arith,
      c.loop-j-test.true,
      c.len-few.ensures.within,
      c.len-few.ensures.exact,
      c.len-j-end.ensures.exact,
      nodes,
    ) in
    let node : u < length c.args.states.now.current =
    omega (arith, c.at.ensures.node, nodes, c.requires.config.size) in
    let range : InRange (fields_at script.shape u) c.old.new.out =
    subst (InRange (fields_at script.shape u)) (sym c.old.ensures)
    (subst (λ (s : Shape). InRange (fields_at s u) (state_of c.args.states.now.current u))
    c.requires.config.shape (c.facts.ensures.current u node)) in
    let room = c.loop-j.invariant.room in
    record {
      room = room_with script c.loop-j.lies c.loop-j.j c.old.new.out room inside u range;
      own = λ k lt among. each_with script c.loop-j.lies c.loop-j.j c.old.new.out room inside u range
          (λ i s. InRange (fields_at script.shape (slice_index ids i)) s) k
          (λ same. subst (λ (w : ℕ). InRange (fields_at script.shape w) c.old.new.out)
          (c.at.ensures.id ∙ ap (λ (s : FaultIds). slice_index s.ids c.loop-j.j) c.era_faulty-faulty.ensures
          ∙ ap (slice_index ids) (sym same)) range)
          (λ other. c.loop-j.invariant.own k (omega (arith, lt, other)) among);
    }
