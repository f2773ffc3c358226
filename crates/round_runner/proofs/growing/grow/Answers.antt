use Rattle.std.proofs.Common.{◌≡◌, ◌<◌, ℕ, List, length, refl, sym, ap, ◌∙◌, subst, arith}
use Rattle.std.proofs.lemmas.List.{length-set}
use Rattle.std.proofs.lemmas.List.FromFn.{fill_by_all}
use Rattle.sync_types.specs.States.{State, zero_state}
use Rattle.construction.specs.Steps.{state_of}
use Rattle.state_codec.specs.Packs.{Pack}
use Rattle.state_codec.specs.Shapes.{fields_at, shape_nodes}
use Rattle.adversary_script.specs.Lies.{shifted}
use Rattle.adversary_script.proofs.LiesInRange.{depth_of_node}
use Rattle.machine_runner.proofs.Places.{set_has}
use Rattle.round_runner.proofs.growing.grow.Goals as goal

pub loop-v-init : goal.loop-v-init
loop-v-init c = record {
  fixed = refl;
  size = c.facts.ensures.size;
  depth = refl;
  filled = λ u lt. absurd (omega arith);
}

pub shift_into-requires-clause-node : goal.shift_into-requires-clause-node
shift_into-requires-clause-node c =
    let nodes = ap (λ (p : Pack). shape_nodes p.shape) c.loop-v.invariant.fixed in
    omega (arith, nodes, c.facts.ensures.few, c.loop-v-test.true, c.nodes-v-end.ensures.current)

pub shift_into-requires-clause-from : goal.shift_into-requires-clause-from
shift_into-requires-clause-from c =
    let current = ap (λ (p : Pack). length p.current) c.loop-v.invariant.fixed in
    omega (arith, current, c.loop-v-test.true, c.nodes-v-end.ensures.current)

pub shift_into-requires-clause-depth : goal.shift_into-requires-clause-depth
shift_into-requires-clause-depth c =
    c.loop-v.invariant.depth
    ∙ (c.requires ∙ sym (ap (λ (p : Pack). p.shape.depth) c.loop-v.invariant.fixed))

pub put-requires-clause-node : goal.put-requires-clause-node
put-requires-clause-node c =
    omega (
      arith,
      c.loop-v.invariant.size,
      c.loop-v-test.true,
      c.nodes-v-end.ensures.current,
    )

pub loop-v-preserved : goal.loop-v-preserved
loop-v-preserved c =
    let h = c.loop-v.invariant in
    let old : Pack = c.args.states.now in
    let v : ℕ = c.loop-v.v in
    let P : ℕ → State → Type 0 =
    λ u s. s ≡ shifted c.args.by (fields_at old.shape u) (state_of old.current u) in
    let lt : v < length c.loop-v.states.next =
    omega (arith, h.size, c.loop-v-test.true, c.nodes-v-end.ensures.current) in
    let here : P v c.shift_into.new.out = c.shift_into.ensures.value
    ∙ ap (λ (p : Pack). shifted c.args.by (fields_at p.shape v) (state_of p.current v)) h.fixed in
    record {
      fixed = rw (c.put.ensures, h.fixed) refl;
      size = ap (λ (p : Pack). length p.next) c.put.ensures
          ∙ (length-set c.loop-v.states.next v c.shift_into.new.out ∙ h.size);
      depth = depth_of_node c.loop-v.states.shape v _ c.shift_into.ensures.range
          ∙ (ap (λ (p : Pack). p.shape.depth) h.fixed ∙ sym c.requires);
      filled = λ u less. subst (λ (next : List State). P u (state_of next u))
          (sym (ap (λ (p : Pack). p.next) c.put.ensures))
          (set_has P c.loop-v.states.next v c.shift_into.new.out lt here u
          (λ other. h.filled u (omega (arith, less, other))));
    }

pub returns-clause-states : goal.returns-clause-states
returns-clause-states c =
    let h = c.loop-v.invariant in
    let old : Pack = c.args.states.now in
    h.fixed
    ∙ ap (λ (next : List State). let p : Pack = record old { next = next } in p)
    (fill_by_all
    (λ v. shifted c.args.by (fields_at old.shape v) (state_of old.current v))
    c.loop-v.states.next (length old.current) (zero_state 0) h.size
    (λ u lt. h.filled u
    (omega (arith, lt, c.loop-v-test.false, c.nodes-v-end.ensures.current))))
