use Rattle.std.proofs.Common.{◌≡◌, ℕ, ◌<◌, Bool, false, List, ◌∷◌, [], length, map, set, get_or}
use Rattle.std.proofs.Common.{Some, refl, sym, ap, ◌∙◌, arith}
use Rattle.std.specs.Prelude.{nat_eq}
use Rattle.std.specs.Option.{option_eq}
use Rattle.std.proofs.lemmas.List.{map-set, get_or-map}
use Rattle.counter_core.specs.HeardRegisters.{RegisterHeard}
use Rattle.counter_core.specs.Overlays.{layered}
use Rattle.counter_core.proofs.Layers.{layered_one}
use Rattle.consensus_layer.specs.Agreeing.{Agreeing, agree_step}
use Rattle.firing.specs.declared.fires.Fire.{Fire}
use Rattle.firing.specs.Firings.{bit, requests_in, fire_layer_of}
use Rattle.firing.proofs.firing.FiringOverlay.advance.Goals as goal

abbrev made : ℕ → Bool → Fire
made round b = record { round = round; fired = b }

abbrev heard_of : RegisterHeard → (v input output : ℕ) → Agreeing
heard_of h v input output = agree_step (length h.states) h.faults h.register v input output h.states

own_round : (round : ℕ) (fired : List Bool) (v : ℕ) → v < length fired
    → (get_or (map (made round) fired) v (made 0 false)).round ≡ round
own_round round fired v lt =
    ap (λ (f : Fire). f.round) (get_or-map (made round) fired v false (made 0 false) lt)

pub returns-clause-out : goal.returns-clause-out
returns-clause-out c =
    let f = c.args.self.now in
    let layer = fire_layer_of f.nodes f.faults f.modulus f.depth f.requests in
    let step = c.requires.step (omega arith) in
    let room = step.room in
    let node = step.node in
    let at : ℕ
    → Agreeing = λ input. agree_step f.nodes f.faults f.depth c.args.node input c.args.output
    c.args.heard.now in
    let own = own_round f.round f.fired.items c.args.node (omega (arith, node)) in
    c.set_reg.ensures
    ∙ (layered_one layer c.args.out.now c.agree-agreed.result.register refl (omega arith)
    ∙ ap (λ r. layered layer (r ∷ []) c.args.out.now)
    (c.agree-agreed.ensures.step.0
    ∙ ap (λ (h : RegisterHeard). (heard_of h c.args.node c.input.result c.args.output).register)
    c.of-values.ensures
    ∙ ap
    (λ (n : ℕ).
    (agree_step n f.faults f.depth c.args.node c.input.result c.args.output
    c.args.heard.now).register)
    step.size
    ∙ ap (λ i. (at i).register) c.input.ensures
    ∙ ap (λ round. (at (bit (requests_in f.requests c.args.node round))).register) (sym own)))

pub returns-clause-kept : goal.returns-clause-kept
returns-clause-kept c =
    let f = c.args.self.now in
    let step = c.requires.step (omega arith) in
    let node = step.node in
    let at : ℕ
    → Agreeing = λ input. agree_step f.nodes f.faults f.depth c.args.node input c.args.output
    c.args.heard.now in
    let own = own_round f.round f.fired.items c.args.node (omega (arith, node)) in
    map-set (made f.round) f.fired.items c.args.node c.eq.result
    ∙ ap (set (map (made f.round) f.fired.items) c.args.node)
    (ap (made f.round)
    (c.eq.ensures
    ∙ ap (λ d. option_eq nat_eq d (Some 1))
    (c.agree-agreed.ensures.step.1
    ∙ ap
    (λ (h : RegisterHeard).
    (heard_of h c.args.node c.input.result c.args.output).decided)
    c.of-values.ensures
    ∙ ap
    (λ (n : ℕ).
    (agree_step n f.faults f.depth c.args.node c.input.result c.args.output
    c.args.heard.now).decided)
    step.size
    ∙ ap (λ i. (at i).decided) c.input.ensures))
    ∙ ap
    (λ round. made round
    (option_eq nat_eq (at (bit (requests_in f.requests c.args.node round))).decided (Some 1)))
    (sym own))
