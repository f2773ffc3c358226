-- The step of firing keeps values in range.
use Rattle.std.proofs.Common.{ℕ, ◌*◌, ◌<◌, Bool, true, false, List, [], IfSome, refl, subst, arith}
use Rattle.std.proofs.Math.Nat.{add-zero}
use Rattle.std.proofs.lemmas.List.Elements.{All-weaker, All-cons, All-nil}
use Rattle.sync_types.specs.declared.states.Reg.{Reg}
use Rattle.sync_types.specs.States.{register_at}
use Rattle.counter_core.specs.Overlays.{HasValues, KeepsRange}
use Rattle.consensus_layer.specs.Agreeing.{agree_step}
use Rattle.consensus_layer.specs.AgreeLaws.{agree_step_below}
use Rattle.firing.specs.declared.requests.Request.{Request}
use Rattle.firing.specs.Firings.{bit, requests_in, fire_layer_of}

bit_below : (b : Bool) → bit b < 2
bit_below true = omega arith
bit_below false = omega arith

pub fire_keeps : (nodes faults modulus depth : ℕ) (requests : List Request) → 3 * faults < nodes
    → KeepsRange (fire_layer_of nodes faults modulus depth requests)
fire_keeps nodes faults modulus depth requests quorum v o kept heard may =
    let layer = fire_layer_of nodes faults modulus depth requests in
    let m = may (omega arith) in
    let b = requests_in requests v kept.round in
    record {
      size = refl;
      range = All-cons (λ (r : Reg). IfSome r.a (λ a. a < 2))
          (agree_step nodes faults depth v (bit b) o heard).register []
          (agree_step_below nodes faults depth v (bit b) o 2 heard quorum m.node m.size
          (bit_below b)
          (All-weaker (HasValues layer) (λ s. IfSome (register_at depth s).a (λ x. x < 2))
          (λ s has. subst (λ d. IfSome (register_at d s).a (λ x. x < 2)) (add-zero depth)
          (has 0 (omega arith))) heard m.range))
          (All-nil (λ (r : Reg). IfSome r.a (λ a. a < 2)));
    }
