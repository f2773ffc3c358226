-- The whole of a plan around each of its nodes, where a configuration and what is heard are laid.
use Rattle.std.proofs.Common.{◌≡◌, ◌<◌, List, sym, ◌∙◌, subst, arith}
use Rattle.sync_types.specs.States.{State}
use Rattle.adversary_script.specs.Scripts.{Script}
use Rattle.machine_runner.specs.Hearing.{HasRoom}
use Rattle.machine_runner.specs.Laws.{IsReadFor}
use Rattle.halving_plan.specs.Groups.{whole_of}
use Rattle.halving_plan.specs.Laws.{machine_in}
use Rattle.halving_plan.specs.Plans.{HalvingNumbers, IsAccepted}
use Rattle.halving_plan.proofs.Sound.{nodes_are}
use Rattle.trace.specs.declared.views.View.{View}
use Rattle.trace.specs.Around.{IsAround}

pub whole_around : (plan given : HalvingNumbers) (script : Script) (view : View) (heard : List State)
    → given ≡ plan → IsAccepted plan → IsReadFor (machine_in plan) script
    → view.heading.node < plan.nodes → HasRoom script view.config.now → HasRoom script heard
    → IsAround (whole_of given) view heard
whole_around plan given script view heard is accepted read node config hears =
    let nodes = read.right.nodes in
    let same = nodes_are plan accepted in
    let depth = read.shape.depth in
    let size = config.size in
    subst (λ (p : HalvingNumbers). IsAround (whole_of p) view heard) (sym is) (record {
      first = omega arith;
      last = omega (arith, node);
      within = omega (arith, size, nodes, same);
      size = hears.size ∙ sym config.size;
      deep = λ k d lt. omega (arith, config.deep k d lt, depth);
      hears = λ k d lt. omega (arith, hears.deep k d lt, depth);
    })
