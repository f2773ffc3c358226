use Rattle.std.proofs.Common.{◌≡◌, true, sym, ap, ◌∙◌}
use Rattle.edge_io.proofs.Writing.{writes_none}
use Rattle.trace.specs.Places.{Placed}
use Rattle.trace.proofs.places.Place.put_heard_if.Goals as goal

pub returns-then-self : goal.returns-then-self
returns-then-self g c =
    let hears : c.args.self.now.view.hears ≡ true =
    ap (λ (p : Placed). p.view.hears) (sym c.self.view_is) ∙ c.if-self.true in
    rw hears c.put_heard.ensures

pub returns-else-self : goal.returns-else-self
returns-else-self g c = rw (← c.self.view_is, c.if-self.false) writes_none
