use Rattle.std.proofs.Common.{arith, ◌≡◌, ◌<◌, ◌≤◌, ◌^◌, sym, ap, subst, ◌∙◌, length, List, ℕ}
use Rattle.std.proofs.Common.{get_or}
use Rattle.state_codec.specs.Shapes.{Fields, register_bits}
use Rattle.state_codec.proofs.Lows.{any_default}
use Rattle.state_codec.proofs.FullNumbers.{register_short}
use Rattle.state_codec.proofs.fields.Fields.register.Goals as goal

pub invariant_of-result : goal.invariant_of-result
invariant_of-result c =
    let inside : c.args.i < length c.self.inside.moduli.items =
    omega (arith, c.requires, ap (λ (f : Fields). length f.moduli) c.self.view_is) in
    let at : get_or c.self.inside.moduli.items c.args.i 0 ≡ c.index.result.now =
    sym (c.index.ensures
    ∙ any_default c.self.inside.moduli.items c.args.i c.index.result.now 0 inside) in
    let most : c.index.result.now ≤ 2 ^ 40 =
    subst (λ m. m ≤ 2 ^ 40) at (c.self.invariant.fields.moduli c.args.i 0 inside) in
    let there : c.args.i < length c.self.inside.sizes.items =
    omega (arith, inside, c.self.invariant.rooms) in
    let sized : c.index-2.result.now ≡ register_bits c.index.result.now =
    (c.index-2.ensures
    ∙ any_default c.self.inside.sizes.items c.args.i c.index-2.result.now 0 there)
    ∙ (c.self.invariant.each c.args.i inside ∙ ap register_bits at) in
    record {
      most = most;
      short = omega (arith, sized, register_short c.index.result.now most);
      sized = sized;
    }

pub returns : goal.returns
returns c =
    let moduli : c.self.inside.moduli.items ≡ c.args.self.now.moduli =
    ap (λ (f : Fields). f.moduli) c.self.view_is in
    let inside : c.args.i < length c.self.inside.moduli.items =
    omega (arith, c.requires, ap length moduli) in
    c.index.ensures ∙ (any_default c.self.inside.moduli.items c.args.i
    c.index.result.now 0 inside ∙ ap (λ (ms : List ℕ). get_or ms c.args.i 0) moduli)
