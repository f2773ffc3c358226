use Rattle.std.proofs.Common.{◌≡◌, ℕ, ◌<◌, List, [], length, map, get_or, Vec, Global, sym, ap, ◌∙◌}
use Rattle.std.proofs.Common.{arith}
use Rattle.std.proofs.lemmas.List.{length-map, get_or-map, get_or_default}
use Rattle.sync_types.specs.declared.states.Reg.{Reg}
use Rattle.shared_board.proofs.ByPlace.{board_size, number_at}
use Rattle.shared_board.proofs.board.Board.number.Goals as goal

pub index-requires : goal.index-requires
index-requires c =
    let inside = c.self.inside in
    let oi : Vec ℕ Global → List ℕ = λ v. v.items in
    omega (arith, c.self.invariant.many, length-map inside.outputs.items oi)

pub index-requires-2 : goal.index-requires-2
index-requires-2 c =
    let inside = c.self.inside in
    let oi : Vec ℕ Global → List ℕ = λ v. v.items in
    let ri : Vec Reg Global → List Reg = λ v. v.items in
    let shows : List (List ℕ) = map oi inside.outputs.items in
    let columns : List (List Reg) = map ri inside.registers.items in
    let size = board_size inside.nodes shows columns inside.liars.items c.args.self.now
    c.self.view_is in
    let column : c.index.result.now.items ≡ get_or shows 0 [] =
    ap oi c.index.ensures
    ∙ sym (get_or-map oi inside.outputs.items 0 c.index.result.now []
    (omega (arith, c.self.invariant.many, length-map inside.outputs.items oi))) in
    let long = c.self.invariant.outputs 0 [] (omega (arith, c.self.invariant.many)) in
    omega (arith, c.requires, size, ap length column, long, c.index.result.now.ok.0)

pub returns : goal.returns
returns c =
    let inside = c.self.inside in
    let u : ℕ = c.args.u in
    let oi : Vec ℕ Global → List ℕ = λ v. v.items in
    let ri : Vec Reg Global → List Reg = λ v. v.items in
    let shows : List (List ℕ) = map oi inside.outputs.items in
    let columns : List (List Reg) = map ri inside.registers.items in
    let size = board_size inside.nodes shows columns inside.liars.items c.args.self.now
    c.self.view_is in
    let column : c.index.result.now.items ≡ get_or shows 0 [] =
    ap oi c.index.ensures
    ∙ sym (get_or-map oi inside.outputs.items 0 c.index.result.now []
    (omega (arith, c.self.invariant.many, length-map inside.outputs.items oi))) in
    let within : u < inside.nodes = omega (arith, c.requires, size) in
    let long = c.self.invariant.outputs 0 [] (omega (arith, c.self.invariant.many)) in
    c.index-2.ensures
    ∙ (ap (λ xs. get_or xs u c.index-2.result.now) column
    ∙ (get_or_default (get_or shows 0 []) u c.index-2.result.now 0 (omega (arith, within, long))
    ∙ sym (number_at inside.nodes shows columns inside.liars.items c.args.self.now c.self.view_is u
    within)))
