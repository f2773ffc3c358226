use Rattle.std.proofs.Common.{ℕ, ◌+◌, List, length, map, get_or, Vec, Global, sym, ap, ◌∙◌, arith}
use Rattle.std.proofs.lemmas.List.FromFn.{length-map-range_with_len, get_or-map-range_with_len}
use Rattle.sync_types.specs.declared.states.Reg.{Reg}
use Rattle.shared_board.specs.Sharing.{place_among}
use Rattle.shared_board.proofs.ByPlace.{board_size, board_faulty}
use Rattle.shared_board.proofs.board.Board.liars_below.Goals as goal

pub index-requires : goal.index-requires
index-requires c =
    let inside = c.self.inside in
    let shows : List (List ℕ) = map (λ (v : Vec ℕ Global). v.items) inside.outputs.items in
    let columns : List (List Reg) = map (λ (v : Vec Reg Global). v.items) inside.registers.items in
    let ids : List ℕ = inside.liars.items in
    let size = board_size inside.nodes shows columns ids c.args.self.now c.self.view_is in
    let long = ap length c.self.invariant.counted
    ∙ length-map-range_with_len (place_among ids) 0 (inside.nodes + 1) in
    omega (arith, c.requires, size, long, inside.before.ok.0)

pub returns : goal.returns
returns c =
    let inside = c.self.inside in
    let shows : List (List ℕ) = map (λ (v : Vec ℕ Global). v.items) inside.outputs.items in
    let columns : List (List Reg) = map (λ (v : Vec Reg Global). v.items) inside.registers.items in
    let ids : List ℕ = inside.liars.items in
    let size = board_size inside.nodes shows columns ids c.args.self.now c.self.view_is in
    let u : ℕ = c.args.u in
    let x : ℕ = c.index.result.now in
    c.index.ensures
    ∙ (ap (λ xs. get_or xs u x) c.self.invariant.counted
    ∙ (get_or-map-range_with_len (place_among ids) 0 (inside.nodes + 1) u u x
    (omega (arith, c.requires, size)) (omega arith)
    ∙ ap (λ xs. place_among xs u)
    (sym (board_faulty inside.nodes shows columns ids c.args.self.now c.self.view_is))))
