use Rattle.std.proofs.Common.{ℕ, List, map, Vec, Global, arith}
use Rattle.sync_types.specs.declared.states.Reg.{Reg}
use Rattle.shared_board.proofs.ByPlace.{board_size, board_liars}
use Rattle.shared_board.proofs.board.Board.facts.Goals as goal

pub returns-clause-liars : goal.returns-clause-liars
returns-clause-liars c =
    let inside = c.self.inside in
    let shows : List (List ℕ) = map (λ (v : Vec ℕ Global). v.items) inside.outputs.items in
    let columns : List (List Reg) = map (λ (v : Vec Reg Global). v.items) inside.registers.items in
    let ids : List ℕ = inside.liars.items in
    let size = board_size inside.nodes shows columns ids c.args.self.now c.self.view_is in
    board_liars inside.nodes shows columns ids c.args.self.now c.self.view_is c.self.invariant.liars

pub returns-clause-most : goal.returns-clause-most
returns-clause-most c =
    let inside = c.self.inside in
    let shows : List (List ℕ) = map (λ (v : Vec ℕ Global). v.items) inside.outputs.items in
    let columns : List (List Reg) = map (λ (v : Vec Reg Global). v.items) inside.registers.items in
    let ids : List ℕ = inside.liars.items in
    let size = board_size inside.nodes shows columns ids c.args.self.now c.self.view_is in
    omega (arith, size, c.self.invariant.most)
