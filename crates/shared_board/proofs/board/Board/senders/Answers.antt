use Rattle.std.proofs.Common.{◌≡◌, ℕ, ◌<◌, List, [], length, map, get_or, Vec, Global, sym, ap, ◌∙◌}
use Rattle.std.proofs.Common.{arith}
use Rattle.std.proofs.lemmas.List.{length-map, get_or-map}
use Rattle.sync_types.specs.declared.states.Reg.{Reg}
use Rattle.shared_board.proofs.ByPlace.{board_depth, are_sent, sent_is}
use Rattle.shared_board.proofs.board.Board.senders.Goals as goal

-- the column that is lent
lent_is : {X : Type 0} (columns : List (Vec X Global)) (h : ℕ) (column : Vec X Global)
    (lent : List X) → h < length columns → lent ≡ column.items → column ≡ get_or columns h column
    → lent ≡ get_or (map (λ (v : Vec X Global). v.items) columns) h []
lent_is {X} columns h column lent lt is at =
    let items : Vec X Global → List X = λ v. v.items in
    is ∙ ap items at ∙ sym (get_or-map items columns h column [] lt)

pub new-requires : goal.new-requires
new-requires c =
    let inside = c.self.inside in
    let shows : List (List ℕ) = map (λ (v : Vec ℕ Global). v.items) inside.outputs.items in
    let columns : List (List Reg) = map (λ (v : Vec Reg Global). v.items) inside.registers.items in
    let ids : List ℕ = inside.liars.items in
    let h : ℕ = c.args.height in
    let depth = board_depth inside.nodes shows columns ids c.args.self.now c.self.view_is in
    let deep : h < length columns = omega (arith, c.requires, depth) in
    let many = length-map inside.outputs.items (λ (v : Vec ℕ Global). v.items) in
    let all = length-map inside.registers.items (λ (v : Vec Reg Global). v.items) in
    are_sent inside.nodes shows columns ids c.args.self.now c.self.view_is inside.marks.items
    inside.before.items _ c.self.invariant h deep _ _ _ _
    (lent_is inside.outputs.items h c.index.result.now _
    (omega (arith, deep, c.self.invariant.many, many)) c.deref.ensures.value c.index.ensures)
    (lent_is inside.registers.items h c.index-2.result.now _ (omega (arith, deep, all))
    c.deref-2.ensures.value c.index-2.ensures)
    c.deref-3.ensures.value c.deref-4.ensures.value

pub returns : goal.returns
returns c =
    let inside = c.self.inside in
    let shows : List (List ℕ) = map (λ (v : Vec ℕ Global). v.items) inside.outputs.items in
    let columns : List (List Reg) = map (λ (v : Vec Reg Global). v.items) inside.registers.items in
    let ids : List ℕ = inside.liars.items in
    let h : ℕ = c.args.height in
    let depth = board_depth inside.nodes shows columns ids c.args.self.now c.self.view_is in
    let deep : h < length columns = omega (arith, c.requires, depth) in
    let many = length-map inside.outputs.items (λ (v : Vec ℕ Global). v.items) in
    let all = length-map inside.registers.items (λ (v : Vec Reg Global). v.items) in
    c.new.ensures
    ∙ sent_is inside.nodes shows columns ids c.args.self.now c.self.view_is inside.marks.items
    inside.before.items _ c.self.invariant h deep _ _ _
    (lent_is inside.outputs.items h c.index.result.now _
    (omega (arith, deep, c.self.invariant.many, many)) c.deref.ensures.value c.index.ensures)
    (lent_is inside.registers.items h c.index-2.result.now _ (omega (arith, deep, all))
    c.deref-2.ensures.value c.index-2.ensures)
    c.deref-3.ensures.value
