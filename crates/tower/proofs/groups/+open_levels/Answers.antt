use Rattle.std.proofs.Common.{◌≡◌, ℕ, ◌+◌, ◌-◌, ◌<◌, ◌≤◌, List, length, get_or, sym, ◌∙◌, subst}
use Rattle.std.proofs.Common.{⊎_elim, arith}
use Rattle.std.proofs.lemmas.Bool.{cases_eq}
use Rattle.std.proofs.lemmas.List.{get_or_default}
use Rattle.shared_board.specs.Boards.{Board}
use Rattle.tower.specs.Placings.{Placing}
use Rattle.tower.specs.Heeding.{IsShut, AreShut}
use Rattle.tower.proofs.groups.+open_levels.Goals as goal

pub open_levels-requires : goal.open_levels-requires
open_levels-requires t c =
    let board : Board = c.args.board.now in
    let node : ℕ = c.args.node in
    let groups : List Placing = c.args.groups.now in
    let places : List ℕ = c.args.row.now.places.items in
    let n : ℕ = c.args.levels in
    let h : ℕ = n - 1 in
    let lt : h < length places = omega (arith, c.requires.within, c.if-levels-eq0.false) in
    let has : c.args.row.now.low ≤ h + 1 =
    omega (arith, c.if-levels-row.false, c.if-levels-eq0.false) in
    let place : ℕ = c.index.result.now in
    let at : place ≡ get_or places h 0 = c.index.ensures ∙ get_or_default places h place 0 lt in
    let less : get_or places h 0 < length groups = (c.requires.leads h lt has).0 in
    let group : Placing = c.index-groups-index.result in
    let here : (none : Placing)
    → IsShut board node (get_or groups (get_or places h 0) none) = λ none.
    subst (λ i. IsShut board node (get_or groups i none)) at
    (subst (IsShut board node)
    (c.index-groups-index.is ∙ get_or_default groups place group none (omega (arith, less, at)))
    (c.is_open.ensures c.if-is_open.false)) in
    let shut : AreShut board c.args.row.now node groups h = λ l none le short low.
    ⊎_elim
    (λ e. subst (λ k. IsShut board node (get_or groups (get_or places k 0) none)) (sym e)
    (here none))
    (λ ne. c.requires.shut l none (omega (arith, le, ne, c.if-levels-eq0.false)) short low)
    (cases_eq l h) in (
      omega (arith, c.if-levels-eq0.false),
      (omega (arith, c.requires.within), (c.requires.leads, shut)),
    )
