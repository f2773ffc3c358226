use Rattle.std.proofs.Common.{◌≡◌, ℕ, ◌+◌, ◌<◌, if◌then◌else◌, List, length, map, get_or, sym, ap}
use Rattle.std.proofs.Common.{◌∙◌, subst}
use Rattle.std.proofs.lemmas.Bool.{le-leb}
use Rattle.std.proofs.lemmas.List.{get_or-map, get_or_default}
use Rattle.sync_types.specs.declared.states.Reg.{Reg}
use Rattle.sync_types.specs.States.{zero_register}
use Rattle.tower.specs.Placings.{Placing}
use Rattle.tower.specs.Placings.{register_by}
use Rattle.tower.proofs.groups.register_at.Goals as goal

pub returns-then-row-height-clause-register : goal.returns-then-row-height-clause-register
returns-then-row-height-clause-register g c =
    let groups : List Placing = c.args.groups.now in
    let places : List ℕ = c.args.row.now.places.items in
    let h : ℕ = c.args.height in
    let place : ℕ = c.index.result.now in
    let f : Placing → Reg = register_by c.args.board.now c.args.node c.args.lies.now in
    let at : place ≡ get_or places h 0 = c.index.ensures
    ∙ get_or_default places h place 0 c.requires.height in
    let leads = c.requires.step c.if-row-height.true in
    let less : place < length groups = subst (λ i. i < length groups) (sym at) leads.0 in
    let test = le-leb c.args.row.now.low (h + 1) c.if-row-height.true in
    c.register.ensures.register
    ∙ (sym (get_or-map f groups place c.index-groups-index.result zero_register less)
    ∙ (ap (λ i. get_or (map f groups) i zero_register) at
    ∙ sym (ap (λ t. if t then get_or (map f groups)
    (get_or places h 0) zero_register else zero_register) test)))
