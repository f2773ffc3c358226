use Rattle.std.proofs.Common.{ℕ, ◌+◌, ◌≤◌, ◌<◌, length, refl, sym, subst, arith}
use Rattle.tower.specs.Heeding.{LeadsIn, AreShut}
use Rattle.tower.proofs.Heeded.{leads, all_shut, none_heeded, place_fits, group_fits, some_heeded}
use Rattle.tower.proofs.Heeded.{stretch_fits}
use Rattle.tower.proofs.towers.Tower.relevant_liars.Goals as goal

pub open_levels-open-requires-clause-leads : goal.open_levels-open-requires-clause-leads
open_levels-open-requires-clause-leads c =
    let s = c.shared.inside in
    let row = c.index-row.result.now in
    subst (λ gs. (l : ℕ) → l < length row.places.items → row.low ≤ l + 1
    → LeadsIn s.board row c.args.node gs l) (sym c.deref.ensures.value)
    (leads c.shared.invariant c.shared.view_is c.requires.plan c.requires.size c.requires.node
    c.index-row.ensures)

pub returns-then-shared-clause-enough : goal.returns-then-shared-clause-enough
returns-then-shared-clause-enough c = λ lies told tells tells_too same.
    let s = c.shared.inside in
    let row = c.index-row.result.now in
    let shut = all_shut c.shared.invariant c.shared.view_is c.requires.plan c.requires.size
    c.requires.node
    c.index-row.ensures
    c.if-shared.true in
    none_heeded c.shared.invariant c.shared.view_is c.requires.plan c.requires.size c.requires.node
    c.index-row.ensures
    c.facts.ensures.liars 0 shut refl lies told tells tells_too

pub returns-then-open-eq0-clause-enough : goal.returns-then-open-eq0-clause-enough
returns-then-open-eq0-clause-enough c = λ lies told tells tells_too same.
    let s = c.shared.inside in
    let row = c.index-row.result.now in
    let n : ℕ = c.open_levels-open.result in
    let shut : AreShut s.board row c.args.node s.groups.items n =
    subst (λ gs. AreShut s.board row c.args.node gs n) c.deref.ensures.value
    c.open_levels-open.ensures.shut in
    none_heeded c.shared.invariant c.shared.view_is c.requires.plan c.requires.size c.requires.node
    c.index-row.ensures
    c.facts.ensures.liars n shut c.if-open-eq0.true lies told tells tells_too

pub index-requires-2 : goal.index-requires-2
index-requires-2 c =
    let s = c.shared.inside in
    let row = c.index-row.result.now in
    let n : ℕ = c.open_levels-open.result in
    let order : n ≤ length row.places.items =
    omega (arith, c.open_levels-open.ensures.within, c.len.ensures, row.places.ok.0) in
    let some : 0 < n = omega (arith, c.if-open-eq0.false) in
    let fits = place_fits c.shared.invariant c.shared.view_is c.requires.plan c.requires.size
    c.requires.node
    c.index-row.ensures
    n order (c.open_levels-open.ensures.lowest some) some c.index.result.now c.index.ensures in
    omega (arith, fits, c.deref.ensures.len, s.groups.ok.0)

pub liars-requires : goal.liars-requires
liars-requires c =
    let s = c.shared.inside in
    let row = c.index-row.result.now in
    let n : ℕ = c.open_levels-open.result in
    let order : n ≤ length row.places.items =
    omega (arith, c.open_levels-open.ensures.within, c.len.ensures, row.places.ok.0) in
    let some : 0 < n = omega (arith, c.if-open-eq0.false) in
    group_fits c.shared.invariant c.shared.view_is c.requires.plan c.requires.size c.requires.node
    c.index-row.ensures
    n order (c.open_levels-open.ensures.lowest some) some c.index.result.now c.index.ensures
    c.index-2.result.now c.index-2.ensures

pub returns-clause-range : goal.returns-clause-range
returns-clause-range c =
    let s = c.shared.inside in
    let row = c.index-row.result.now in
    let n : ℕ = c.open_levels-open.result in
    let order : n ≤ length row.places.items =
    omega (arith, c.open_levels-open.ensures.within, c.len.ensures, row.places.ok.0) in
    let some : 0 < n = omega (arith, c.if-open-eq0.false) in
    stretch_fits c.shared.invariant c.shared.view_is c.requires.plan c.requires.size c.requires.node
    c.index-row.ensures
    n order (c.open_levels-open.ensures.lowest some) some c.index.result.now c.index.ensures
    c.index-2.result.now c.index-2.ensures
    c.facts.ensures.liars c.liars.result.0 c.liars.result.1 c.liars.ensures.first
    c.liars.ensures.last

pub returns-clause-enough : goal.returns-clause-enough
returns-clause-enough c =
    let s = c.shared.inside in
    let row = c.index-row.result.now in
    let n : ℕ = c.open_levels-open.result in
    let order : n ≤ length row.places.items =
    omega (arith, c.open_levels-open.ensures.within, c.len.ensures, row.places.ok.0) in
    let some : 0 < n = omega (arith, c.if-open-eq0.false) in
    let shut : AreShut s.board row c.args.node s.groups.items n =
    subst (λ gs. AreShut s.board row c.args.node gs n) c.deref.ensures.value
    c.open_levels-open.ensures.shut in
    some_heeded c.shared.invariant c.shared.view_is c.requires.plan c.requires.size c.requires.node
    c.index-row.ensures
    n order (c.open_levels-open.ensures.lowest some) some c.index.result.now c.index.ensures
    c.index-2.result.now c.index-2.ensures
    c.facts.ensures.liars shut c.liars.result.0 c.liars.result.1 c.liars.ensures.first
    c.liars.ensures.last
