use Rattle.std.proofs.Common.{◌≡◌, ℕ, true, false, subst, ◌<◌, length, ap, sym, ◌∙◌, arith}
use Rattle.sync_types.specs.FaultSets.{is_in}
use Rattle.adversary_script.specs.Scripts.{Script, faulty_sets, IsFormed}
use Rattle.adversary_script.specs.Eras.{era_of, faulty_at}
use Rattle.adversary_script.proofs.FaultyIds.{member_below}
use Rattle.adversary_script.specs.Lookup.{speaks}
use Rattle.adversary_script.proofs.Linked.{walk_begins, walk_goes_on, walk_rises}
use Rattle.adversary_script.proofs.scripts.Script.lie_for.Goals as goal

sender_below : (s : Script) (t u : ℕ) → IsFormed s → is_in (faulty_at s t) u ≡ true → u < s.nodes
sender_below s t u formed faulty =
    member_below s.nodes u (faulty_sets s) (era_of s t) formed.ids faulty

pub index-at-requires : goal.index-at-requires
index-at-requires c =
    let node = sender_below _ c.args.t c.args.u c.self.invariant.0.formed
    (subst (λ (s : Script). is_in (faulty_at s c.args.t) c.args.u ≡ true) (sym c.self.view_is)
    c.requires) in
    let size = c.self.invariant.3.nodes in
    omega (arith, node, size)

pub returns-clause-sender : goal.returns-clause-sender
returns-clause-sender c =
    let node = sender_below _ c.args.t c.args.u c.self.invariant.0.formed
    (subst (λ (s : Script). is_in (faulty_at s c.args.t) c.args.u ≡ true) (sym c.self.view_is)
    c.requires) in
    rw (← c.self.view_is) node

pub loop-at-init : goal.loop-at-init
loop-at-init c =
    let node = sender_below _ c.args.t c.args.u c.self.invariant.0.formed
    (subst (λ (s : Script). is_in (faulty_at s c.args.t) c.args.u ≡ true) (sym c.self.view_is)
    c.requires) in
    rw (← c.self.view_is) (walk_begins _ c.args.t c.args.u c.args.v _ c.self.inside.parts.lies.items
    c.self.inside.links.firsts.items c.self.inside.links.nexts.items _ c.self.invariant.3 node
    c.index-at.ensures)

pub loop-at-preserved : goal.loop-at-preserved
loop-at-preserved c =
    let fails : speaks c.args.self.now.groups c.args.t c.args.u c.args.v c.index-lie.result.now ≡
    false = sym c.speaks.ensures ∙ c.if-speaks.false in
    let here = rw (← c.self.view_is) at fails in
    let before = rw (← c.self.view_is) at c.loop-at.invariant in
    let inside : c.loop-at.at < length c.self.inside.parts.lies.items = omega arith in
    rw (← c.self.view_is)
    (walk_goes_on _ c.args.t c.args.u c.args.v _ c.self.inside.parts.lies.items
    c.self.inside.links.firsts.items c.self.inside.links.nexts.items c.loop-at.at _
    c.index-lie.result.now c.self.invariant.3 before inside c.index-lie.ensures here
    c.index-at-in-loop-at.ensures)

pub loop-at-smaller : goal.loop-at-smaller
loop-at-smaller c =
    let before = rw (← c.self.view_is) at c.loop-at.invariant in
    let inside : c.loop-at.at < length c.self.inside.parts.lies.items = omega arith in
    let size : length c.self.inside.parts.lies.items ≡ length c.args.self.now.lies =
    ap (λ (s : Script). length s.lies) c.self.view_is in
    let rises : c.loop-at.at < c.index-at-in-loop-at.result.now = walk_rises _ c.args.t c.args.u
    c.args.v _ c.self.inside.parts.lies.items c.self.inside.links.firsts.items
    c.self.inside.links.nexts.items c.loop-at.at _ c.index-lie.result.now c.self.invariant.3
    before inside c.index-at-in-loop-at.ensures in
    omega (arith, size, rises)
