use Rattle.std.proofs.Common.{◌≡◌, ℕ, ◌<◌, List, length, All, refl, sym, ap, ◌∙◌, subst, arith}
use Rattle.std.proofs.lemmas.List.{with_items_is}
use Rattle.sync_types.specs.FaultSets.{FaultIds}
use Rattle.sync_types.specs.States.{State}
use Rattle.state_codec.specs.Shapes.{Shape}
use Rattle.counter_core.specs.Meanings.{written}
use Rattle.player.specs.Rooms.{HasLies, AreOwn, TellsItself, AreTold, sent_of}
use Rattle.player.proofs.Taken.{lies_taken, step_taken}
use Rattle.player.proofs.stepping.step_machine.Goals as goal

pub advance_shared-requires-clause-lies : goal.advance_shared-requires-clause-lies
advance_shared-requires-clause-lies g c =
    let turn = c.args.turn.now in
    let script = turn.round.now.script.now in
    let machine = g.M.Machine.machine c.args.machine.now in
    let ids = turn.round.now.faulty.now.ids in
    let is : c.deref.result.now ≡ c.tell.new.lies = c.deref.ensures.value
    ∙ with_items_is c.args.room.now.lies c.tell.new.lies (c.tell.auto.lies ∙ c.deref_mut.ensures.len)
    in
    let size = ap (λ (xs : List State). length xs) is ∙ c.tell.ensures.room.size in
    let nodes = ap (λ (s : FaultIds). s.nodes) turn.round.now.liars in
    lies_taken ids c.deref.result.now c.len-liars.result c.len-liars.ensures.exact
    (omega (arith, size, nodes, c.len-liars.ensures.exact, c.len-liars.ensures.within))
    script machine (sent_of turn.states.now ids) turn.v refl
    (ap (λ (s : Shape). s.depth) turn.shape)
    (subst (λ (n : ℕ). All (λ id. id < n) ids) (nodes ∙ c.requires.nodes) c.facts.ensures.below)
    c.requires.fronts (subst (HasLies script) (sym is) c.tell.ensures.room)
    (subst (AreOwn script ids) (sym is) c.tell.ensures.own)
    (subst (TellsItself ids turn.v turn.states.now.current) (sym is) c.tell.ensures.itself)

pub returns-clause-out : goal.returns-clause-out
returns-clause-out g c =
    let turn = c.args.turn.now in
    let script = turn.round.now.script.now in
    let t : ℕ = turn.round.now.t in
    let config = turn.states.now.current in
    let machine = g.M.Machine.machine c.args.machine.now in
    let ids = turn.round.now.faulty.now.ids in
    let is : c.deref.result.now ≡ c.tell.new.lies = c.deref.ensures.value
    ∙ with_items_is c.args.room.now.lies c.tell.new.lies (c.tell.auto.lies ∙ c.deref_mut.ensures.len)
    in
    let size = ap (λ (xs : List State). length xs) is ∙ c.tell.ensures.room.size in
    let nodes = ap (λ (s : FaultIds). s.nodes) turn.round.now.liars in
    let within = c.relevant_liars-heeded.ensures.within in
    c.advance_shared.ensures.out
    ∙ ap (λ (s : State). written machine.depth s c.args.room.now.out)
    (step_taken ids c.deref.result.now c.len-liars.result c.len-liars.ensures.exact
    (omega (arith, size, nodes, c.len-liars.ensures.exact, c.len-liars.ensures.within))
    script t turn.v config turn.node turn.size (ap (λ (s : FaultIds). s.ids) turn.round.now.liars)
    c.facts.ensures.rising
    (subst (λ (n : ℕ). All (λ id. id < n) ids) nodes c.facts.ensures.below)
    (subst (TellsItself ids turn.v config) (sym is) c.tell.ensures.itself)
    (machine.step turn.v) c.relevant_liars-heeded.result.0 c.relevant_liars-heeded.result.1
    c.relevant_liars-heeded.ensures.enough within
    (subst (AreTold script t ids turn.v config c.relevant_liars-heeded.result.0
    c.relevant_liars-heeded.result.1) (sym is) (λ j low high.
    let both = c.hull.ensures.one j low high in c.tell.ensures.told j both.0 both.1)))

pub returns-clause-told : goal.returns-clause-told
returns-clause-told g c =
    let turn = c.args.turn.now in
    let script = turn.round.now.script.now in
    let ids = turn.round.now.faulty.now.ids in
    let is = with_items_is c.args.room.now.lies c.tell.new.lies
    (c.tell.auto.lies ∙ c.deref_mut.ensures.len) in
    subst (AreTold script turn.round.now.t ids turn.v turn.states.now.current c.args.layers.0
    c.args.layers.1) (sym is) (λ j low high.
    let both = c.hull.ensures.other j low high in c.tell.ensures.told j both.0 both.1)

pub returns-clause-own : goal.returns-clause-own
returns-clause-own g c =
    let turn = c.args.turn.now in
    subst (AreOwn turn.round.now.script.now turn.round.now.faulty.now.ids)
    (sym (with_items_is c.args.room.now.lies c.tell.new.lies
    (c.tell.auto.lies ∙ c.deref_mut.ensures.len))) c.tell.ensures.own
