use Rattle.std.proofs.Common.{ℕ, ◌<◌, List, length, All, sym, ap, ◌∙◌, subst, arith}
use Rattle.std.specs.Prelude.{slice_set}
use Rattle.std.proofs.lemmas.Bool.{lt-ltb}
use Rattle.std.proofs.lemmas.List.{with_items_is}
use Rattle.sync_types.specs.FaultSets.{FaultIds}
use Rattle.sync_types.specs.States.{State}
use Rattle.construction.specs.Steps.{state_of}
use Rattle.counter_core.specs.Heeding.{DependsOnlyOn}
use Rattle.counter_core.specs.Overlays.{LayerStep, CanStep, after, layered}
use Rattle.player.specs.Rooms.{AreOwn, AreTold, IsLaid}
use Rattle.player.proofs.CanTurns.{can_turn}
use Rattle.player.proofs.LayerHears.{still_laid, after_is}
use Rattle.player.proofs.StepHeard.{can_step_so, step_is_that}
use Rattle.player.proofs.stepping.step_layer.Goals as goal

pub advance-requires-clause-step : goal.advance-requires-clause-step
advance-requires-clause-step g c =
    let turn = c.args.turn.now in
    let script = turn.round.now.script.now in
    let t : ℕ = turn.round.now.t in
    let config = turn.states.now.current in
    let ids = turn.round.now.faulty.now.ids in
    let machine = g.M.Machine.machine c.args.machine.now in
    let layer = g.O.Overlay.layer c.args.overlay.now in
    let kept = g.O.Overlay.kept c.args.overlay.now in
    let can = can_turn machine layer turn c.facts.ensures c.requires.read
    (g.met.O.Overlay.keeps_range c.args.overlay.now) c.facts-2.ensures.current in
    let nodes = c.requires.read.right.nodes in
    let below = subst (λ (n : ℕ). All (λ id. id < n) ids)
    (ap (λ (s : FaultIds). s.nodes) turn.round.now.liars) c.facts-3.ensures.below in
    let same = ap (λ (s : FaultIds). s.ids) turn.round.now.liars in
    let before = c.deref_mut.ensures.value in
    let lies = c.deref.ensures.value in
    let begun = c.requires.begun in
    let hears = λ (some : 0 < layer.extra). lt-ltb 0 c.extra.result
    (omega (arith, some, c.extra.ensures)) in
    let long = ap (λ (xs : List State). length xs) before ∙ begun.ready.heard.size in
    let own = subst (AreOwn script ids) (sym lies) begun.own in
    let told = subst (AreTold script t ids turn.v config c.args.layers.0 c.args.layers.1)
    (sym lies) c.requires.told in
    let laid = λ (some : 0 < layer.extra).
    still_laid machine layer script t turn.v config can kept nodes turn.size ids same below
    c.deref_mut.result.now c.lay_told.new.heard c.deref.result.now c.args.layers.0 c.args.layers.1
    c.requires.within
    (subst (IsLaid layer script t config) (sym before) (begun.laid some))
    (ap (λ (xs : List State). state_of xs turn.v) before ∙ c.requires.own some)
    long c.lay_told.ensures.room.size own told (c.lay_told.ensures.each (hears some))
    (c.lay_told.ensures.told (hears some)) in
    let items = with_items_is c.args.room.now.heard c.lay_told.new.heard
    (c.lay_told.auto.heard ∙ c.deref_mut.ensures.len) in
    let heard = c.of-heard.ensures ∙ c.deref-2.ensures.value ∙ items in
    let shows = c.output_in-output.ensures in
    subst (λ (xs : List State). 0 < layer.extra
    → CanStep layer turn.v c.output_in-output.result xs c.args.room.now.out) (sym heard)
    (can_step_so machine layer script t turn.v config can kept nodes turn.size
    c.output_in-output.result shows c.lay_told.new.heard c.lay_told.ensures.room laid
    c.args.room.now.out begun.ready.out)

pub returns-clause-kept : goal.returns-clause-kept
returns-clause-kept g c =
    let turn = c.args.turn.now in
    let script = turn.round.now.script.now in
    let t : ℕ = turn.round.now.t in
    let config = turn.states.now.current in
    let ids = turn.round.now.faulty.now.ids in
    let machine = g.M.Machine.machine c.args.machine.now in
    let layer = g.O.Overlay.layer c.args.overlay.now in
    let kept = g.O.Overlay.kept c.args.overlay.now in
    let can = can_turn machine layer turn c.facts.ensures c.requires.read
    (g.met.O.Overlay.keeps_range c.args.overlay.now) c.facts-2.ensures.current in
    let nodes = c.requires.read.right.nodes in
    let below = subst (λ (n : ℕ). All (λ id. id < n) ids)
    (ap (λ (s : FaultIds). s.nodes) turn.round.now.liars) c.facts-3.ensures.below in
    let same = ap (λ (s : FaultIds). s.ids) turn.round.now.liars in
    let before = c.deref_mut.ensures.value in
    let lies = c.deref.ensures.value in
    let begun = c.requires.begun in
    let hears = λ (some : 0 < layer.extra). lt-ltb 0 c.extra.result
    (omega (arith, some, c.extra.ensures)) in
    let long = ap (λ (xs : List State). length xs) before ∙ begun.ready.heard.size in
    let own = subst (AreOwn script ids) (sym lies) begun.own in
    let told = subst (AreTold script t ids turn.v config c.args.layers.0 c.args.layers.1)
    (sym lies) c.requires.told in
    let laid = λ (some : 0 < layer.extra).
    still_laid machine layer script t turn.v config can kept nodes turn.size ids same below
    c.deref_mut.result.now c.lay_told.new.heard c.deref.result.now c.args.layers.0 c.args.layers.1
    c.requires.within
    (subst (IsLaid layer script t config) (sym before) (begun.laid some))
    (ap (λ (xs : List State). state_of xs turn.v) before ∙ c.requires.own some)
    long c.lay_told.ensures.room.size own told (c.lay_told.ensures.each (hears some))
    (c.lay_told.ensures.told (hears some)) in
    let items = with_items_is c.args.room.now.heard c.lay_told.new.heard
    (c.lay_told.auto.heard ∙ c.deref_mut.ensures.len) in
    let heard = c.of-heard.ensures ∙ c.deref-2.ensures.value ∙ items in
    let shows = c.output_in-output.ensures in
    let enough = λ (some : 0 < layer.extra).
    after_is machine layer script t turn.v config can kept nodes turn.size ids same below
    c.deref_mut.result.now c.lay_told.new.heard c.deref.result.now c.args.layers.0 c.args.layers.1
    c.requires.within
    (subst (IsLaid layer script t config) (sym before) (begun.laid some))
    (ap (λ (xs : List State). state_of xs turn.v) before ∙ c.requires.own some)
    long c.lay_told.ensures.room.size own told (c.lay_told.ensures.each (hears some))
    (c.lay_told.ensures.told (hears some)) (machine.shows turn.v (state_of config turn.v))
    (subst (λ (xs : List State). DependsOnlyOn (after layer kept turn.v
    (machine.shows turn.v (state_of config turn.v))) ids turn.v xs c.args.layers.0 c.args.layers.1)
    (sym before) (c.requires.enough some)) in
    let step = ap (λ (xs : List State). after layer kept turn.v c.output_in-output.result xs) heard
    ∙ step_is_that machine layer script t turn.v config can kept nodes turn.size
    c.output_in-output.result shows c.lay_told.new.heard (g.met.O.Overlay.deaf c.args.overlay.now)
    enough in
    c.advance.ensures.kept ∙ ap (λ (s : LayerStep _). slice_set kept turn.v s.kept) step

pub returns-clause-out : goal.returns-clause-out
returns-clause-out g c =
    let turn = c.args.turn.now in
    let script = turn.round.now.script.now in
    let t : ℕ = turn.round.now.t in
    let config = turn.states.now.current in
    let ids = turn.round.now.faulty.now.ids in
    let machine = g.M.Machine.machine c.args.machine.now in
    let layer = g.O.Overlay.layer c.args.overlay.now in
    let kept = g.O.Overlay.kept c.args.overlay.now in
    let can = can_turn machine layer turn c.facts.ensures c.requires.read
    (g.met.O.Overlay.keeps_range c.args.overlay.now) c.facts-2.ensures.current in
    let nodes = c.requires.read.right.nodes in
    let below = subst (λ (n : ℕ). All (λ id. id < n) ids)
    (ap (λ (s : FaultIds). s.nodes) turn.round.now.liars) c.facts-3.ensures.below in
    let same = ap (λ (s : FaultIds). s.ids) turn.round.now.liars in
    let before = c.deref_mut.ensures.value in
    let lies = c.deref.ensures.value in
    let begun = c.requires.begun in
    let hears = λ (some : 0 < layer.extra). lt-ltb 0 c.extra.result
    (omega (arith, some, c.extra.ensures)) in
    let long = ap (λ (xs : List State). length xs) before ∙ begun.ready.heard.size in
    let own = subst (AreOwn script ids) (sym lies) begun.own in
    let told = subst (AreTold script t ids turn.v config c.args.layers.0 c.args.layers.1)
    (sym lies) c.requires.told in
    let laid = λ (some : 0 < layer.extra).
    still_laid machine layer script t turn.v config can kept nodes turn.size ids same below
    c.deref_mut.result.now c.lay_told.new.heard c.deref.result.now c.args.layers.0 c.args.layers.1
    c.requires.within
    (subst (IsLaid layer script t config) (sym before) (begun.laid some))
    (ap (λ (xs : List State). state_of xs turn.v) before ∙ c.requires.own some)
    long c.lay_told.ensures.room.size own told (c.lay_told.ensures.each (hears some))
    (c.lay_told.ensures.told (hears some)) in
    let items = with_items_is c.args.room.now.heard c.lay_told.new.heard
    (c.lay_told.auto.heard ∙ c.deref_mut.ensures.len) in
    let heard = c.of-heard.ensures ∙ c.deref-2.ensures.value ∙ items in
    let shows = c.output_in-output.ensures in
    let enough = λ (some : 0 < layer.extra).
    after_is machine layer script t turn.v config can kept nodes turn.size ids same below
    c.deref_mut.result.now c.lay_told.new.heard c.deref.result.now c.args.layers.0 c.args.layers.1
    c.requires.within
    (subst (IsLaid layer script t config) (sym before) (begun.laid some))
    (ap (λ (xs : List State). state_of xs turn.v) before ∙ c.requires.own some)
    long c.lay_told.ensures.room.size own told (c.lay_told.ensures.each (hears some))
    (c.lay_told.ensures.told (hears some)) (machine.shows turn.v (state_of config turn.v))
    (subst (λ (xs : List State). DependsOnlyOn (after layer kept turn.v
    (machine.shows turn.v (state_of config turn.v))) ids turn.v xs c.args.layers.0 c.args.layers.1)
    (sym before) (c.requires.enough some)) in
    let step = ap (λ (xs : List State). after layer kept turn.v c.output_in-output.result xs) heard
    ∙ step_is_that machine layer script t turn.v config can kept nodes turn.size
    c.output_in-output.result shows c.lay_told.new.heard (g.met.O.Overlay.deaf c.args.overlay.now)
    enough in
    c.advance.ensures.out
    ∙ ap (λ (s : LayerStep _). layered layer s.registers c.args.room.now.out) step

pub returns-clause-laid : goal.returns-clause-laid
returns-clause-laid g c =
    let turn = c.args.turn.now in
    let script = turn.round.now.script.now in
    let t : ℕ = turn.round.now.t in
    let config = turn.states.now.current in
    let ids = turn.round.now.faulty.now.ids in
    let machine = g.M.Machine.machine c.args.machine.now in
    let layer = g.O.Overlay.layer c.args.overlay.now in
    let kept = g.O.Overlay.kept c.args.overlay.now in
    let can = can_turn machine layer turn c.facts.ensures c.requires.read
    (g.met.O.Overlay.keeps_range c.args.overlay.now) c.facts-2.ensures.current in
    let nodes = c.requires.read.right.nodes in
    let below = subst (λ (n : ℕ). All (λ id. id < n) ids)
    (ap (λ (s : FaultIds). s.nodes) turn.round.now.liars) c.facts-3.ensures.below in
    let same = ap (λ (s : FaultIds). s.ids) turn.round.now.liars in
    let before = c.deref_mut.ensures.value in
    let lies = c.deref.ensures.value in
    let begun = c.requires.begun in
    let hears = λ (some : 0 < layer.extra). lt-ltb 0 c.extra.result
    (omega (arith, some, c.extra.ensures)) in
    let long = ap (λ (xs : List State). length xs) before ∙ begun.ready.heard.size in
    let own = subst (AreOwn script ids) (sym lies) begun.own in
    let told = subst (AreTold script t ids turn.v config c.args.layers.0 c.args.layers.1)
    (sym lies) c.requires.told in
    let laid = λ (some : 0 < layer.extra).
    still_laid machine layer script t turn.v config can kept nodes turn.size ids same below
    c.deref_mut.result.now c.lay_told.new.heard c.deref.result.now c.args.layers.0 c.args.layers.1
    c.requires.within
    (subst (IsLaid layer script t config) (sym before) (begun.laid some))
    (ap (λ (xs : List State). state_of xs turn.v) before ∙ c.requires.own some)
    long c.lay_told.ensures.room.size own told (c.lay_told.ensures.each (hears some))
    (c.lay_told.ensures.told (hears some)) in
    let items = with_items_is c.args.room.now.heard c.lay_told.new.heard
    (c.lay_told.auto.heard ∙ c.deref_mut.ensures.len) in
    λ some. subst (IsLaid layer script t config) (sym items) (laid some)
