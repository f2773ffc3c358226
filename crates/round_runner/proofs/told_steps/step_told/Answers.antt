use Rattle.std.proofs.Common.{◌≡◌, ℕ, List, length, take, sym, ap, ◌∙◌, subst, arith}
use Rattle.std.proofs.lemmas.List.{length-map, with_items_is}
use Rattle.std.proofs.lemmas.List.FromFn.{length-map-range_with_len}
use Rattle.sync_types.specs.States.{State}
use Rattle.construction.specs.Plans.{plan_nodes, plan_depth}
use Rattle.construction.specs.Steps.{state_of, step_of}
use Rattle.counter_core.specs.Meanings.{cut, written}
use Rattle.shared_board.specs.Sharing.{Shares, heard_with, place_among, stands_for}
use Rattle.round_runner.specs.Hearing.{AreLies, heard_of_all}
use Rattle.round_runner.proofs.Told.{tells_taken, step_taken, written_long}
use Rattle.round_runner.proofs.Liars.{taken_told}
use Rattle.round_runner.proofs.told_steps.step_told.Goals as goal

pub relevant_liars-requires-clause-plan : goal.relevant_liars-requires-clause-plan
relevant_liars-requires-clause-plan g c = c.requires.room.shared

pub relevant_liars-requires-clause-size : goal.relevant_liars-requires-clause-size
relevant_liars-requires-clause-size g c =
    let hearer = c.args.hearer.now in
    ap (λ (s : Shares). length s.states) c.requires.stands
    ∙ length-map hearer.states.now.current (cut (plan_depth hearer.tower.now)) ∙ hearer.size

pub advance_shared-requires-clause-stands : goal.advance_shared-requires-clause-stands
advance_shared-requires-clause-stands g c =
    let hearer = c.args.hearer.now in
    c.requires.stands
    ∙ ap (stands_for hearer.tower.now hearer.states.now.current)
    (sym (ap (λ (s : Shares). s.faulty) c.requires.stands))

pub advance_shared-requires-clause-size : goal.advance_shared-requires-clause-size
advance_shared-requires-clause-size g c = c.args.hearer.now.size

pub advance_shared-requires-clause-out : goal.advance_shared-requires-clause-out
advance_shared-requires-clause-out g c =
    omega (arith, c.requires.room.out, c.args.hearer.now.takes.deep)

pub fill_lies-requires-clause-stretch : goal.fill_lies-requires-clause-stretch
fill_lies-requires-clause-stretch g c =
    let shared = ap (λ (s : Shares). length s.faulty) c.requires.stands in
    let within = c.relevant_liars.ensures.range.1 in
    c.hull-stretch.ensures.within (length c.args.hearer.now.faulty.now.ids)
    (omega (arith, within, shared)) c.requires.layers

pub fill_lies-requires-clause-told : goal.fill_lies-requires-clause-told
fill_lies-requires-clause-told g c =
    let hearer = c.args.hearer.now in
    subst (AreLies hearer.tower.now hearer.states.now.shape.depth)
    (sym c.deref_mut.ensures.value) c.requires.room.lies

pub advance_shared-requires-clause-tells : goal.advance_shared-requires-clause-tells
advance_shared-requires-clause-tells g c =
    let hearer = c.args.hearer.now in
    let plan = hearer.tower.now in
    let ids = hearer.faulty.now.ids in
    let config = hearer.states.now.current in
    let long = c.fill_lies.auto.told ∙ c.deref_mut.ensures.len in
    let is : c.deref.result.now ≡ c.fill_lies.new.told = c.deref.ensures.value
    ∙ with_items_is c.args.room.now.lies c.fill_lies.new.told long in
    let size = ap (λ (xs : List State). length xs) is ∙ c.fill_lies.ensures.told.size in
    tells_taken plan (plan_nodes plan) ids (g.L.Lies.says c.args.lies.now config) config hearer.v
    hearer.size hearer.node c.facts.ensures.rising c.len-liars.result c.deref.result.now
    c.len-liars.ensures.exact
    (omega (arith, c.len-liars.ensures.within, hearer.nodes, size))
    (λ yes. ap (λ (xs : List State). state_of xs (place_among ids hearer.v)) is
    ∙ c.fill_lies.ensures.own yes) c.args.room.now.shared c.requires.stands

pub advance_shared-requires-clause-told : goal.advance_shared-requires-clause-told
advance_shared-requires-clause-told g c =
    let hearer = c.args.hearer.now in
    let depth : ℕ = hearer.states.now.shape.depth in
    let long = c.fill_lies.auto.told ∙ c.deref_mut.ensures.len in
    let is : c.deref.result.now ≡ c.fill_lies.new.told = c.deref.ensures.value
    ∙ with_items_is c.args.room.now.lies c.fill_lies.new.told long in
    taken_told hearer.tower.now depth c.deref.result.now
    (subst (AreLies hearer.tower.now depth) (sym is) c.fill_lies.ensures.told) hearer.takes.deep
    c.len-liars.result

pub returns-clause-out : goal.returns-clause-out
returns-clause-out g c =
    let hearer = c.args.hearer.now in
    let plan = hearer.tower.now in
    let ids = hearer.faulty.now.ids in
    let config = hearer.states.now.current in
    let shared = ap (λ (s : Shares). length s.faulty) c.requires.stands in
    let liars = c.relevant_liars.ensures.range.1 in
    let within = c.hull-stretch.ensures.within (length ids) (omega (arith, liars, shared))
    c.requires.layers in
    let long = c.fill_lies.auto.told ∙ c.deref_mut.ensures.len in
    let is : c.deref.result.now ≡ c.fill_lies.new.told = c.deref.ensures.value
    ∙ with_items_is c.args.room.now.lies c.fill_lies.new.told long in
    let size = ap (λ (xs : List State). length xs) is ∙ c.fill_lies.ensures.told.size in
    c.advance_shared.ensures.out
    ∙ ap (λ faulty. written (plan_depth plan) (step_of plan hearer.v
    (heard_with faulty (take c.len-liars.result c.deref.result.now) config)) c.args.room.now.out)
    (ap (λ (s : Shares). s.faulty) c.requires.stands)
    ∙ ap (λ (s : State). written (plan_depth plan) s c.args.room.now.out)
    (step_taken plan (plan_nodes plan) ids (g.L.Lies.says c.args.lies.now config) config hearer.v
    hearer.size hearer.node c.facts.ensures.rising c.len-liars.result c.deref.result.now
    c.len-liars.ensures.exact
    (omega (arith, c.len-liars.ensures.within, hearer.nodes, size))
    (λ yes. ap (λ (xs : List State). state_of xs (place_among ids hearer.v)) is
    ∙ c.fill_lies.ensures.own yes) c.args.room.now.shared c.requires.stands
    c.hull-stretch.result.0 c.hull-stretch.result.1 within
    (λ lies told first second same. c.relevant_liars.ensures.enough lies told first second
    (λ j low high. let both = c.hull-stretch.ensures.one j low high in same j both.0 both.1))
    (λ j low high. ap (λ (xs : List State). state_of xs j) is
    ∙ c.fill_lies.ensures.each j low high))

pub returns-clause-told : goal.returns-clause-told
returns-clause-told g c = λ j low high.
    let told = c.hull-stretch.ensures.other j low high in
    ap (λ (xs : List State). state_of xs j) (with_items_is c.args.room.now.lies c.fill_lies.new.told
    (c.fill_lies.auto.told ∙ c.deref_mut.ensures.len))
    ∙ c.fill_lies.ensures.each j told.0 told.1

pub returns-clause-room : goal.returns-clause-room
returns-clause-room g c =
    let hearer = c.args.hearer.now in
    let plan = hearer.tower.now in
    let depth : ℕ = hearer.states.now.shape.depth in
    record {
      lies = subst (AreLies plan depth) (sym (with_items_is c.args.room.now.lies
          c.fill_lies.new.told (c.fill_lies.auto.told ∙ c.deref_mut.ensures.len)))
          c.fill_lies.ensures.told;
      shared = ap (λ (s : Shares). s.plan) c.advance_shared.ensures.same ∙ c.requires.room.shared;
      out = ap (λ (s : State). length s.registers) (returns-clause-out g c)
          ∙ written_long plan c.tell.ensures hearer.v hearer.node
          (heard_of_all hearer (g.L.Lies.says c.args.lies.now))
          (length-map-range_with_len _ 0 (plan_nodes plan)) c.args.room.now.out depth
          c.requires.room.out hearer.takes.deep;
    }

pub returns-clause-shared : goal.returns-clause-shared
returns-clause-shared g c = c.advance_shared.ensures.same
