use Rattle.std.proofs.Common.{◌≡◌, false, set, sym, ap, ◌∙◌}
use Rattle.std.proofs.lemmas.List.{set-get_or}
use Rattle.sync_types.specs.FaultSets.{FaultIds, is_in}
use Rattle.sync_types.specs.States.{State, zero_state}
use Rattle.adversary_script.specs.Eras.{faulty_at}
use Rattle.player.proofs.stepping.lay_itself.Goals as goal

pub returns-else-contains : goal.returns-else-contains
returns-else-contains c =
    let turn = c.args.turn.now in
    let script = turn.round.now.script.now in
    let correct : is_in (faulty_at script turn.round.now.t) turn.v ≡ false =
    sym (ap (λ (s : FaultIds). is_in s.ids turn.v) turn.round.now.liars)
    ∙ (sym c.contains.ensures ∙ c.if-contains.false) in
    sym (ap (λ (s : State). set c.args.heard.now turn.v s)
    (sym (c.requires.honest turn.v turn.node correct))
    ∙ set-get_or c.args.heard.now turn.v (zero_state 0))
