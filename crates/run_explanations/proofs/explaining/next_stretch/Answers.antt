use Rattle.std.proofs.Common.{Option, length, ap, ◌∙◌, arith}
use Rattle.adversary_script.specs.Eras.{faulty_of_era}
use Rattle.adversary_script.specs.Scripts.{Script}
use Rattle.run_explanations.specs.declared.seeing.Observation.{Observation}
use Rattle.run_explanations.specs.Searching.{stretched}
use Rattle.run_explanations.proofs.Taking.{seen_is}
use Rattle.run_explanations.proofs.explaining.next_stretch.Goals as goal

pub stretched-requires : goal.stretched-requires
stretched-requires c =
    let rounds = ap (λ (s : Script). s.rounds) c.script-script.ensures in
    let within = c.requires.read.within in
    omega (
      arith,
      c.requires.few,
      within,
      rounds,
      c.rounds-rounds.ensures.value,
      c.rounds-rounds.ensures.few,
    )

pub returns : goal.returns
returns c =
    let r = c.args.runner.now in
    c.stretched.ensures
    ∙ ap (λ (o : Option Observation). stretched c.args.top.numbers.beat c.args.stretch o)
    (seen_is c.args.top.numbers r c.requires.read _ _ c.see.ensures
    (c.last_faulty-faulty.ensures
    ∙ ap (λ (s : Script). faulty_of_era s (length s.eras)) c.script-script.ensures)
    (c.bare_runners_are_played.ensures r c.requires.read.plays))
