use Rattle.std.proofs.Common.{length, arith, ap, ◌∙◌}
use Rattle.adversary_script.specs.Eras.{faulty_of_era}
use Rattle.adversary_script.specs.Scripts.{Script}
use Rattle.run_explanations.specs.declared.searching.LeaderStreak.{LeaderStreak}
use Rattle.run_explanations.specs.Explanations.{seen_at}
use Rattle.run_explanations.proofs.Taking.{stretched_most, taken_known, taken_new}
use Rattle.run_explanations.proofs.explaining.take.Goals as goal

pub returns-in-Some : goal.returns-in-Some
returns-in-Some c =
    let r = c.args.runner.now in
    taken_known c.args.top.numbers r.plan r.script r.at c.args.search _
    c.next_stretch-stretch.ensures c.in-Some.found c.in-Some.is

pub explained_from-found-requires-clause-early : goal.explained_from-found-requires-clause-early
explained_from-found-requires-clause-early c =
    let rounds = ap (λ (s : Script). s.rounds) c.script-script.ensures in
    let within = c.requires.read.within in
    omega (
      arith,
      within,
      rounds,
      c.rounds.ensures.value,
      c.rounds.ensures.few,
      c.at.ensures,
    )

pub explained_from-found-requires-clause-within : goal.explained_from-found-requires-clause-within
explained_from-found-requires-clause-within c =
    let r = c.args.runner.now in
    let most = stretched_most c.args.top.numbers.beat c.args.search.stretch
    (seen_at r.plan r.script r.at) in
    let count = ap (λ (s : LeaderStreak). s.count) c.next_stretch-stretch.ensures in
    omega (arith, most, count, c.requires.few, c.at.ensures)

pub returns : goal.returns
returns c =
    let r = c.args.runner.now in
    taken_new c.args.top.numbers r.plan r.script r.at c.args.search _
    c.next_stretch-stretch.ensures c.explained_from-found.result _ _ c.at.result c.in-None.is
    (c.last_faulty-faulty.ensures
    ∙ ap (λ (s : Script). faulty_of_era s (length s.eras)) c.script-script.ensures)
    (c.rounds.ensures.value ∙ ap (λ (s : Script). s.rounds) c.script-script.ensures)
    c.at.ensures c.explained_from-found.ensures
