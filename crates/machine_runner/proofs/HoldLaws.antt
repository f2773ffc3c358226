-- In a line of a slot table at most one correct word is 1.
use Rattle.std.proofs.Common.{◌≡◌, ℕ, subst}
use Rattle.std.specs.Prelude.{codes}
use Rattle.adversary_script.specs.Eras.{era_of}
use Rattle.machine_runner.proofs.Firsts.{of_one_era}
use Rattle.machine_runner.proofs.EraRuns.{eras_count}
use Rattle.slot_table.specs.HoldWords.{hold_word_at}
use Rattle.slot_table.proofs.HoldWords.{one_holds}
use Rattle.machine_runner.specs.LineLaws.{AtMostOneInALine}

pub at_most_one_in_a_line : AtMostOneInALine
at_most_one_in_a_line machine script sound read lines t lo hi u v ult uok vlt vok one other =
    let era = of_one_era script read.whole t hi in
    let counts = eras_count machine script sound read (era_of script t) era.among in
    let output : ℕ = counts.output t in
    let shows_u = counts.shows t lo era.before u ult uok in
    let shows_v = counts.shows t lo era.before v vlt vok in
    one_holds lines output u v
    (subst (λ (o : ℕ). hold_word_at lines o u ≡ codes " 1") shows_u one)
    (subst (λ (o : ℕ). hold_word_at lines o v ≡ codes " 1") shows_v other)
