-- A word in a line of a slot table is 1 exactly if its node holds, and at most one correct word is.
use Rattle.std.proofs.Common.{◌≡◌, ℕ, subst}
use Rattle.std.specs.Prelude.{codes}
use Rattle.construction.specs.Plans.{plan_depth}
use Rattle.construction.specs.Shown.{shown}
use Rattle.construction.specs.Steps.{state_of}
use Rattle.adversary_script.specs.Eras.{era_of}
use Rattle.plan_laws.proofs.RunLaws.{every_plan_settles}
use Rattle.machine_runner.proofs.Firsts.{of_one_era}
use Rattle.round_runner.proofs.EraRuns.{eras_count}
use Rattle.slot_table.specs.HoldWords.{hold_word_at, WordsAreExact}
use Rattle.slot_table.proofs.HoldWords.{one_holds}
use Rattle.run_lines.specs.LayerLaws.{AtMostOneInALine, HoldWordsAreExact}

pub at_most_one_in_a_line : AtMostOneInALine
at_most_one_in_a_line plan script read lines apart t lo hi u v ult uok vlt vok one other =
    let era = of_one_era script read.whole t hi in
    let counts = eras_count every_plan_settles plan script read (era_of script t) era.among in
    let output : ℕ = counts.output t in
    let shows_u = counts.shows t lo era.before u ult uok in
    let shows_v = counts.shows t lo era.before v vlt vok in
    one_holds lines output u v
    (subst (λ (o : ℕ). hold_word_at lines o u ≡ codes " 1") shows_u one)
    (subst (λ (o : ℕ). hold_word_at lines o v ≡ codes " 1") shows_v other)

pub hold_words_are_exact : WordsAreExact → HoldWordsAreExact
hold_words_are_exact exact plan lines apart config v =
    let word = exact lines apart (shown (plan_depth plan) (state_of config v)) v in
    record { one = word.one; dot = word.dot }
