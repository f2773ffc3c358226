-- A slot that counts begins later than the bound in its era, and ends in that era.
use Rattle.std.proofs.Common.{◌≡◌, ℕ, ◌+◌, ◌<◌, ◌≤◌, Bool, true, ◌&&◌, subst}
use Rattle.std.specs.Prelude.{nat_le, nat_lt, ◌==◌}
use Rattle.std.proofs.lemmas.Bool.{and_parts, ltb-true, leb-true, eqb-true}
use Rattle.adversary_script.specs.Scripts.{Script, IsScript}
use Rattle.adversary_script.specs.Eras.{era_of, first_of_era, end_of_era}
use Rattle.machine_runner.proofs.Firsts.{of_one_era}
use Rattle.layer_runner.specs.SlotTexts.{counts_at}

module _ (bound : ℕ) (script : Script) (q t : ℕ) (counting : counts_at bound script q t ≡ true)
  where
    abbrev late : Bool
    late = nat_lt (first_of_era script (era_of script t) + bound) t

    abbrev inside : Bool
    inside = era_of script (t + q) == era_of script t

    parts : (late ≡ true) × (inside ≡ true) × (nat_le (t + q) script.rounds ≡ true)
    parts =
        let both = and_parts (late && inside) (nat_le (t + q) script.rounds) counting in
        let first = and_parts late inside both.0 in
        (first.0, first.1, both.1)

    pub past_bound : first_of_era script (era_of script t) + bound < t
    past_bound = ltb-true (first_of_era script (era_of script t) + bound) t parts.0

    pub same_era : era_of script (t + q) ≡ era_of script t
    same_era = eqb-true (era_of script (t + q)) (era_of script t) parts.1

    pub within_rounds : t + q ≤ script.rounds
    within_rounds = leb-true (t + q) script.rounds parts.2

    pub before_end : IsScript script → t + q < end_of_era script (era_of script t)
    before_end whole =
        subst (λ i. t + q < end_of_era script i) same_era
        (of_one_era script whole (t + q) within_rounds).before
