-- The lines of the first locked configurations, of what is known of each era.
use Rattle.std.proofs.Common.{◌≡◌, ℕ, ◌+◌, ◌≤◌, cond, List, [], ◌∷◌, length, Option, None, ap}
use Rattle.std.proofs.Common.{ap₂, ◌∙◌, arith}
use Rattle.std.specs.Prelude.{◌==◌, slice_index_or}
use Rattle.std.specs.List.{concat}
use Rattle.sync_types.specs.States.{State}
use Rattle.adversary_script.specs.Scripts.{Script}
use Rattle.adversary_script.specs.Eras.{first_of_era}
use Rattle.machine_runner.specs.FirstLocked.{LockTest, era_locked}
use Rattle.machine_runner.specs.RunTexts as texts
use Rattle.machine_runner.specs.RunTexts.{locked_line, era_front}
use Rattle.machine_runner.specs.FirstLocked.{known_locks}
use Rattle.machine_runner.proofs.KnownLocks.{known_at}
use Rattle.layer_runner.specs.LockTexts.{lock_of_era, lock_lines}
use Rattle.layer_runner.proofs.FirstListed.{first_listed}
use Rattle.layer_runner.proofs.SameTexts.{same_texts}

-- what is known of each era says which lines there are
pub same_locks : (script : Script) (f g : ℕ → Option ℕ)
    → ((j : ℕ) → j ≤ length script.eras → f j ≡ g j)
    → texts.lock_lines script f ≡ texts.lock_lines script g
same_locks script f g same =
    ap₂ (λ (one many : List ℕ). cond (script.version == 1) one many)
    (ap locked_line (same 0 (omega arith)))
    (same_texts (texts.era_line script f) (texts.era_line script g) (length script.eras + 1) 0
    (λ j lo hi. ap (λ (known : Option ℕ). concat (era_front (first_of_era script j)
    ∷ locked_line known ∷ [])) (same j (omega (arith, hi)))))

-- at the end of a play they are those of what is played
pub locks_listed : (locked : LockTest) (script : Script) (config_at : ℕ → List State)
    → texts.lock_lines script
    (λ j. slice_index_or (known_locks locked script config_at script.rounds) j None)
    ≡ lock_lines locked script config_at
locks_listed locked script config_at =
    same_locks script
    (λ j. slice_index_or (known_locks locked script config_at script.rounds) j None)
    (lock_of_era locked script config_at)
    (λ j le. known_at locked script config_at script.rounds j None (omega (arith, le))
    ∙ first_listed (era_locked locked script config_at j) script.rounds)
