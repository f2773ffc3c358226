-- What is known of the rounds that are left: what correct nodes show once their era is locked, and
-- the first locked configurations.
use Rattle.std.specs.Prelude.{◌≡◌, ◌⊎◌, ℕ, ◌+◌, ◌-◌, ◌%◌, ◌<◌, ◌≤◌, List, length, true, None}
use Rattle.std.specs.Prelude.{is_some, unwrap_or, slice_index_or}
use Rattle.sync_types.specs.States.{State}
use Rattle.construction.specs.Plans.{Plan, plan_modulus}
use Rattle.construction.specs.Runs.{AllShow}
use Rattle.adversary_script.specs.Scripts.{Script}
use Rattle.adversary_script.specs.Eras.{era_of, end_of_era, faulty_at}
pub use Rattle.layer_laws.specs.Lowest.{lowest_correct}
use Rattle.round_runner.specs.Locks.{first_locked, era_locked}
use Rattle.round_runner.specs.Runners.{Running}

-- From configuration `at` to the end of its era all nodes that are correct in it show one number:
-- this value at first, and in each next configuration one more, modulo C.
abbrev pub CountsOn : Plan → Script → (config_at : ℕ → List State) → (at value : ℕ) → Type 0
CountsOn plan script config_at at value =
    (t : ℕ) → at ≤ t → t < end_of_era script (era_of script at)
    → AllShow plan (faulty_at script t) (config_at t) ((value + (t - at)) % plan_modulus plan)

-- The first locked configuration of each era is known as it will be at the end: the runner is at
-- the last configuration, or in the last era, and knows one of that era.
abbrev pub KnowsLocks : {O : Type 0} → Running O → Type 0
KnowsLocks r =
    (r.at ≡ r.script.rounds) ⊎ ((era_of r.script r.at ≡ length r.script.eras)
    × (is_some (slice_index_or r.locks (era_of r.script r.at) None) ≡ true))

-- The configuration from which on the first locked one of each era is known: that of the last era,
-- or the last configuration if none of that era is locked.
abbrev pub known_from : Plan → Script → (config_at : ℕ → List State) → ℕ
known_from plan script config_at =
    unwrap_or (first_locked (era_locked plan script config_at (length script.eras)) script.rounds)
    script.rounds
