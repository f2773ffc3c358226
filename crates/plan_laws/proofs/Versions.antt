-- The version of a plan matters to its texts alone.
use Rattle.std.proofs.Common.{◌≡◌, ℕ, suc, ◌+◌, ◌*◌, ◌%◌, ◌<◌, List, [], ◌∷◌, length, cond, All}
use Rattle.std.proofs.Common.{refl, ap, ◌∙◌, arith}
use Rattle.std.proofs.Math.Nat.{mod-lt}
use Rattle.std.proofs.lemmas.Bool.{lt-ltb}
use Rattle.std.proofs.lemmas.List.Elements.{All-weaker}
use Rattle.sync_types.specs.States.{State}
use Rattle.construction.specs.Plans.{Level, Plan, nodes_of, low_of}
use Rattle.construction.specs.Runs.{IsState, IsConfiguration, IsTold, IsNext, Run}
use Rattle.construction.proofs.Blocks.{block_some}
use Rattle.plan_numbers.specs.Premises.{FitsVersion}
use Rattle.plan_laws.specs.VersionLaws.{in_version, VersionsAgree, blocks_of, NoSpares}

-- a run of a plan is one of the plan in another version
module _ (plan : Plan) (version : ℕ) where
  abbrev other : Plan
  other = in_version version plan

  state_is : (v : ℕ) (s : State) → IsState plan v s → IsState other v s
  state_is v s is = record { depth = is.depth; x = is.x; registers = is.registers }

  configuration_is : (config : List State) → IsConfiguration plan config
      → IsConfiguration other config
  configuration_is config is =
      record { size = is.size; states = λ v lt. state_is v _ (is.states v lt) }

  told_is : (u : ℕ) (told : List State) → IsTold plan u told → IsTold other u told
  told_is u told is = record {
    size = is.size;
    states = All-weaker (IsState plan u) (IsState other u) (state_is u) told is.states;
  }

  next_is : (faulty : List ℕ) (old new : List State) → IsNext plan faulty old new
      → IsNext other faulty old new
  next_is faulty old new is =
      let table = is.round.table in
      record {
        lies = is.lies;
        round = record {
          table = record { size = table.size; rows = λ u lt. told_is u _ (table.rows u lt) };
          steps = is.round.steps;
        };
      }

  run_is : (faulty : List ℕ) (run : List (List State)) → Run plan faulty run
      → Run other faulty run
  run_is faulty run is = record {
    some = is.some;
    configurations =
        All-weaker (IsConfiguration plan) (IsConfiguration other) configuration_is run
        is.configurations;
    rounds = λ t lt. next_is faulty _ _ (is.rounds t lt);
  }

pub versions_agree : VersionsAgree
versions_agree plan version = record {
  nodes = refl;
  faults = refl;
  modulus = refl;
  bound = refl;
  bits = refl;
  depth = refl;
  low = λ v. refl;
  step = λ v heard. refl;
  runs = λ faulty run. (
    run_is plan version faulty run,
    run_is (in_version version plan) plan.version faulty run,
  );
}

-- ---- plans without spare nodes

abbrev HaveNoSpares : List Level → Type 0
HaveNoSpares levels = All (λ level. level.spares ≡ 0) levels

module _ (level : Level) (below : List Level) (none : HaveNoSpares (level ∷ below)) where
  none_here : level.spares ≡ 0
  none_here = none 0 level (omega arith)

  none_below : HaveNoSpares below
  none_below k d lt = none (suc k) d (omega arith)

product_of_blocks : (levels : List Level) → HaveNoSpares levels → nodes_of levels ≡ blocks_of levels
product_of_blocks [] none = refl
product_of_blocks (level ∷ below) none =
    let n : ℕ = nodes_of below in
    ap (λ s. level.blocks * n + s) (none_here level below none)
    ∙ ((omega arith)
    ∙ ap (λ m. level.blocks * m) (product_of_blocks below (none_below level below none)))

no_node_is_spare : (levels : List Level) → HaveNoSpares levels → (v : ℕ) → v < nodes_of levels
    → low_of levels v ≡ 0
no_node_is_spare [] none v lt = refl
no_node_is_spare (level ∷ below) none v lt =
    let n : ℕ = nodes_of below in
    let here = none_here level below none in
    let within : v < level.blocks * n = omega arith in
    ap (λ b. cond b (low_of below (v % n)) (length below + 1)) (lt-ltb v (level.blocks * n) within)
    ∙ no_node_is_spare below (none_below level below none) (v % n)
    (mod-lt v (block_some level.blocks n v within))

pub no_spares : NoSpares
no_spares plan accepted none = record {
  accepted = record {
    oldest = omega arith;
    newest = omega arith;
    fits =
        All-weaker (λ level. level.spares ≡ 0) (FitsVersion 1) (λ level is one. is) plan.levels
        none;
    levels = accepted.levels;
  };
  same = versions_agree plan 1;
  nodes = product_of_blocks plan.levels none;
  low = no_node_is_spare plan.levels none;
}
