-- What rounds leave as it was made, and what is known after one more.
use Rattle.std.proofs.Common.{◌≡◌, ℕ, zero, suc, ◌+◌, ◌<◌, List, length, Option, None, set, get_or}
use Rattle.std.proofs.Common.{add-one, sym, ap, ap₂, ◌∙◌, subst, arith}
use Rattle.std.proofs.lemmas.List.FromFn.{length-map-range_with_len}
use Rattle.sync_types.specs.FaultSets.{FaultIds}
use Rattle.sync_types.specs.States.{State}
use Rattle.construction.specs.Steps.{state_of}
use Rattle.counter_core.specs.declared.work.Work.{Work}
use Rattle.counter_core.specs.Working.{IsWorkFor, IsAsRoomy}
use Rattle.state_codec.specs.Shapes.{Shape, fields_at}
use Rattle.state_codec.specs.Ranges.{InRange}
use Rattle.machines.specs.Machines.{Machine, IsState}
use Rattle.adversary_script.specs.Scripts.{Script, IsScript}
use Rattle.adversary_script.specs.Eras.{era_of, faulty_of_era}
use Rattle.adversary_script.specs.Lies.{AreStates, start_of}
use Rattle.machine_runner.specs.FirstLocked.{first_of, begun_locks, next_locks}
use Rattle.machine_runner.specs.Laws.{IsReadFor}
use Rattle.machine_runner.specs.Locks.{is_locked}
use Rattle.machine_runner.specs.Played.{state_after, after_round, played_at}
use Rattle.machine_runner.proofs.KnownLocks.{known_long, first_known, goes_on, noted_is}
use Rattle.machine_runner.proofs.ReadFor.{state_is}
use Rattle.machine_runner.specs.Kept.{locks_at}

-- a workspace that is as roomy is for as many nodes
pub as_roomy : (n : ℕ) (old new : Work) → IsAsRoomy old new → IsWorkFor n old → IsWorkFor n new
as_roomy n old new same is = record {
  outputs = omega (arith, same.outputs, is.outputs);
  values = omega (arith, same.values, is.values);
  votes = omega (arith, same.votes, is.votes);
}

-- the states of two configurations are in range of the script's shape
pub range_of : (own shape : Shape) (nodes : ℕ) (config : List State) → own ≡ shape
    → length config ≡ nodes
    → ((v : ℕ) → v < length config → InRange (fields_at own v) (state_of config v))
    → AreStates nodes shape config
range_of own shape nodes config same size range v lt =
    subst (λ (s : Shape). InRange (fields_at s v) (state_of config v)) same
    (range v (omega (arith, lt, size)))

-- so the state of a node is one of the machine's
pub state_in : (machine : Machine) (script : Script) (own : Shape) (config : List State) (v : ℕ)
    (state : State) → IsReadFor machine script → own ≡ script.shape → length config ≡ script.nodes
    → ((u : ℕ) → u < length config → InRange (fields_at own u) (state_of config u))
    → v < machine.nodes → state ≡ state_of config v → IsState machine v state
state_in machine script own config v state read same size range lt is =
    let nodes = read.right.nodes in
    subst (λ (s : State). IsState machine v s) (sym is)
    (state_is machine script read v (omega (arith, lt, nodes)) (state_of config v)
    (range_of own script.shape script.nodes config same size range v (omega (arith, lt, nodes))))

module _ (machine : Machine) (script : Script) where
  pub played_long : (t : ℕ) → length (played_at machine script t) ≡ script.nodes
  played_long zero = length-map-range_with_len (start_of script) 0 script.nodes
  played_long (suc t) =
      length-map-range_with_len (state_after machine script t (played_at machine script t)) 0
      script.nodes

  -- what is played goes on by a round
  pub played_next : (t : ℕ) (config : List State) → config ≡ played_at machine script t
      → after_round machine script t config ≡ played_at machine script (t + 1)
  played_next t config is =
      ap (after_round machine script t) is ∙ ap (played_at machine script) (sym (add-one t))

  -- the locks of configuration 0
  pub locks_begin : (config : List State) → IsScript script
      → config ≡ played_at machine script 0
      → begun_locks (is_locked machine) script config ≡ locks_at machine script 0
  locks_begin config whole played = ap (begun_locks (is_locked machine) script) played
      ∙ first_known (is_locked machine) script (played_at machine script) whole

  -- and those of the next one, if what is known of its era is noted
  pub locks_go_on : (locks : List (Option ℕ)) (at era : ℕ) (faulty : FaultIds) (config : List State)
      → locks ≡ locks_at machine script at → era ≡ era_of script (at + 1)
      → faulty ≡ record { nodes = script.nodes; ids = faulty_of_era script era }
      → config ≡ played_at machine script (at + 1)
      → set locks era (first_of (get_or locks era None) (is_locked machine faulty.ids config)
      (at + 1))
      ≡ locks_at machine script (at + 1)
  locks_go_on locks at era faulty config are here set_is played =
      noted_is (is_locked machine) script locks (at + 1) config era faulty.ids here
      (ap (λ (s : FaultIds). s.ids) set_is)
      ∙ ap₂ (λ (locks : List (Option ℕ)) (config : List State).
      next_locks (is_locked machine) script locks (at + 1) config) are played
      ∙ goes_on (is_locked machine) script (played_at machine script) at

  pub locks_long : (t : ℕ) → length (locks_at machine script t) ≡ length script.eras + 1
  locks_long t = known_long (is_locked machine) script (played_at machine script) t
