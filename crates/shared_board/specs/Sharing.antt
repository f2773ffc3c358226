-- What a node hears if the lies stand in the order of the liars, and what all receivers of a round
-- share: the configuration, and who lies.
use Rattle.std.specs.Prelude.{◌≡◌, ℕ, List, length, map, true, not, if◌then◌else◌}
use Rattle.std.specs.List.{filter, range_with_len}
use Rattle.counting.specs.Places.{places}
use Rattle.sync_types.specs.FaultSets.{is_in}
use Rattle.sync_types.specs.States.{State}
use Rattle.construction.specs.Plans.{Plan, plan_depth}
use Rattle.construction.specs.Steps.{state_of}
use Rattle.counter_core.specs.Meanings.{cut}

-- how many liars have ids below u: for the j-th of a rising list it is j
abbrev pub place_among : (faulty : List ℕ) (u : ℕ) → ℕ
place_among faulty u = places (is_in faulty) u

-- what is heard of node u: its state, or if it lies what it says
abbrev pub heard_at : (faulty : List ℕ) (lies config : List State) (u : ℕ) → State
heard_at faulty lies config u =
    if is_in faulty u then state_of lies (place_among faulty u) else state_of config u

-- what is heard of all nodes; `lies` has one state for each liar, in the order of their ids
abbrev pub heard_with : (faulty : List ℕ) (lies config : List State) → List State
heard_with faulty lies config =
    map (heard_at faulty lies config) (range_with_len 0 (length config))

-- the nodes of a stretch that don't lie
abbrev pub honest_in : (faulty : List ℕ) (first count : ℕ) → List ℕ
honest_in faulty first count = filter (λ u. not (is_in faulty u)) (range_with_len first count)

-- What all receivers of a round share: a configuration of a plan, each state with a register for
-- each level, and who lies in it. Before the first one there are no states.
pub record Shares : Type 0 where
  pub plan : Plan
  pub faulty : List ℕ
  pub states : List State

abbrev pub stands_for : Plan → (config : List State) (faulty : List ℕ) → Shares
stands_for plan config faulty =
    record { plan = plan; faulty = faulty; states = map (cut (plan_depth plan)) config }

-- there is a lie for each liar, and a node that lies says its own state to itself
pub record Tells (shares : Shares) (node : ℕ) (lies : List State) : Type 0 where
  pub size : length lies ≡ length shares.faulty
  pub own : is_in shares.faulty node ≡ true
      → cut (plan_depth shares.plan) (state_of lies (place_among shares.faulty node))
      ≡ state_of shares.states node
