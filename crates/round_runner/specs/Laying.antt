-- What is laid of the states and the lies for a layer that hears them.
use Rattle.std.specs.Prelude.{◌≡◌, ◌⊎◌, ℕ, ◌<◌, ◌≤◌, List, slice_index}
use Rattle.sync_types.specs.States.{State}
use Rattle.construction.specs.Steps.{state_of}
use Rattle.plan_laws.specs.PlanMeaning.{plan_meaning}
use Rattle.counter_core.specs.Overlays.{Layer, after}
use Rattle.adversary_script.specs.Scripts.{Script}
use Rattle.round_runner.specs.declared.turns.Round.{Round}
use Rattle.machine_runner.specs.Hearing.{AreHonest}
use Rattle.round_runner.specs.Hearing.{AreOfNodes}
use Rattle.round_runner.specs.Played.{heard_at}

-- The states of the correct nodes stand in their places, and in those of the faulty ones anything
-- that some node may be in.
pub record IsLaid (script : Script) (t : ℕ) (config heard : List State) : Type 0 where
  pub honest : AreHonest script t config heard
  pub some : AreOfNodes script heard

-- and in node v's own place its state
pub record IsLaidFor (round : Round) (v : ℕ) (config heard : List State) : Type 0 where
  pub laid : IsLaid round.script.now round.t config heard
  pub own : state_of heard v ≡ state_of config v

-- the state is what the faulty node at a place of a stretch tells, which is node u
pub record IsToldIn (ids : List ℕ) (from to : ℕ) (lies : List State) (u : ℕ) (state : State)
    : Type 0 where
  pub place : ℕ
  pub low : from ≤ place
  pub high : place < to
  pub id : slice_index ids place ≡ u
  pub told : state ≡ state_of lies place

-- or it is as it was before
abbrev pub IsSameOrTold : (ids : List ℕ) (from to : ℕ) (lies : List State) (before : State) (u : ℕ)
    → State → Type 0
IsSameOrTold ids from to lies before u state =
    (state ≡ before) ⊎ IsToldIn ids from to lies u state

-- By what is laid, the layer's step of node v is that by all that the node hears.
pub record IsEnough {Kept : Type 0} (round : Round) (layer : Layer Kept) (kept : List Kept) (v : ℕ)
    (config heard : List State) : Type 0 where
  pub some : AreOfNodes round.script.now heard
  pub step : let o = (plan_meaning round.tower.now).shows v (state_of config v) in
      after layer kept v o heard
      ≡ after layer kept v o (heard_at round.script.now round.t config v)
