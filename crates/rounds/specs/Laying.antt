-- What the liars of a stretch say, laid into their places.
use Rattle.std.specs.Prelude.{◌≡◌, ◌⊎◌, ℕ, ◌<◌, ◌≤◌, List, slice_index}
use Rattle.sync_types.specs.States.{State}
use Rattle.construction.specs.Steps.{state_of}

-- the state is what the faulty node at a place of a stretch tells, which is node u
pub record IsToldIn (ids : List ℕ) (from to : ℕ) (lies : List State) (u : ℕ) (state : State)
    : Type 0 where
  pub place : ℕ
  pub low : from ≤ place
  pub high : place < to
  pub id : slice_index ids place ≡ u
  pub told : state ≡ state_of lies place

-- or it is as it was before
abbrev pub IsSameOrTold : (ids : List ℕ) (from to : ℕ) (lies : List State) (before : State) (u : ℕ)
    → State → Type 0
IsSameOrTold ids from to lies before u state =
    (state ≡ before) ⊎ IsToldIn ids from to lies u state
