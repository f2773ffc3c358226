-- A state of a list whose states are cut.
use Rattle.std.proofs.Common.{◌≡◌, ℕ, zero, suc, List, [], ◌∷◌, map, refl}
use Rattle.sync_types.specs.States.{State}
use Rattle.construction.specs.Steps.{state_of}
use Rattle.counter_core.specs.Meanings.{cut}

pub state_of-cut : (d : ℕ) (states : List State) (v : ℕ)
    → state_of (map (cut d) states) v ≡ cut d (state_of states v)
state_of-cut zero [] v = refl
state_of-cut (suc d) [] v = refl
state_of-cut d (s ∷ states) zero = refl
state_of-cut d (s ∷ states) (suc v) = state_of-cut d states v
