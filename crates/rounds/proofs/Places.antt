-- Lists of states, place by place.
use Rattle.std.proofs.Common.{◌≡◌, ℕ, ◌<◌, inl, inr, List, length, map, get_or}
use Rattle.std.proofs.Common.{set, All, sym, subst, ◌∙◌, arith}
use Rattle.std.specs.List.{range_with_len}
use Rattle.std.proofs.lemmas.Bool.{cases_eq}
use Rattle.std.proofs.lemmas.List.{get_or-set_same, get_or-set_other}
use Rattle.std.proofs.lemmas.List.FromFn.{get_or-map-range_with_len}
use Rattle.sync_types.specs.States.{State, zero_state}
use Rattle.construction.specs.Steps.{state_of}
use Rattle.counter_core.proofs.StateLists.{within}

-- a state that is read of a configuration
pub read_at : (states : List State) (v : ℕ) (read : State) → v < length states
    → read ≡ get_or states v read → read ≡ state_of states v
read_at states v read lt is = is ∙ within states v read (zero_state 0) lt

-- what holds of each place holds of all
pub all_places : (P : State → Type 0) (states : List State)
    → ((v : ℕ) → v < length states → P (state_of states v)) → All P states
all_places P states holds = λ k d lt. subst P (within states k (zero_state 0) d lt) (holds k lt)

-- and a property of each of its places
pub placed : (P : ℕ → State → Type 0) (f : ℕ → State) (n : ℕ)
    → ((v : ℕ) → v < n → P v (f v))
    → (v : ℕ) → v < n → P v (state_of (map f (range_with_len 0 n)) v)
placed P f n holds v lt =
    subst (P v) (sym (get_or-map-range_with_len f 0 n v v (zero_state 0) lt (omega arith)))
    (holds v lt)

-- a property of a place, when one place is written
pub set_has : (P : ℕ → State → Type 0) (states : List State) (v : ℕ) (out : State)
    → v < length states → P v out → (u : ℕ) → ((u ≡ v → ⊥) → P u (state_of states u))
    → P u (state_of (set states v out) u)
set_has P states v out lt here u others = elim (cases_eq u v) [
  | inl at ↦ subst (λ (w : ℕ). P w (state_of (set states v out) w)) (sym at)
      (subst (P v) (sym (get_or-set_same states v out (zero_state 0) lt)) here)
  | inr other ↦
      subst (P u) (sym (get_or-set_other states v u out (zero_state 0) other)) (others other)
]
