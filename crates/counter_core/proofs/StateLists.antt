-- Lists of states, place by place.
use Rattle.std.proofs.Common.{◌≡◌, ℕ, zero, suc, ◌<◌, Bool, true, false, cond, List, [], ◌∷◌}
use Rattle.std.proofs.Common.{length, map, get_or, All, refl, sym, subst, arith}
use Rattle.std.specs.List.{range_with_len}
use Rattle.std.proofs.lemmas.List.FromFn.{length-map-range_with_len, get_or-map-range_with_len}
use Rattle.sync_types.specs.States.{State}

-- a place within a list needs no default
pub within : (states : List State) (v : ℕ) (d e : State) → v < length states
    → get_or states v d ≡ get_or states v e
within [] v d e lt = absurd (omega arith)
within (state ∷ states) zero d e lt = refl
within (state ∷ states) (suc v) d e lt = within states v d e (omega arith)

-- what holds of each thing that is made of a number below n holds of the list of them
pub each_below : {X : Type 0} (P : X → Type 0) (f : ℕ → X) (n : ℕ) → ((i : ℕ) → i < n → P (f i))
    → All P (map f (range_with_len 0 n))
each_below P f n holds = λ k d lt.
    let within : k < n = omega (arith, length-map-range_with_len f 0 n) in
    subst P (sym (get_or-map-range_with_len f 0 n k k d within (omega arith))) (holds k within)

-- what holds of two states holds of either one
pub choice_is : (P : State → Type 0) (b : Bool) (s t : State) → P s → P t → P (cond b s t)
choice_is P true s t here there = here
choice_is P false s t here there = there
