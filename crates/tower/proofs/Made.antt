-- A shared round that stands for states is one that was made.
use Rattle.std.proofs.Common.{◌≡◌, ℕ, ◌<◌, Bool, true, false, if◌then◌else◌, List, [], length, refl}
use Rattle.std.proofs.Common.{arith}

pub is_made : {X : Type 0} → (t : Bool) (xs : List X) (n : ℕ) → length (if t then xs else []) ≡ n
    → 0 < n → t ≡ true
is_made true xs n e some = refl
is_made false xs n e some = absurd (omega (arith, e))

pub made_states : {X : Type 0} → (t : Bool) (xs : List X) → t ≡ true → (if t then xs else []) ≡ xs
made_states true xs e = refl
made_states false xs e = absurd (cc)
