-- One choice by a test.
use Rattle.std.proofs.Common.{◌≡◌, Bool, true, false, cond, refl}

-- two choices are the same if their first arms are the same when taken
pub same_choice : {X : Type 0} (b : Bool) (z : X) {s t : X} → (b ≡ true → s ≡ t)
    → cond b s z ≡ cond b t z
same_choice true z same = same refl
same_choice false z same = refl
