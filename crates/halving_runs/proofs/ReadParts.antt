-- What holds of a part that is read holds of what is made of it.
use Rattle.std.proofs.Common.{◌≡◌, Result, Ok, Err, subst}
use Rattle.std.specs.Prelude.{IfOk}
use Rattle.halving_runs.specs.declared.errors.RunRefusal.{RunRefusal}
use Rattle.halving_runs.specs.RunInputs.{then_read}

pub then_holds : {R V W : Type 0} (in_part : R → RunRefusal) (make : V → Result W RunRefusal)
    (P : V → Type 0) (Q : W → Type 0) (r : Result V R) → IfOk r P
    → ((v : V) → P v → IfOk (make v) Q) → IfOk (then_read in_part make r) Q
then_holds in_part make P Q (Err at) holds next = tt
then_holds in_part make P Q (Ok v) holds next = next v holds

pub both_hold : {V R : Type 0} (P Q S : V → Type 0) (r : Result V R) → IfOk r P → IfOk r Q
    → ((v : V) → P v → Q v → S v) → IfOk r S
both_hold P Q S (Err at) first second next = tt
both_hold P Q S (Ok v) first second next = next v first second

-- what holds of a result that is this one
pub holds_at : {V R : Type 0} (P : V → Type 0) (r : Result V R) (v : V) → r ≡ Ok v → IfOk r P → P v
holds_at {V} {R} P r v is holds = subst (λ (s : Result V R). IfOk s P) is holds
