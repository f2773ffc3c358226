-- What holds of a line that its tests let pass.
use Rattle.std.proofs.Common.{◌≡◌, List, [], ◌∷◌, Bool, true, false, if◌then◌else◌, Result, Ok, Err}
use Rattle.std.proofs.Common.{refl}
use Rattle.std.specs.Prelude.{⊤, IfOk}
use Rattle.sync_types.specs.declared.answers.Rule.{Rule}
use Rattle.adversary_script.specs.Scripts.{Script}
use Rattle.adversary_script.specs.Tested.{tested}

-- each test passed
abbrev pub Passed : List (Bool × Rule) → Type 0
Passed [] = ⊤
Passed (test ∷ tests) = (test.0 ≡ false) × Passed tests

unless : (P : Script → Type 0) (refuses : Bool) (rule : Rule) (x : Result Script Rule)
    → (refuses ≡ false → IfOk x P) → IfOk (if refuses then Err rule else x) P
unless P true rule x h = tt
unless P false rule x h = h refl

-- what the line makes is so if it is so behind its tests, whichever these are
pub tested_keeps : (P : Script → Type 0) (tests : List (Bool × Rule)) (x : Result Script Rule)
    → (Passed tests → IfOk x P) → IfOk (tested tests x) P
tested_keeps P [] x h = h tt
tested_keeps P (test ∷ tests) x h =
    unless P test.0 test.1 (tested tests x)
    (λ first. tested_keeps P tests x (λ others. h (first, others)))

pub either_keeps : (P : Script → Type 0) (b : Bool) (x y : Result Script Rule) → IfOk x P
    → IfOk y P → IfOk (if b then x else y) P
either_keeps P true x y h k = h
either_keeps P false x y h k = k

pub any_ok : (r : Result Script Rule) → IfOk r (λ _. ⊤)
any_ok (Ok s) = tt
any_ok (Err e) = tt
