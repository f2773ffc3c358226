-- Where an era begins.
use Rattle.std.specs.Prelude.{◌≡◌, ℕ, ◌≤◌, length, Option, Some, None}
use Rattle.std.proofs.Props.{props}
use Rattle.adversary_script.specs.Scripts.{Script}
use Rattle.adversary_script.specs.Eras.{first_of_era}

-- the further era that begins with configuration t; none if none does
abbrev pub BeginsAt : Script → (t : ℕ) → Option ℕ → Type 0
BeginsAt script t (Some j) = (1 ≤ j) × (j ≤ length script.eras) × (first_of_era script j ≡ t)
BeginsAt script t None = (j : ℕ) → 1 ≤ j → j ≤ length script.eras → first_of_era script j ≡ t → ⊥

-- it has one proof at most
pub is_prop : (script : Script) (t : ℕ) (begins : Option ℕ) → IsProp (BeginsAt script t begins)
is_prop script t (Some j) = Prim.hlevel props
is_prop script t None = Prim.hlevel props
