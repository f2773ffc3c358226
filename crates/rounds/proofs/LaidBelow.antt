-- The states of a configuration, laid into a list place by place.
use Rattle.std.proofs.Common.{◌≡◌, ℕ, ◌+◌, ◌<◌, ◌≤◌, List, length, set, All, ◌∙◌}
use Rattle.std.proofs.Common.{arith}
use Rattle.std.proofs.lemmas.List.{ext_get_or, length-set}
use Rattle.std.proofs.lemmas.List.Elements.{All-set}
use Rattle.sync_types.specs.States.{State, zero_state}
use Rattle.construction.specs.Steps.{state_of}
use Rattle.rounds.proofs.Places.{set_has}

-- the states of the places below v stand there
pub record LaidBelow (config : List State) (depth v : ℕ) (heard : List State) : Type 0 where
  pub size : length heard ≡ length config
  pub deep : All (λ s. length s.registers ≡ depth) heard
  pub done : (u : ℕ) → u < v → state_of heard u ≡ state_of config u

pub one_laid : (config : List State) (depth v : ℕ) (heard : List State) (out : State)
    → v < length config → LaidBelow config depth v heard → out ≡ state_of config v
    → length out.registers ≡ depth → LaidBelow config depth (v + 1) (set heard v out)
one_laid config depth v heard out lt h is deep = record {
  size = length-set heard v out ∙ h.size;
  deep = All-set (λ s. length s.registers ≡ depth) heard v out deep h.deep;
  done = λ u ult. set_has (λ u s. s ≡ state_of config u) heard v out (omega (arith, h.size, lt)) is
      u (λ other. h.done u (omega (arith, other)));
}

pub all_laid : (config : List State) (depth v : ℕ) (heard : List State) → length config ≤ v
    → LaidBelow config depth v heard → heard ≡ config
all_laid config depth v heard end h = ext_get_or (zero_state 0) heard config h.size
    (λ u lt. h.done u (omega (arith, lt, h.size)))
