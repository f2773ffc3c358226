-- The states of a configuration, laid into a list place by place.
use Rattle.std.proofs.Common.{◌≡◌, ℕ, ◌+◌, ◌<◌, ◌≤◌, List, length, set, All, sym, ap, ◌∙◌, subst}
use Rattle.std.proofs.Common.{arith}
use Rattle.std.proofs.lemmas.List.{ext_get_or, length-set}
use Rattle.std.proofs.lemmas.List.Elements.{All-set}
use Rattle.sync_types.specs.States.{State, zero_state}
use Rattle.construction.specs.Steps.{state_of}
use Rattle.state_codec.specs.Shapes.{Shape, fields_at}
use Rattle.state_codec.specs.Ranges.{InRange}
use Rattle.adversary_script.specs.Scripts.{Script}
use Rattle.adversary_script.proofs.LiesInRange.{depth_of_node}
use Rattle.machine_runner.proofs.Places.{set_has, all_places}
use Rattle.machine_runner.specs.Hearing.{HasRoom}

-- the states of the places below v stand there
pub record LaidBelow (config : List State) (depth v : ℕ) (heard : List State) : Type 0 where
  pub size : length heard ≡ length config
  pub deep : All (λ s. length s.registers ≡ depth) heard
  pub done : (u : ℕ) → u < v → state_of heard u ≡ state_of config u

pub one_laid : (config : List State) (depth v : ℕ) (heard : List State) (out : State)
    → v < length config → LaidBelow config depth v heard → out ≡ state_of config v
    → length out.registers ≡ depth → LaidBelow config depth (v + 1) (set heard v out)
one_laid config depth v heard out lt h is deep = record {
  size = length-set heard v out ∙ h.size;
  deep = All-set (λ s. length s.registers ≡ depth) heard v out deep h.deep;
  done = λ u ult. set_has (λ u s. s ≡ state_of config u) heard v out (omega (arith, h.size, lt)) is
      u (λ other. h.done u (omega (arith, other)));
}

pub all_laid : (config : List State) (depth v : ℕ) (heard : List State) → length config ≤ v
    → LaidBelow config depth v heard → heard ≡ config
all_laid config depth v heard end h = ext_get_or (zero_state 0) heard config h.size
    (λ u lt. h.done u (omega (arith, lt, h.size)))

-- a configuration in range that is laid has room for the states of a script's nodes
pub room_laid : (script : Script) (shape : Shape) (config heard : List State) → heard ≡ config
    → shape ≡ script.shape → length config ≡ script.nodes
    → ((u : ℕ) → u < length config → InRange (fields_at shape u) (state_of config u))
    → HasRoom script heard
room_laid script shape config heard is same size range =
    let HasDepth : State → Type 0 = λ s. length s.registers ≡ script.shape.depth in
    record {
      size = ap (λ (xs : List State). length xs) is ∙ size;
      deep = subst (λ (xs : List State). All HasDepth xs) (sym is)
          (all_places HasDepth config (λ u lt. depth_of_node shape u _ (range u lt)
          ∙ ap (λ (s : Shape). s.depth) same));
    }
