-- A layer's step depends on what is laid for it if it has registers; if it has none, it does not
-- depend on what is heard.
use Rattle.std.proofs.Common.{◌≡◌, ℕ, ◌<◌, inl, inr, List, length, set, ◌∙◌}
use Rattle.std.proofs.lemmas.List.{length-set}
use Rattle.std.proofs.lemmas.List.Elements.{All-set}
use Rattle.sync_types.specs.States.{State}
use Rattle.construction.specs.Steps.{state_of}
use Rattle.counter_core.specs.Overlays.{Layer, IsDeaf, after}
use Rattle.adversary_script.specs.Scripts.{Script}
use Rattle.adversary_script.specs.Eras.{faulty_at}
use Rattle.adversary_script.specs.Lies.{lie_of}
use Rattle.machine_runner.specs.Hearing.{HasRoom}
use Rattle.round_runner.specs.Hearing.{IsOfSome}
use Rattle.round_runner.specs.Laying.{IsLaid}
use Rattle.round_runner.specs.Played.{heard_at}
use Rattle.machine_runner.proofs.Heard.{heard_own}
use Rattle.layer_laws.proofs.Layered.{none_or_some}
use Rattle.machine_runner.proofs.Places.{set_has}

-- a true state that is laid leaves what is laid
pub state_laid : (script : Script) (t v : ℕ) (config heard : List State) (out : State)
    → IsLaid script t config heard → v < length heard → out ≡ state_of config v
    → IsOfSome script out → IsLaid script t config (set heard v out)
state_laid script t v config heard out laid lt is some = record {
  honest = λ u ult ok. set_has (λ u s. s ≡ state_of config u) heard v out lt is u
      (λ other. laid.honest u ult ok);
  some = All-set (IsOfSome script) heard v out some laid.some;
}

-- and room for the states
pub room_laid : (script : Script) (v : ℕ) (heard : List State) (out : State)
    → HasRoom script heard → length out.registers ≡ script.shape.depth
    → HasRoom script (set heard v out)
room_laid script v heard out room deep = record {
  size = length-set heard v out ∙ room.size;
  deep = All-set (λ (s : State). length s.registers ≡ script.shape.depth) heard v out deep
      room.deep;
}

-- the layer's step is that of what is heard
pub same_step : {Kept : Type 0} (layer : Layer Kept) → IsDeaf layer → (kept : List Kept)
    (v output : ℕ) (told heard : List State)
    → (0 < layer.extra → after layer kept v output told ≡ after layer kept v output heard)
    → after layer kept v output told ≡ after layer kept v output heard
same_step layer deaf kept v output told heard enough = elim (none_or_some layer.extra) [
  | inl none ↦ deaf none v _ output told heard
  | inr some ↦ enough some
]

-- what a node shows is what it shows in what it hears, where its own state stands
pub shown_itself : (script : Script) (t v : ℕ) (config : List State) → v < script.nodes
    → state_of (heard_at script t config v) v ≡ state_of config v
shown_itself script t v config node =
    heard_own script.nodes (faulty_at script t) config (λ u w. lie_of script t u w config) v node
