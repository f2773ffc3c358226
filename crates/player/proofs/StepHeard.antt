-- The layer's step by what is laid for it, whether it has registers or not.
use Rattle.std.proofs.Common.{◌≡◌, ◌⊎◌, ℕ, zero, suc, ◌<◌, inl, inr, List, length, refl, sym, ap, ◌∙◌}
use Rattle.std.proofs.Common.{subst, arith}
use Rattle.sync_types.specs.States.{State}
use Rattle.construction.specs.Steps.{state_of}
use Rattle.counter_core.specs.Overlays.{Layer, CanStep, IsDeaf, after}
use Rattle.machines.specs.Machines.{Machine}
use Rattle.adversary_script.specs.Scripts.{Script}
use Rattle.adversary_script.specs.Rounds.{heard_at}
use Rattle.machine_runner.specs.Hearing.{HasRoom}
use Rattle.layer_laws.specs.PlayedScenes.{layer_step}
use Rattle.player.specs.Counters.{machine_counter}
use Rattle.player.specs.Rooms.{IsLaid}
use Rattle.player.proofs.Truth.{all_own}
use Rattle.player.proofs.LayerSteps.{CanTurn, may_hear_of, can_step, shown_below}

none_or_some : (n : ℕ) → (n ≡ 0) ⊎ (0 < n)
none_or_some zero = inl refl
none_or_some (suc n) = inr (omega arith)

module _ {Kept : Type 0} (machine : Machine) (layer : Layer Kept) (script : Script) (t v : ℕ)
    (config : List State) (can : CanTurn machine layer script v config) (kept : List Kept)
    (nodes : script.nodes ≡ machine.nodes) (size : length config ≡ script.nodes)
    (output : ℕ) (shows : output ≡ machine.shows v (state_of config v)) (heard : List State) where
  abbrev all : List State
  all = heard_at script t config v

  pub can_step_so : HasRoom script heard → (0 < layer.extra → IsLaid layer script t config heard)
      → (out : State) → length out.registers ≡ script.shape.depth → 0 < layer.extra
      → CanStep layer v output heard out
  can_step_so room laid out long some =
      can_step machine layer script t v config can kept output heard out
      (may_hear_of machine layer script t v config can kept heard (room.size ∙ nodes) room.deep
      (laid some).values output
      (subst (λ (o : ℕ). o < machine.modulus) (sym shows)
      (shown_below machine layer script t v config can kept)) some) long some

  pub step_is_that : IsDeaf layer
      → (0 < layer.extra → after layer kept v (machine.shows v (state_of config v)) heard
      ≡ after layer kept v (machine.shows v (state_of config v)) all)
      → after layer kept v output heard ≡ layer_step (machine_counter machine) layer kept v all
  step_is_that deaf enough =
      ap (λ (o : ℕ). after layer kept v o heard) shows
      ∙ elim (none_or_some layer.extra) [
        | inl none ↦ deaf none v _ (machine.shows v (state_of config v)) heard all
        | inr some ↦ enough some
      ]
      ∙ ap (λ (s : State). after layer kept v (machine.shows v s) all)
      (sym (all_own script t v config can.node size))
