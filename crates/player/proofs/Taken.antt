-- The first of the lies that are laid are those of the liars.
use Rattle.std.proofs.Common.{◌≡◌, ℕ, ◌<◌, ◌≤◌, List, length, take, All, sym, ap, ◌∙◌, subst, arith}
use Rattle.std.specs.Prelude.{slice_index}
use Rattle.std.specs.List.Sorted.{IsStrictlyIncreasing}
use Rattle.std.proofs.lemmas.List.{length-take-le, get_or-take}
use Rattle.std.proofs.lemmas.List.Elements.{All-take}
use Rattle.sync_types.specs.States.{State, zero_state}
use Rattle.construction.specs.Steps.{state_of}
use Rattle.state_codec.specs.Shapes.{fields_at}
use Rattle.state_codec.specs.Ranges.{InRange}
use Rattle.counter_core.specs.Heeding.{DependsOnlyOn}
use Rattle.shared_board.specs.Sharing.{heard_with}
use Rattle.machines.specs.Machines.{Machine, IsFront}
use Rattle.adversary_script.specs.Scripts.{Script}
use Rattle.adversary_script.specs.Eras.{faulty_at}
use Rattle.adversary_script.specs.Rounds.{heard_at}
use Rattle.rounds.specs.Rounds.{Sent, AreLies}
use Rattle.player.specs.Rooms.{HasLies, AreOwn, TellsItself, AreTold}
use Rattle.player.proofs.Truth.{step_is}

module _ (ids : List ℕ) (lies : List State) (q : ℕ) (many : q ≡ length ids)
    (room : length ids ≤ length lies) where
  at : (j : ℕ) → j < length ids → state_of (take q lies) j ≡ state_of lies j
  at j lt = get_or-take q lies j (zero_state 0) (omega (arith, lt, many))

  itself_taken : (v : ℕ) (config : List State) → TellsItself ids v config lies
      → TellsItself ids v config (take q lies)
  itself_taken v config itself j lt mine = at j lt ∙ itself j lt mine

  pub lies_taken : (script : Script) (machine : Machine) (sent : Sent) (v : ℕ)
      → sent.faulty ≡ ids → sent.depth ≡ script.shape.depth
      → All (λ id. id < machine.nodes) ids
      → ((u : ℕ) → u < machine.nodes → (s : State) → InRange (fields_at script.shape u) s
      → IsFront machine u s)
      → HasLies script lies → AreOwn script ids lies → TellsItself ids v sent.config lies
      → AreLies machine sent v (take q lies)
  lies_taken script machine sent v same deep below fronts has own itself = record {
    size = length-take-le q lies (omega (arith, many, room)) ∙ many
        ∙ ap (λ (xs : List ℕ). length xs) (sym same);
    deep = subst (λ (d : ℕ). All (λ (s : State). length s.registers ≡ d) (take q lies)) (sym deep)
        (All-take (λ (s : State). length s.registers ≡ script.shape.depth) q lies has.deep);
    fronts = subst (λ (xs : List ℕ). (j : ℕ) → j < length xs
        → IsFront machine (slice_index xs j) (state_of (take q lies) j)) (sym same)
        (λ j lt. subst (IsFront machine (slice_index ids j)) (sym (at j lt))
        (fronts (slice_index ids j) (below j 0 lt) (state_of lies j) (own j lt)));
    own = subst (λ (xs : List ℕ). TellsItself xs v sent.config (take q lies)) (sym same)
        (itself_taken v sent.config itself);
  }

  pub step_taken : (script : Script) (t v : ℕ) (config : List State) → v < script.nodes
      → length config ≡ script.nodes → ids ≡ faulty_at script t → IsStrictlyIncreasing ids
      → All (λ id. id < script.nodes) ids → TellsItself ids v config lies → (step : List State → State)
      → (from to : ℕ) → DependsOnlyOn step ids v config from to → to ≤ length ids
      → AreTold script t ids v config from to lies
      → step (heard_with ids (take q lies) config) ≡ step (heard_at script t config v)
  step_taken script t v config node size same rising below itself step from to hangs within told =
      subst (λ (xs : List ℕ). IsStrictlyIncreasing xs → All (λ id. id < script.nodes) xs
      → TellsItself xs v config (take q lies) → DependsOnlyOn step xs v config from to
      → to ≤ length xs → AreTold script t xs v config from to (take q lies)
      → step (heard_with xs (take q lies) config) ≡ step (heard_at script t config v)) (sym same)
      (λ rising below itself hangs within told.
      step_is script t v config node size rising below (take q lies) itself step from to hangs
      within told)
      rising below (itself_taken v config itself) hangs within
      (λ j low high. at j (omega (arith, high, within)) ∙ told j low high)
