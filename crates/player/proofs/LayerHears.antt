-- What is laid for a layer is enough for its step.
use Rattle.std.proofs.Common.{◌≡◌, ℕ, ◌<◌, ◌≤◌, inl, inr, Bool, cond, List, length, set, All, refl}
use Rattle.std.proofs.Common.{sym, ap, ◌∙◌, subst, arith}
use Rattle.std.specs.Prelude.{slice_index}
use Rattle.std.proofs.lemmas.Bool.{eq-eqb}
use Rattle.std.proofs.lemmas.List.{length-set, get_or-set_same}
use Rattle.std.proofs.lemmas.List.Elements.{All-set}
use Rattle.sync_types.specs.FaultSets.{is_in}
use Rattle.sync_types.specs.States.{State, zero_state}
use Rattle.construction.specs.Steps.{state_of}
use Rattle.state_codec.specs.Shapes.{fields_at}
use Rattle.state_codec.specs.Ranges.{InRange}
use Rattle.counter_core.specs.Heeding.{HearsTruth, DependsOnlyOn}
use Rattle.counter_core.specs.Overlays.{Layer, HasValues, after}
use Rattle.machines.specs.Machines.{Machine}
use Rattle.adversary_script.specs.Scripts.{Script}
use Rattle.adversary_script.specs.Eras.{faulty_at}
use Rattle.adversary_script.specs.Lies.{lie_of}
use Rattle.adversary_script.specs.Rounds.{heard_at}
use Rattle.machine_runner.specs.Hearing.{HasRoom, heard_from}
use Rattle.machine_runner.proofs.Places.{all_places, set_has}
use Rattle.rounds.specs.Laying.{IsSameOrTold, IsToldIn}
use Rattle.rounds.proofs.Hearing.{depth_of_node}
use Rattle.rounds.proofs.PlainSteps.{same_honest}
use Rattle.player.specs.Rooms.{AreOwn, AreTold, IsLaid}
use Rattle.player.proofs.Truth.{found_is}
use Rattle.player.proofs.LayerSteps.{CanTurn, values_at}

-- the node's own state, laid into its place
module _ {Kept : Type 0} (machine : Machine) (layer : Layer Kept) (script : Script) (t v : ℕ)
    (config : List State) (can : CanTurn machine layer script v config) (kept : List Kept)
    (nodes : script.nodes ≡ machine.nodes) (heard : List State) (own : State)
    (is : own ≡ state_of config v) (room : HasRoom script heard) where
  range : InRange (fields_at script.shape v) own
  range = subst (InRange (fields_at script.shape v)) (sym is) (can.range v can.node)

  inside : v < length heard
  inside = let lt = can.node in (let size = room.size in omega (arith, lt, size))

  pub own_room : HasRoom script (set heard v own)
  own_room = record {
    size = length-set heard v own ∙ room.size;
    deep = All-set (λ (s : State). length s.registers ≡ script.shape.depth) heard v own
        (depth_of_node script.shape v own range) room.deep;
  }

  pub own_laid : IsLaid layer script t config heard → IsLaid layer script t config (set heard v own)
  own_laid laid = record {
    honest = λ u lt ok. set_has (λ w s. s ≡ state_of config w) heard v own inside is u
        (λ other. laid.honest u lt ok);
    values = All-set (HasValues layer) heard v own
        (values_at machine layer script t v config can kept v
        (let lt = can.node in omega (arith, lt, nodes)) own range) laid.values;
  }

  pub own_stands : state_of (set heard v own) v ≡ state_of config v
  own_stands = get_or-set_same heard v own (zero_state 0) inside ∙ is

module _ {Kept : Type 0} (machine : Machine) (layer : Layer Kept) (script : Script) (t v : ℕ)
    (config : List State) (can : CanTurn machine layer script v config) (kept : List Kept)
    (nodes : script.nodes ≡ machine.nodes) (size : length config ≡ script.nodes) (ids : List ℕ)
    (same : ids ≡ faulty_at script t) (below : All (λ id. id < script.nodes) ids)
    (before heard lies : List State) (from to : ℕ) (within : to ≤ length ids)
    (laid : IsLaid layer script t config before)
    (itself : state_of before v ≡ state_of config v) (long : length before ≡ script.nodes)
    (after_long : length heard ≡ script.nodes) (own : AreOwn script ids lies)
    (told : AreTold script t ids v config from to lies)
    (each : (u : ℕ) → IsSameOrTold ids from to lies (state_of before u) u (state_of heard u))
    (placed : (j : ℕ) → from ≤ j → j < to
    → state_of heard (slice_index ids j) ≡ state_of lies j) where
  own_told : (s : State) → IsToldIn ids from to lies v s → s ≡ state_of config v
  own_told s at =
      at.told ∙ told at.place at.low at.high ∙ ap (heard_from script t v config) at.id
      ∙ ap (λ (b : Bool). cond b (state_of config v) (lie_of script t v v config))
      (eq-eqb v v refl)

  truth : HearsTruth ids v before heard
  truth = record {
    size = after_long ∙ sym long;
    honest = λ u lt ok. same_honest ids from to lies (state_of before u) u (state_of heard u)
        within ok (each u);
    own = elim (each v) [
      | inl is ↦ is
      | inr at ↦ own_told (state_of heard v) at ∙ sym itself
    ];
  }

  value_at : (u : ℕ) → u < length heard → HasValues layer (state_of heard u)
  value_at u lt = elim (each u) [
    | inl is ↦ subst (HasValues layer) (sym is)
        (laid.values u (zero_state 0) (omega (arith, lt, long, after_long)))
    | inr at ↦
        let high = at.high in
        let j : at.place < length ids = omega (arith, high, within) in
        let id = below at.place 0 j in
        subst (HasValues layer) (sym at.told)
        (values_at machine layer script t v config can kept (slice_index ids at.place)
        (omega (arith, id, nodes)) (state_of lies at.place) (own at.place j))
  ]

  pub still_laid : IsLaid layer script t config heard
  still_laid = record {
    honest = λ u lt ok.
        same_honest ids from to lies (state_of before u) u (state_of heard u)
        within (ap (λ (xs : List ℕ). is_in xs u) same ∙ ok) (each u) ∙ laid.honest u lt ok;
    values = all_places (HasValues layer) heard value_at;
  }

  -- the layer's step by what is laid is that by all that is heard
  pub after_is : (output : ℕ) → DependsOnlyOn (after layer kept v output) ids v before from to
      → after layer kept v output heard ≡ after layer kept v output (heard_at script t config v)
  after_is output hangs =
      subst (λ (xs : List ℕ). DependsOnlyOn (after layer kept v output) xs v before from to
      → to ≤ length xs → All (λ id. id < script.nodes) xs → HearsTruth xs v before heard
      → ((j : ℕ) → from ≤ j → j < to
      → state_of heard (slice_index xs j) ≡ heard_from script t v config (slice_index xs j))
      → after layer kept v output heard
      ≡ after layer kept v output (heard_at script t config v)) (sym same)
      (λ hangs within below truth is. found_is script t v config can.node size before long
      laid.honest itself (after layer kept v output) from to hangs within below heard truth is)
      hangs within below truth (λ j low high. placed j low high ∙ told j low high)
