-- The steps of the nodes of one round, one after the other.
use Rattle.std.proofs.Common.{◌≡◌, ℕ, ◌+◌, ◌<◌, ◌≤◌, inl, inr, Bool, true, false, List, ◌++◌}
use Rattle.std.proofs.Common.{length, map, get_or, set, unwrap_or, refl, sym, ap, ap₂, ◌∙◌, subst}
use Rattle.std.proofs.Common.{arith}
use Rattle.std.specs.Prelude.{nat_lt}
use Rattle.std.specs.List.{range_with_len}
use Rattle.std.proofs.lemmas.Bool.{cases_eq, ltb-true, ltb-false}
use Rattle.std.proofs.lemmas.List.{get_or-set_same, get_or-set_other, length-set}
use Rattle.std.proofs.lemmas.List.FromFn.{fill_by_all}
use Rattle.sync_types.specs.States.{State, zero_state}
use Rattle.construction.specs.Steps.{state_of}
use Rattle.counter_core.specs.Meanings.{Meaning}
use Rattle.counter_core.specs.Overlays.{Layer}
use Rattle.adversary_script.specs.Scripts.{Script}
use Rattle.adversary_script.specs.Lookup.{hit_at}
use Rattle.machine_runner.proofs.Places.{set_has}
use Rattle.adversary_script.specs.Rounds.{heard_at}
use Rattle.layer_laws.specs.PlayedScenes.{layer_step, state_behind, kept_at}

-- The nodes below v have stepped; what they and the others keep stands in the list that is kept
-- now.
pub record SteppedBelow {Kept : Type 0} (counter : Meaning) (script : Script) (layer : Layer Kept)
    (t : ℕ) (old : List State) (kept : List Kept) (v : ℕ) (new : List State)
    (layer_now : Layer Kept) (kept_now : List Kept) : Type 0 where
  pub states : (u : ℕ) → u < v → state_of new u ≡ state_behind counter script layer t old kept u
  pub size : length new ≡ script.nodes
  pub same : layer_now ≡ layer
  pub count : length kept_now ≡ length kept
  pub done : (u : ℕ) → u < v → u < length kept
      → get_or kept_now u layer.first ≡ (layer_step counter layer kept u
      (heard_at script t old u)).kept
  pub rest : (u : ℕ) → v ≤ u → get_or kept_now u layer.first ≡ get_or kept u layer.first

module _ {Kept : Type 0} (counter : Meaning) (script : Script) (layer : Layer Kept) (t : ℕ)
    (old : List State) (kept : List Kept) where
  -- one node more
  pub one_stepped : (v : ℕ) (new : List State) (layer_now layer_next : Layer Kept)
      (kept_now : List Kept)
      → v < script.nodes → SteppedBelow counter script layer t old kept v new layer_now kept_now
      → layer_next ≡ layer_now
      → SteppedBelow counter script layer t old kept (v + 1)
      (set new v (state_behind counter script layer_now t old kept_now v)) layer_next
      (set kept_now v (layer_step counter layer_now kept_now v (heard_at script t old v)).kept)
  one_stepped v new layer_now layer_next kept_now lt h next =
      let within : v < length new = omega (arith, lt, h.size) in
      let own : get_or kept_now v layer_now.first ≡ get_or kept v layer.first =
      ap (λ (l : Layer Kept). get_or kept_now v l.first) h.same ∙ h.rest v (omega arith) in
      let step : layer_step counter layer_now kept_now v (heard_at script t old v)
      ≡ layer_step counter layer kept v (heard_at script t old v) =
      ap₂ (λ (l : Layer Kept) (k : Kept). l.next v k
      (counter.shows v (state_of (heard_at script t old v) v)) (heard_at script t old v)) h.same
      own in
      let out : State = state_behind counter script layer_now t old kept_now v in
      let state : out ≡ state_behind counter script layer t old kept v =
      ap (λ s. let r : State = record {
        x = (counter.next v (heard_at script t old v)).x;
        registers = (counter.next v (heard_at script t old v)).registers ++ s.registers;
      } in
      unwrap_or (hit_at script (t + 1) v) r) step in
      record {
        states = λ u ult. set_has (λ u s. s ≡ state_behind counter script layer t old kept u) new v
            out
            within state u (λ other. h.states u (omega (arith, other)));
        size = length-set new v out ∙ h.size;
        same = next ∙ h.same;
        count = length-set kept_now v (layer_step counter layer_now kept_now v
            (heard_at script t old v)).kept ∙ h.count;
        done = λ u ult room. elim (cases_eq u v) [
          | inl same ↦ subst (λ (w : ℕ). w < length kept
              → get_or (set kept_now v (layer_step counter layer_now kept_now v
              (heard_at script t old v)).kept) w layer.first
              ≡ (layer_step counter layer kept w (heard_at script t old w)).kept) (sym same)
              (λ vlt. get_or-set_same kept_now v
              (layer_step counter layer_now kept_now v (heard_at script t old v)).kept
              layer.first (omega (arith, vlt, h.count)) ∙ ap (λ s. s.kept) step) room
          | inr other ↦ get_or-set_other kept_now v u
              (layer_step counter layer_now kept_now v (heard_at script t old v)).kept layer.first
              other ∙ h.done u (omega (arith, other)) room
        ];
        rest = λ u le. let other : u ≡ v → ⊥ = λ same. omega (arith, same, le) in
            get_or-set_other kept_now v u (layer_step counter layer_now kept_now v
            (heard_at script t old v)).kept layer.first other ∙ h.rest u (omega arith);
      }

  pub all_states : (v : ℕ) (new : List State) (layer_now : Layer Kept)
      (kept_now : List Kept) → script.nodes ≤ v
      → SteppedBelow counter script layer t old kept v new layer_now kept_now
      → new ≡ map (state_behind counter script layer t old kept) (range_with_len 0 script.nodes)
  all_states v new layer_now kept_now le h =
      fill_by_all (state_behind counter script layer t old kept) new script.nodes
      (zero_state 0) h.size (λ u lt. h.states u (omega arith))

  one_kept : (lt : Bool) (u : ℕ) → nat_lt u script.nodes ≡ lt → (now : Kept)
      → (lt ≡ true → now ≡ (layer_step counter layer kept u (heard_at script t old u)).kept)
      → (lt ≡ false → now ≡ get_or kept u layer.first)
      → now ≡ kept_at counter script layer t old kept u
  one_kept true u is now done rest = rw is (done refl)
  one_kept false u is now done rest = rw is (rest refl)

  pub all_kept : (v : ℕ) (new : List State) (layer_now : Layer Kept)
      (kept_now : List Kept) → v ≡ script.nodes
      → SteppedBelow counter script layer t old kept v new layer_now kept_now
      → kept_now ≡ map (kept_at counter script layer t old kept) (range_with_len 0 (length kept))
  all_kept v new layer_now kept_now end h =
      fill_by_all (kept_at counter script layer t old kept) kept_now
      (length kept) layer.first h.count
      (λ u lt. one_kept (nat_lt u script.nodes) u refl (get_or kept_now u layer.first)
      (λ is. h.done u (let l = ltb-true u script.nodes is in omega (arith, l)) lt)
      (λ is. h.rest u (let l = ltb-false u script.nodes is in omega (arith, l))))
