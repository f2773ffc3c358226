-- What a node hears if the lies are laid beside the true states.
use Rattle.std.proofs.Common.{◌≡◌, ℕ, ◌<◌, Bool, true, false, cond, List, length}
use Rattle.std.proofs.Common.{refl, sym, ap, ◌∙◌, subst, arith}
use Rattle.std.specs.Prelude.{slice_index}
use Rattle.std.specs.List.Sorted.{IsStrictlyIncreasing}
use Rattle.std.proofs.lemmas.List.{ext_get_or}
use Rattle.std.proofs.lemmas.List.FromFn.{length-map-range_with_len, get_or-map-range_with_len}
use Rattle.sync_types.specs.FaultSets.{is_in}
use Rattle.sync_types.specs.States.{State, zero_state}
use Rattle.construction.specs.Steps.{state_of}
use Rattle.state_codec.specs.Shapes.{Shape, fields_at}
use Rattle.state_codec.specs.Ranges.{InRange}
use Rattle.state_codec.proofs.Configurations.{depth_in_range}
use Rattle.counter_core.proofs.Heeded.{place_of}
use Rattle.counter_core.specs.Heeding.{HearsTruth}
use Rattle.shared_board.specs.Sharing.{place_among, heard_at, heard_with}
use Rattle.shared_board.proofs.Ids.{place_of_id}

-- a state in range has as many registers as the shape
pub depth_of_node : (shape : Shape) (v : ℕ) (state : State) → InRange (fields_at shape v) state
    → length state.registers ≡ shape.depth
depth_of_node shape v state range = depth_in_range shape v state range

-- where a liar stands in the order of the ids
pub record StandsAt (ids : List ℕ) (u : ℕ) : Type 0 where
  pub lt : place_among ids u < length ids
  pub is : slice_index ids (place_among ids u) ≡ u

pub stands_at : (ids : List ℕ) (u : ℕ) → IsStrictlyIncreasing ids → is_in ids u ≡ true
    → StandsAt ids u
stands_at ids u rising is =
    let p = place_of ids u is in
    let same : place_among ids u ≡ p.0 =
    ap (place_among ids) (sym p.2) ∙ place_of_id ids rising p.0 p.1 in
    record {
      lt = omega (arith, same, p.1);
      is = ap (slice_index ids) same ∙ p.2;
    }

module _ (ids : List ℕ) (rising : IsStrictlyIncreasing ids) (lies config : List State) where
  -- one place of what is heard with lies
  pub with_at : (u : ℕ) → u < length config
      → state_of (heard_with ids lies config) u ≡ heard_at ids lies config u
  with_at u lt =
      get_or-map-range_with_len (heard_at ids lies config) 0 (length config) u u (zero_state 0) lt
      (omega arith)

  pub with_long : length (heard_with ids lies config) ≡ length config
  with_long = length-map-range_with_len (heard_at ids lies config) 0 (length config)

  pub honest_at : (u : ℕ) → u < length config → is_in ids u ≡ false
      → state_of (heard_with ids lies config) u ≡ state_of config u
  honest_at u lt ok = with_at u lt
      ∙ ap (λ (b : Bool). cond b (state_of lies (place_among ids u)) (state_of config u)) ok

  pub liar_at : (u : ℕ) → u < length config → is_in ids u ≡ true
      → state_of (heard_with ids lies config) u ≡ state_of lies (place_among ids u)
  liar_at u lt bad = with_at u lt
      ∙ ap (λ (b : Bool). cond b (state_of lies (place_among ids u)) (state_of config u)) bad

  -- a property of each place
  pub each_with : (P : ℕ → State → Type 0)
      → ((u : ℕ) → u < length config → is_in ids u ≡ false → P u (state_of config u))
      → ((j : ℕ) → j < length ids → P (slice_index ids j) (state_of lies j))
      → (u : ℕ) → u < length config → P u (state_of (heard_with ids lies config) u)
  each_with P honest told u lt = at (is_in ids u) refl
    where
      at : (b : Bool) → is_in ids u ≡ b → P u (state_of (heard_with ids lies config) u)
      at true bad =
          let stands = stands_at ids u rising bad in
          subst (P u) (sym (liar_at u lt bad))
          (subst (λ (w : ℕ). P w (state_of lies (place_among ids u))) stands.is
          (told (place_among ids u) stands.lt))
      at false ok = subst (P u) (sym (honest_at u lt ok)) (honest u lt ok)

  -- a list in which the lies stand beside the true states is what is heard
  pub laid_is : (heard : List State) → length heard ≡ length config
      → ((u : ℕ) → u < length config → is_in ids u ≡ false → state_of heard u ≡ state_of config u)
      → ((j : ℕ) → j < length ids → state_of heard (slice_index ids j) ≡ state_of lies j)
      → heard ≡ heard_with ids lies config
  laid_is heard size honest told =
      ext_get_or (zero_state 0) heard (heard_with ids lies config) (size ∙ sym with_long)
      (λ u lt. each_with (λ w s. state_of heard w ≡ s) honest told u (omega (arith, lt, size)))

-- what is heard by a node that hears the truth is heard with the lies that stand there
pub all_alike : (ids : List ℕ) → IsStrictlyIncreasing ids → (v : ℕ) (config heard told : List State)
    → HearsTruth ids v config heard → HearsTruth ids v config told
    → ((j : ℕ) → j < length ids
    → state_of heard (slice_index ids j) ≡ state_of told (slice_index ids j))
    → heard ≡ told
all_alike ids rising v config heard told one other same =
    ext_get_or (zero_state 0) heard told (one.size ∙ sym other.size) (λ u lt.
    at u (omega (arith, lt, one.size)) (is_in ids u) refl)
  where
    at : (u : ℕ) → u < length config → (b : Bool) → is_in ids u ≡ b
        → state_of heard u ≡ state_of told u
    at u lt true bad =
        let stands = stands_at ids u rising bad in
        subst (λ (w : ℕ). state_of heard w ≡ state_of told w) stands.is
        (same (place_among ids u) stands.lt)
    at u lt false ok = one.honest u lt ok ∙ sym (other.honest u lt ok)
