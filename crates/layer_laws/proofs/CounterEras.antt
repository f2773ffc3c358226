-- What is played in an era is a run with the layer.
use Rattle.std.proofs.Common.{◌≡◌, inl, inr, ℕ, zero, suc, ◌+◌, ◌<◌, cond, eqb, not, ◌||◌, List, []}
use Rattle.std.proofs.Common.{length, map, get_or, All, IfSome, sym, ap, ap₂, ◌∙◌, subst}
use Rattle.std.proofs.Common.{length-append, add-one, arith}
use Rattle.std.specs.List.{range_with_len}
use Rattle.std.proofs.lemmas.Bool.{lt-ltb}
use Rattle.std.proofs.lemmas.List.Elements.{All-get_or, All-from_get_or}
use Rattle.std.proofs.lemmas.List.FromFn.{length-map-range_with_len, get_or-map-range_with_len}
use Rattle.sync_types.specs.declared.states.Reg.{Reg}
use Rattle.sync_types.specs.States.{State, zero_state, zero_register, register_at}
use Rattle.construction.specs.Steps.{state_of}
use Rattle.construction.specs.Runs.{is_in, heard_of}
use Rattle.counter_core.specs.Meanings.{Meaning, cut}
use Rattle.counter_core.specs.Overlays.{Layer, SameNumbers, LayerFits, HasRegisters, HasValues}
use Rattle.counter_core.specs.Overlays.{KeepsRange, MayHear, AreNew}
use Rattle.layer_laws.specs.Counters.{IsSettling}
use Rattle.layer_laws.specs.Scenes.{Scene, kept_of, layer_step, new_state}
use Rattle.layer_laws.specs.CounterLayers.{IsLayerState, IsLayerConfiguration, IsLayerTold}
use Rattle.layer_laws.specs.CounterLayers.{IsLayerTable, LayerRun, scene}
use Rattle.layer_laws.specs.CounterLaws.{ErasAreRunsOver}
use Rattle.layer_laws.specs.CounterPlayed.{Telling, TellsInRange, IsKeptFor, lies_in, heard_in}
use Rattle.layer_laws.specs.CounterPlayed.{state_after, kept_after, next_scene, scene_after}
use Rattle.layer_laws.specs.CounterPlayed.{era_from}
use Rattle.layer_laws.proofs.CounterCuts.{new_front, layer_register}
use Rattle.counter_core.proofs.StateLists.{each_below, choice_is}

-- a list that is made place by place, by place
pub placed : (P : ℕ → State → Type 0) (f : ℕ → State) (n : ℕ) → ((v : ℕ) → v < n → P v (f v))
    → (v : ℕ) → v < n → P v (state_of (map f (range_with_len 0 n)) v)
placed P f n holds v lt =
    subst (P v) (sym (get_or-map-range_with_len f 0 n v v (zero_state 0) lt (omega arith)))
    (holds v lt)

-- all states of a list, by place
all_by_place : (P : State → Type 0) (heard : List State) (n : ℕ) → length heard ≡ n
    → ((v : ℕ) → v < n → P (state_of heard v)) → All P heard
all_by_place P heard n long holds =
    All-from_get_or P heard (zero_state 0) (λ v lt. holds v (omega (arith, lt, long)))

module _ {Kept : Type 0} (layer : Layer Kept) (counter : Meaning)
    (is_state : (v : ℕ) → State → Type 0) (settling : IsSettling counter is_state)
    (over : LayerFits layer counter) (keeps : KeepsRange layer) (faulty : List ℕ)
    (lie : Telling) (tells : TellsInRange counter is_state layer lie) where
  abbrev n : ℕ
  n = counter.nodes

  -- what is told in a round
  table_is : (t : ℕ) (config : List State) → IsLayerConfiguration counter is_state layer config
      → IsLayerTable counter is_state layer (lies_in counter layer faulty lie t config)
  table_is t config is =
      let row : ℕ → List State = λ u. map (λ v. lie t u v config) (range_with_len 0 n) in
      let told : (u : ℕ) → u < n → IsLayerTold counter is_state layer u (row u) = λ u ult. record {
        size = length-map-range_with_len (λ v. lie t u v config) 0 n;
        states =
            each_below (IsLayerState counter is_state layer u) (λ v. lie t u v config) n
            (λ v vlt. tells t u v config ult vlt is);
      } in
      record {
        size = length-map-range_with_len row 0 n;
        rows =
            λ u ult. subst (IsLayerTold counter is_state layer u)
            (sym (get_or-map-range_with_len row 0 n u u [] ult (omega arith))) (told u ult);
      }

  -- what is heard in a round
  heard_is : (t : ℕ) (config : List State) (v : ℕ) → v < n
      → IsLayerConfiguration counter is_state layer config
      → (u : ℕ) → u < n
      → IsLayerState counter is_state layer u
      (state_of (heard_in counter layer faulty lie t config v) u)
  heard_is t config v vlt is =
      let lies = lies_in counter layer faulty lie t config in
      let table = table_is t config is in
      placed (IsLayerState counter is_state layer) (heard_of faulty config lies v) n (λ u ult.
      let row : IsLayerTold counter is_state layer u (get_or lies u []) = table.rows u ult in
      choice_is (IsLayerState counter is_state layer u) (eqb u v || not (is_in faulty u))
      (state_of config u) (state_of (get_or lies u []) v)
      (is.states u ult)
      (All-get_or (IsLayerState counter is_state layer u) (get_or lies u []) v (zero_state 0)
      (let s = row.size in omega (arith, vlt, s)) row.states))

  -- what a state of a node shows is below the modulus
  pub shows_below : (v : ℕ) (s : State) → v < n → IsLayerState counter is_state layer v s
      → counter.shows v s < counter.modulus
  shows_below v s vlt is =
      subst (λ y. y < counter.modulus) (settling.front.shows v s vlt)
      (settling.shown v (cut counter.depth s) vlt is.front)

  -- the layer's new registers
  may_hear : (t : ℕ) (config : List State) (v : ℕ) → v < n
      → IsLayerConfiguration counter is_state layer config
      → SameNumbers layer counter
      → MayHear layer v
      (counter.shows v (state_of (heard_in counter layer faulty lie t config v) v))
      (heard_in counter layer faulty lie t config v)
  may_hear t config v vlt is same =
      let heard = heard_in counter layer faulty lie t config v in
      let long : length heard
      ≡ n = length-map-range_with_len
      (heard_of faulty config (lies_in counter layer faulty lie t config) v) 0 n in
      let states = heard_is t config v vlt is in
      let nodes = same.nodes in
      let modulus = same.modulus in
      let depth = same.depth in
      record {
        node = omega (arith, vlt, nodes);
        output =
            let below = shows_below v (state_of heard v) vlt (states v vlt) in
            omega (arith, below, modulus);
        size = long ∙ sym same.nodes;
        deep =
            all_by_place (HasRegisters layer) heard n long
            (λ u ult. let size = (states u ult).size in omega (arith, size, depth));
        range = all_by_place (HasValues layer) heard n long (λ u ult. (states u ult).values);
      }

  are_new : (t : ℕ) (kept : Kept) (config : List State) (v : ℕ) → v < n
      → IsLayerConfiguration counter is_state layer config
      → AreNew layer
      (layer_step counter layer t kept v
      (heard_in counter layer faulty lie t config v)).registers
  are_new t kept config v vlt is =
      let heard = heard_in counter layer faulty lie t config v in
      keeps v (counter.shows v (state_of heard v)) (layer.begun t kept) heard
      (λ some. may_hear t config v vlt is (over some))

  new_is : (t : ℕ) (kept : Kept) (config : List State) (v : ℕ) → v < n
      → IsLayerConfiguration counter is_state layer config
      → IsLayerState counter is_state layer v
      (new_state counter layer t kept v (heard_in counter layer faulty lie t config v))
  new_is t kept config v vlt is =
      let heard = heard_in counter layer faulty lie t config v in
      let deep = settling.front.deep v heard vlt in
      let step : State = counter.next v heard in
      let new = (layer_step counter layer t kept v heard).registers in
      let are : AreNew layer new = are_new t kept config v vlt is in
      record {
        front =
            subst (is_state v) (sym (new_front counter layer t kept v heard deep))
            (settling.next v heard vlt);
        size =
            length-append step.registers new
            ∙ ap₂ (λ (a b : ℕ). a + b) deep are.size;
        values = λ i lt.
            let below = are.range in
            let size = are.size in
            let same = over (omega (arith, lt)) in
            subst (λ (r : Reg). IfSome r.a (λ a. a < layer.values))
            (sym
            (ap
            (λ d. register_at (d + i)
            (new_state counter layer t kept v heard))
            same.depth
            ∙ layer_register counter layer i t kept v heard deep))
            (All-get_or (λ (r : Reg). IfSome r.a (λ a. a < layer.values)) new i zero_register
            (omega (arith, lt, size)) below);
      }

  -- ---- what is kept

  -- of each node, what its step leaves
  kept_is : (t : ℕ) (scene : Scene Kept) → IsKeptFor n scene.kept → (v : ℕ) → v < n
      → kept_of layer (next_scene counter layer faulty lie t scene) v
      ≡ (layer_step counter layer t (kept_of layer scene v) v
      (heard_in counter layer faulty lie t scene.states v)).kept
  kept_is t scene (inl one) v lt = one _ _
  kept_is t scene (inr many) v lt =
      let step : Kept =
      (layer_step counter layer t (kept_of layer scene v) v
      (heard_in counter layer faulty lie t scene.states v)).kept in
      get_or-map-range_with_len (kept_after counter layer faulty lie t scene) 0 (length scene.kept)
      v v layer.first (omega (arith, lt, many)) (omega arith)
      ∙ ap (λ b. cond b step (kept_of layer scene v)) (lt-ltb v n lt)

  kept_for : (t : ℕ) (scene : Scene Kept) → IsKeptFor n scene.kept
      → IsKeptFor n (next_scene counter layer faulty lie t scene).kept
  kept_for t scene (inl one) = inl one
  kept_for t scene (inr many) =
      inr
      (let long = length-map-range_with_len (kept_after counter layer faulty lie t scene) 0
      (length scene.kept) in
      omega (arith, long, many))

  module _ (first : ℕ) (start : Scene Kept)
      (starts : IsLayerConfiguration counter is_state layer start.states)
      (kept : IsKeptFor n start.kept) where
    after : ℕ → Scene Kept
    after = scene_after counter layer faulty lie first start

    after_is : (t : ℕ) → IsLayerConfiguration counter is_state layer (after t).states
    unfolding after
    after_is zero = starts
    after_is (suc t) =
        let before = scene_after counter layer faulty lie first start t in
        let f : ℕ → State = state_after counter layer faulty lie (first + t) before in
        record {
          size = length-map-range_with_len f 0 n;
          states = placed (IsLayerState counter is_state layer) f n
              (λ v vlt. new_is (first + t) (kept_of layer before v) before.states v vlt
              (after_is t));
        }

    after_kept : (t : ℕ) → IsKeptFor n (after t).kept
    unfolding after
    after_kept zero = kept
    after_kept (suc t) =
        kept_for (first + t) (scene_after counter layer faulty lie first start t) (after_kept t)

    is_run : (rounds : ℕ)
        → LayerRun counter is_state layer faulty first
        (era_from counter layer faulty lie first start rounds)
    unfolding after
    is_run rounds =
        let f : ℕ → Scene Kept = scene_after counter layer faulty lie first start in
        let size = length-map-range_with_len f 0 (rounds + 1) in
        let at : (t : ℕ) → t < rounds + 1
        → scene (era_from counter layer faulty lie first start rounds) t
        ≡ f t = λ t lt. get_or-map-range_with_len f 0 (rounds + 1) t t
        (record { states = []; kept = [] }) lt (omega arith) in
        record {
          some = omega (arith, size);
          configurations =
              each_below (λ s. IsLayerConfiguration counter is_state layer s.states) f (rounds + 1)
              (λ t lt. after_is t);
          rounds = λ t lt.
              let inside : t + 1 < rounds + 1 = omega (arith, lt, size) in
              rw (at t (omega arith), at (t + 1) inside, add-one t) (record {
                lies = lies_in counter layer faulty lie (first + t) (f t).states;
                round = record {
                  table = table_is (first + t) (f t).states (after_is t);
                  steps = λ v vlt ok. record {
                    state =
                        get_or-map-range_with_len
                        (state_after counter layer faulty lie (first + t) (f t)) 0 n v v
                        (zero_state 0) vlt (omega arith);
                    kept = kept_is (first + t) (f t) (after_kept t) v vlt;
                  };
                };
              });
        }

pub eras_are_runs_over : {Kept : Type 0} (layer : Layer Kept) (counter : Meaning)
    (is_state : (v : ℕ) → State → Type 0) → ErasAreRunsOver layer counter is_state
eras_are_runs_over layer counter is_state settling over keeps faulty lie tells first start starts
    kept rounds =
    is_run layer counter is_state settling over keeps faulty lie tells first start starts kept
    rounds
