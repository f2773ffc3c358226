-- A node that is given the packets of an era makes its column.
use Rattle.std.proofs.Common.{◌≡◌, ℕ, zero, suc, ◌+◌, ◌-◌, ◌<◌, ◌≤◌, inl, inr, cond, not, ◌||◌}
use Rattle.std.proofs.Common.{List, [], ◌∷◌, length, map, get_or, unwrap_or, add-one, refl, sym, ap}
use Rattle.std.proofs.Common.{◌∙◌, subst, arith}
use Rattle.std.specs.List.{flat_map, range_with_len}
use Rattle.std.proofs.lemmas.Bool.{cases_eq, eq-eqb, ne_eqb}
use Rattle.std.proofs.lemmas.List.FromFn.{fill_by_all, length-map-range_with_len}
use Rattle.std.proofs.lemmas.List.FromFn.{get_or-map-range_with_len}
use Rattle.sync_types.specs.States.{State, zero_state}
use Rattle.construction.specs.Plans.{Plan, plan_nodes}
use Rattle.construction.specs.Steps.{state_of, step_of}
use Rattle.construction.specs.Runs.{is_in}
use Rattle.construction.specs.Runs as runs
use Rattle.construction.proofs.Ranges.{step_is_state}
use Rattle.plan_laws.proofs.PlanCounter.{positive}
use Rattle.state_codec.specs.Shapes.{Shape, IsShape, shape_of, fields_at}
use Rattle.state_codec.specs.Ranges.{InRange}
use Rattle.state_codec.specs.Reading.{read}
use Rattle.state_codec.specs.Writing.{written}
use Rattle.state_codec.proofs.Back.{written_reads_back}
use Rattle.state_codec.proofs.Plans.{shape_of_accepted}
use Rattle.state_codec.proofs.PlanStates.{in_range_of_node}
use Rattle.state_codec.proofs.Lows.{fields_limited}
use Rattle.adversary_script.specs.Scripts.{Script}
use Rattle.adversary_script.specs.Eras.{first_of_era, end_of_era, faulty_at}
use Rattle.adversary_script.specs.Lookup.{hit_at}
use Rattle.adversary_script.specs.Lies.{AreStates, start_of}
use Rattle.adversary_script.proofs.LiesInRange.{starts_in_range}
use Rattle.round_runner.specs.Laws.{IsReadFor}
use Rattle.round_runner.specs.Played.{lies_at, heard_at, played_at}
use Rattle.machine_runner.proofs.Firsts.{none_inside, none_hit, era_some, end_within}
use Rattle.machine_runner.proofs.Hits.{hit_has, put_has}
use Rattle.machine_runner.proofs.Places.{placed}
use Rattle.promises.proofs.Heard.{heard_long, heard_is}
use Rattle.node_stepper.specs.Packets.{whole, most_packets}
use Rattle.plan_machine.specs.PlanNodes.{fields_of, heard_of, heard_in, state_after, state_cell}
use Rattle.plan_machine.specs.PlanNodes.{states_of}
use Rattle.node_stepper.specs.Laws.{AreFull, PacketsReadBack}
use Rattle.promises.specs.Columns.{round_packet, era_packets, NodesMakeColumns}
use Rattle.promises.specs.Columns.{EraPacketsAreRead}

module _ (plan : Plan) (s : Script) (is : IsReadFor plan s) where
  sound : IsShape s.shape
  sound = subst IsShape (sym is.right.states) (shape_of_accepted plan is.accepted)

  -- played states are in range
  played_in_range : (t : ℕ) → AreStates s.nodes s.shape (played_at plan s t)
  played_in_range zero = placed (λ v x. InRange (fields_at s.shape v) x) (start_of s) s.nodes
      (λ v lt. starts_in_range s is.whole sound v)
  played_in_range (suc t) =
      let some = positive plan.base plan.levels is.accepted.levels in
      let step : ℕ → State = λ v. step_of plan v (heard_at s t (played_at plan s t) v) in
      placed (λ v x. InRange (fields_at s.shape v) x)
      (λ v. unwrap_or (hit_at s (t + 1) v) (step v)) s.nodes
      (λ v lt. put_has (InRange (fields_at s.shape v)) (hit_at s (t + 1) v) (step v)
      (hit_has s is.whole (InRange (fields_at s.shape v)) (t + 1) v (λ x range. range))
      (subst (λ (shape : Shape). InRange (fields_at shape v) (step v)) (sym is.right.states)
      (in_range_of_node plan is.accepted v (let n = is.right.nodes in omega arith) (step v)
      (step_is_state plan some.0 some.1 v (heard_at s t (played_at plan s t) v)))))

  module _ (v : ℕ) (lt : v < plan_nodes plan) where
    own : v < s.nodes
    own = let n = is.right.nodes in omega arith

    abbrev heard : ℕ → List State
    heard t = heard_at s t (played_at plan s t) v

    abbrev state_at : ℕ → State
    state_at t = state_of (played_at plan s t) v

    -- a cell is read as what is heard of its node
    cell_is : (t u : ℕ) → u < plan_nodes plan
        → read (fields_of plan u) (get_or (round_packet plan s v t) u []) ≡ state_of (heard t) u
    cell_is t u ult =
        ap (read (fields_of plan u))
        (get_or-map-range_with_len
        (λ w. written (fields_of plan w) (state_of (heard t) w)) 0 (plan_nodes plan) u u [] ult
        (omega arith))
        ∙ written_reads_back (fields_of plan u) (state_of (heard t) u)
        (fields_limited (shape_of plan) u
        (shape_of_accepted plan is.accepted))
        (subst (λ (shape : Shape). InRange (fields_at shape u) (state_of (heard t) u))
        is.right.states
        (heard_is s is.whole sound t (played_at plan s t) (played_in_range t) v own u
        (let n = is.right.nodes in omega arith)))

    -- of itself a node hears its own state
    own_is : (t : ℕ) → state_of (heard t) v ≡ state_at t
    own_is t =
        get_or-map-range_with_len (runs.heard_of (faulty_at s t) (played_at plan s t)
        (lies_at s t (played_at plan s t)) v) 0 s.nodes v v (zero_state 0) own (omega arith)
        ∙ ap (λ b. cond (b || not (is_in (faulty_at s t) v)) (state_at t)
        (state_of (get_or (lies_at s t (played_at plan s t)) v []) v)) (eq-eqb v v refl)

    one_heard : (t u : ℕ) → u < plan_nodes plan
        → state_of (heard t) u ≡ heard_of plan v (state_at t) (round_packet plan s v t) u
    one_heard t u ult = elim (cases_eq u v) [
      | inl same ↦
          ap (state_of (heard t)) same ∙ own_is t
          ∙ ap (λ b. cond b (state_at t)
          (read (fields_of plan u) (get_or (round_packet plan s v t) u [])))
          (sym (eq-eqb u v same))
      | inr other ↦
          sym (cell_is t u ult)
          ∙ ap (λ b. cond b (state_at t)
          (read (fields_of plan u) (get_or (round_packet plan s v t) u [])))
          (sym (ne_eqb u v other))
    ]

    heard_same : (t : ℕ) → heard t ≡ heard_in plan v (state_at t) (round_packet plan s v t)
    heard_same t = fill_by_all (heard_of plan v (state_at t) (round_packet plan s v t)) (heard t)
        (plan_nodes plan) (zero_state 0)
        (heard_long s is.whole sound t (played_at plan s t) (played_in_range t) v own
        ∙ is.right.nodes)
        (one_heard t)

    module _ (j : ℕ) (among : j ≤ length s.eras) where
      -- so its state after the packet is the next one that is played
      next_is : (t : ℕ) → first_of_era s j ≤ t → t + 1 < end_of_era s j
          → state_after plan v (state_at t) (round_packet plan s v t) ≡ state_at (t + 1)
      next_is t low high =
          let none = none_inside s is.whole.formed.rising j t among low high in
          let step : ℕ → State = λ u. step_of plan u (heard_at s t (played_at plan s t) u) in
          ap (step_of plan v) (sym (heard_same t))
          ∙ sym (ap (λ hit. unwrap_or hit (step v)) (none_hit s (t + 1) v none))
          ∙ sym (get_or-map-range_with_len (λ u. unwrap_or (hit_at s (t + 1) u) (step u)) 0 s.nodes
          v v (zero_state 0) own (omega arith))
          ∙ ap state_at (sym (add-one t))

      states_are : (count t : ℕ) → first_of_era s j ≤ t → t + count < end_of_era s j
          → states_of plan v (state_at t) (map (round_packet plan s v) (range_with_len t count))
          ≡ map state_at (range_with_len t (suc count))
      states_are zero t low high = refl
      states_are (suc count) t low high =
          ap (λ x. state_at t ∷ states_of plan v x
          (map (round_packet plan s v) (range_with_len (t + 1) count)))
          (next_is t low (omega arith))
          ∙ ap (λ (behind : List State). state_at t ∷ behind)
          (states_are count (t + 1) (omega arith) (omega arith))

      column_is : (count : ℕ) → first_of_era s j + count + 1 ≡ end_of_era s j
          → states_of plan v (state_at (first_of_era s j))
          (map (round_packet plan s v) (range_with_len (first_of_era s j) count))
          ≡ map state_at (range_with_len (first_of_era s j) (suc count))
      column_is count all = states_are count (first_of_era s j) (omega arith) (omega (arith, all))

pub nodes_make_columns : NodesMakeColumns
nodes_make_columns plan s is j among v lt =
    let first = first_of_era s j in
    let end = end_of_era s j in
    let some = era_some s is.whole j among in
    let count : suc (end - 1 - first) ≡ end - first = omega (arith, some) in
    ap (flat_map (state_cell plan v))
    (column_is plan s is v lt j among (end - 1 - first) (omega (arith, some))
    ∙ ap (λ n. map (λ t. state_of (played_at plan s t) v) (range_with_len first n)) count)

-- each packet has a cell of each node
are_full : (plan : Plan) (s : Script) (v count t : ℕ)
    → AreFull (plan_nodes plan) (map (round_packet plan s v) (range_with_len t count))
are_full plan s v zero t = tt
are_full plan s v (suc count) t = (
  length-map-range_with_len
      (λ u. written (fields_of plan u) (state_of (heard_at s t (played_at plan s t) v) u)) 0
      (plan_nodes plan),
  are_full plan s v count (t + 1),
)

pub packets_are_read : PacketsReadBack → EraPacketsAreRead
packets_are_read back plan s is j among v lt =
    let first = first_of_era s j in
    let end = end_of_era s j in
    let count : ℕ = end - 1 - first in
    let long : length (era_packets plan s v j) ≡ count =
    length-map-range_with_len (round_packet plan s v) first count in
    let some = era_some s is.whole j among in
    let within = end_within s is.whole j (end - 1) among (omega (arith, some)) in
    back (plan_nodes plan) (era_packets plan s v j) most_packets 0 (omega (arith, lt))
    (are_full plan s v count first)
    (let few = is.whole.formed.few in omega (arith, long, within, few))
    ∙ ap (λ n. record { cells = era_packets plan s v j; ending = whole n }) (omega (arith, long))
