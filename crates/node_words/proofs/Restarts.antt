-- A process that is started anew is a faulty node of the whole window, and a correct one of its
-- rest.
use Rattle.std.proofs.Common.{◌≡◌, ℕ, ◌+◌, Bool, true, false, List, [], refl}
use Rattle.std.proofs.Common.{sym, ap, ◌∙◌, cond, subst, unwrap_or, arith}
use Rattle.std.specs.Prelude.{◌==◌}
use Rattle.std.proofs.lemmas.List.FromFn.{get_or-map-range_with_len}
use Rattle.std.proofs.lemmas.Bool.{eqb-true, eqb-false}
use Rattle.sync_types.specs.States.{zero_state}
use Rattle.construction.specs.Steps.{state_of}
use Rattle.construction.specs.Runs.{is_in}
use Rattle.state_codec.specs.Reading.{read}
use Rattle.machines.specs.Machines.{Machine, IsLocked}
use Rattle.node_stepper.specs.NodeRuns.{IsCorrect}
use Rattle.node_stepper.proofs.Follows.{locked_same}
use Rattle.node_words.specs.Constructions.{Words}
use Rattle.node_words.specs.Calls.{Call}
use Rattle.node_words.specs.CallWindows.{cell_written, state_written, states_written}
use Rattle.node_words.specs.CallWindows.{ConnectedCallsCount}
use Rattle.node_words.specs.Restarts.{Restart, calls_after, begins_after, AreFaultyMeanwhile}
use Rattle.node_words.specs.Restarts.{RestartedNodesCount}

-- a node that is correct all the time is another one
not_it : (b : Bool) (w v : ℕ) → (v == w) ≡ b → (meanwhile : List ℕ) → is_in meanwhile w ≡ true
    → is_in meanwhile v ≡ false → b ≡ false
not_it false w v is meanwhile own correct = refl
not_it true w v is meanwhile own correct =
    let same : v ≡ w = eqb-true v w is in
    absurd (let both = sym own ∙ ap (is_in meanwhile) (sym same) ∙ correct in cc)

module _ {Reader Plan Premise : Type 0} (words : Words Reader Plan Premise) (m : Machine)
    (faulty meanwhile : List ℕ) (restart : Restart)
    (too : AreFaultyMeanwhile restart.node faulty meanwhile) (calls : ℕ → Call)
    (begins : ℕ → ℕ) where
  abbrev after : ℕ → Call
  after = calls_after restart calls

  abbrev begun : ℕ → ℕ
  begun = begins_after restart begins

  pub apart : (v : ℕ) → IsCorrect m meanwhile v → (v == restart.node) ≡ false
  apart v correct =
      not_it (v == restart.node) restart.node v refl meanwhile too.own correct.1

  pub correct_too : (v : ℕ) → IsCorrect m meanwhile v → IsCorrect m faulty v
  correct_too v correct =
      (correct.0, sym (too.others v (eqb-false v restart.node (apart v correct))) ∙ correct.1)

  state_same : (i v : ℕ) → IsCorrect m meanwhile v
      → state_written words m calls (begins v + (restart.after + i)) v
      ≡ state_written words m after (begun v + i) v
  state_same i v correct =
      let e : begins v + (restart.after + i) ≡ begins v + restart.after + i = omega arith in
      ap (λ t. state_written words m calls t v) e
      ∙ ap (λ b. state_written words m (λ u. cond b restart.call (calls v))
      (cond b 0 (begins v + restart.after) + i) v) (sym (apart v correct))

  same : (i v : ℕ) → IsCorrect m meanwhile v
      → state_of (states_written words m calls begins (restart.after + i)) v
      ≡ state_of (states_written words m after begun i) v
  same i v correct =
      get_or-map-range_with_len
      (λ u. state_written words m calls (begins u + (restart.after + i)) u) 0 m.nodes v v
      (zero_state 0) correct.0 (omega arith)
      ∙ state_same i v correct
      ∙ sym (get_or-map-range_with_len
      (λ u. state_written words m after (begun u + i) u) 0 m.nodes v v (zero_state 0) correct.0
      (omega arith))

  -- the node that goes on from the cell that was written in its place
  module _ (handed : cell_written words m after 0 restart.node
      ≡ cell_written words m calls (begins restart.node + restart.after) restart.node) where
    state_handed : (v : ℕ) → (b : Bool) → (v == restart.node) ≡ b → IsCorrect m faulty v
        → state_of (states_written words m calls begins (restart.after + 0)) v
        ≡ state_of (states_written words m after begun 0) v
    state_handed v false apart correct =
        same 0 v
        (correct.0, too.others v (eqb-false v restart.node apart) ∙ correct.1)
    state_handed v true it correct =
        let e : begins v + (restart.after + 0) ≡ begins v + restart.after = omega arith in
        let is : v ≡ restart.node = eqb-true v restart.node it in
        get_or-map-range_with_len
        (λ u. state_written words m calls (begins u + (restart.after + 0)) u) 0 m.nodes v v
        (zero_state 0) correct.0 (omega arith)
        ∙ ap (λ t. state_written words m calls t v) e
        ∙ ap (λ u. state_written words m calls (begins u + restart.after) u) is
        ∙ ap (λ c. read (m.fields restart.node) (unwrap_or c [])) (sym handed)
        ∙ ap (λ u. state_written words m after 0 u) (sym is)
        ∙ ap (λ b. state_written words m after
        (cond b 0 (begins v + restart.after) + 0) v) (sym it)
        ∙ sym (get_or-map-range_with_len
        (λ u. state_written words m after (begun u + 0) u)
        0 m.nodes v v (zero_state 0) correct.0 (omega arith))

    first_locked : IsLocked m faulty (states_written words m calls begins restart.after)
        → IsLocked m faulty (states_written words m after begun 0)
    first_locked locked =
        let e : restart.after ≡ restart.after + 0 = omega arith in
        locked_same m.lock m.nodes faulty (states_written words m calls begins (restart.after + 0))
        (states_written words m after begun 0)
        (λ v lt correct. sym (state_handed v (v == restart.node) refl (lt, correct)))
        (subst (λ (i : ℕ). IsLocked m faulty (states_written words m calls begins i)) e locked)

pub restarted_count : {Reader Plan Premise : Type 0} (words : Words Reader Plan Premise)
    (m : Machine) → ConnectedCallsCount words m → RestartedNodesCount words m
restarted_count words m count faulty meanwhile borne borne_too restart too some calls begins rounds
    whole rest =
    let all = count faulty borne
    (some.0, correct_too words m faulty meanwhile restart too calls begins some.0 some.1)
    (calls_after restart calls) (begins_after restart begins) rounds rest in
    record {
      others = count meanwhile borne_too some calls begins (restart.after + rounds) whole;
      rest = all;
      same = λ i v le correct.
          same words m faulty meanwhile restart too calls begins i v correct;
      handed = λ same_cell locked.
          all.stays 0 (omega arith)
          (first_locked words m faulty meanwhile restart too calls begins same_cell locked);
    }
