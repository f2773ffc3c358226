-- What a node that was made for a call answers.
use Rattle.std.proofs.Common.{◌≡◌, ℕ, ◌<◌, List, length, Result, Ok, Err, refl, sym, ap, ◌∙◌, subst}
use Rattle.std.proofs.Common.{arith}
use Rattle.std.specs.Prelude.{replicate}
use Rattle.std.proofs.lemmas.Bool.{eq-eqb}
use Rattle.std.proofs.lemmas.List.{get_or-set_same, length-replicate}
use Rattle.sync_types.specs.States.{State, zero_state}
use Rattle.state_codec.specs.Shapes.{bytes_in}
use Rattle.state_codec.specs.Reading.{read}
use Rattle.state_codec.specs.Writing.{written}
use Rattle.machines.specs.Machines.{Machine}
use Rattle.node_stepper.specs.Nodes.{Standing, own, begun, state_behind}
use Rattle.node_calls.specs.declared.errors.CallError.{CallError}
use Rattle.node_calls.specs.declared.errors.CallError.TheVariants as error
use Rattle.node_calls.specs.Errors.{FailsAs}
use Rattle.node_calls.specs.Answers.{by_ending, bytes_behind, steps_over, packets_for, step_in}
use Rattle.node_calls.specs.Hearing.{Hears}

module _ {M : Type 0} (machine : M → Machine) (counter : M) (id : ℕ)
    (node : id < (machine counter).nodes) where
  abbrev m : Machine
  m = machine counter

  own_begun : (s : State) → own (begun machine counter id s) ≡ s
  own_begun s =
      let zero : State = zero_state m.depth in
      get_or-set_same (replicate (m.nodes) zero) id s (zero_state 0)
      (omega (arith, node, length-replicate (m.nodes) zero))

  module _ (state packets : List ℕ) (long : length state ≡ bytes_in (m.fields id)) where
    step_is : step_in id state packets m ≡ steps_over id state m (packets_for m packets)
    step_is = rw (eq-eqb (length state) (bytes_in (m.fields id)) long) refl

    abbrev start : Standing M
    start = begun machine counter id (read (m.fields id) state)

    abbrev new_bytes : List ℕ
    new_bytes = bytes_behind m id state (packets_for m packets).cells

    hears_whole : (after : Standing M) (count : ℕ) (new : List ℕ)
        → Hears machine start after packets (Ok count)
        → new ≡ written (m.fields id) (own after)
        → step_in id state packets m ≡ Ok (count, new)
    hears_whole after count new (ending, stands) is =
        let s : State = read (m.fields id) state in
        let cells : List (List (List ℕ)) = (packets_for m packets).cells in
        let same : own after ≡ state_behind m id s cells =
        stands.state ∙ ap (λ (t : State). state_behind m id t cells) (own_begun s) in
        step_is ∙ ap (by_ending new_bytes) ending
        ∙ ap (λ (bytes : List ℕ). let r : Result (ℕ × List ℕ) CallError = Ok (count, bytes) in r)
        (sym (is ∙ ap (written (m.fields id)) same))

    hears_none : (after : Standing M) (e : CallError) → Hears machine start after packets (Err e)
        → FailsAs e (step_in id state packets m)
    hears_none after (error.Cut packet sender) ending = step_is ∙ ap (by_ending new_bytes) ending
    hears_none after error.TooLong ending = step_is ∙ ap (by_ending new_bytes) ending
    hears_none after (error.Refused refusal) ending = absurd ending
    hears_none after (error.HalvingRefused refusal) ending = absurd ending
    hears_none after error.Node ending = absurd ending
    hears_none after error.Length ending = absurd ending
    hears_none after error.NoMemory ending = absurd ending

-- what was heard of a node
module _ {M : Type 0} (machine : M → Machine) (counter : M) (id : ℕ)
    (node : id < (machine counter).nodes) (state packets : List ℕ)
    (long : length state ≡ bytes_in ((machine counter).fields id)) (before after : Standing M)
    (is : before ≡ begun machine counter id (read ((machine counter).fields id) state)) where
  at_node : (count : ℕ) → Hears machine before after packets (Ok count)
      → (after.counter ≡ counter) × (after.id ≡ id)
  at_node count heard =
      let stands = heard.1 in (
        stands.counter ∙ ap (λ (b : Standing M). b.counter) is,
        stands.id ∙ ap (λ (b : Standing M). b.id) is,
      )

  -- its state has as many bytes as that before
  pub room_is : (count : ℕ) → Hears machine before after packets (Ok count)
      → length state ≡ bytes_in ((machine after.counter).fields after.id)
  room_is count heard =
      let at = at_node count heard in
      long ∙ sym (ap (λ (c : M). bytes_in ((machine c).fields after.id)) at.0
      ∙ ap (λ v. bytes_in ((machine counter).fields v)) at.1)

  pub step_whole : (count : ℕ) (new : List ℕ) → Hears machine before after packets (Ok count)
      → new ≡ written ((machine after.counter).fields after.id) (own after)
      → step_in id state packets (machine counter) ≡ Ok (count, new)
  step_whole count new heard wrote =
      let at = at_node count heard in
      hears_whole machine counter id node state packets long after count new
      (subst (λ (b : Standing M). Hears machine b after packets (Ok count)) is heard)
      (wrote ∙ ap (λ (c : M). written ((machine c).fields after.id) (own after)) at.0
      ∙ ap (λ v. written ((machine counter).fields v) (own after)) at.1)

  pub step_none : (e : CallError) → Hears machine before after packets (Err e)
      → FailsAs e (step_in id state packets (machine counter))
  step_none e heard =
      hears_none machine counter id node state packets long after e
      (subst (λ (b : Standing M). Hears machine b after packets (Err e)) is heard)
