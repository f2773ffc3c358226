-- The engine of a header.
use Rattle.std.proofs.Common.{◌≡◌, ℕ, ◌<◌, List, Option, Result, Ok, Err, refl, sym, ap, ◌∙◌, subst}
use Rattle.std.proofs.Common.{arith}
use Rattle.std.proofs.lemmas.List.{get_or-set_same, length-replicate}
use Rattle.std.specs.Prelude.{replicate, IfOk}
use Rattle.sync_types.specs.States.{State, zero_state}
use Rattle.state_codec.specs.Shapes.{Fields, Shape, fields_at, shape_nodes}
use Rattle.state_codec.specs.Ranges.{InRange}
use Rattle.machines.specs.Machines.{Machine, IsState}
use Rattle.node_words.specs.declared.header_lines.NodeHeader.{NodeHeader}
use Rattle.node_words.specs.declared.headers.HeaderRead.{HeaderRead}
use Rattle.node_words.specs.HeaderParts.{HeaderOf}
use Rattle.node_words.specs.Fits.{IsFit}
use Rattle.node_words.specs.FedHeaders.{HeaderWhole}
use Rattle.node_stepper.specs.Nodes.{Standing, own, begun, node_text}
use Rattle.node_stepper.specs.Packets.{packets_of, most_packets}
use Rattle.node_stepper.specs.Serving.{served, answer}
use Rattle.node_words.specs.Constructions.{Words, IsShaped}
use Rattle.node_words.specs.NodeAnswers.{packets_for}
use Rattle.node_words.specs.Engines.{StandsFor}

-- one that has heard nothing
begun_stands : {M : Type 0} (machine : M → Machine) (counter : M) (v : ℕ) (s : State)
    → v < (machine counter).nodes
    → StandsFor machine (machine counter) v s (begun machine counter v s)
begun_stands machine counter v s lt =
    let m = machine counter in
    let zeros = replicate m.nodes (zero_state m.depth) in
    record {
      counter = refl;
      id = refl;
      state = get_or-set_same zeros v s (zero_state 0)
          (omega (arith, lt, length-replicate m.nodes (zero_state m.depth)));
    }

-- of a header that fits the shape of its plan's states
module _ {Reader Plan Premise M : Type 0} (words : Words Reader Plan Premise)
    (machine : M → Machine) (x : HeaderRead Plan) (counter : M)
    (same : x.shape ≡ words.part.shape x.plan) (fits : IsFit x.shape x.header)
    (is : machine counter ≡ words.machine x.plan) (shaped : IsShaped words x.plan) where
  below : x.header.id < (words.machine x.plan).nodes
  below = subst (λ n. x.header.id < n) (ap shape_nodes same ∙ shaped.nodes) fits.node

  pub node : x.header.id < (machine counter).nodes
  node = subst (λ (m : Machine). x.header.id < m.nodes) (sym is) below

  pub state : IsState (machine counter) x.header.id x.header.state
  state =
      subst (λ (m : Machine). IsState m x.header.id x.header.state) (sym is)
      (subst (λ (f : Fields). InRange f x.header.state) (shaped.fields x.header.id below)
      (subst (λ (s : Shape). InRange (fields_at s x.header.id) x.header.state) same fits.range))

  stands : (e : Standing M) → e ≡ begun machine counter x.header.id x.header.state
      → StandsFor machine (words.machine x.plan) x.header.id x.header.state e
  stands e made =
      subst (StandsFor machine (words.machine x.plan) x.header.id x.header.state) (sym made)
      (subst (λ (m : Machine). StandsFor machine m x.header.id x.header.state
      (begun machine counter x.header.id x.header.state)) is
      (begun_stands machine counter x.header.id x.header.state node))

  pub ok_stands : {E : Type 0} (r : Result (Standing M) E)
      → IfOk r (λ e. e ≡ begun machine counter x.header.id x.header.state)
      → IfOk r (λ e. StandsFor machine (words.machine x.plan) x.header.id x.header.state e)
  ok_stands (Err other) made = tt
  ok_stands (Ok e) made = stands e made

module _ {Reader Plan Premise M : Type 0} (words : Words Reader Plan Premise)
    (machine : M → Machine) where
  -- an engine hears and writes what is defined for a header
  pub record IsNodeOf (h : HeaderOf Plan) (e : Standing M) : Type 0 where
    pub writes : (packets : List (List (List ℕ)))
        → node_text (words.machine h.plan) h.node.id h.node.state packets
        ≡ answer machine e packets
    pub hears : (bytes : List ℕ) → packets_for words h bytes ≡ served machine e bytes

  stands_for : (h : HeaderOf Plan) (e : Standing M)
      → StandsFor machine (words.machine h.plan) h.node.id h.node.state e → IsNodeOf h e
  stands_for h e is = record {
    writes = λ packets.
        let m = words.machine h.plan in
        sym (ap (λ (k : Machine). node_text k e.id (own e) packets) is.counter
        ∙ ap (λ (v : ℕ). node_text m v (own e) packets) is.id
        ∙ ap (λ (s : State). node_text m h.node.id s packets) is.state);
    hears = λ bytes.
        ap (λ (m : Machine). packets_of m.nodes most_packets 0 bytes) (sym is.counter);
  }

  -- of a header that was read
  pub is_node_of : (s t : Option (List ℕ)) (x : HeaderRead Plan) (w : HeaderWhole words.part s t x)
      (e : Standing M)
      → StandsFor machine (words.machine x.plan) x.header.id x.header.state e
      → IsNodeOf w.header e
  is_node_of s t x w e is =
      stands_for w.header e (record {
        counter = is.counter ∙ sym (ap words.machine w.plan);
        id = is.id ∙ sym (ap (λ (n : NodeHeader). n.id) w.node);
        state = is.state ∙ sym (ap (λ (n : NodeHeader). n.state) w.node);
      })
