-- What the faulty nodes tell a node, laid into their places one after the other.
use Rattle.std.proofs.Common.{◌≡◌, ℕ, ◌+◌, ◌<◌, ◌≤◌, inl, inr, Bool, true, false, List}
use Rattle.std.proofs.Common.{length, set, refl, sym, ap, ◌∙◌, subst, arith}
use Rattle.std.specs.Prelude.{◌==◌, slice_index}
use Rattle.std.proofs.lemmas.Bool.{cases_eq, eq-eqb, eqb-true, true≢false}
use Rattle.std.proofs.lemmas.List.{length-set}
use Rattle.std.proofs.lemmas.List.Elements.{All-set}
use Rattle.sync_types.specs.FaultSets.{is_in}
use Rattle.sync_types.specs.States.{State}
use Rattle.construction.specs.Steps.{state_of}
use Rattle.counter_core.proofs.Heeded.{place_of}
use Rattle.state_codec.specs.Shapes.{Shape, fields_at}
use Rattle.state_codec.specs.Ranges.{InRange}
use Rattle.adversary_script.specs.Scripts.{Script}
use Rattle.adversary_script.specs.Eras.{faulty_at}
use Rattle.adversary_script.specs.Lies.{lie_of}
use Rattle.adversary_script.proofs.LiesInRange.{depth_of_node}
use Rattle.machine_runner.specs.Played.{heard_at}
use Rattle.machine_runner.proofs.Heard.{heard_is, is_among}
use Rattle.machine_runner.proofs.Places.{set_has}
use Rattle.machine_runner.specs.Hearing.{heard_from, HasRoom, AreHonest}

module _ (script : Script) (t v : ℕ) (config : List State) where
  module _ (u : ℕ) where
    pub from_itself : u ≡ v → heard_from script t v config u ≡ state_of config u
    from_itself same = let yes : u == v ≡ true = eq-eqb u v same in rw yes refl

    from_where : (b : Bool) → u == v ≡ b → (u ≡ v → ⊥)
        → heard_from script t v config u ≡ lie_of script t u v config
    from_where true is other = absurd (other (eqb-true u v is))
    from_where false is other = rw is refl

    pub from_other : (u ≡ v → ⊥) → heard_from script t v config u ≡ lie_of script t u v config
    from_other other = from_where (u == v) refl other

  -- the faulty nodes before place i of their set are laid, and the correct ones stand
  pub record ToldBelow (ids : List ℕ) (i : ℕ) (heard : List State) : Type 0 where
    pub room : HasRoom script heard
    pub honest : AreHonest script t config heard
    pub told : (k : ℕ) → k < i → state_of heard (slice_index ids k)
        ≡ heard_from script t v config (slice_index ids k)

  pub one_told : (ids : List ℕ) → ids ≡ faulty_at script t → (i u : ℕ) (heard : List State)
      (out : State) → i < length ids → u ≡ slice_index ids i → u < script.nodes
      → out ≡ heard_from script t v config u → length out.registers ≡ script.shape.depth
      → ToldBelow ids i heard
      → ToldBelow ids (i + 1) (set heard u out)
  one_told ids same i u heard out lt at node is deep h =
      let size = h.room.size in
      let inside : u < length heard = omega (arith, node, size) in
      let bad : is_in (faulty_at script t) u ≡ true =
      subst (λ (w : ℕ). is_in (faulty_at script t) w ≡ true) (sym at)
      (subst (λ (all : List ℕ). is_in all (slice_index ids i) ≡ true) same (is_among ids i lt)) in
      record {
        room = record {
          size = length-set heard u out ∙ h.room.size;
          deep = All-set (λ (s : State). length s.registers ≡ script.shape.depth) heard u out deep
              h.room.deep;
        };
        honest = λ w wlt correct. set_has (λ w s. is_in (faulty_at script t) w ≡ false
            → s ≡ state_of config w) heard u out inside
            (λ no. absurd (true≢false (sym bad ∙ no))) w (λ other. h.honest w wlt) correct;
        told = λ k klt. set_has (λ w s. s ≡ heard_from script t v config w) heard u out inside is
            (slice_index ids k) (λ other. elim (cases_eq k i) [
              | inl here ↦ absurd (other (ap (slice_index ids) here ∙ sym at))
              | inr less ↦ h.told k (omega (arith, klt, less))
            ]);
      }

  pub all_told : (ids : List ℕ) → ids ≡ faulty_at script t → (i : ℕ) (heard : List State)
      → v < script.nodes → length ids ≤ i → ToldBelow ids i heard
      → heard ≡ heard_at script t config v
  all_told ids same i heard node end h =
      heard_is script.nodes (faulty_at script t) config (λ u w. lie_of script t u w config) v heard
      node h.room.size h.honest (λ u lt bad.
      let p = place_of ids u (subst (λ (all : List ℕ). is_in all u ≡ true) (sym same) bad) in
      let inside = p.1 in
      subst (λ (w : ℕ). state_of heard w ≡ heard_from script t v config w) p.2
      (h.told p.0 (omega (arith, inside, end))))

-- a state that is read of a configuration has the registers that it had there
pub read_deep : (own shape : Shape) (config : List State) (u : ℕ) (out : State) → own ≡ shape
    → InRange (fields_at own u) (state_of config u) → out ≡ state_of config u
    → length out.registers ≡ shape.depth
read_deep own shape config u out same range is =
    ap (λ (s : State). length s.registers) is ∙ depth_of_node own u (state_of config u) range
    ∙ ap (λ (s : Shape). s.depth) same
