-- What the faulty nodes tell, put into its places one after the other.
use Rattle.std.proofs.Common.{◌≡◌, ℕ, ◌<◌, ◌≤◌, inl, inr, List, length, set, sym, ap, ◌∙◌}
use Rattle.std.proofs.Common.{subst, arith}
use Rattle.std.specs.Prelude.{slice_index}
use Rattle.std.proofs.lemmas.Bool.{cases_eq}
use Rattle.std.proofs.lemmas.List.{length-set, get_or-set_same, get_or-set_other}
use Rattle.std.proofs.lemmas.List.Elements.{All-set}
use Rattle.sync_types.specs.States.{State, zero_state}
use Rattle.construction.specs.Steps.{state_of}
use Rattle.state_codec.specs.Shapes.{fields_at}
use Rattle.state_codec.specs.Ranges.{InRange}
use Rattle.adversary_script.specs.Scripts.{Script}
use Rattle.machine_runner.specs.Hearing.{heard_from}
use Rattle.rounds.proofs.Hearing.{depth_of_node}
use Rattle.player.specs.Rooms.{HasLies, AreOwn, TellsItself}

module _ (script : Script) (lies : List State) (j : ℕ) (out : State)
    (room : HasLies script lies) (inside : j < script.nodes) where
  within : j < length lies
  within = let size = room.size in omega (arith, size, inside)

  pub here : state_of (set lies j out) j ≡ out
  here = get_or-set_same lies j out (zero_state 0) within

  pub there : (k : ℕ) → (k ≡ j → ⊥) → state_of (set lies j out) k ≡ state_of lies k
  there k other = get_or-set_other lies j k out (zero_state 0) other

  module _ (u : ℕ) (range : InRange (fields_at script.shape u) out) where
    pub room_with : HasLies script (set lies j out)
    room_with = record {
      size = length-set lies j out ∙ room.size;
      deep = All-set (λ (s : State). length s.registers ≡ script.shape.depth) lies j out
          (depth_of_node script.shape u out range) room.deep;
    }

    -- what holds of a place that is written, and of the others before
    pub each_with : (P : ℕ → State → Type 0) (k : ℕ) → (k ≡ j → P k out)
        → ((k ≡ j → ⊥) → P k (state_of lies k)) → P k (state_of (set lies j out) k)
    each_with P k at others = elim (cases_eq k j) [
      | inl same ↦ subst (P k) (sym (ap (state_of (set lies j out)) same ∙ here)) (at same)
      | inr other ↦ subst (P k) (sym (there k other)) (others other)
    ]

    pub own_with : (ids : List ℕ) → slice_index ids j ≡ u → AreOwn script ids lies
        → AreOwn script ids (set lies j out)
    own_with ids id own k lt = each_with (λ i s. InRange (fields_at script.shape (slice_index ids i)) s)
        k (λ same. subst (λ (w : ℕ). InRange (fields_at script.shape w) out)
        (sym (ap (slice_index ids) same ∙ id)) range)
        (λ other. own k lt)

-- the states of the faulty nodes before j stand in their places
pub record PuppetsBelow (script : Script) (ids : List ℕ) (j : ℕ) (lies : List State) : Type 0 where
  pub room : HasLies script lies
  pub own : (k : ℕ) → k < j → k < length ids
      → InRange (fields_at script.shape (slice_index ids k)) (state_of lies k)

-- the node's own state stands in its place, if that is before j
pub record ItselfBelow (script : Script) (ids : List ℕ) (v : ℕ) (config : List State) (j : ℕ)
    (lies : List State) : Type 0 where
  pub room : HasLies script lies
  pub own : AreOwn script ids lies
  pub itself : (k : ℕ) → k < j → k < length ids → slice_index ids k ≡ v
      → state_of lies k ≡ state_of config v

-- what the faulty nodes before j tell stands in their places
pub record ToldBelow (script : Script) (t : ℕ) (ids : List ℕ) (v : ℕ) (config : List State)
    (from j : ℕ) (key noise : List ℕ) (lies : List State) : Type 0 where
  pub same : noise ≡ key
  pub room : HasLies script lies
  pub own : AreOwn script ids lies
  pub itself : TellsItself ids v config lies
  pub told : (k : ℕ) → from ≤ k → k < j
      → state_of lies k ≡ heard_from script t v config (slice_index ids k)
