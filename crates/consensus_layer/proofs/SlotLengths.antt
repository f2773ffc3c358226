-- A layer of consensus has one slot length: after the last round of a slot its register is not
-- marked, and after that round of a longer slot it is.
use Rattle.std.proofs.Common.{◌≡◌, ℕ, ◌+◌, ◌*◌, ◌/◌, ◌%◌, ◌<◌, Bool, true, false, List, [], sym, ap}
use Rattle.std.proofs.Common.{◌∙◌, ⊎_elim, arith}
use Rattle.std.specs.Prelude.{slice_index, slice_index_or}
use Rattle.std.proofs.Math.Nat.{mod-eq_of_lt}
use Rattle.std.proofs.lemmas.Bool.{eq-eqb, ne_eqb, false≢true, cases_lt}
use Rattle.sync_types.specs.States.{zero_register}
use Rattle.counter_core.specs.Overlays.{Layer}
use Rattle.layer_laws.specs.CounterSlots.{slot_length, agreed, agreed_in_turn}
use Rattle.consensus_layer.specs.Agreeing.{turned}
use Rattle.consensus_layer.specs.Agreements.{agree_layer_of}

-- whether the first register is marked after a step of node 0 that hears nothing
abbrev marked : Layer ℕ → (output : ℕ) → Bool
marked layer output =
    let r = slice_index_or (layer.next 0 0 output []).registers 0 zero_register in r.d

last_turn : (n f m d v : ℕ) (inputs : List ℕ)
    → marked (agree_layer_of n f m d v inputs) (3 * f + 2) ≡ false
last_turn n f m d v inputs =
    let o : ℕ = 3 * f + 2 in
    let turn : o % slot_length f ≡ o = mod-eq_of_lt (omega arith) in
    ap (λ (b : Bool). let s = turned b (slice_index inputs 0)
    (agreed_in_turn n f d 0 (o % slot_length f) []) in s.register.d)
    (eq-eqb (o % slot_length f + 1) (slot_length f) (omega (arith, turn)))

longer_slot : (n g m d v f : ℕ) (inputs : List ℕ) → f < g
    → marked (agree_layer_of n g m d v inputs) (3 * f + 2) ≡ true
longer_slot n g m d v f inputs lt =
    let o : ℕ = 3 * f + 2 in
    let turn : o % slot_length g ≡ o = mod-eq_of_lt (omega (arith, lt)) in
    let two : o % slot_length g % 3 ≡ 2 = omega (arith, turn) in
    ap (λ (b : Bool). let s = turned b (slice_index inputs 0)
    (agreed_in_turn n g d 0 (o % slot_length g) []) in s.register.d)
    (ne_eqb (o % slot_length g + 1) (slot_length g) (λ e. absurd (omega (arith, turn, lt, e))))
    ∙ ap (λ (k : ℕ). let r = agreed n g d 0 k (o % slot_length g / 3) [] in r.d) two

apart : (n f m d v : ℕ) (inputs : List ℕ) (n' g m' d' v' : ℕ) (others : List ℕ) → f < g
    → agree_layer_of n f m d v inputs ≡ agree_layer_of n' g m' d' v' others → ⊥
apart n f m d v inputs n' g m' d' v' others lt same =
    false≢true (sym (last_turn n f m d v inputs)
    ∙ ap (λ (l : Layer ℕ). marked l (3 * f + 2)) same
    ∙ longer_slot n' g m' d' v' f others lt)

pub one_slot_length : (n f m d v : ℕ) (inputs : List ℕ) (n' g m' d' v' : ℕ) (others : List ℕ)
    → agree_layer_of n f m d v inputs ≡ agree_layer_of n' g m' d' v' others
    → slot_length f ≡ slot_length g
one_slot_length n f m d v inputs n' g m' d' v' others same = ⊎_elim
    (λ lt. absurd (apart n f m d v inputs n' g m' d' v' others lt same))
    (λ le. ⊎_elim
    (λ lt. absurd (apart n' g m' d' v' others n f m d v inputs lt (sym same)))
    (λ ge. omega (arith, le, ge))
    (cases_lt g f))
    (cases_lt f g)
