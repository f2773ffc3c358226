-- When no lie matters to a node's new register.
use Rattle.std.proofs.Common.{◌≡◌, ℕ, ◌+◌, ◌-◌, ◌*◌, ◌/◌, ◌%◌, ◌<◌, ◌≤◌, ◌⊎◌, inl, inr, Bool, true}
use Rattle.std.proofs.Common.{false, if◌then◌else◌, List, map, length, nat_le, get_or, Option, Some}
use Rattle.std.proofs.Common.{None, refl, sym, ap, ◌∙◌, subst, arith}
use Rattle.std.proofs.lemmas.List.{length-map}
use Rattle.std.proofs.lemmas.List.FromFn.{get_or-map-range_with_len}
use Rattle.counting.specs.Values.{count_of, least_above}
use Rattle.counting.proofs.Counts.{count_of-le}
use Rattle.counting.proofs.Unfinished.{test_closed}
use Rattle.sync_types.specs.declared.states.Reg.{Reg}
use Rattle.sync_types.specs.States.{State, register_at}
use Rattle.construction.specs.Votes.{beat_heard}
use Rattle.construction.specs.PhaseKing.{locked_at}
use Rattle.phase_king.proofs.Registers.{zero_infinite, zero_tested, one_tested, two_kings}
use Rattle.phase_king.proofs.Registers.{two_marked}
use Rattle.plan_numbers.specs.Numbers.{level_of}
use Rattle.plan_numbers.specs.Sizes.{block_nodes}
use Rattle.shared_board.specs.Senders.{Sent, is_liar, register_of, liars_in, values_of, IsTold}
use Rattle.shared_board.specs.Senders.{TellsItself, told_by, lies_in, value_heard, outputs_heard}
use Rattle.shared_board.specs.Senders.{values_heard}
use Rattle.shared_board.specs.Votes.{IsKnown}
use Rattle.shared_board.specs.GroupVotes.{Contents, HasRoom, beat_of_lead, register_heard}
use Rattle.shared_board.proofs.Heard.{count_parted, lies_long, known_of_some}
use Rattle.shared_board.proofs.Obeys.{king_within}
use Rattle.shared_board.proofs.Registers.{beat_of_group, beat_below}

-- a node that says its own register to itself hears it
own_by : (s : Sent) (lies : List State) (node : ℕ) (b : Bool) → is_liar s node ≡ b
    → TellsItself s lies node
    → (if b then (register_at s.height (told_by s lies node)).a else (register_of s node).a)
    ≡ (register_of s node).a
own_by s lies node true h own = ap (λ (r : Reg). r.a) (own h)
own_by s lies node false h own = refl

pub own_value : (s : Sent) (lies : List State) (node : ℕ) → TellsItself s lies node
    → value_heard s lies node ≡ (register_of s node).a
own_value s lies node own = own_by s lies node (is_liar s node) refl own

-- of a correct node its true value is heard
pub true_value : (s : Sent) (lies : List State) (king : ℕ) → is_liar s king ≡ false
    → value_heard s lies king ≡ (register_of s king).a
true_value s lies king ok =
    ap (λ b. if b then (register_at s.height (told_by s lies king)).a else (register_of s king).a)
    ok

module _ (s : Sent) (group : Contents) (room : HasRoom group)
    (within : group.first + group.nums.nodes ≤ length s.registers) (beat : ℕ)
    (known : IsKnown s (beat_of_lead s group) (Some beat)) where
  -- a known beat is one
  pub known_beat_below : beat < group.nums.beat
  known_beat_below = let some =
      known_of_some s (beat_of_lead s group) beat known in subst (λ b. b < group.nums.beat) some.1
      (beat_below s group room some.0)

  pub king_inside : beat / 3 < group.nums.nodes
  king_inside = king_within group.nums room.numbers beat known_beat_below

  module _ (node : ℕ) (lies told : List State) (is_lies : IsTold s lies)
      (is_told : IsTold s told) where
    heard : (told : List State) → IsTold s told
        → beat_heard (level_of group.nums) (block_nodes group.nums)
        (outputs_heard s told group.first (group.nums.blocks * block_nodes group.nums)) ≡ beat
    heard told is = sym (beat_of_group s group room told) ∙ known told is

    own : Reg
    own = register_of s node

    few : (told : List State) → IsTold s told → (z : Option ℕ)
        → count_of (map (λ t. (register_at s.height t).a)
        (lies_in s told group.first group.nums.nodes)) z ≤ liars_in s group.first group.nums.nodes
    few told is z =
        let value : State → Option ℕ = λ t. (register_at s.height t).a in
        omega (
          arith,
          count_of-le (map value (lies_in s told group.first group.nums.nodes)) z,
          length-map (lies_in s told group.first group.nums.nodes) value,
          lies_long s told is group.first group.nums.nodes within,
        )

    -- the test of the own value, if the liars cannot decide it
    tests : (need : ℕ) (z : Option ℕ)
        → (need ≤ count_of (values_of s group.first group.nums.nodes) z)
        ⊎ (count_of (values_of s group.first group.nums.nodes) z + liars_in s group.first
        group.nums.nodes < need)
        → nat_le need (count_of (values_heard s lies group.first group.nums.nodes) z)
        ≡ nat_le need (count_of (values_heard s told group.first group.nums.nodes) z)
    tests need z shut =
        let value : State → Option ℕ = λ t. (register_at s.height t).a in
        let first = group.first in
        let nodes = group.nums.nodes in
        ap (nat_le need) (count_parted s lies is_lies first nodes within z)
        ∙ (test_closed need (count_of (values_of s first nodes) z)
        (count_of (map value (lies_in s lies first nodes)) z)
        (count_of (map value (lies_in s told first nodes)) z) (liars_in s first nodes)
        (few lies is_lies z) (few told is_told z) shut
        ∙ ap (nat_le need) (sym (count_parted s told is_told first nodes within z)))

    outs : List State → List ℕ
    outs told = outputs_heard s told group.first (group.nums.blocks * block_nodes group.nums)

    vals : List State → List (Option ℕ)
    vals told = values_heard s told group.first group.nums.nodes

    pub zero_shut_infinite : beat % 3 ≡ 0 → (register_of s node).a ≡ None
        → register_heard s group.nums group.first node lies
        ≡ register_heard s group.nums group.first node told
    unfolding outs vals own
    zero_shut_infinite kind e =
        zero_infinite (block_nodes group.nums) (level_of group.nums) own (outs lies) (outs told)
        (vals lies) (vals told) beat (heard lies is_lies) (heard told is_told) kind e

    pub zero_shut : beat % 3 ≡ 0
        → (let need = group.nums.nodes -
        group.nums.faults in (need ≤ count_of (values_of s group.first group.nums.nodes)
        (register_of s node).a)
        ⊎ (count_of (values_of s group.first group.nums.nodes)
        (register_of s node).a + liars_in s group.first group.nums.nodes < need))
        → register_heard s group.nums group.first node lies
        ≡ register_heard s group.nums group.first node told
    unfolding outs vals own
    zero_shut kind shut =
        zero_tested (block_nodes group.nums) (level_of group.nums) own (outs lies) (outs told)
        (vals lies) (vals told) beat (heard lies is_lies) (heard told is_told) kind
        (subst (λ k. nat_le (k - group.nums.faults) (count_of (vals lies) own.a)
        ≡ nat_le (k - group.nums.faults) (count_of (vals told) own.a)) room.numbers.sized.whole
        (tests (group.nums.nodes - group.nums.faults) own.a shut))

    pub one_shut : beat % 3 ≡ 1
        → (let need = group.nums.nodes -
        group.nums.faults in (need ≤ count_of (values_of s group.first group.nums.nodes)
        (register_of s node).a)
        ⊎ (count_of (values_of s group.first group.nums.nodes)
        (register_of s node).a + liars_in s group.first group.nums.nodes < need))
        → (m : Option ℕ) → IsKnown s
        (λ lies. least_above group.nums.faults
        (values_heard s lies group.first group.nums.nodes)) (Some m)
        → register_heard s group.nums group.first node lies
        ≡ register_heard s group.nums group.first node told
    unfolding outs vals own
    one_shut kind shut m least =
        one_tested (block_nodes group.nums) (level_of group.nums) own (outs lies) (outs told)
        (vals lies) (vals told) beat (heard lies is_lies) (heard told is_told) kind
        (subst (λ k. nat_le (k - group.nums.faults) (count_of (vals lies) own.a)
        ≡ nat_le (k - group.nums.faults) (count_of (vals told) own.a)) room.numbers.sized.whole
        (tests (group.nums.nodes - group.nums.faults) own.a shut))
        (least lies is_lies ∙ sym (least told is_told))

    pub two_shut : beat % 3 ≡ 2 → TellsItself s lies node → TellsItself s told node
        → ((value : ℕ) × (register_of s node ≡ locked_at value))
        ⊎ ((is_liar s (group.first + beat / 3) ≡ false) ⊎ (group.first + beat / 3 ≡ node))
        → register_heard s group.nums group.first node lies
        ≡ register_heard s group.nums group.first node told
    unfolding outs vals own
    two_shut kind own_lies own_told (inl locked) =
        two_marked (block_nodes group.nums) (level_of group.nums) own (outs lies) (outs told)
        (vals lies) (vals told) beat (heard lies is_lies) (heard told is_told) kind locked.0
        (ap (λ (r : Reg). r.a) locked.1) (ap (λ (r : Reg). r.d) locked.1)
    two_shut kind own_lies own_told (inr king) =
        two_kings (block_nodes group.nums) (level_of group.nums) own (outs lies) (outs told)
        (vals lies) (vals told) beat (heard lies is_lies) (heard told is_told) kind
        (at lies ∙ (same king ∙ sym (at told)))
      where
        at : (told : List State)
            → get_or (values_heard s told group.first group.nums.nodes) (beat / 3) None
            ≡ value_heard s told (group.first + beat / 3)
        at told = get_or-map-range_with_len (value_heard s told) group.first group.nums.nodes
            (beat / 3) (group.first + beat / 3) None king_inside refl

        same : (is_liar s (group.first + beat / 3) ≡ false) ⊎ (group.first + beat / 3 ≡ node)
            → value_heard s lies (group.first + beat / 3)
            ≡ value_heard s told (group.first + beat / 3)
        same (inl ok) = true_value s lies (group.first + beat / 3) ok
            ∙ sym (true_value s told (group.first + beat / 3) ok)
        same (inr e) = ap (value_heard s lies) e
            ∙ (own_value s lies node own_lies
            ∙ (sym (own_value s told node own_told) ∙ sym (ap (value_heard s told) e)))
