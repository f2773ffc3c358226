-- The instruction of a beat, by what is heard.
use Rattle.std.proofs.Common.{◌≡◌, ℕ, suc, ◌+◌, ◌-◌, ◌*◌, ◌/◌, ◌%◌, ◌<◌, ◌≤◌, true}
use Rattle.std.proofs.Common.{if◌then◌else◌, IfSome, nat_le, List, ◌++◌, map, length}
use Rattle.std.proofs.Common.{Option, Some, None, refl, sym, ap, ◌∙◌, arith}
use Rattle.std.proofs.lemmas.Nat.{mul-le}
use Rattle.std.proofs.lemmas.List.{length-map}
use Rattle.std.proofs.lemmas.List.FromFn.{get_or-map-range_with_len}
use Rattle.counting.specs.Values.{count_of, least_above}
use Rattle.counting.proofs.Places.{shorter}
use Rattle.sync_types.specs.declared.states.Reg.{Reg}
use Rattle.sync_types.specs.States.{State, register_at}
use Rattle.construction.specs.PhaseKing.{instructed, incremented, own_or_kings, up}
use Rattle.plan_numbers.specs.declared.numbers.LevelNums.{LevelNums}
use Rattle.plan_numbers.specs.Sizes.{block_nodes}
use Rattle.shared_board.specs.Senders.{Sent, is_liar, register_of, correct_in, liars_below}
use Rattle.shared_board.specs.Senders.{values_of, IsTold, lies_in, value_heard, values_heard}
use Rattle.shared_board.specs.GroupVotes.{AreNumbers}
use Rattle.shared_board.specs.Votes.{IsKnown}
use Rattle.shared_board.proofs.Heard.{count_of_heard, least_of_heard, lies_long, correct_count}

-- there is a lie of each liar
pub liar_told : (s : Sent) (lies : List State) (node : ℕ) → IsTold s lies
    → node < length s.registers → is_liar s node ≡ true → liars_below s node < length lies
liar_told s lies node told lt liar =
    let one : liars_below s (suc node) ≡ liars_below s node + 1 =
    ap (λ b. liars_below s node + (if b then 1 else 0)) liar in
    omega (arith, told, one, shorter (is_liar s) (suc node) (length s.registers) (omega arith))

-- the king is a node of the group
pub king_within : (nums : LevelNums) → AreNumbers nums → (beat : ℕ) → beat < nums.beat
    → beat / 3 < nums.nodes
king_within nums r beat lt =
    let sized = r.sized in
    let three : 3 * 1 ≤ nums.blocks * block_nodes nums =
    mul-le 3 1 nums.blocks (block_nodes nums) sized.blocks sized.block in
    omega (arith, r.beat, lt, sized.below.quorum, three, sized.whole)

module _ (s : Sent) (nums : LevelNums) (first : ℕ) (beat : ℕ) (own : Reg) (lies : List State)
    (told : IsTold s lies) (within : first + nums.nodes ≤ length s.registers) where
  heard : List (Option ℕ)
  heard = values_heard s lies first nums.nodes

  kind_at : (kind : ℕ) → beat % 3 ≡ kind
      → instructed nums.nodes nums.faults (up nums.modulus) kind own heard (beat / 3)
      ≡ instructed nums.nodes nums.faults (up nums.modulus) (beat % 3) own heard (beat / 3)
  kind_at kind e = ap (λ k. instructed nums.nodes nums.faults (up nums.modulus) k own heard
      (beat / 3)) (sym e)

  pub king_obeys : (king : Option ℕ) → beat % 3 ≡ 2 → beat / 3 < nums.nodes
      → king ≡ value_heard s lies (first + beat / 3)
      → incremented (up nums.modulus)
      (record { a = Some (own_or_kings own.a own.d king); d = true })
      ≡ instructed nums.nodes nums.faults (up nums.modulus) (beat % 3) own
      (values_heard s lies first nums.nodes) (beat / 3)
  unfolding heard
  king_obeys king kind lt e =
      ap (λ k. incremented (up nums.modulus)
      (record { a = Some (own_or_kings own.a own.d k); d = true }))
      (e ∙ sym (get_or-map-range_with_len (value_heard s lies) first nums.nodes (beat / 3)
      (first + beat / 3) None lt refl))
      ∙ kind_at 2 kind

  pub zeroth_obeys : (values : List (Option ℕ)) (slice : List State) → beat % 3 ≡ 0
      → values ≡ values_of s first nums.nodes → slice ≡ lies_in s lies first nums.nodes
      → incremented (up nums.modulus)
      (record {
        a = if nat_le (nums.nodes - nums.faults)
            (count_of (values ++ map (λ t. (register_at s.height t).a) slice) own.a) then own.a
            else None;
        d = own.d;
      })
      ≡ instructed nums.nodes nums.faults (up nums.modulus) (beat % 3) own
      (values_heard s lies first nums.nodes) (beat / 3)
  unfolding heard
  zeroth_obeys values slice kind e g =
      let after : ℕ → Reg =
      λ same. incremented (up nums.modulus)
      (record {
        a = if nat_le (nums.nodes - nums.faults) same then own.a else None;
        d =
            own.d;
      }) in
      ap (λ vs. after (count_of (vs ++ map (λ t. (register_at s.height t).a) slice) own.a)) e
      ∙ (ap (λ ts. after (count_of
      (values_of s first nums.nodes ++ map (λ t. (register_at s.height t).a) ts) own.a)) g
      ∙ (ap after (sym (count_of_heard s lies told first nums.nodes within own.a))
      ∙ kind_at 0 kind))

  pub first_obeys : (values : List (Option ℕ)) (slice : List State) → beat % 3 ≡ 1
      → values ≡ values_of s first nums.nodes → slice ≡ lies_in s lies first nums.nodes
      → incremented (up nums.modulus)
      (record {
        a = least_above nums.faults
            (values ++ map (λ t. (register_at s.height t).a) slice);
        d =
            nat_le (nums.nodes - nums.faults)
            (count_of (values ++ map (λ t. (register_at s.height t).a) slice) own.a);
      })
      ≡ instructed nums.nodes nums.faults (up nums.modulus) (beat % 3) own
      (values_heard s lies first nums.nodes) (beat / 3)
  unfolding heard
  first_obeys values slice kind e g =
      let after : Option ℕ → ℕ
      → Reg = λ least same. incremented (up nums.modulus)
      (record { a = least; d = nat_le (nums.nodes - nums.faults) same }) in
      let value : State → Option ℕ = λ t. (register_at s.height t).a in
      let vs = values_of s first nums.nodes in
      let ts = lies_in s lies first nums.nodes in
      ap (λ xs. after (least_above nums.faults (xs ++ map value slice))
      (count_of (xs ++ map value slice) own.a)) e
      ∙ (ap (λ ys. after (least_above nums.faults (vs ++ map value ys))
      (count_of (vs ++ map value ys) own.a)) g
      ∙ (ap (λ same. after (least_above nums.faults (vs ++ map value ts)) same)
      (sym (count_of_heard s lies told first nums.nodes within own.a))
      ∙ (ap (λ least. after least (count_of (values_heard s lies first nums.nodes) own.a))
      (sym (least_of_heard s lies told first nums.nodes within nums.faults))
      ∙ kind_at 1 kind)))

  -- there is room for the lies beside the values
  pub room_for_lies : (values : List (Option ℕ)) (slice : List State)
      → values ≡ values_of s first nums.nodes → slice ≡ lies_in s lies first nums.nodes
      → length values + length slice ≡ nums.nodes
  room_for_lies values slice e g = omega (
    arith,
    ap length e,
    ap length g,
    length-map (correct_in s first nums.nodes) (λ u. (register_of s u).a),
    lies_long s lies told first nums.nodes within,
    correct_count s first nums.nodes within,
  )

  least_by : (known : Option (Option ℕ))
      → IsKnown s (λ lies. least_above nums.faults (values_heard s lies first nums.nodes)) known
      → (values : List (Option ℕ)) (slice : List State) → values ≡ values_of s first nums.nodes
      → slice ≡ lies_in s lies first nums.nodes
      → IfSome known (λ m. least_above nums.faults
      (values ++ map (λ t. (register_at s.height t).a) slice) ≡ m)
  least_by None is values slice e g = tt
  least_by (Some m) is values slice e g =
      let value : State → Option ℕ = λ t. (register_at s.height t).a in
      ap (λ xs. least_above nums.faults (xs ++ map value slice)) e
      ∙ (ap (λ ts. least_above nums.faults (values_of s first nums.nodes ++ map value ts)) g
      ∙ (sym (least_of_heard s lies told first nums.nodes within nums.faults) ∙ is lies told))

  -- a known least value is that of the values with the lies
  pub least_laid : (known : Option (Option ℕ))
      → IsKnown s (λ lies. least_above nums.faults (values_heard s lies first nums.nodes)) known
      → (values : List (Option ℕ)) (slice : List State) → values ≡ values_of s first nums.nodes
      → slice ≡ lies_in s lies first nums.nodes
      → IfSome known (λ m. least_above nums.faults
      (values ++ map (λ t. (register_at s.height t).a) slice) ≡ m)
  least_laid known is values slice e g = least_by known is values slice e g
