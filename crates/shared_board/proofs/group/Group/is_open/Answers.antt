use Rattle.std.proofs.Common.{◌≡◌, ℕ, ◌+◌, ◌-◌, ◌/◌, ◌%◌, ◌<◌, ◌≤◌, ◌⊎◌, ◌∙◌, IfSome, true}
use Rattle.std.proofs.Common.{false, Option, Some, None, is_some, not, refl, ap, sym, subst, arith}
use Rattle.std.proofs.Math.Nat.{mod-lt}
use Rattle.std.proofs.lemmas.Bool.{false≢true, true≢false}
use Rattle.sync_types.specs.declared.states.Reg.{Reg}
use Rattle.counting.specs.Values.{count_of, least_above}
use Rattle.construction.specs.PhaseKing.{locked_at}
use Rattle.phase_king.specs.Groups.{IsLockedGroup}
use Rattle.shared_board.specs.Senders.{is_liar, register_of, liars_in, values_of, values_heard}
use Rattle.shared_board.specs.Votes.{IsKnown}
use Rattle.shared_board.specs.GroupVotes.{contents, beat_of_lead}
use Rattle.shared_board.proofs.Registers.{locked_heard}
use Rattle.shared_board.proofs.Shut.{king_inside, zero_shut_infinite, zero_shut, one_shut, two_shut}
use Rattle.shared_board.proofs.group.Group.is_open.Goals as goal

-- a register that is locked with its group goes on
pub returns : goal.returns
returns c = λ _ lies told is_lies is_told own_lies own_told.
    let group = c.args.self.now in
    let nums = group.nums in
    let s = c.args.senders.now in
    let value : ℕ = c.in-Some.value in
    let locked : IsLockedGroup group.first nums.nodes nums.faults (is_liar s)
    (register_of s) value =
    subst (λ o. IfSome o (IsLockedGroup group.first nums.nodes nums.faults (is_liar s)
    (register_of s))) c.in-Some.is c.requires.stands.locked in
    let own = sym c.register-own.ensures ∙ c.if-is_locked_at.ensures.0 refl in
    locked_heard s nums c.requires.stands.room.numbers group.first c.args.node lies value locked own
    ∙ sym (locked_heard s nums c.requires.stands.room.numbers group.first c.args.node told value
    locked own)

-- so does each register of a settled group
pub returns-then-self : goal.returns-then-self
returns-then-self c = λ _ lies told is_lies is_told own_lies own_told.
    let group = c.args.self.now in
    let nums = group.nums in
    let s = c.args.senders.now in
    let settled = c.requires.stands.settled c.if-self.true in
    let locked : IsLockedGroup group.first nums.nodes nums.faults (is_liar s)
    (register_of s) settled.0 =
    subst (λ o. IfSome o (IsLockedGroup group.first nums.nodes nums.faults (is_liar s)
    (register_of s))) settled.1 c.requires.stands.locked in
    let own = settled.2 c.args.node c.requires.node.0 c.requires.node.1 in
    locked_heard s nums c.requires.stands.room.numbers group.first c.args.node lies settled.0 locked
    own
    ∙ sym (locked_heard s nums c.requires.stands.room.numbers group.first c.args.node told settled.0
    locked own)

none_of : (o : Option ℕ) → is_some o ≡ false → o ≡ None
none_of None h = refl
none_of (Some x) h = absurd (true≢false h)

some_of : (o : Option (Option ℕ)) → is_some o ≡ true → (m : Option ℕ) × (o ≡ Some m)
some_of None h = absurd (false≢true h)
some_of (Some m) h = (m, refl)

kind_one : (beat : ℕ) → (beat % 3 ≡ 2 → ⊥) → (beat % 3 ≡ 0 → ⊥) → beat % 3 ≡ 1
kind_one beat two zeroth = let three : 0 < 3 =
    omega arith in grind (arith, mod-lt beat three, two, zeroth)

-- the king is a node of the group
pub is_king_open-requires : goal.is_king_open-requires
is_king_open-requires c =
    let group = c.args.self.now in
    let nums = group.nums in
    let s = c.args.senders.now in
    let counted = c.requires.stands.counted c.if-self.false in
    let beat : ℕ = c.in-Some-beat.beat in
    let known : IsKnown s (beat_of_lead s (contents group)) (Some beat) =
    subst (λ o. IsKnown s (beat_of_lead s (contents group)) o) c.in-Some-beat.is counted.beat in
    omega (
      arith,
      king_inside s
          (contents group) c.requires.stands.room c.requires.stands.within beat known,
      c.requires.stands.within,
    )

-- kind 2: the king cannot decide it
pub returns-then-beat-eq2 : goal.returns-then-beat-eq2
returns-then-beat-eq2 c = λ e lies told is_lies is_told own_lies own_told.
    let group = c.args.self.now in
    let nums = group.nums in
    let s = c.args.senders.now in
    let counted = c.requires.stands.counted c.if-self.false in
    let beat : ℕ = c.in-Some-beat.beat in
    let known : IsKnown s (beat_of_lead s (contents group)) (Some beat) =
    subst (λ o. IsKnown s (beat_of_lead s (contents group)) o) c.in-Some-beat.is counted.beat in
    let king : ℕ = group.first + beat / 3 in
    let shut = subst (λ r. ((value : ℕ) × (r ≡ locked_at value))
    ⊎ ((is_liar s king ≡ false) ⊎ (king ≡ c.args.node)))
    c.register-own.ensures (c.is_king_open.ensures e) in
    two_shut s (contents group) c.requires.stands.room c.requires.stands.within beat known
    c.args.node lies told is_lies is_told c.if-beat-eq2.true own_lies own_told shut

-- kind 0: the liars cannot decide the test
pub returns-then-is_some : goal.returns-then-is_some
returns-then-is_some c = λ e lies told is_lies is_told own_lies own_told.
    let group = c.args.self.now in
    let nums = group.nums in
    let s = c.args.senders.now in
    let counted = c.requires.stands.counted c.if-self.false in
    let beat : ℕ = c.in-Some-beat.beat in
    let known : IsKnown s (beat_of_lead s (contents group)) (Some beat) =
    subst (λ o. IsKnown s (beat_of_lead s (contents group)) o) c.in-Some-beat.is counted.beat in
    let need : ℕ = nums.nodes - nums.faults in
    let kind_is : IfSome group.beat (λ b. b % 3 < 2) =
    subst (λ o. IfSome o (λ b. b % 3 < 2)) (sym c.in-Some-beat.is)
    (omega (arith, c.if-beat-eq0.true)) in
    let values = counted.values kind_is in
    let all = values_of s group.first nums.nodes in
    let same : c.count_of.result ≡ count_of all (register_of s c.args.node).a =
    c.count_of.ensures ∙ (ap (λ vs. count_of vs c.register-own.result.a) values
    ∙ ap (λ (r : Reg). count_of all r.a) c.register-own.ensures) in
    zero_shut s (contents group) c.requires.stands.room c.requires.stands.within beat known
    c.args.node lies told is_lies is_told c.if-beat-eq0.true
    (subst (λ k. (need ≤ k) ⊎ (k + liars_in s group.first nums.nodes < need)) same
    (subst (λ q. (need ≤ c.count_of.result) ⊎ (c.count_of.result + q < need)) c.liars.ensures
    (c.is_test_open-test.ensures e)))

-- kind 0: an infinite value stays so
pub returns-else-is_some : goal.returns-else-is_some
returns-else-is_some c = λ e lies told is_lies is_told own_lies own_told.
    let group = c.args.self.now in
    let nums = group.nums in
    let s = c.args.senders.now in
    let counted = c.requires.stands.counted c.if-self.false in
    let beat : ℕ = c.in-Some-beat.beat in
    let known : IsKnown s (beat_of_lead s (contents group)) (Some beat) =
    subst (λ o. IsKnown s (beat_of_lead s (contents group)) o) c.in-Some-beat.is counted.beat in
    zero_shut_infinite s (contents group) c.requires.stands.room c.requires.stands.within beat known
    c.args.node lies told is_lies is_told c.if-beat-eq0.true
    (ap (λ (r : Reg). r.a) (sym c.register-own.ensures)
    ∙ none_of c.register-own.result.a (sym c.is_some.ensures ∙ c.if-is_some.false))

-- kind 1: neither the test nor the least value
pub returns-else-test : goal.returns-else-test
returns-else-test c = λ e lies told is_lies is_told own_lies own_told.
    let group = c.args.self.now in
    let nums = group.nums in
    let s = c.args.senders.now in
    let counted = c.requires.stands.counted c.if-self.false in
    let beat : ℕ = c.in-Some-beat.beat in
    let known : IsKnown s (beat_of_lead s (contents group)) (Some beat) =
    subst (λ o. IsKnown s (beat_of_lead s (contents group)) o) c.in-Some-beat.is counted.beat in
    let one = kind_one beat c.if-beat-eq2.false c.if-beat-eq0.false in
    let need : ℕ = nums.nodes - nums.faults in
    let kind_is : IfSome group.beat (λ b. b % 3 < 2) =
    subst (λ o. IfSome o (λ b. b % 3 < 2)) (sym c.in-Some-beat.is) (omega (arith, one)) in
    let values = counted.values kind_is in
    let all = values_of s group.first nums.nodes in
    let same : c.count_of.result ≡ count_of all (register_of s c.args.node).a =
    c.count_of.ensures ∙ (ap (λ vs. count_of vs c.register-own.result.a) values
    ∙ ap (λ (r : Reg). count_of all r.a) c.register-own.ensures) in
    let least = some_of group.least (c.is_none.ensures ∙ ap not e) in
    one_shut s (contents group) c.requires.stands.room c.requires.stands.within beat known
    c.args.node lies told is_lies is_told one
    (subst (λ k. (need ≤ k) ⊎ (k + liars_in s group.first nums.nodes < need)) same
    (subst (λ q. (need ≤ c.count_of.result) ⊎ (c.count_of.result + q < need)) c.liars.ensures
    (c.is_test_open-test.ensures c.if-test.false)))
    least.0 (subst (λ o. IsKnown s
    (λ lies. least_above nums.faults (values_heard s lies group.first nums.nodes)) o) least.1
    counted.least)
