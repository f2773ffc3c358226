use Rattle.std.proofs.Common.{◌≡◌, ◌-◌, ◌∙◌, ◌<◌, ◌++◌, ◌%◌, ap, map, sym, subst, if◌then◌else◌}
use Rattle.std.proofs.Common.{nat_le, IfSome, ℕ, Option, List, None, arith}
use Rattle.std.proofs.Math.Nat.{mod-lt}
use Rattle.counting.specs.Values.{count_of, least_above}
use Rattle.sync_types.specs.declared.states.Reg.{Reg}
use Rattle.sync_types.specs.States.{register_at}
use Rattle.construction.specs.PhaseKing.{incremented, up}
use Rattle.shared_board.proofs.Obeys.{king_within, king_obeys, zeroth_obeys, first_obeys}
use Rattle.shared_board.proofs.Obeys.{room_for_lies, least_laid}
use Rattle.shared_board.proofs.obeying.obey.Goals as goal

-- the king's value, or the own one
pub returns-then-beat-eq2-clause-register : goal.returns-then-beat-eq2-clause-register
returns-then-beat-eq2-clause-register g c =
    let at = c.args.hearing.now in
    let nums = at.nums.now in
    c.king_step.ensures.value
    ∙ king_obeys at.senders.now nums at.first c.args.beat c.args.own at.lies.now at.told at.within
    c.king-king.result c.if-beat-eq2.true
    (king_within nums at.numbers c.args.beat c.requires.beat) c.king-king.ensures

kind_one : (beat : ℕ) → (beat % 3 ≡ 2 → ⊥) → (beat % 3 ≡ 0 → ⊥) → beat % 3 ≡ 1
kind_one beat two zeroth = let three : 0 < 3 =
    omega arith in grind (arith, mod-lt beat three, two, zeroth)

pub count-requires : goal.count-requires
count-requires g c =
    let at = c.args.hearing.now in
    let values = c.requires.values (omega (arith, c.if-beat-eq0.true)) in
    omega (
      arith,
      c.requires.room,
      room_for_lies at.senders.now at.nums.now at.first c.args.beat
          c.args.own at.lies.now at.told at.within c.args.values.now.values
          c.lies_in-lies.result.lies.now values c.lies_in-lies.ensures.lies,
    )

pub count-requires-in-Some : goal.count-requires-in-Some
count-requires-in-Some g c =
    let at = c.args.hearing.now in
    let one = kind_one c.args.beat c.if-beat-eq2.false c.if-beat-eq0.false in
    let values = c.requires.values (omega (arith, one)) in
    omega (
      arith,
      c.requires.room,
      room_for_lies at.senders.now at.nums.now at.first c.args.beat
          c.args.own at.lies.now at.told at.within c.args.values.now.values
          c.lies_in-lies.result.lies.now values c.lies_in-lies.ensures.lies,
    )

pub count_and_least-same-requires : goal.count_and_least-same-requires
count_and_least-same-requires g c =
    let at = c.args.hearing.now in
    let one = kind_one c.args.beat c.if-beat-eq2.false c.if-beat-eq0.false in
    let values = c.requires.values (omega (arith, one)) in
    omega (
      arith,
      c.requires.room,
      room_for_lies at.senders.now at.nums.now at.first c.args.beat
          c.args.own at.lies.now at.told at.within c.args.values.now.values
          c.lies_in-lies.result.lies.now values c.lies_in-lies.ensures.lies,
    )

pub returns-then-beat-eq0-clause-register : goal.returns-then-beat-eq0-clause-register
returns-then-beat-eq0-clause-register g c =
    let at = c.args.hearing.now in
    let nums = at.nums.now in
    let own = c.args.own in
    let slice = c.lies_in-lies.result.lies.now in
    let values = c.requires.values (omega (arith, c.if-beat-eq0.true)) in
    let after : List (Option ℕ) → Reg = λ heard. incremented (up nums.modulus)
    (record {
      a = if nat_le (nums.nodes - nums.faults) (count_of heard own.a) then own.a else None;
      d = own.d;
    }) in
    let with : ℕ → Reg = λ same. incremented (up nums.modulus)
    (record { a = if nat_le (nums.nodes - nums.faults) same then own.a else None; d = own.d }) in
    c.obey_zeroth.ensures
    ∙ ap with c.count.ensures.count
    ∙ (ap (λ h. after (c.args.values.now.values ++ map (λ t. (register_at h t).a) slice))
    c.lies_in-lies.ensures.height
    ∙ zeroth_obeys at.senders.now nums at.first c.args.beat own at.lies.now at.told at.within
    c.args.values.now.values slice c.if-beat-eq0.true values c.lies_in-lies.ensures.lies)

-- the least value is known
pub returns-in-Some-clause-register : goal.returns-in-Some-clause-register
returns-in-Some-clause-register g c =
    let at = c.args.hearing.now in
    let nums = at.nums.now in
    let own = c.args.own in
    let one = kind_one c.args.beat c.if-beat-eq2.false c.if-beat-eq0.false in
    let values = c.requires.values (omega (arith, one)) in
    let slice = c.lies_in-lies.result.lies.now in
    let h = c.lies_in-lies.result.height in
    let heard = c.args.values.now.values ++ map (λ t. (register_at h t).a) slice in
    let known = subst (λ h. IfSome c.args.least
    (λ m. least_above nums.faults
    (c.args.values.now.values ++ map (λ t. (register_at h t).a) slice) ≡ m))
    (sym c.lies_in-lies.ensures.height)
    (least_laid at.senders.now nums at.first c.args.beat own at.lies.now at.told at.within
    c.args.least c.requires.least c.args.values.now.values slice values
    c.lies_in-lies.ensures.lies) in
    let least : c.in-Some.least ≡ least_above nums.faults heard =
    sym (subst (λ o. IfSome o (λ m. least_above nums.faults heard ≡ m)) c.in-Some.is known) in
    let with : Option ℕ → ℕ → Reg = λ least same. incremented (up nums.modulus)
    (record { a = least; d = nat_le (nums.nodes - nums.faults) same }) in
    let after : ℕ → Reg = λ h.
    let heard = c.args.values.now.values ++ map (λ t. (register_at h t).a) slice in
    with (least_above nums.faults heard) (count_of heard own.a) in
    c.obey_first.ensures
    ∙ (ap (λ l. with l c.count-in-Some.result) least
    ∙ (ap (with (least_above nums.faults heard)) c.count-in-Some.ensures.count
    ∙ (ap after c.lies_in-lies.ensures.height
    ∙ first_obeys at.senders.now nums at.first c.args.beat own at.lies.now at.told at.within
    c.args.values.now.values slice one values c.lies_in-lies.ensures.lies)))

-- it is that of all values, those of the lies among them
pub returns-in-None-clause-register : goal.returns-in-None-clause-register
returns-in-None-clause-register g c =
    let at = c.args.hearing.now in
    let nums = at.nums.now in
    let own = c.args.own in
    let one = kind_one c.args.beat c.if-beat-eq2.false c.if-beat-eq0.false in
    let values = c.requires.values (omega (arith, one)) in
    let slice = c.lies_in-lies.result.lies.now in
    let h = c.lies_in-lies.result.height in
    let heard = c.args.values.now.values ++ map (λ t. (register_at h t).a) slice in
    let with : Option ℕ → ℕ → Reg = λ least same. incremented (up nums.modulus)
    (record { a = least; d = nat_le (nums.nodes - nums.faults) same }) in
    let after : ℕ → Reg = λ h.
    let heard = c.args.values.now.values ++ map (λ t. (register_at h t).a) slice in
    with (least_above nums.faults heard) (count_of heard own.a) in
    c.obey_first-in-None.ensures
    ∙ (ap (λ l. with l c.count_and_least-same.result.0) c.count_and_least-same.ensures.least
    ∙ (ap (with (least_above nums.faults heard)) c.count_and_least-same.ensures.count
    ∙ (ap after c.lies_in-lies.ensures.height
    ∙ first_obeys at.senders.now nums at.first c.args.beat own at.lies.now at.told at.within
    c.args.values.now.values slice one values c.lies_in-lies.ensures.lies)))
