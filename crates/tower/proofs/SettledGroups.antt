-- If each group is settled as it was counted, each group of the plan is.
use Rattle.std.proofs.Common.{◌≡◌, ℕ, ◌+◌, ◌<◌, ◌≤◌, true, List, length, map, get_or, All, IfSome}
use Rattle.std.proofs.Common.{sym, ◌∙◌, subst, arith}
use Rattle.std.proofs.lemmas.List.{get_or-map}
use Rattle.std.proofs.lemmas.List.Elements.{All-map}
use Rattle.counting.proofs.Places.{same_places}
use Rattle.sync_types.specs.FaultSets.{is_in}
use Rattle.sync_types.specs.States.{zero_state, zero_register, register_at}
use Rattle.construction.specs.Plans.{Level, nodes_of}
use Rattle.construction.specs.Steps.{state_of}
use Rattle.phase_king.specs.Groups.{IsLockedGroup}
use Rattle.shared_board.specs.Senders.{is_liar, register_of}
use Rattle.shared_board.specs.Boards.{Board, sent_of}
use Rattle.shared_board.specs.Groups.{groups_of}
use Rattle.shared_board.proofs.RegistersHeard.{liar_is}
use Rattle.tower.specs.Placings.{Placing, key_of, IsReady}
use Rattle.tower.specs.Settled.{IsSettledGroup}
use Rattle.tower.specs.Sharing.{AllStand}
use Rattle.tower.proofs.Stepped.{groups_fit}

-- the registers and liars of a stretch, as a level sees them, are those of the board's states
module _ (b : Board) (h first n : ℕ) (within : first + n ≤ length b.states) where
  register_is : (u : ℕ) → u < first + n
      → register_of (sent_of b h) u ≡ register_at h (state_of b.states u)
  register_is u lt = get_or-map (register_at h) b.states u (zero_state 0) zero_register
      (omega (arith, lt, within))

  locked_is : (f value : ℕ)
      → IsLockedGroup first n f (is_liar (sent_of b h)) (register_of (sent_of b h)) value
      → IsLockedGroup first n f (is_in b.faulty) (λ u. register_at h (state_of b.states u)) value
  locked_is f value group =
      let same = same_places (λ i. is_liar (sent_of b h) (first + i))
      (λ i. is_in b.faulty (first + i)) n
      (λ i lt. liar_is b h (first + i) (omega (arith, lt, within))) in
      record {
        quorum = group.quorum;
        few = omega (arith, group.few, same);
        locked = λ v from to correct. sym (register_is v to) ∙ group.locked v from to
            (liar_is b h v (omega (arith, to, within)) ∙ correct);
      }

module _ (levels : List Level) (b : Board) (groups : List Placing)
    (size : length b.states ≡ nodes_of levels) (depth : b.depth ≡ length levels)
    (keys : map key_of groups ≡ groups_of levels 0) (ready : All IsReady groups)
    (stand : AllStand b groups) (settled : All (λ p. p.group.is_settled ≡ true) groups) where
  group_settled : All (λ p. IsSettledGroup b.faulty b.states (key_of p)) groups
  group_settled = λ i none lt.
      let p : Placing = get_or groups i none in
      let stands = stand i none lt in
      let is = stands.settled (settled i none lt) in
      let fits = groups_fit levels b groups size depth keys ready i none lt in
      let whole = (ready i none lt).numbers.sized.whole in
      let Locked : ℕ → Type 0 = λ n. IsLockedGroup p.group.first n p.group.nums.faults
      (is_in b.faulty) (λ u. register_at p.height (state_of b.states u)) is.0 in
      let group : IsLockedGroup p.group.first p.group.nums.nodes p.group.nums.faults
      (is_liar (sent_of b p.height)) (register_of (sent_of b p.height)) is.0 =
      subst (λ o. IfSome o (IsLockedGroup p.group.first p.group.nums.nodes p.group.nums.faults
      (is_liar (sent_of b p.height)) (register_of (sent_of b p.height)))) is.1 stands.locked in
      record {
        value = is.0;
        locked = subst Locked whole
            (locked_is b p.height p.group.first p.group.nums.nodes fits p.group.nums.faults is.0
            group);
        liars_too = λ u from to.
            sym (register_is b p.height p.group.first p.group.nums.nodes fits u
            (omega (arith, to, whole)))
            ∙ is.2 u from (omega (arith, to, whole));
      }

  pub all_settled : All (IsSettledGroup b.faulty b.states) (groups_of levels 0)
  all_settled = subst (All (IsSettledGroup b.faulty b.states)) keys
      (All-map (IsSettledGroup b.faulty b.states) key_of groups group_settled)
