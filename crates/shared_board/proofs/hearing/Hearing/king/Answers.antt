use Rattle.std.proofs.Common.{◌≡◌, ℕ, ◌+◌, ◌/◌, ◌<◌, ◌∙◌, Bool, true, List, length, if◌then◌else◌}
use Rattle.std.proofs.Common.{ap, sym, subst, arith}
use Rattle.std.proofs.lemmas.List.{get_or_default}
use Rattle.sync_types.specs.States.{State, register_at, zero_state}
use Rattle.construction.specs.Steps.{state_of}
use Rattle.shared_board.specs.Senders.{Sent, IsTold, is_liar, liars_below, told_by, register_of}
use Rattle.shared_board.proofs.Obeys.{king_within, liar_told}
use Rattle.shared_board.proofs.hearing.Hearing.king.Goals as goal

-- the king is a node of the group
pub overflow_add-king : goal.overflow_add-king
overflow_add-king c =
    let at = c.args.self.now in
    omega (
      arith,
      at.within,
      c.len-nodes.ensures,
      king_within at.nums.now at.numbers c.args.beat
          c.requires,
    )

pub is_liar-requires : goal.is_liar-requires
is_liar-requires c =
    let at = c.args.self.now in
    omega (arith, at.within, king_within at.nums.now at.numbers c.args.beat c.requires)

-- there is a lie of each liar
told_at : (s : Sent) (lies : List State) (king at : ℕ) (liar : Bool) → IsTold s lies
    → king < length s.registers → liar ≡ is_liar s king → liar ≡ true
    → at ≡ liars_below s king → at < length lies
told_at s lies king at liar told lt e is same =
    subst (λ k. k < length lies) (sym same) (liar_told s lies king told lt (sym e ∙ is))

pub bounds-lies-liars_below : goal.bounds-lies-liars_below
bounds-lies-liars_below c =
    let at = c.args.self.now in
    let within : at.first + c.args.beat / 3 < length at.senders.now.registers =
    omega (arith, at.within, king_within at.nums.now at.numbers c.args.beat c.requires) in
    told_at at.senders.now at.lies.now (at.first + c.args.beat / 3) c.liars_below.result
    c.is_liar.result at.told within c.is_liar.ensures c.if-is_liar.true c.liars_below.ensures

pub offset_bounds-lies-liars_below : goal.offset_bounds-lies-liars_below
offset_bounds-lies-liars_below c =
    omega (arith, bounds-lies-liars_below c, c.well_formed)

-- with a register of the level
pub reg-requires : goal.reg-requires
reg-requires c =
    let at = c.args.self.now in
    let within : at.first + c.args.beat / 3 < length at.senders.now.registers =
    omega (arith, at.within, king_within at.nums.now at.numbers c.args.beat c.requires) in
    let lt = told_at at.senders.now at.lies.now (at.first + c.args.beat / 3) c.liars_below.result
    c.is_liar.result at.told within c.is_liar.ensures c.if-is_liar.true c.liars_below.ensures in
    let lie = c.index-lies-liars_below.result in
    let deep : at.senders.now.height < length lie.registers =
    subst (λ (t : State). at.senders.now.height < length t.registers)
    (sym c.index-lies-liars_below.is) (at.range c.liars_below.result lie lt).0 in
    omega (arith, c.height.ensures, deep)

-- the liar's lie
pub returns-then-is_liar : goal.returns-then-is_liar
returns-then-is_liar c =
    let at = c.args.self.now in
    let s = at.senders.now in
    let lies = at.lies.now in
    let king = at.first + c.args.beat / 3 in
    let within : king < length s.registers =
    omega (arith, at.within, king_within at.nums.now at.numbers c.args.beat c.requires) in
    let lt = told_at s lies king c.liars_below.result c.is_liar.result at.told within
    c.is_liar.ensures c.if-is_liar.true c.liars_below.ensures in
    let lie = c.index-lies-liars_below.result in
    ap (λ r. r.a) c.reg.ensures
    ∙ (ap (λ h. (register_at h lie).a) c.height.ensures
    ∙ (ap (λ t. (register_at s.height t).a) (c.index-lies-liars_below.is
    ∙ get_or_default lies c.liars_below.result lie (zero_state 0) lt)
    ∙ (ap (λ k. (register_at s.height (state_of lies k)).a) c.liars_below.ensures
    ∙ ap (λ b. if b then (register_at s.height (told_by s lies king)).a
    else (register_of s king).a) (sym (sym c.is_liar.ensures ∙ c.if-is_liar.true)))))
