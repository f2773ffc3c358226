use Rattle.std.proofs.Common.{◌≡◌, ℕ, ◌+◌, ◌<◌, ◌≤◌, List, length, set, ap, sym, ◌∙◌, subst, arith}
use Rattle.sync_types.specs.declared.states.Reg.{Reg}
use Rattle.sync_types.specs.States.{State}
use Rattle.counter_core.specs.Meanings.{Meaning, written}
use Rattle.counter_core.specs.Laws.{Sizes}
use Rattle.plan_numbers.specs.Numbers.{level_of}
use Rattle.construction.specs.Plans.{Level, group_size}
use Rattle.plan_laws.specs.Boosted.{inner_state, level_register, boosted}
use Rattle.plan_laws.proofs.BoostLaws.{deep_inner}
use Rattle.boost_step.specs.Groups.{Group}
use Rattle.boost_step.proofs.Stepping.{length_written, register_written}
use Rattle.boost_step.proofs.boost.BoostCounter.advance.Goals as goal

-- the state that the counter below and the level write
stepped : (a : Meaning) (in_range : State → Type 0) (level : Level) (v d : ℕ) (heard : List State)
    (out inner new : State) (r : Reg)
    → Sizes a in_range → length heard ≡ group_size level a.nodes
    → a.depth + 1 ≤ length out.registers
    → inner ≡ written a.depth (inner_state a level v heard) out → d ≡ a.depth
    → r ≡ level_register a level v heard
    → new ≡ record inner { registers = set inner.registers d r }
    → new ≡ written (a.depth + 1) ((boosted a level).next v heard) out
stepped a in_range level v d heard out inner new r sizes size room is e e' h =
    h ∙ (ap (λ x. record inner { registers = set inner.registers x r }) e
    ∙ (ap (λ x. record inner { registers = set inner.registers a.depth x }) e'
    ∙ (ap (λ (s : State).
    record s { registers = set s.registers a.depth (level_register a level v heard) }) is
    ∙ register_written a.depth (inner_state a level v heard) out (level_register a level v heard)
    (deep_inner a in_range level sizes v heard size) (omega arith))))

-- and there is room for the register
roomy : (a : Meaning) (in_range : State → Type 0) (level : Level) (v d : ℕ) (heard : List State)
    (out inner : State)
    → Sizes a in_range → length heard ≡ group_size level a.nodes
    → a.depth + 1 ≤ length out.registers
    → inner ≡ written a.depth (inner_state a level v heard) out → d ≡ a.depth
    → d < length inner.registers
roomy a in_range level v d heard out inner sizes size room is e =
    let long = ap (λ (s : State). length s.registers) is
    ∙ length_written a.depth (inner_state a level v heard) out
    (deep_inner a in_range level sizes v heard size) (omega arith) in
    omega arith

pub set_reg-requires : goal.set_reg-requires
set_reg-requires g c =
    let inner = c.self.inside.inner in
    roomy (g.A.Counter.meaning inner) (g.A.Counter.in_range inner)
    (level_of c.self.inside.nums) c.args.place c.depth.result c.args.heard.now c.args.out.now
    c.step_below.new.out
    (g.met.A.Counter.sizes inner c.self.invariant.0)
    (subst (λ (b : Group _). length c.args.heard.now
    ≡ group_size b.level (g.A.Counter.meaning b.inner).nodes)
    (sym c.self.view_is) c.requires.heard)
    (subst (λ (b : Group _).
    (g.A.Counter.meaning b.inner).depth + 1 ≤ length c.args.out.now.registers)
    (sym c.self.view_is) c.requires.out)
    c.step_below.ensures.out c.depth.ensures

pub returns-clause-out : goal.returns-clause-out
returns-clause-out g c =
    let inner = c.self.inside.inner in
    subst (λ (b : Group _). c.set_reg.new.self
    ≡ written ((g.A.Counter.meaning b.inner).depth + 1)
    ((boosted (g.A.Counter.meaning b.inner) b.level).next c.args.place c.args.heard.now)
    c.args.out.now) c.self.view_is
    (stepped (g.A.Counter.meaning inner) (g.A.Counter.in_range inner)
    (level_of c.self.inside.nums) c.args.place c.depth.result c.args.heard.now c.args.out.now
    c.step_below.new.out c.set_reg.new.self c.level_register-reg.result
    (g.met.A.Counter.sizes inner c.self.invariant.0)
    (subst (λ (b : Group _). length c.args.heard.now
    ≡ group_size b.level (g.A.Counter.meaning b.inner).nodes)
    (sym c.self.view_is) c.requires.heard)
    (subst (λ (b : Group _).
    (g.A.Counter.meaning b.inner).depth + 1 ≤ length c.args.out.now.registers)
    (sym c.self.view_is) c.requires.out)
    c.step_below.ensures.out c.depth.ensures c.level_register-reg.ensures.register
    c.set_reg.ensures)
