use Rattle.std.proofs.Common.{◌<◌, Bool, cond, ℕ, List, length, take, sym, ap, ◌∙◌, subst, arith}
use Rattle.std.proofs.Common.{vec_capacity}
use Rattle.run_checker.specs.Tellings.{Telling, IsTelling, states_read}
use Rattle.run_checker.proofs.StatesRead.{length_told, adds_none_at, same_texts, adds_kept_at}
use Rattle.run_checker.proofs.StatesRead.{adds_one_at}
use Rattle.run_checker.proofs.tellings.Tellings.add.Goals as goal

pub index_mut-requires : goal.index_mut-requires
index_mut-requires c =
    let long = length_told c.self.inside.shape c.self.inside.pairs.items
    c.self.inside.digits.items c.self.inside.count c.self.invariant in
    let seen = ap (λ (t : Telling). length t.states) c.self.view_is in
    let pairs = ap (λ (t : Telling). length t.pairs) c.self.view_is in
    let more : c.self.inside.count < length c.self.inside.pairs.items =
    omega (arith, c.requires, long, seen, pairs) in
    let many = c.self.invariant.many in
    omega (arith, more, many)

pub invariant_of-self : goal.invariant_of-self
invariant_of-self c =
    let long = length_told c.self.inside.shape c.self.inside.pairs.items
    c.self.inside.digits.items c.self.inside.count c.self.invariant in
    let seen = ap (λ (t : Telling). length t.states) c.self.view_is in
    let pairs = ap (λ (t : Telling). length t.pairs) c.self.view_is in
    let more : c.self.inside.count < length c.self.inside.pairs.items =
    omega (arith, c.requires, long, seen, pairs) in
    let same = same_texts c.self.inside.shape c.self.inside.pairs.items c.self.inside.digits.items
    c.self.inside.count c.self.invariant c.args.digits.now c.index_mut.result.now more
    c.index_mut.ensures.value _ c.self.view_is c.take.new.self (c.take.ensures.taken
    ∙ ap (λ (b : Bool). cond b c.args.digits.now c.index_mut.result.now) c.if-not-take.true) in
    subst (λ (l : List (List ℕ)). IsTelling c.self.inside.shape c.self.inside.pairs.items l
    c.self.inside.count (vec_capacity c.self.inside.pairs)) (sym same) c.self.invariant

pub returns-then-not-take : goal.returns-then-not-take
returns-then-not-take c =
    let long = length_told c.self.inside.shape c.self.inside.pairs.items
    c.self.inside.digits.items c.self.inside.count c.self.invariant in
    let seen = ap (λ (t : Telling). length t.states) c.self.view_is in
    let pairs = ap (λ (t : Telling). length t.pairs) c.self.view_is in
    let more : c.self.inside.count < length c.self.inside.pairs.items =
    omega (arith, c.requires, long, seen, pairs) in
    let same = same_texts c.self.inside.shape c.self.inside.pairs.items c.self.inside.digits.items
    c.self.inside.count c.self.invariant c.args.digits.now c.index_mut.result.now more
    c.index_mut.ensures.value _ c.self.view_is c.take.new.self (c.take.ensures.taken
    ∙ ap (λ (b : Bool). cond b c.args.digits.now c.index_mut.result.now) c.if-not-take.true) in (
      adds_none_at c.self.inside.shape c.self.inside.pairs.items c.self.inside.digits.items
          c.self.inside.count c.self.invariant c.args.digits.now c.index_mut.result.now more
          c.index_mut.ensures.value _ c.self.view_is
          (sym c.take.ensures.fits ∙ c.if-not-take.true),
      ap (λ (l : List (List ℕ)). let t : Telling = record {
        pairs = c.self.inside.pairs.items;
        shape = c.self.inside.shape;
        states = states_read c.self.inside.shape c.self.inside.pairs.items
            (take c.self.inside.count l);
        room = length l;
      } in t) same ∙ c.self.view_is,
    )

pub invariant_of-self-2 : goal.invariant_of-self-2
invariant_of-self-2 c =
    let long = length_told c.self.inside.shape c.self.inside.pairs.items
    c.self.inside.digits.items c.self.inside.count c.self.invariant in
    let seen = ap (λ (t : Telling). length t.states) c.self.view_is in
    let pairs = ap (λ (t : Telling). length t.pairs) c.self.view_is in
    let more : c.self.inside.count < length c.self.inside.pairs.items =
    omega (arith, c.requires, long, seen, pairs) in
    adds_kept_at c.self.inside.shape c.self.inside.pairs.items c.self.inside.digits.items
    c.self.inside.count c.self.invariant c.args.digits.now c.index_mut.result.now more
    c.index_mut.ensures.value _ c.self.view_is (sym c.take.ensures.fits ∙ c.if-not-take.false)
    c.take.new.self (c.take.ensures.taken
    ∙ ap (λ (b : Bool). cond b c.args.digits.now c.index_mut.result.now) c.if-not-take.false)

pub returns : goal.returns
returns c =
    let long = length_told c.self.inside.shape c.self.inside.pairs.items
    c.self.inside.digits.items c.self.inside.count c.self.invariant in
    let seen = ap (λ (t : Telling). length t.states) c.self.view_is in
    let pairs = ap (λ (t : Telling). length t.pairs) c.self.view_is in
    let more : c.self.inside.count < length c.self.inside.pairs.items =
    omega (arith, c.requires, long, seen, pairs) in
    adds_one_at c.self.inside.shape c.self.inside.pairs.items c.self.inside.digits.items
    c.self.inside.count c.self.invariant c.args.digits.now c.index_mut.result.now more
    c.index_mut.ensures.value _ c.self.view_is (sym c.take.ensures.fits ∙ c.if-not-take.false)
    c.take.new.self (c.take.ensures.taken
    ∙ ap (λ (b : Bool). cond b c.args.digits.now c.index_mut.result.now) c.if-not-take.false)
