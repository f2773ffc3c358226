use Rattle.std.proofs.Common.{◌<◌, ◌*◌, ℕ, List, length, refl, sym, ap, ◌∙◌, arith}
use Rattle.construction.specs.Steps.{state_of}
use Rattle.state_codec.specs.Shapes.{fields_at, bytes_in}
use Rattle.state_codec.specs.Reading.{read}
use Rattle.state_codec.specs.Texts.{read_text}
use Rattle.run_checker.specs.Tellings.{Telling}
use Rattle.run_checker.proofs.StatesRead.{length_told, sender_below, digits_of, read_is}
use Rattle.run_checker.proofs.tellings.Tellings.read.Goals as goal

pub index-requires : goal.index-requires
index-requires c =
    let long = length_told c.self.inside.shape c.self.inside.pairs.items
    c.self.inside.digits.items c.self.inside.count c.self.invariant in
    let seen = ap (λ (t : Telling). length t.states) c.self.view_is in
    let lt : c.args.k < c.self.inside.count = omega (arith, c.requires.told, long, seen) in
    let fits = c.self.invariant.fits in
    omega (arith, lt, fits)

pub index-requires-2 : goal.index-requires-2
index-requires-2 c =
    let long = length_told c.self.inside.shape c.self.inside.pairs.items
    c.self.inside.digits.items c.self.inside.count c.self.invariant in
    let seen = ap (λ (t : Telling). length t.states) c.self.view_is in
    let lt : c.args.k < c.self.inside.count = omega (arith, c.requires.told, long, seen) in
    let fits = c.self.invariant.fits in
    let many = c.self.invariant.many in
    omega (arith, lt, fits, many)

pub read_front-requires-clause-node : goal.read_front-requires-clause-node
read_front-requires-clause-node c =
    let long = length_told c.self.inside.shape c.self.inside.pairs.items
    c.self.inside.digits.items c.self.inside.count c.self.invariant in
    let seen = ap (λ (t : Telling). length t.states) c.self.view_is in
    let lt : c.args.k < c.self.inside.count = omega (arith, c.requires.told, long, seen) in
    let fits = c.self.invariant.fits in
    let below = sender_below c.self.inside.shape c.self.inside.pairs.items
    c.self.inside.digits.items c.self.inside.count c.self.invariant c.args.k c.index.result.now
    (omega (arith, lt, fits)) c.index.ensures in
    omega (arith, below, c.sender-sender.ensures)

pub read_front-requires-clause-within : goal.read_front-requires-clause-within
read_front-requires-clause-within c =
    let short = c.self.invariant.short c.sender-sender.result in
    omega (arith, short)

pub returns : goal.returns
returns c =
    let long = length_told c.self.inside.shape c.self.inside.pairs.items
    c.self.inside.digits.items c.self.inside.count c.self.invariant in
    let seen = ap (λ (t : Telling). length t.states) c.self.view_is in
    let lt : c.args.k < c.self.inside.count = omega (arith, c.requires.told, long, seen) in
    let shape = c.self.inside.shape in
    let sender = c.sender-sender.result in
    let count : ℕ = bytes_in (fields_at shape sender) in
    let long = digits_of shape c.self.inside.pairs.items c.self.inside.digits.items
    c.self.inside.count c.self.invariant c.args.k c.index.result.now c.index-2.result.now
    c.index-2.result.now lt c.index.ensures c.index-2.ensures refl
    ∙ ap (λ (v : ℕ). 2 * bytes_in (fields_at shape v)) (sym c.sender-sender.ensures) in
    c.read_front.ensures.value
    ∙ ap (λ (l : List ℕ). read (fields_at shape sender) l) (c.decode.ensures count long)
    ∙ ap (λ (v : ℕ). read_text (fields_at shape v) c.index-2.result.now) c.sender-sender.ensures
    ∙ read_is shape c.self.inside.pairs.items c.self.inside.digits.items c.self.inside.count
    c.self.invariant c.args.k c.index.result.now c.index-2.result.now c.index-2.result.now lt
    c.index.ensures c.index-2.ensures refl
    ∙ ap (λ (t : Telling). state_of t.states c.args.k) c.self.view_is
