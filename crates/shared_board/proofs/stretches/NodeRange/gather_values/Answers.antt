use Rattle.std.proofs.Common.{ℕ, Bool, [], ◌∷◌, ◌++◌, ◌∙◌, Option, ap, sym, not, map, length}
use Rattle.std.proofs.Common.{arith}
use Rattle.std.proofs.lemmas.List.{append-nil}
use Rattle.majority_votes.specs.Votes.{Votes}
use Rattle.shared_board.specs.Senders.{is_liar, register_of}
use Rattle.shared_board.proofs.Passing.{read_more, read_fits, length_more, passing_one}
use Rattle.shared_board.proofs.Passing.{passing_none}
use Rattle.shared_board.proofs.stretches.NodeRange.gather_values.Goals as goal
use Rattle.shared_board.proofs.stretches.NodeRange.gather_values.Goals.{then-not-is_liar}
use Rattle.shared_board.proofs.stretches.NodeRange.gather_values.Goals.{else-not-is_liar}

-- there is room for the next one
pub place-requires : goal.place-requires
place-requires g c =
    let i = c.loop-u.invariant in
    let s = c.args.self.now in
    let cleared = ap (λ (v : Votes). v.capacity) c.clear.ensures in
    read_fits (λ u. not (is_liar s.senders.now u)) (λ u. (register_of s.senders.now u).a)
    s.first c.loop-u.u s.count _ c.loop-u.poll.values i.3
    (omega (arith, c.loop-u-test.true, c.end-u-end.ensures))
    (omega (arith, cleared, i.1, c.requires)) i.0

-- the next node, if it is correct
pub loop-u-preserved : goal.loop-u-preserved
loop-u-preserved g c =
    let i = c.loop-u.invariant in
    let s = c.args.self.now in
    let u = c.loop-u.u in
    let before = c.loop-u.poll.values in
    let q : ℕ → Bool = λ u. not (is_liar s.senders.now u) in
    let f : ℕ → Option ℕ = λ u. (register_of s.senders.now u).a in
    elim c.if-not-is_liar.branch [
      | then-not-is_liar w ↦
          let one = passing_one q u (ap not (sym c.is_liar.ensures ∙ w.if-not-is_liar.true)) in (
            read_more q f s.first u before _ i.3 i.0
                (ap (λ (v : Votes). v.values) (w.poll-is ∙ w.place.ensures.poll)
                ∙ (ap (λ o. before ++ o ∷ []) (ap (λ r. r.a) w.register.ensures)
                ∙ ap (λ us. before ++ map f us) (sym one))),
            ap (λ (v : Votes). v.capacity) (w.poll-is ∙ w.place.ensures.poll) ∙ i.1,
            omega (
              arith,
              w.steps-is,
              w.place.ensures.step,
              i.2,
              ap length one,
              length_more q s.first u i.3,
            ),
            omega (arith, i.3),
          )
      | else-not-is_liar w ↦
          let none = passing_none q u (ap not (sym c.is_liar.ensures ∙ w.if-not-is_liar.false)) in (
            read_more q f s.first u before _ i.3 i.0
                (ap (λ (v : Votes). v.values) w.poll-is
                ∙ (sym (append-nil before) ∙ ap (λ us. before ++ map f us) (sym none))),
            ap (λ (v : Votes). v.capacity) w.poll-is ∙ i.1,
            omega (arith, w.steps-is, i.2, ap length none, length_more q s.first u i.3),
            omega (arith, i.3),
          )
    ]
