use Rattle.std.proofs.Common.{ℕ, sym, ap, ◌∙◌}
use Rattle.sync_types.specs.FaultSets.{FaultIds}
use Rattle.texts.proofs.Shapes.{with_front}
use Rattle.texts.specs.Shapes.{all_numbers}
use Rattle.run_checker.specs.Sets.{is_borne_by, may_follow}
use Rattle.run_checker.proofs.NextIds.{one_borne, word_read, one_read, no_follower}
use Rattle.run_checker.proofs.id_lists.read_ids.Goals as goal

pub returns-then-not-may_follow-clause-ids : goal.returns-then-not-may_follow-clause-ids
returns-then-not-may_follow-clause-ids c =
    let h = c.loop-word.invariant in
    let nodes = c.args.set.now.nodes in
    let faults = c.args.faults in
    let ids = c.loop-word.set.ids in
    let id = c.in-Some-number.id in
    let read = word_read nodes faults (all_numbers c.args.words) ids c.loop-word.word-iterator _ _
    id
    h.read
    c.in-Some.ensures.steps (sym c.number.ensures ∙ c.in-Some-number.is) in
    no_follower nodes faults (all_numbers c.args.words) ids id _ read
    (ap (λ (n : ℕ). may_follow n faults ids id) (sym h.nodes)
    ∙ (sym c.may_follow.ensures.value ∙ c.if-not-may_follow.true))

pub loop-word-preserved : goal.loop-word-preserved
loop-word-preserved c =
    let h = c.loop-word.invariant in
    let nodes = c.args.set.now.nodes in
    let faults = c.args.faults in
    let ids = c.loop-word.set.ids in
    let id = c.in-Some-number.id in
    let read = word_read nodes faults (all_numbers c.args.words) ids c.loop-word.word-iterator _ _
    id
    h.read
    c.in-Some.ensures.steps (sym c.number.ensures ∙ c.in-Some-number.is) in
    let may = ap (λ (n : ℕ). may_follow n faults ids id) (sym h.nodes)
    ∙ (sym c.may_follow.ensures.value ∙ c.if-not-may_follow.false) in
    let pushed = ap (λ (s : FaultIds). s.ids) c.push.ensures in
    record {
      nodes = ap (λ (s : FaultIds). s.nodes) c.push.ensures ∙ h.nodes;
      read = one_read nodes faults (all_numbers c.args.words) ids id _ read
          ∙ ap (λ l. with_front l (all_numbers c.next.new.self)) (sym pushed);
      borne = ap (is_borne_by nodes faults) pushed ∙ one_borne nodes faults ids id h.borne may;
    }
