use Rattle.std.proofs.Common.{ℕ, ◌∙◌, sym, Err, rules}
use Rattle.node_words.specs.declared.errors.NodeError.TheVariants as error
use Rattle.node_words.proofs.Returns.{does_end, unmet_end, none_held, dry_held}
use Rattle.node_words.proofs.HeaderEnds.{header_lost, header_long, header_cut, header_refused}
use Rattle.node_words.proofs.Engines.{is_node_of}
use Rattle.node_words.proofs.Service.{service_touches, service_unmet, never_unmet, serves}
use Rattle.node_words.proofs.Service.{serves_last, cause_of}
use Rattle.node_words.proofs.serving.serve_node.Goals as goal

pub returns-in-Err-ReadFault-clause-does : goal.returns-in-Err-ReadFault-clause-does
returns-in-Err-ReadFault-clause-does g c =
    let words = g.C.Construction.words in
    let same = c.new-feed.ensures.same_reference in
    let name = c.read_header.ensures.same_reference in
    let header = rw c.in-Err-ReadFault.field-0-is at c.in-Err-ReadFault.ensures.header in
    let cause = rw (c.in-Err-ReadFault.field-0-is, c.new-feed.ensures.faults) at
    c.in-Err-ReadFault.ensures.cause in
    does_end words g.S.Source.left g.S.Source.faults (Err error.ReadFault) _ _
    c.read_header.new.feed.source.now _ c.read_header.new.feed.source.ghost_name _ _
    (search rules) (sym (name ∙ same))
    (header_lost words _ _ _ _ _ _ c.new-feed.ensures.left _ header
    (none_held _ _ _ cause.1.0) cause.0)

pub returns-in-Err-TooLong-clause-does : goal.returns-in-Err-TooLong-clause-does
returns-in-Err-TooLong-clause-does g c =
    let words = g.C.Construction.words in
    let same = c.new-feed.ensures.same_reference in
    let name = c.read_header.ensures.same_reference in
    let header = rw c.in-Err-TooLong.field-0-is at c.in-Err-TooLong.ensures.header in
    let cause = rw (c.in-Err-TooLong.field-0-is, c.new-feed.ensures.faults) at
    c.in-Err-TooLong.ensures.cause in
    does_end words g.S.Source.left g.S.Source.faults (Err error.TooLong) _ _
    c.read_header.new.feed.source.now _ c.read_header.new.feed.source.ghost_name _ _
    (search rules) (sym (name ∙ same))
    (header_long words _ _ _ _ _ _ c.new-feed.ensures.left _ header cause)

pub returns-in-Ok-put_header_refusal-clause-does : goal.returns-in-Ok-put_header_refusal-clause-does
returns-in-Ok-put_header_refusal-clause-does g c =
    let words = g.C.Construction.words in
    let same = c.new-feed.ensures.same_reference in
    let name = c.read_header.ensures.same_reference in
    let header = rw c.in-Err-Refused.field-0-is at c.in-Err-Refused.ensures.header in
    let cause = rw (c.in-Err-Refused.field-0-is, c.new-feed.ensures.faults) at
    c.in-Err-Refused.ensures.cause in
    rw c.in-Err-Refused.refusal-is
    (does_end words g.S.Source.left g.S.Source.faults
    (Err (error.Refused c.in-Err-Refused.refusal)) _ _
    c.read_header.new.feed.source.now _ c.read_header.new.feed.source.ghost_name _ _
    (search rules) (sym (name ∙ same))
    (header_refused words _ _ _ _ _ _ c.new-feed.ensures.left _ header cause _ _
    (rw c.in-Err-Refused.refusal-is at c.in-Ok-put_header_refusal.ensures)))

pub returns-in-Err-put_header_refusal-clause-does :
    goal.returns-in-Err-put_header_refusal-clause-does
returns-in-Err-put_header_refusal-clause-does g c =
    let words = g.C.Construction.words in
    let same = c.new-feed.ensures.same_reference in
    let name = c.read_header.ensures.same_reference in
    let header = rw c.in-Err-Refused.field-0-is at c.in-Err-Refused.ensures.header in
    let cause = rw (c.in-Err-Refused.field-0-is, c.new-feed.ensures.faults) at
    c.in-Err-Refused.ensures.cause in
    does_end words g.S.Source.left g.S.Source.faults (Err error.WriteFault) _ _
    c.read_header.new.feed.source.now _ c.read_header.new.feed.source.ghost_name _ _
    (search rules) (sym (name ∙ same))
    (header_cut words _ _ _ _ _ _ c.new-feed.ensures.left _ header cause _ _
    (rw c.in-Err-Refused.refusal-is at c.in-Err-put_header_refusal.ensures))

pub returns-then-ended-clause-does : goal.returns-then-ended-clause-does
returns-then-ended-clause-does g c =
    let words = g.C.Construction.words in
    let machine = g.C.Counter.Machine.machine in
    let same = c.new-feed.ensures.same_reference in
    let name = c.read_header.ensures.same_reference in
    let read = c.in-Ok-read_header.ensures in
    let node = is_node_of words machine _ _ _ read.header _ c.in-Ok-engine_of.ensures in
    let still = read.cause ∙ c.new-feed.ensures.faults in
    rw c.ended_by.ensures
    (does_end words g.S.Source.left g.S.Source.faults _ _ _
    c.read_header.new.feed.source.now _ c.read_header.new.feed.source.ghost_name _ _
    (search rules) (sym (name ∙ same))
    (serves_last words machine _ _ _ _ _ _ c.new-feed.ensures.left _ _ _ read.header _ _ node
    c.if-ended.true still _ _ _ _ (rw c.new-nothing.ensures at c.new-none.ensures.left)
    c.serve.ensures.served c.serve.ensures.cause))

pub returns-clause-does : goal.returns-clause-does
returns-clause-does g c =
    let words = g.C.Construction.words in
    let machine = g.C.Counter.Machine.machine in
    let same = c.new-feed.ensures.same_reference in
    let name = c.serve-2.ensures.same_reference ∙ c.read_header.ensures.same_reference in
    let read = c.in-Ok-read_header.ensures in
    let node = is_node_of words machine _ _ _ read.header _ c.in-Ok-engine_of.ensures in
    let still = read.cause ∙ c.new-feed.ensures.faults in
    rw c.ended_by-2.ensures
    (does_end words g.S.Source.left g.S.Source.faults _ _ _
    c.serve-2.new.feed.source.now _ c.serve-2.new.feed.source.ghost_name _ _ (search rules)
    (sym (name ∙ same))
    (serves words machine _ _ _ _ _ _ _ c.new-feed.ensures.left _ _ _ read.header _ _ node
    c.if-ended.false _ c.serve-2.ensures.served
    (cause_of _ _ _ _ _ _ (dry_held _ _ _ _) still c.serve-2.ensures.cause)))

pub returns-then-ended-clause-untouched : goal.returns-then-ended-clause-untouched
returns-then-ended-clause-untouched g c = rw c.ended_by.ensures (service_touches _ _ _ _)

pub returns-clause-untouched : goal.returns-clause-untouched
returns-clause-untouched g c = rw c.ended_by-2.ensures (service_touches _ _ _ _)

pub returns-in-Err-ReadFault-clause-unmet : goal.returns-in-Err-ReadFault-clause-unmet
returns-in-Err-ReadFault-clause-unmet g c =
    let same = c.new-feed.ensures.same_reference in
    let name = c.read_header.ensures.same_reference in
    let cause = rw c.in-Err-ReadFault.field-0-is at c.in-Err-ReadFault.ensures.cause in
    unmet_end {Premise = ℕ} g.S.Source.met (Err error.ReadFault) _ _
    c.read_header.new.feed.source.now _
    c.read_header.new.feed.source.ghost_name (search rules) (sym (name ∙ same))
    (cause.1.1 ∙ c.new-feed.ensures.met)

pub returns-then-ended-clause-unmet : goal.returns-then-ended-clause-unmet
returns-then-ended-clause-unmet g c =
    rw c.ended_by.ensures (never_unmet _ _ _ _ _ c.serve.ensures.cause)

pub returns-clause-unmet : goal.returns-clause-unmet
returns-clause-unmet g c =
    let same = c.new-feed.ensures.same_reference in
    let name = c.serve-2.ensures.same_reference ∙ c.read_header.ensures.same_reference in
    let met = rw c.if-ended.false at c.in-Ok-read_header.ensures.met in
    rw c.ended_by-2.ensures
    (unmet_end g.S.Source.met _ _ _ c.serve-2.new.feed.source.now _
    c.serve-2.new.feed.source.ghost_name (search rules) (sym (name ∙ same))
    (service_unmet _ _ _ _ _ _ _ c.serve-2.ensures.cause
    (λ dry. dry.1 ∙ (met ∙ c.new-feed.ensures.met))))
