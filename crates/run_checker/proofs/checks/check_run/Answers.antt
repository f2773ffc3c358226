use Rattle.std.proofs.Common.{◌≡◌, ◌≤◌, sym, ◌∙◌, arith, rules}
use Rattle.edge_io.proofs.FeedBytes.{buffered_few}
use Rattle.run_checker.specs.Checks.{IsChecked, IsRefused, IsTooLong, IsLost, IsHalted}
use Rattle.run_checker.proofs.SourceReads.{whole_checked, text_refused, text_too_long, text_lost}
use Rattle.run_checker.proofs.SourceReads.{text_halted, nothing_halted, long_within, held_none}
use Rattle.run_checker.proofs.SourceReads.{lent_back}
use Rattle.run_checker.proofs.checks.check_run.Goals as goal

pub returns-in-Err-clause-checks : goal.returns-in-Err-clause-checks
returns-in-Err-clause-checks g c = nothing_halted c.args.limit _

pub returns-in-Ok-read_lines-clause-checks : goal.returns-in-Ok-read_lines-clause-checks
returns-in-Ok-read_lines-clause-checks g c =
    let same = c.new-feed.ensures.same_reference in
    let name = c.read_lines.ensures.same_reference in
    let le : c.min-limit.result ≤ c.args.limit = omega (arith, c.min-limit.ensures) in
    lent_back
    (λ x. IsChecked c.args.limit (g.S.Source.left c.args.source.now) (g.S.Source.left x)
    c.in-Ok-read_lines.verdict)
    _ c.read_lines.new.feed.source.now _ c.read_lines.new.feed.source.ghost_name (search rules)
    (sym (name ∙ same))
    (whole_checked c.args.limit _ le _ _ _ _ c.new-feed.ensures.left c.in-Ok-read_lines.verdict
    (rw c.new-2.ensures at c.in-Ok-read_lines.ensures.text))

pub returns-in-Err-Refused-clause-checks : goal.returns-in-Err-Refused-clause-checks
returns-in-Err-Refused-clause-checks g c =
    let same = c.new-feed.ensures.same_reference in
    let name = c.read_lines.ensures.same_reference in
    let le : c.min-limit.result ≤ c.args.limit = omega (arith, c.min-limit.ensures) in
    lent_back
    (λ x. IsRefused c.args.limit (g.S.Source.left c.args.source.now) (g.S.Source.left x)
    c.in-Err-Refused.refused.line)
    _ c.read_lines.new.feed.source.now _ c.read_lines.new.feed.source.ghost_name (search rules)
    (sym (name ∙ same))
    (text_refused c.args.limit _ le _ _ _ _ c.new-feed.ensures.left
    (buffered_few c.read_lines.new.feed) c.in-Err-Refused.refused.line _
    (rw (c.in-Err-Refused.field-0-is, c.new-2.ensures) at c.in-Err-Refused.ensures.text))

pub returns-in-Err-TooLong-clause-checks : goal.returns-in-Err-TooLong-clause-checks
returns-in-Err-TooLong-clause-checks g c =
    let same = c.new-feed.ensures.same_reference in
    let name = c.read_lines.ensures.same_reference in
    let le : c.min-limit.result ≤ c.args.limit = omega (arith, c.min-limit.ensures) in
    let text = rw (c.in-Err-TooLong.field-0-is, c.new-2.ensures) at c.in-Err-TooLong.ensures.text in
    lent_back (λ x. IsTooLong c.args.limit (g.S.Source.left c.args.source.now) (g.S.Source.left x))
    _ c.read_lines.new.feed.source.now _ c.read_lines.new.feed.source.ghost_name (search rules)
    (sym (name ∙ same))
    (text_too_long c.args.limit _ le _ _ _ _ c.new-feed.ensures.left
    (buffered_few c.read_lines.new.feed)
    (long_within c.args.limit _ _ _ c.min-limit.ensures text) text)

pub returns-in-Err-ReadFault-clause-checks : goal.returns-in-Err-ReadFault-clause-checks
returns-in-Err-ReadFault-clause-checks g c =
    let same = c.new-feed.ensures.same_reference in
    let name = c.read_lines.ensures.same_reference in
    let le : c.min-limit.result ≤ c.args.limit = omega (arith, c.min-limit.ensures) in
    let cause = rw c.in-Err-ReadFault.field-0-is at c.in-Err-ReadFault.ensures.cause in
    lent_back (λ x. IsLost c.args.limit (g.S.Source.left c.args.source.now) (g.S.Source.left x)) _
    c.read_lines.new.feed.source.now _ c.read_lines.new.feed.source.ghost_name (search rules)
    (sym (name ∙ same))
    (text_lost c.args.limit _ le _ _ _ _ c.new-feed.ensures.left
    (held_none c.read_lines.new.feed cause.1.0)
    (rw (c.in-Err-ReadFault.field-0-is, c.new-2.ensures) at c.in-Err-ReadFault.ensures.text))

pub returns-clause-checks : goal.returns-clause-checks
returns-clause-checks g c =
    let same = c.new-feed.ensures.same_reference in
    let name = c.read_lines.ensures.same_reference in
    let le : c.min-limit.result ≤ c.args.limit = omega (arith, c.min-limit.ensures) in
    lent_back (λ x. IsHalted c.args.limit (g.S.Source.left c.args.source.now) (g.S.Source.left x)) _
    c.read_lines.new.feed.source.now _ c.read_lines.new.feed.source.ghost_name (search rules)
    (sym (name ∙ same))
    (text_halted c.args.limit _ le _ _ _ _ c.new-feed.ensures.left
    (buffered_few c.read_lines.new.feed)
    (rw (c.in-Err-NoMemory.field-0-is, c.new-2.ensures) at c.in-Err-NoMemory.ensures.text))

pub returns-in-Err-ReadFault-clause-unmet : goal.returns-in-Err-ReadFault-clause-unmet
returns-in-Err-ReadFault-clause-unmet g c = λ _.
    let same = c.new-feed.ensures.same_reference in
    let name = c.read_lines.ensures.same_reference in
    let cause = rw c.in-Err-ReadFault.field-0-is at c.in-Err-ReadFault.ensures.cause in
    lent_back (λ x. g.S.Source.met x ≡ g.S.Source.met c.args.source.now) _
    c.read_lines.new.feed.source.now _ c.read_lines.new.feed.source.ghost_name (search rules)
    (sym (name ∙ same)) (cause.1.1 ∙ c.new-feed.ensures.met)
