use Rattle.std.proofs.Common.{◌≡◌, ◌∙◌, ◌++◌, ◌∷◌, [], sym, ap, arith}
use Rattle.states.specs.Puts.{put_after}
use Rattle.states.specs.Turned.{line_turned, states_turned}
use Rattle.states.proofs.TurnedLines.{line_put, next_turned}
use Rattle.states.proofs.calling.turn_lines.Goals as goal

pub loop-number-preserved : goal.loop-number-preserved
loop-number-preserved c =
    let shape = c.args.shape.now in
    let out = c.loop-number.out.items in
    let line = c.in-Some.line.now in
    let items = c.next.new.self in
    let left : c.loop-number.left ≡ 0 = omega (arith, c.if-left-gt0.false) in
    ap (λ text. put_after text (states_turned shape c.loop-number.left items))
    c.in_ok-push_text-in-Ok.ensures
    ∙ ap (λ left. put_after (c.turn.new.out.items ++ 10 ∷ []) (states_turned shape left items)) left
    ∙ line_put out c.turn.new.out.items c.in-Some.number (line_turned shape line)
    (states_turned shape 0 items) c.in-Ok.ensures
    ∙ ap (put_after out) (sym (next_turned shape c.in-Some.number line items
    (sym c.if-is_skipped.ensures)))
    ∙ ap (λ left. put_after out (states_turned shape left ((c.in-Some.number, line) ∷ items)))
    (sym left)
    ∙ ap (λ all. put_after out (states_turned shape c.loop-number.left all))
    (sym c.in-Some.ensures.steps)
    ∙ c.loop-number.invariant
