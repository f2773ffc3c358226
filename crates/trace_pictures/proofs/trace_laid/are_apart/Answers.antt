use Rattle.std.proofs.Common.{ℕ, ◌<◌, get_or, arith}
use Rattle.std.proofs.lemmas.List.{get_or_default}
use Rattle.trace_pictures.specs.declared.traces.KingPhase.{KingPhase}
use Rattle.trace_pictures.proofs.TurnsApart.{apart_more, most_more}
use Rattle.trace_pictures.proofs.trace_laid.are_apart.Goals as goal
use Rattle.trace_pictures.proofs.trace_laid.are_apart.Goals.{then-reign-column-2}
use Rattle.trace_pictures.proofs.trace_laid.are_apart.Goals.{else-reign-column-2}

pub loop-k-preserved : goal.loop-k-preserved
loop-k-preserved c =
    let reigns = c.args.reigns.now in
    let k = c.loop-k.k in
    let before = c.loop-k.invariant in
    let from = c.if-reign-column-2.from in
    let column = c.if-reign-column-2.column in
    let most = most_more reigns k _ (λ d. get_or_default reigns k _ d c.loop-k-test.true)
    c.loop-k.column c.if-reign-column.false before.most in
    let early : (j : ℕ) (d : KingPhase) → j < from → (get_or reigns j d).column
    < column = λ j d less.
    elim c.if-reign-column-2.branch [
      | then-reign-column-2 w ↦
          let here : j < k = omega (arith, less, w.from-is) in
          omega (arith, before.most j d here, w.column-is, w.if-reign-column-2.true)
      | else-reign-column-2 w ↦
          let here : j < c.loop-k.from = omega (arith, less, w.from-is) in
          omega (arith, before.early j d here, w.column-is)
    ] in
    record {
      most = λ j d within. elim c.if-reign-column-2.branch [
        | then-reign-column-2 w ↦ omega (arith, most j d within, w.column-is)
        | else-reign-column-2 w ↦
            omega (arith, most j d within, w.column-is, w.if-reign-column-2.false)
      ];
      begun = elim c.if-reign-column-2.branch [
        | then-reign-column-2 w ↦ omega (arith, w.from-is)
        | else-reign-column-2 w ↦ omega (arith, before.begun, w.from-is)
      ];
      early = early;
      apart = apart_more reigns k _ (λ d. get_or_default reigns k _ d c.loop-k-test.true) column
          from (elim c.if-reign-column-2.branch [
            | then-reign-column-2 w ↦ w.column-is
            | else-reign-column-2 w ↦
                omega (arith, w.column-is, w.if-reign-column-2.false, c.if-reign-column.false)
          ]) early (c.are_above.ensures c.if-not-are_above.false) before.apart;
    }
