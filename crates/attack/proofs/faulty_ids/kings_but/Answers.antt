use Rattle.std.proofs.Common.{◌≡◌, ap, ◌∙◌, arith}
use Rattle.attack.specs.FaultyIds.{king_at, place_past}
use Rattle.attack.proofs.Ranges.{kings_more}
use Rattle.attack.proofs.faulty_ids.kings_but.Goals as goal

pub loop-i-preserved : goal.loop-i-preserved
loop-i-preserved c =
    let left = c.args.left in
    let without = c.args.without in
    let i = c.loop-i.i in
    let value : c.king_at-id.result ≡ king_at left (place_past without i) =
    c.king_at-id.ensures ∙ ap (king_at left) c.place_past.ensures.value in
    grind (arith, value, kings_more left without i)
