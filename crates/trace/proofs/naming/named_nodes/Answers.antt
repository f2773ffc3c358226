use Rattle.std.proofs.Common.{◌≡◌, ◌++◌, ◌∷◌, [], true, false, map, ap, sym, ◌∙◌, rules}
use Rattle.std.specs.Prelude.{string_bytes}
use Rattle.trace.specs.Names.{is_wanted}
use Rattle.trace.proofs.NamedNodes.{wanted_more, unwanted_more}
use Rattle.trace.proofs.naming.named_nodes.Goals.{then-is_wanted+in_ok-map_err, else-is_wanted}
use Rattle.trace.proofs.naming.named_nodes.Goals as goal

pub loop-v-preserved : goal.loop-v-preserved
loop-v-preserved c =
    let words = map string_bytes c.args.words.now in
    let v = c.loop-v.v in
    elim c.if-is_wanted.branch [
      | then-is_wanted+in_ok-map_err w ↦
          let items : c.if-is_wanted.named.items ≡ c.loop-v.named.items ++ v ∷ [] = search rules in
          let is : is_wanted words v ≡ true = sym c.is_wanted.ensures ∙ w.if-is_wanted.true in
          items ∙ (ap (λ ids. ids ++ v ∷ []) c.loop-v.invariant ∙ wanted_more words v is)
      | else-is_wanted w ↦
          let items : c.if-is_wanted.named.items ≡ c.loop-v.named.items = search rules in
          let is : is_wanted words v ≡ false = sym c.is_wanted.ensures ∙ w.if-is_wanted.false in
          items ∙ (c.loop-v.invariant ∙ unwanted_more words v is)
    ]
