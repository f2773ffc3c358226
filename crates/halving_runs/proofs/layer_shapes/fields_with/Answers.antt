use Rattle.std.proofs.Common.{ℕ, ◌≤◌, List, ap₂, sym, subst}
use Rattle.state_codec.specs.Shapes.{Fields, IsFields, bits_in}
use Rattle.halving_runs.proofs.LayerShaped.{further_limited, further_small}
use Rattle.halving_runs.proofs.layer_shapes.fields_with.Goals as goal

pub new-requires-clause-limits : goal.new-requires-clause-limits
new-requires-clause-limits c =
    subst IsFields
    (sym (ap₂ (λ (x : ℕ) (ms : List ℕ). let f : Fields = record { base = x; moduli = ms } in f)
    c.base.ensures.value c.in_ok-moduli.ensures))
    (further_limited c.args.own.now c.args.values c.args.count c.requires.most c.facts.ensures)

pub new-requires-clause-few : goal.new-requires-clause-few
new-requires-clause-few c =
    subst (λ (f : Fields). bits_in f ≤ 1024)
    (sym (ap₂ (λ (x : ℕ) (ms : List ℕ). let f : Fields = record { base = x; moduli = ms } in f)
    c.base.ensures.value c.in_ok-moduli.ensures))
    (further_small c.args.own.now c.args.values c.args.count c.requires.most c.requires.small
    c.requires.few)
