use Rattle.std.proofs.Common.{◌≡◌, ℕ, ◌-◌, ◌<◌, ◌≤◌, Option, Some, ap, sym, ◌∙◌, arith}
use Rattle.std.specs.Prelude.{slice_get}
use Rattle.halving_plan.specs.Halves.{left_period}
use Rattle.halving_plan.specs.Runs.{Fields}
use Rattle.halving_plan.specs.Fields.{fields_by}
use Rattle.halving_plan.specs.Groups.{HalvingGroup, IsGroup, half_in, sizes_of}
use Rattle.halving_plan.proofs.GroupFields.{fields_by_level, fields_in_half, with_level, after_two}
use Rattle.halving_plan.proofs.fields.+modulus_in.Goals as goal

-- a register of the level
level_modulus : (group : HalvingGroup) (v i : ℕ) → IsGroup group → 0 < group.faults → group.first ≤ v
    → slice_get (fields_by group v).moduli i
    ≡ slice_get
    (with_level (sizes_of group) group.modulus (fields_in_half (half_in group v) v)).moduli i
level_modulus group v i is some from =
    ap (λ (f : Fields). slice_get f.moduli i) (fields_by_level group v is some from)

-- a register after those of the level
half_modulus : (group : HalvingGroup) (v i : ℕ) → IsGroup group → 0 < group.faults → group.first ≤ v
    → 2 ≤ i
    → slice_get (fields_by group v).moduli i
    ≡ slice_get (fields_in_half (half_in group v) v).moduli (i - 2)
half_modulus group v i is some from le =
    level_modulus group v i is some from
    ∙ after_two i group.modulus (left_period (sizes_of group))
    (fields_in_half (half_in group v) v).moduli le

pub returns-in-1 : goal.returns-in-1
returns-in-1 t c =
    let g = c.args.group.now in
    let v = c.args.node in
    let some : 0 < g.faults = omega arith in
    ap Some c.left_period.ensures
    ∙ sym (level_modulus g v c.args.i c.facts.ensures some c.requires
    ∙ ap (slice_get (with_level (sizes_of g) g.modulus (fields_in_half (half_in g v) v)).moduli)
    c.in-1.is)

pub returns-in-Some : goal.returns-in-Some
returns-in-Some t c =
    let g = c.args.group.now in
    let v = c.args.node in
    let some : 0 < g.faults = omega arith in
    c.modulus_in.ensures
    ∙ (ap (λ (o : Option HalvingGroup). slice_get (fields_in_half o v).moduli (c.args.i - 2))
    c.in-Some.ensures.value
    ∙ sym (half_modulus g v c.args.i c.facts.ensures some c.requires (omega arith)))

pub returns-in-None : goal.returns-in-None
returns-in-None t c =
    let g = c.args.group.now in
    let v = c.args.node in
    let some : 0 < g.faults = omega arith in
    ap (λ (o : Option HalvingGroup). slice_get (fields_in_half o v).moduli (c.args.i - 2))
    c.in-None.ensures.value
    ∙ sym (half_modulus g v c.args.i c.facts.ensures some c.requires (omega arith))
