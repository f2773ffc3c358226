-- The output of a node stands in the bits of its states where it is said to stand.
use Rattle.std.proofs.Common.{◌≡◌, ℕ, zero, suc, ◌+◌, ◌-◌, ◌*◌, ◌<◌, Bool, List, length, take, drop}
use Rattle.std.proofs.Common.{unwrap_or, sym, ap, ◌∙◌, arith}
use Rattle.std.specs.Prelude.{if◌then◌else◌}
use Rattle.std.specs.Int.{div_ceil}
use Rattle.std.proofs.lemmas.Bool.{eq-eqb, ne_eqb}
use Rattle.sync_types.specs.States.{zero_state, zero_register}
use Rattle.construction.specs.Widths.{width}
use Rattle.state_codec.specs.Bits.{number_of, bits_of_bytes}
use Rattle.state_codec.specs.Shapes.{Fields, bytes_in}
use Rattle.state_codec.specs.Reading.{below, full_register, registers_from, state_from, read}
use Rattle.halving_plan.specs.Trees.{Tree, Split, halved_within, left_part, right_part}
use Rattle.halving_plan.specs.Steps.{shown_in}
use Rattle.halving_plan.specs.Runs.{fields_in, all_fields}
use Rattle.halving_plan.specs.Plans.{HalvingNumbers, tree_of}
use Rattle.halving_plan.specs.Laws.{machine_in}
use Rattle.halving_plan.specs.Fields.{fields_of}
use Rattle.halving_plan.specs.OutputPlaces.{number_at, output_in, OutputsStandThere}
use Rattle.halving_plan.proofs.WrittenBits.{bits_are_written}

-- bytes as many as a state has are read by their bits
read_is : (tree : Tree) (fields : Fields) (bytes : List ℕ) → length bytes ≡ bytes_in fields
    → shown_in tree (read fields bytes) ≡ shown_in tree (state_from fields (bits_of_bytes bytes))
read_is tree fields bytes size =
    ap (λ (b : Bool). shown_in tree (if b then state_from fields (bits_of_bytes bytes)
    else zero_state (length fields.moduli))) (eq-eqb (length bytes) (bytes_in fields) size)

-- the first register stands after the number
shown_first : (left right : Tree) (spares modulus v : ℕ) (bs : List Bool) → 0 < modulus
    → let tree = Split left right spares in
    shown_in tree (state_from (all_fields tree modulus v) bs)
    ≡ unwrap_or (below modulus (number_of (take (width (modulus + 1))
    (drop (width (fields_in tree modulus v).base) bs)))) 0
unfolding registers_from
shown_first left right spares modulus v bs some =
    let rest : List Bool =
    drop (width (fields_in (Split left right spares) modulus v).base) bs in
    ap (λ (b : Bool). unwrap_or
    (if b then zero_register else full_register modulus rest).a 0)
    (ne_eqb modulus 0 (λ e. absurd (omega (arith, e, some))))

stands : (n f c v : ℕ) (bytes : List ℕ) → 0 < c
    → let plan : HalvingNumbers = record { nodes = n; faults = f; modulus = c } in
    length bytes ≡ bytes_in ((machine_in plan).fields v)
    → (machine_in plan).shows v (read ((machine_in plan).fields v) bytes) ≡ output_in plan v bytes
stands n zero c v bytes some size =
    let plan : HalvingNumbers = record { nodes = n; faults = zero; modulus = c } in
    read_is (tree_of plan) ((machine_in plan).fields v) bytes size
stands n (suc f) c v bytes some size =
    let plan : HalvingNumbers = record { nodes = n; faults = suc f; modulus = c } in
    let left : Tree = halved_within f (left_part (suc f)) 0 in
    let right : Tree = halved_within f (right_part (suc f)) 0 in
    let placed : Bool → ℕ = λ alone.
    let start = if alone then 0 else width (fields_of plan v).base in
    unwrap_or (below c (number_at start (width (if alone then c else c + 1)) bytes)) 0 in
    read_is (tree_of plan) ((machine_in plan).fields v) bytes size
    ∙ (shown_first left right (n - (3 * suc f + 1)) c v (bits_of_bytes bytes) some
    ∙ sym (ap placed (ne_eqb (suc f) 0 (λ e. absurd (omega (arith, e))))))

pub outputs_stand_there : OutputsStandThere
outputs_stand_there plan accepted v lt bytes size =
    let two = accepted.least_modulus in
    stands plan.nodes plan.faults plan.modulus v bytes (omega (arith, two))
    (size ∙ ap (λ bits. div_ceil bits 8) (sym (bits_are_written plan accepted v)))
