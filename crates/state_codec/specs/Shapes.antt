-- The fields of a node's state, how many bits and bytes they take, and the shape of the states of
-- all nodes, which says of each node which fields it has.
use Rattle.std.specs.Prelude.{ℕ, ◌+◌, ◌^◌, ◌≤◌, ◌<◌, ◌==◌, nat_lt, if◌then◌else◌, List, [], ◌++◌}
use Rattle.std.specs.Prelude.{length, map, replicate, reverse, slice_index, slice_index_or, All}
use Rattle.std.specs.Int.{div_ceil}
use Rattle.std.specs.List.{sum_by, range_with_len}
use Rattle.construction.specs.Widths.{width}
use Rattle.construction.specs.Plans.{Level, Plan, plan_low, plan_nodes}

-- The modulus of a node's number, and that of each of its registers, the lowest first. A number
-- that the node lacks has the modulus 1, and a register that it lacks has 0: neither takes a bit.
pub record Fields : Type 0 where
  pub base : ℕ
  pub moduli : List ℕ

-- the bits of a register: those of a value, infinity among them, and a mark
abbrev pub register_bits : ℕ → ℕ
register_bits modulus = if modulus == 0 then 0 else width (modulus + 1) + 1

-- the bits of all registers
unfoldable pub registers_bits : List ℕ → ℕ
registers_bits moduli = sum_by register_bits moduli

-- how many bits a state has
abbrev pub bits_in : Fields → ℕ
bits_in fields = width fields.base + registers_bits fields.moduli

-- how many bytes hold these bits
abbrev pub bytes_in : Fields → ℕ
bytes_in fields = div_ceil (bits_in fields) 8

-- no modulus is above 2^40
pub record IsFields (fields : Fields) : Type 0 where
  pub least : 1 ≤ fields.base
  pub most : fields.base ≤ 2 ^ 40
  pub moduli : All (λ modulus. modulus ≤ 2 ^ 40) fields.moduli

-- The shape of the states of nodes: how many registers each state has, and the fields of each node.
-- Registers for which a node's fields have no modulus are lacking there.
pub record Shape : Type 0 where
  pub depth : ℕ
  pub fields : List Fields

-- fields of nothing
abbrev pub no_fields : Fields
no_fields = record { base = 1; moduli = [] }

-- fields with moduli for so many registers
abbrev pub to_depth : (depth : ℕ) → Fields → Fields
to_depth depth fields = record {
  base = fields.base;
  moduli = map (λ i. slice_index_or fields.moduli i 0) (range_with_len 0 depth);
}

-- the fields of node v
abbrev pub fields_at : Shape → (v : ℕ) → Fields
fields_at shape v = to_depth shape.depth (slice_index_or shape.fields v no_fields)

-- how many nodes there are
abbrev pub shape_nodes : Shape → ℕ
shape_nodes shape = length shape.fields

-- no modulus is above 2^40, and some node has each register
pub record IsShape (shape : Shape) : Type 0 where
  pub fields : All IsFields shape.fields
  pub used : (i : ℕ) → i < shape.depth → (v : ℕ) × (v < shape_nodes shape)
      × (1 ≤ slice_index_or (fields_at shape v).moduli i 0)

-- ---- the shapes of plans

-- the moduli of levels, the lowest first
unfoldable pub moduli_of : List Level → List ℕ
moduli_of levels = reverse (map (λ level. level.modulus) levels)

-- the moduli of the registers that a node has whose low is this: the level from which on it takes
-- part, register i being that of level i + 1
abbrev pub moduli_from : (low : ℕ) → List ℕ → List ℕ
moduli_from low moduli =
    map (λ i. if nat_lt (i + 1) low then 0 else slice_index moduli i)
    (range_with_len 0 (length moduli))

-- those of all fields that a node of that low has; a node of low 0 has all
abbrev pub fields_from : (all : Fields) → (low : ℕ) → Fields
fields_from all low = record {
  base = if low == 0 then all.base else 1;
  moduli = moduli_from low all.moduli;
}

-- the low of each node
abbrev pub lows_of : Plan → List ℕ
lows_of plan = map (plan_low plan) (range_with_len 0 (plan_nodes plan))

-- all fields: a plan's number, and these registers
abbrev pub all_over : Plan → (moduli : List ℕ) → Fields
all_over plan moduli = record { base = plan.base; moduli = moduli }

-- all fields of a plan's states
abbrev pub all_of : Plan → Fields
all_of plan = all_over plan (moduli_of plan.levels)

-- a shape of these registers over a plan's number
abbrev pub shape_over : Plan → (moduli : List ℕ) → Shape
shape_over plan moduli = record {
  depth = length moduli;
  fields =
      map (λ v. fields_from (all_over plan moduli) (plan_low plan v))
      (range_with_len 0 (plan_nodes plan));
}

-- the shape of a plan's states
abbrev pub shape_of : Plan → Shape
shape_of plan = shape_over plan (moduli_of plan.levels)

-- that of states with so many further registers of one modulus after the plan's
abbrev pub shape_with : Plan → (values count : ℕ) → Shape
shape_with plan values count = shape_over plan (moduli_of plan.levels ++ replicate count values)

-- fields with so many registers of one modulus after them
abbrev pub with_further : Fields → (values count : ℕ) → Fields
with_further fields values count =
    record { base = fields.base; moduli = fields.moduli ++ replicate count values }

-- all fields are there: each modulus is 2 to 2^40
pub record AreAll (all : Fields) : Type 0 where
  pub least : 2 ≤ all.base
  pub most : all.base ≤ 2 ^ 40
  pub moduli : All (λ modulus. (2 ≤ modulus) × (modulus ≤ 2 ^ 40)) all.moduli
