-- What a cell shows of a node's output, and the colours of outputs.
use Rattle.std.specs.Prelude.{ℕ, ◌+◌, ◌-◌, ◌*◌, ◌%◌, Option, Some, None}
use Rattle.picture_parts.specs.declared.faces.Face.{Face}
use Rattle.picture_parts.specs.declared.faces.Face.TheVariants as face

-- what a word of a row shows: a star stands for a faulty node
abbrev pub face_of : Option ℕ → Face
face_of None = face.Faulty
face_of (Some output) = face.Value output

-- How far an output is ahead of its configuration, modulo the modulus: as far in each
-- configuration, if the node counts.
abbrev pub lead_of : (modulus t output : ℕ) → ℕ
lead_of modulus t output = (output + (modulus - t % modulus)) % modulus

-- one of three parts of a lead's colour: neighbours differ a lot, and leads that have the same
-- three parts are more than a million apart
abbrev pub shade : (start turn size lead : ℕ) → ℕ
shade start turn size lead = 128 + (lead % size * turn + start) % size
