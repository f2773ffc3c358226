-- Whose lines are written of a configuration of a script's run.
use Rattle.std.specs.Prelude.{ℕ}
use Rattle.sync_types.specs.FaultSets.{is_in}
use Rattle.adversary_script.specs.Scripts.{Script}
use Rattle.adversary_script.specs.Eras.{faulty_at}
use Rattle.trace.specs.declared.headings.Heading.{Heading}

-- configuration t, node v, and whether it is faulty there
abbrev pub heading_of : Script → (t v : ℕ) → Heading
heading_of script t v = record { at = t; node = v; faulty = is_in (faulty_at script t) v }
