-- The version of a table text that is being read.
use Rattle.std.specs.Prelude.{◌≤◌, ⊤}
use Rattle.plan_certificate.specs.declared.table_stages.TableStage.{TableStage}
use Rattle.plan_certificate.specs.declared.table_stages.TableStage.TheVariants.{Begun}

-- it is 1 or 2
abbrev pub HasVersion : TableStage → Type 0
HasVersion (Begun version) = (1 ≤ version) × (version ≤ 2)
HasVersion other = ⊤
