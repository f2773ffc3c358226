-- The stage of the reader of a certificate, and what a line of the head makes of it.
use Rattle.std.specs.Prelude.{◌≡◌, Result, Ok, Err}
use Rattle.texts.specs.Parts.{goes, ends, refuses}
use Rattle.edge_io.specs.declared.taking.TakeError.{TakeError}
use Rattle.edge_io.specs.declared.taking.TakeError.TheVariants as take
use Rattle.run_checker.specs.Checking.{Stage, Onward, unread, begun, planned}
use Rattle.run_checker.specs.Bodies.{stage_of}
use Rattle.run_checker.specs.declared.planned.Planned.{Planned}
use Rattle.run_checker.specs.declared.check_lines.Head.{Head}
use Rattle.run_checker.specs.declared.check_lines.Head.TheVariants as head
use Rattle.run_checker.specs.declared.check_lines.Phase.{Phase}
use Rattle.run_checker.specs.declared.check_lines.Phase.TheVariants as phase

abbrev pub planned_seen : Planned → Stage
planned_seen p = planned p.version.number p.plan

abbrev pub head_seen : Head → Stage
head_seen head.Unread = unread
head_seen (head.Begun version) = begun version.number
head_seen (head.Planned p) = planned_seen p

abbrev pub phase_seen : Phase → Stage
phase_seen (phase.Head h) = head_seen h
phase_seen (phase.Inside body) = stage_of body

-- what a line of the head leads to; want of memory says nothing
abbrev pub Enters : Onward → Result Phase (TakeError (Unit {0})) → Type 0
Enters next (Err take.NoMemory) = Unit {0}
Enters (goes stage) (Ok new) = phase_seen new ≡ stage
Enters (goes stage) (Err (take.Refused r)) = ⊥
Enters (ends v) result = ⊥
Enters (refuses r) (Ok new) = ⊥
Enters (refuses r) (Err (take.Refused e)) = Unit {0}
