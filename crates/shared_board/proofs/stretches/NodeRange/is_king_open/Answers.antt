use Rattle.std.proofs.Common.{inl, ◌∙◌, sym}
use Rattle.phase_king.proofs.LockedRegisters.{locked_by}
use Rattle.shared_board.proofs.stretches.NodeRange.is_king_open.Goals as goal

-- the register is locked
pub returns-then-is_some : goal.returns-then-is_some
returns-then-is_some c =
    λ _. inl (locked_by c.args.own c.if-own.true (sym c.is_some.ensures ∙ c.if-is_some.true))
