use Rattle.std.proofs.Common.{length, replicate, ap, ◌∙◌}
use Rattle.std.proofs.lemmas.List.{length-replicate}
use Rattle.sync_types.specs.States.{State, zero_state, zero_register}
use Rattle.shared_board.specs.Sharing.{Shares}
use Rattle.round_runner.proofs.Zeros.{zero_lies}
use Rattle.round_runner.proofs.told_steps.StepBuffers.new.Goals as goal

pub returns : goal.returns
returns c = record {
  lies = zero_lies c.args.tower.now c.tell.ensures c.args.depth c.requires _
      (c.in_ok-zeros.ensures
      ∙ ap (λ n. replicate n (zero_state c.args.depth)) c.nodes.ensures);
  shared = ap (λ (s : Shares). s.plan) c.in_ok-shared.ensures;
  out = ap (λ (s : State). length s.registers) c.in_ok-zero.ensures
      ∙ length-replicate c.args.depth zero_register;
}
