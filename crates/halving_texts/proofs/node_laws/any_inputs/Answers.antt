use Rattle.halving_texts.proofs.node_laws.any_inputs.Goals as goal

pub returns : goal.returns
returns c = record {
  connect = c.any_inputs_connect.ensures;
  lose = c.any_inputs_lose.ensures;
  restart = c.any_inputs_restart.ensures;
  resume = c.any_inputs_resume.ensures;
}
