use Rattle.std.proofs.Common.{ℕ, ◌+◌, ◌-◌, ◌%◌, ap, ap₂, ◌∙◌}
use Rattle.machine_runner.proofs.Counted.{counted_shows}
use Rattle.machine_runner.proofs.words.Shown.new.Goals as goal

pub invariant_of-result : goal.invariant_of-result
invariant_of-result g c =
    let modulus = c.modulus.ensures
    ∙ ap (λ m. (g.M.Machine.machine m).modulus) c.machine.ensures in
    let output = ap₂ (λ (at modulus : ℕ). (c.lead_output.result + (c.args.t - at)) % modulus)
    c.at.ensures modulus in
    record {
      shows = counted_shows g.M.Machine.machine c.args.runner.now c.args.t c.requires.knows
          c.facts.ensures.sound c.facts.ensures.read c.requires.from c.requires.within
          c.lead_output.result c.lead_output.ensures.shown _ output;
    }
