use Rattle.promises.proofs.DemoTexts.{demo_is_accepted, demo_is_answered, liars_are_spread}
use Rattle.promises.proofs.laws.demo_is_answered.Goals as goal

pub returns : goal.returns
returns c =
    record {
      accepted = demo_is_accepted;
      answered = demo_is_answered;
      liars = liars_are_spread;
    }
