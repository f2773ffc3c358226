use Rattle.std.proofs.Common.{◌≡◌, ◌++◌, take}
use Rattle.std.specs.List.{flat_map}
use Rattle.attack.specs.AttackTexts.{lie_text}
use Rattle.attack.proofs.attack_texts.push_lies.Given as goal

abbrev pub invariant-loop-lie : goal.invariant-loop-lie
invariant-loop-lie g l =
    l.out.items
    ≡ l.fn.out.items
    ++ flat_map (lie_text (g.M.Machine.machine l.machine)) (take l.lie-index l.lies)
