use Rattle.std.proofs.Common.{◌≡◌, ◌++◌, take}
use Rattle.std.specs.List.{flat_map}
use Rattle.attack.specs.AttackTexts.{start_text}
use Rattle.attack.proofs.attack_texts.push_starts.Given as goal

abbrev pub invariant-loop-start : goal.invariant-loop-start
invariant-loop-start g l =
    l.out.items
    ≡ l.fn.out.items
    ++ flat_map (start_text (g.M.Machine.machine l.machine)) (take l.start-index l.starts)
