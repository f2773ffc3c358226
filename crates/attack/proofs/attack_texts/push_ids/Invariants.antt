use Rattle.std.proofs.Common.{◌≡◌, ◌++◌, take}
use Rattle.std.specs.List.{flat_map}
use Rattle.attack.specs.AttackTexts.{spaced}
use Rattle.attack.proofs.attack_texts.push_ids.Given as goal

abbrev pub invariant-loop-id : goal.invariant-loop-id
invariant-loop-id l =
    l.out.items ≡ l.fn.out.items ++ flat_map spaced (take l.id-index l.ids)
