use Rattle.std.proofs.Common.{List, ℕ, ◌++◌, ap, ◌∙◌, codes}
use Rattle.std.specs.List.{flat_map}
use Rattle.std.proofs.lemmas.List.{append_assoc}
use Rattle.std.proofs.lemmas.Result.{on_ok_weaker}
use Rattle.attack.specs.AttackTexts.{spaced}
use Rattle.attack.proofs.attack_texts.push_faulty.Goals as goal

pub returns : goal.returns
returns c =
    let ids : List ℕ = flat_map spaced c.args.faulty.now in
    on_ok_weaker c.push_ids.result
    (λ e. e ∙ (ap (λ (text : List ℕ). text ++ ids) c.in_ok-push_text.ensures
    ∙ append_assoc c.args.out.now.items (codes "script 1\nfaulty") ids))
    c.push_ids.ensures
