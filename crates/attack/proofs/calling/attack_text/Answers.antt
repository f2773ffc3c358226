use Rattle.std.proofs.Common.{ℕ, List, ◌++◌, map, subst, ◌∙◌}
use Rattle.std.specs.Prelude.{string_bytes}
use Rattle.texts.specs.Growth.{Cut}
use Rattle.attack.specs.declared.kinds.Kind.{Kind}
use Rattle.attack.specs.Found.{Finds}
use Rattle.attack.specs.PlanTexts.{text_of}
use Rattle.attack.proofs.WrittenAttacks.{faulted, refused}
use Rattle.attack.proofs.calling.attack_text.Goals as goal

pub returns-in_err-plan : goal.returns-in_err-plan
returns-in_err-plan g c =
    refused c.args.numbers (map string_bytes c.args.words.now) c.args.input.now _ _ _
    c.in_err-plan.ensures.fails c.from_residual-in_err-plan.ensures.1

pub returns-in_err-write_both : goal.returns-in_err-write_both
returns-in_err-write_both g c =
    let plan = c.in_ok-plan.plan in
    let text = c.in_ok-text.text.items in
    let found = c.in_ok-text.found in
    faulted c.args.numbers (map string_bytes c.args.words.now) c.args.input.now _ _ _
    c.from_residual-in_err-write_both.ensures.1
    (record {
      found = found;
      attacked = record {
        plan = plan;
        read = c.in_ok-plan.ensures.read;
        accepted = c.in_ok-plan.ensures.accepted;
        attack = text;
        finds = subst (λ (kinds : List Kind). Finds plan c.args.numbers kinds text found)
            (c.deref.ensures.value ∙ c.in_ok-kinds.ensures) c.in_ok-text.ensures;
        has = subst (λ (t : List ℕ). Cut (text_of plan ++ t) (g.K.Sink.told c.args.sink.now)
            (g.K.Sink.told c.write_both.new.sink)) c.deref-2.ensures.value
            c.in_err-write_both.ensures;
      };
    })
