-- Whether a slot may end, by the numbers that a play and its script lend.
use Rattle.std.proofs.Common.{◌≡◌, ℕ, Bool, sym, ap, ap₂, ◌∙◌}
use Rattle.counter_core.specs.Meanings.{Meaning}
use Rattle.adversary_script.specs.Scripts.{Script}
use Rattle.layer_runner.specs.SlotTexts.{may_end_at}

pub may_end_is : (counter : Meaning) (script lent : Script) (q c bound at : ℕ) (may : Bool)
    → may ≡ may_end_at bound lent q at → bound ≡ counter.bound → lent ≡ script → at ≡ c
    → may_end_at counter.bound script q c ≡ may
may_end_is counter script lent q c bound at may is bound_is lent_is at_is =
    sym
    (is ∙ ap (λ b. may_end_at b lent q at) bound_is
    ∙ ap₂ (λ (s : Script) (c : ℕ). may_end_at counter.bound s q c) lent_is at_is)
