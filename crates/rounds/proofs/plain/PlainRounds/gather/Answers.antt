use Rattle.std.proofs.Common.{◌≡◌, ℕ, ◌<◌, List, length, All, sym, ap, ◌∙◌, subst}
use Rattle.std.proofs.lemmas.List.{with_items_is}
use Rattle.sync_types.specs.States.{State}
use Rattle.construction.specs.Steps.{state_of}
use Rattle.rounds.proofs.plain.PlainRounds.gather.Goals as goal

pub returns-clause-stands : goal.returns-clause-stands
returns-clause-stands g c =
    let laid = with_items_is c.args.shared.now.heard c.lay.new.heard
    (c.lay.auto.heard ∙ c.deref_mut.ensures.len) in
    let is = laid ∙ c.lay.ensures.states in
    record {
      room = record {
        size = ap (λ (xs : List State). length xs) is ∙ c.requires.config.size;
        deep = subst (λ (xs : List State).
            All (λ s. length s.registers ≡ c.args.states.now.shape.depth) xs) (sym laid)
            c.lay.ensures.deep;
        work = c.requires.made.work;
      };
      fronts = c.requires.config;
      rising = c.facts.ensures.rising;
      ids = subst (λ (n : ℕ). All (λ id. id < n) c.args.faulty.now.ids) c.requires.nodes
          c.facts.ensures.below;
      honest = λ u lt ok. ap (λ (xs : List State). state_of xs u) is;
    }
