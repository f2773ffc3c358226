use Rattle.attack.proofs.search_laws.fresh_attacks_are_read.Goals as goal
use Rattle.attack.proofs.FreshAttacks as law

pub returns : goal.returns
returns c = record {
  read = law.fresh_is_read;
  found = law.searches_find;
  plans = law.plans_are_attacked;
}
