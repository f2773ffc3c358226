-- Worked values of the tries of a search: the first ones are drawn afresh, whatever was found, and
-- each further one is a small change of the best one so far.
use Rattle.std.specs.Prelude.{◌≡◌, ℕ, [], ◌∷◌, Some, None}
use Rattle.attack.specs.declared.kinds.Kind.TheVariants as kind
use Rattle.attack.specs.AttacksWorked.{noisy, old}
use Rattle.attack.specs.Drawings.{Drawing, made_by}
use Rattle.attack.specs.Draws.{drawn}
use Rattle.attack.specs.Kinds.{fresh}

-- two tries are drawn afresh
abbrev pub two_fresh : (seed : ℕ) → Drawing
two_fresh seed = record {
  nodes = 7;
  faults = 2;
  rounds = 100;
  seed = seed;
  fresh = 2;
  kinds = kind.Left ∷ kind.Noise ∷ [];
}

-- The kinds come in turn. With seed 5 the third try has another key than the best one, and with
-- seed 10 one lie less.
pub record TriesAreWorked : Type 0 where
  pub first : made_by (two_fresh 5) 0 None ≡ fresh kind.Left (drawn 5 0) 7 2 100
  pub second : made_by (two_fresh 5) 1 (Some old) ≡ fresh kind.Noise (drawn 5 1) 7 2 100
  pub third : made_by (two_fresh 5) 2 (Some old) ≡ record old { key = 0xa031_b6e8_8887_a1e2 }
  pub other : made_by (two_fresh 10) 2 (Some old) ≡ record old { lies = noisy ∷ [] }
  pub none_yet : made_by (two_fresh 5) 2 None ≡ fresh kind.Left (drawn 5 2) 7 2 100
