-- Worked values of the definitions, by computation.
use Rattle.std.proofs.Common.{◌≡◌, ℕ, ◌+◌, ◌^◌, List, [], ◌∷◌, Option, Some, None, refl}
use Rattle.sync_types.specs.declared.answers.Premise.{Premise}
use Rattle.sync_types.specs.declared.answers.Premise.TheVariants.{Limit, Blocks, Modulus, Quorum}
use Rattle.sync_types.specs.declared.answers.Premise.TheVariants.{Share, Multiple}
use Rattle.construction.specs.Widths.{width}
use Rattle.construction.specs.Plans.{Level}
use Rattle.plan_numbers.specs.Numbers.{line, below_of, numbers_over, numbers_of}
use Rattle.plan_numbers.specs.Premises.{base_premise, first_premise, LevelsAccepted}

-- ---- bases

base_five : base_premise 5 ≡ None
base_five = refl

base_two : base_premise 2 ≡ None
base_two = refl

base_one : base_premise 1 ≡ Some Modulus
base_one = refl

base_largest : base_premise (2 ^ 40) ≡ None
base_largest = refl

base_too_large : base_premise (2 ^ 40 + 1) ≡ Some Limit
base_too_large = refl

-- ---- levels over the base 2304

abbrev over : ℕ → List Level → Level → Option Premise
over base levels level = first_premise (below_of base levels) level

four_blocks : over 2304 [] (line 4 1 10 0) ≡ None
four_blocks = refl

three_blocks_bear_no_fault : over 2304 [] (line 3 1 10 0) ≡ Some Quorum
three_blocks_bear_no_fault = refl

base_is_no_multiple : over 2303 [] (line 4 1 10 0) ≡ Some Multiple
base_is_no_multiple = refl

two_blocks : over 2304 [] (line 2 0 10 0) ≡ Some Blocks
two_blocks = refl

seventeen_blocks : over 2304 [] (line 17 0 10 0) ≡ Some Limit
seventeen_blocks = refl

modulus_one : over 2304 [] (line 4 1 1 0) ≡ Some Modulus
modulus_one = refl

sixteen_blocks : over (2 ^ 40) [] (line 16 0 10 0) ≡ Some Multiple
sixteen_blocks = refl

at_the_limits : over 2304 [] (line 16 85 (2 ^ 40) 0) ≡ Some Quorum
at_the_limits = refl

more_than_the_blocks_share : over 2304 (line 4 1 4608 0 ∷ []) (line 4 4 10 0) ≡ Some Share
more_than_the_blocks_share = refl

-- ---- the numbers of three levels

abbrev three : List Level
three = line 3 7 10 0 ∷ line 3 3 1728 0 ∷ line 4 1 960 0 ∷ []

third_numbers : numbers_over (below_of 2304 (line 3 3 1728 0 ∷ line 4 1 960 0 ∷ [])) (line 3 7 10 0)
    ≡ record {
      blocks = 3;
      leaders = 2;
      nodes = 36;
      faults = 7;
      beat = 27;
      span = 1728;
      modulus = 10;
      spares = 0;
      bound = 4992;
      bits = 40;
    }
unfolding width
third_numbers = refl

first_numbers : numbers_of 960 (line 3 0 10 0 ∷ [])
    ≡ record {
      blocks = 3;
      leaders = 2;
      nodes = 3;
      faults = 0;
      beat = 6;
      span = 384;
      modulus = 10;
      spares = 0;
      bound = 384;
      bits = 15;
    } ∷ []
unfolding width
first_numbers = refl

three_accepted : LevelsAccepted 2304 three
three_accepted = (((refl, refl), refl), refl)

-- ---- spare nodes

one_spare_bears_a_fault : over 576 [] (line 3 1 10 1) ≡ None
one_spare_bears_a_fault = refl

without_it_none : over 576 [] (line 3 1 10 0) ≡ Some Quorum
without_it_none = refl

too_many_spares : over 576 [] (line 3 1 10 254) ≡ Some Limit
too_many_spares = refl

spared_numbers : numbers_of 576 (line 3 1 10 1 ∷ [])
    ≡ record {
      blocks = 3;
      leaders = 2;
      nodes = 4;
      faults = 1;
      beat = 9;
      span = 576;
      modulus = 10;
      spares = 1;
      bound = 576;
      bits = 15;
    } ∷ []
unfolding width
spared_numbers = refl
