-- Worked values: what words ask for, and a line of each construction, letter by letter.
use Rattle.std.specs.Prelude.{◌≡◌, ℕ, List, [], ◌∷◌, Some, None, codes}
use Rattle.choose.specs.declared.any_plans.AnyPlan.TheVariants.{Boosting, Halving}
use Rattle.choose.specs.declared.requests.Request.{Request}
use Rattle.choose.specs.declared.requests.Request.TheVariants as request
use Rattle.choose.specs.declared.requests.Scope.TheVariants as scope
use Rattle.choose.specs.FrontsOfBothText.{any_line}
use Rattle.choose.specs.Requests.{request_of}

abbrev pub Asks : (words : List (List ℕ)) → Request → Type 0
Asks words asked = request_of words ≡ Some asked

abbrev pub AsksNothing : (words : List (List ℕ)) → Type 0
AsksNothing words = request_of words ≡ None

-- The first word is FAULTS, the second one MODULUS, and MOST_NODES is 256 if it is left out.
pub record WordsAreWorked : Type 0 where
  pub two : Asks (codes "3" ∷ codes "10" ∷ [])
      (request.Front scope.Both (record { faults = 3; modulus = 10; most = 256 }))
  pub three : Asks (codes "3" ∷ codes "10" ∷ codes "40" ∷ [])
      (request.Front scope.Both (record { faults = 3; modulus = 10; most = 40 }))
  pub last : Asks (codes "3" ∷ codes "10" ∷ codes "plan" ∷ [])
      (request.LastPlan scope.Both (record { faults = 3; modulus = 10; most = 256 }))
  pub boosting : Asks (codes "boosting" ∷ codes "3" ∷ codes "10" ∷ codes "40" ∷ codes "plan" ∷ [])
      (request.LastPlan scope.Boosting (record { faults = 3; modulus = 10; most = 40 }))
  pub within : Asks (codes "within" ∷ codes "40" ∷ codes "100" ∷ codes "10" ∷ [])
      (request.Most (record { nodes = 40; bound = 100; modulus = 10 }))
  pub within_plan : Asks
      (codes "within" ∷ codes "40" ∷ codes "100" ∷ codes "10" ∷ codes "plan" ∷ [])
      (request.MostPlan (record { nodes = 40; bound = 100; modulus = 10 }))
  pub many_faults : AsksNothing (codes "86" ∷ codes "10" ∷ [])
  pub small_modulus : AsksNothing (codes "3" ∷ codes "1" ∷ [])
  pub great_modulus : AsksNothing (codes "3" ∷ codes "1099511627777" ∷ [])
  pub no_nodes : AsksNothing (codes "3" ∷ codes "10" ∷ codes "0" ∷ [])
  pub one : AsksNothing (codes "3" ∷ [])
  pub letters : AsksNothing (codes "3" ∷ codes "ten" ∷ [])

-- four nodes of each construction, of which one may be faulty, that count modulo 10
pub record LinesAreWorked : Type 0 where
  pub boosting : any_line (Boosting (record {
    version = 2;
    base = 576;
    levels = record { blocks = 3; faults = 1; modulus = 10; spares = 1 } ∷ [];
  }))
      ≡ codes "nodes 4 bound 576 bytes 2 levels 1 plan 2;base 576;level 3 1 10 spare 1;end\n"
  pub halving : any_line (Halving (record { nodes = 4; faults = 1; modulus = 10 }))
      ≡ codes "nodes 4 bound 16 bytes 2 levels 1 halving 1;group 4 1 10;end\n"

pub record ChoicesAreWorked : Type 0 where
  pub words : WordsAreWorked
  pub lines : LinesAreWorked
