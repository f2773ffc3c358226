-- Worked values: the first try of each kind on a small plan, letter by letter, and small changes.
use Rattle.std.specs.Prelude.{◌≡◌, ℕ, List, [], ◌∷◌, ◌++◌, map, None, Ok}
use Rattle.std.specs.Prelude.{codes}
use Rattle.std.specs.List.{range_with_len}
use Rattle.attack.specs.declared.candidates.Say.TheVariants as say
use Rattle.attack.specs.declared.candidates.LieLine.{LieLine}
use Rattle.attack.specs.declared.changes.Change.TheVariants as change
use Rattle.attack.specs.declared.kinds.Kind.{Kind}
use Rattle.attack.specs.declared.kinds.Kind.TheVariants as kind
use Rattle.attack.specs.declared.plans.AnyPlan.{AnyPlan}
use Rattle.attack.specs.declared.plans.AnyPlan.TheVariants as plan
use Rattle.attack.specs.Attacks.{Attack}
use Rattle.attack.specs.AttackTexts.{attack_text}
use Rattle.attack.specs.AttackScripts.{attack_script}
use Rattle.attack.specs.Changes.{change_of, changed}
use Rattle.attack.specs.Found.{made}
use Rattle.attack.specs.PlanTexts.{machine_in, shape_in, first_line_of}
use Rattle.attack.specs.Tried.{script_in}

-- four nodes, one of which may be faulty, and seven, two of which may be, that count modulo 10
abbrev pub four : AnyPlan
four = plan.Boosting (record {
  version = 2;
  base = 576;
  levels = record { blocks = 3; faults = 1; modulus = 10; spares = 1 } ∷ [];
})

abbrev pub seven : AnyPlan
seven = plan.Halving (record { nodes = 7; faults = 2; modulus = 10 })

-- ---- texts

-- a text with the zeros of a key
abbrev pub around_zeros : (front rest : List ℕ) → List ℕ
around_zeros front rest =
    front ++ (codes "000000000000000000000000000000000000000000000000" ++ rest)

-- An attack has this text on a plan, and the text is read as its script.
pub record IsSpelled (plan : AnyPlan) (attack : Attack) (text : List ℕ) : Type 0 where
  pub is : attack_text (machine_in plan) attack ≡ text
  pub read : script_in (machine_in plan) (shape_in plan) (first_line_of plan) text
      ≡ Ok (attack_script (shape_in plan) attack)

-- what `attack SEED 1 KIND` tries on a plan
abbrev pub first_try : AnyPlan → (seed : ℕ) → Kind → Attack
first_try plan seed kind = made plan (record { seed = seed; runs = 1 }) (kind ∷ []) 0 None

abbrev pub IsFirstTry : AnyPlan → (seed : ℕ) → Kind → (text : List ℕ) → Type 0
IsFirstTry plan seed kind text = IsSpelled plan (first_try plan seed kind) text

-- each kind, with numbers of its own
pub record KindsAreSpelled : Type 0 where
  pub noise : IsFirstTry seven 1 kind.Noise
      (around_zeros (codes "script 1\nfaulty 1 5\nseed 5e41ab087439611e")
      (codes "\nstart noise\nlie 0 29 1 to 0 6 noise\nlie 0 29 5 to 0 6 noise\n"
      ++ codes "rounds 30\nshow 30 30\nend\n"))
  pub frozen : IsFirstTry four 3 kind.Frozen
      (around_zeros (codes "script 1\nfaulty 3\nseed bccdfd9c96a18897")
      (codes "\nstart noise\nlie 0 575 3 to 0 3 hex 98\nrounds 576\nshow 576 576\nend\n"))
  pub split : IsFirstTry four 10 kind.Split
      (around_zeros (codes "script 1\nfaulty 0\nseed 17e757f16cfb68cf")
      (codes "\nstart noise\nlie 0 575 0 to 0 2 hex 86e8\nlie 0 575 0 to 0 3 hex 2caa\n"
      ++ codes "rounds 576\nshow 576 576\nend\n"))
  pub king : IsFirstTry four 4 kind.King
      (around_zeros (codes "script 1\nfaulty 1\nseed a0567ef80dedf5cb")
      (codes "\nstart noise\nlie 423 436 1 to 0 3 noise\nlie 351 575 1 to 0 3 noise\n"
      ++ codes "lie 234 234 1 to 0 3 noise\nrounds 576\nshow 576 576\nend\n"))
  pub shadow : IsFirstTry four 10 kind.Shadow
      (around_zeros (codes "script 1\nfaulty 0\nseed 17e757f16cfb68cf")
      (codes "\nstart noise\nlie 0 575 0 to 2 2 shift 3\nlie 0 575 0 to 0 3 shift 1\n"
      ++ codes "lie 0 575 0 to 2 3 copy 2\nrounds 576\nshow 576 576\nend\n"))
  pub left : IsFirstTry seven 1 kind.Left
      (around_zeros (codes "script 1\nfaulty 0 1\nseed 5e41ab087439611e")
      (codes "\nstart noise\nlie 0 29 0 to 0 4 shift 8\nlie 0 29 0 to 0 6 shift 0\n"
      ++ (codes "lie 0 29 1 to 0 4 shift 0\nlie 0 29 1 to 0 6 shift 3\n"
      ++ codes "rounds 30\nshow 30 30\nend\n")))
  pub right : IsFirstTry four 1 kind.Right
      (around_zeros (codes "script 1\nfaulty 1\nseed 5e41ab087439611e")
      (codes "\nstart noise\nlie 147 160 1 to 0 3 noise\nlie 0 575 1 to 0 3 hex 041e\n"
      ++ codes "rounds 576\nshow 576 576\nend\n"))

-- an attack with starts, and with a lie of each content
abbrev pub mixed_attack : Attack
mixed_attack = record {
  faulty = 1 ∷ [];
  key = 5;
  starts = record { node = 0; seed = 7 } ∷ record { node = 3; seed = 8 } ∷ [];
  lies =
      record { first = 0; last = 99; sender = 1; from = 0; to = 3; says = say.Noise }
      ∷ record { first = 2; last = 4; sender = 1; from = 2; to = 2; says = say.Copy 3 }
      ∷ record { first = 5; last = 5; sender = 1; from = 0; to = 1; says = say.Drawn 9 }
      ∷ record { first = 7; last = 90; sender = 1; from = 3; to = 3; says = say.Shift 6 } ∷ [];
  rounds = 100;
  first = 97;
  last = 99;
}

abbrev pub MixedIsSpelled : Type 0
MixedIsSpelled = IsSpelled four mixed_attack
    (around_zeros (codes "script 1\nfaulty 1\nseed 0000000000000005")
    (codes "\nstart noise\nstart node 0 001c\nstart node 3 30\nlie 0 99 1 to 0 3 noise\n"
    ++ (codes "lie 2 4 1 to 2 2 copy 3\nlie 5 5 1 to 0 1 hex 6462\nlie 7 90 1 to 3 3 shift 6\n"
    ++ codes "rounds 100\nshow 97 99\nend\n")))

-- ---- changes

abbrev pub noisy : LieLine
noisy = record { first = 0; last = 99; sender = 1; from = 0; to = 6; says = say.Noise }

abbrev pub copying : LieLine
copying = record { first = 7; last = 9; sender = 4; from = 0; to = 3; says = say.Copy 2 }

abbrev pub old : Attack
old = record {
  faulty = 1 ∷ 4 ∷ [];
  key = 5;
  starts = record { node = 2; seed = 8 } ∷ [];
  lies = noisy ∷ copying ∷ [];
  rounds = 100;
  first = 100;
  last = 100;
}

-- the change that a seed draws makes that of the attack, on seven nodes
abbrev pub IsChangedTo : (seed : ℕ) → Attack → Type 0
IsChangedTo seed new = changed seed 7 100 old ≡ new

-- Which change each of sixteen numbers is. And changes that seeds draw: another key; another start
-- of a node, a further one, and one less; another faulty node, which has the lie of the old one; a
-- lie more, and one less; and a lie in other rounds, and one with another content.
pub record ChangesAreWorked : Type 0 where
  pub sixteen : map change_of (range_with_len 0 16)
      ≡ change.Key ∷ change.Key ∷ change.Key ∷ change.Start ∷ change.Start ∷ change.Start
      ∷ change.NoStart ∷ change.Faulty ∷ change.Faulty ∷ change.More ∷ change.More
      ∷ change.Less ∷ change.Vary ∷ change.Vary ∷ change.Vary ∷ change.Vary ∷ []
  pub key : IsChangedTo 1 (record old { key = 0xbeeb_8da1_658e_ec67 })
  pub start : IsChangedTo 9
      (record old { starts = record { node = 2; seed = 0x43ec_2be5_44b5_89b6 } ∷ [] })
  pub further : IsChangedTo 19 (record old {
    starts =
        record { node = 1; seed = 0x5d15_3224_2fee_acdd } ∷ record { node = 2; seed = 8 } ∷ [];
  })
  pub no_start : IsChangedTo 8 (record old { starts = [] })
  pub faulty : IsChangedTo 16
      (record old { faulty = 1 ∷ 5 ∷ []; lies = noisy ∷ record copying { sender = 5 } ∷ [] })
  pub more : IsChangedTo 4 (record old {
    lies =
        record { first = 36; last = 36; sender = 1; from = 3; to = 3; says = say.Shift 3 }
        ∷ noisy ∷ copying ∷ [];
  })
  pub less : IsChangedTo 35 (record old { lies = copying ∷ [] })
  pub rounds : IsChangedTo 30
      (record old { lies = record noisy { first = 23; last = 99 } ∷ copying ∷ [] })
  pub content : IsChangedTo 2
      (record old { lies = record noisy { says = say.Drawn 0x6a46_27cd_fbea_4a46 } ∷ copying ∷ [] })

-- Each of these is so by computation.
pub record AttacksAreWorked : Type 0 where
  pub kinds : KindsAreSpelled
  pub mixed : MixedIsSpelled
  pub changes : ChangesAreWorked
