-- Worked values of what words ask for.
use Rattle.std.specs.Prelude.{◌≡◌, ℕ, List, [], ◌∷◌, Some, None, codes}
use Rattle.attack.specs.Requests.{request_of, kind_words, named_kinds}
use Rattle.attack.specs.declared.kinds.Kind.TheVariants as kind

abbrev pub Asks : (words : List (List ℕ)) → (seed runs : ℕ) → Type 0
Asks words seed runs = request_of words ≡ Some (record { seed = seed; runs = runs })

abbrev pub AsksNothing : (words : List (List ℕ)) → Type 0
AsksNothing words = request_of words ≡ None

-- the words of each kind, in their order
abbrev pub kinds_named : List (List ℕ)
kinds_named =
    codes "noise" ∷ codes "frozen" ∷ codes "split" ∷ codes "king" ∷ codes "shadow"
    ∷ codes "left" ∷ codes "right" ∷ []

-- Two numbers ask for a search, and words of kinds may stand after them. A seed has at most 15
-- digits, and there are 1 to 1,000,000 runs. Each word of a kind names it.
pub record RequestsAreWorked : Type 0 where
  pub two : Asks (codes "7" ∷ codes "100" ∷ []) 7 100
  pub greatest : Asks (codes "999999999999999" ∷ codes "1000000" ∷ []) 999999999999999 1000000
  pub with_kind : Asks (codes "0" ∷ codes "1" ∷ codes "left" ∷ []) 0 1
  pub with_kinds : Asks (codes "0" ∷ codes "1" ∷ kinds_named) 0 1
  pub named : named_kinds (kind_words (codes "0" ∷ codes "1" ∷ kinds_named))
      ≡ kind.Noise ∷ kind.Frozen ∷ kind.Split ∷ kind.King ∷ kind.Shadow ∷ kind.Left ∷ kind.Right
      ∷ []
  pub one : AsksNothing (codes "7" ∷ [])
  pub long_seed : AsksNothing (codes "1000000000000000" ∷ codes "1" ∷ [])
  pub no_runs : AsksNothing (codes "7" ∷ codes "0" ∷ [])
  pub many_runs : AsksNothing (codes "7" ∷ codes "1000001" ∷ [])
  pub letters : AsksNothing (codes "seven" ∷ codes "1" ∷ [])
  pub no_kind : AsksNothing (codes "7" ∷ codes "1" ∷ codes "half" ∷ [])
