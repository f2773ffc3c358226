-- If an era begins, one is found, and else none.
use Rattle.std.proofs.Common.{◌≡◌, ℕ, zero, suc, ◌<◌, Bool, true, false, cond, eqb, List, []}
use Rattle.std.proofs.Common.{◌∷◌, length, map, get_or, Some, None, find, refl, sym}
use Rattle.std.proofs.Common.{◌∙◌, arith}
use Rattle.std.proofs.lemmas.Bool.{eqb-true, eq-eqb, true≢false}
use Rattle.adversary_script.specs.Scripts.{Era, Script}
use Rattle.machine_runner.specs.Beginnings.{BeginsAt}

abbrev first_is : ℕ → Era → Bool
first_is x era = eqb era.first x

some_by : (x : ℕ) (era : Era) (eras : List Era) (b : Bool) → eqb era.first x ≡ b
    → (b ≡ false → (e : Era) × (find (first_is x) eras ≡ Some e))
    → (e : Era) × (cond b (Some era) (find (first_is x) eras) ≡ Some e)
some_by x era eras true is more = (era, refl)
some_by x era eras false is more = more refl

some_era : (x : ℕ) (eras : List Era) (i : ℕ) → i < length eras
    → get_or (map (λ (e : Era). e.first) eras) i 0 ≡ x
    → (e : Era) × (find (first_is x) eras ≡ Some e)
some_era x [] i lt is = absurd (omega arith)
some_era x (era ∷ eras) zero lt is =
    some_by x era eras (eqb era.first x) refl
    (λ other. absurd (true≢false (sym (eq-eqb era.first x is) ∙ other)))
some_era x (era ∷ eras) (suc i) lt is =
    some_by x era eras (eqb era.first x) refl (λ other. some_era x eras i (omega (arith, lt)) is)

none_by : (x : ℕ) (era : Era) (eras : List Era) (b : Bool) → eqb era.first x ≡ b → (b ≡ true → ⊥)
    → find (first_is x) eras ≡ None
    → cond b (Some era) (find (first_is x) eras) ≡ None
none_by x era eras true is not more = absurd (not refl)
none_by x era eras false is not more = more

no_era : (x : ℕ) (eras : List Era)
    → ((i : ℕ) → i < length eras → get_or (map (λ (e : Era). e.first) eras) i 0 ≡ x → ⊥)
    → find (first_is x) eras ≡ None
no_era x [] none = refl
no_era x (era ∷ eras) none =
    none_by x era eras (eqb era.first x) refl
    (λ here. none zero (omega arith) (eqb-true era.first x here))
    (no_era x eras (λ i lt is. none (suc i) (omega (arith, lt)) is))

pub begins_some : (s : Script) (x j : ℕ) → BeginsAt s x (Some j)
    → (e : Era) × (find (λ era. eqb era.first x) s.eras ≡ Some e)
begins_some s x zero h = absurd (omega (arith, h.0))
begins_some s x (suc i) h = some_era x s.eras i (omega (arith, h.1)) h.2

pub begins_none : (s : Script) (x : ℕ) → BeginsAt s x None
    → find (λ era. eqb era.first x) s.eras ≡ None
begins_none s x none =
    no_era x s.eras (λ i lt is. none (suc i) (omega arith) (omega (arith, lt)) is)
