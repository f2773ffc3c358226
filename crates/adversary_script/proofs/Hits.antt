-- Where an era begins, nodes are put into the states of that era's start lines.
use Rattle.std.proofs.Common.{◌≡◌, ℕ, zero, suc, ◌<◌, ◌≤◌, List, [], ◌∷◌, length, map, get_or}
use Rattle.std.proofs.Common.{false, eqb, refl, arith}
use Rattle.std.specs.List.{find}
use Rattle.std.specs.Option.{option_and_then}
use Rattle.std.specs.List.Sorted.{IsStrictlyIncreasing}
use Rattle.std.proofs.lemmas.Bool.{eq-eqb, ne_eqb}
use Rattle.std.proofs.lemmas.List.{length-map}
use Rattle.adversary_script.specs.Scripts.{Era, Script, firsts}
use Rattle.adversary_script.specs.Eras.{first_of_era, starts_of_era}
use Rattle.adversary_script.specs.Lookup.{start_in, hit_at}
use Rattle.adversary_script.proofs.EraLists.{tail_rises, above_first}

-- among eras that rise, the one that begins with configuration t is the one that is found
found : (before t : ℕ) (eras : List Era) (v i : ℕ)
    → IsStrictlyIncreasing (before ∷ map (λ (era : Era). era.first) eras) → i < length eras
    → get_or (map (λ (era : Era). era.first) eras) i 0 ≡ t
    → option_and_then (λ (era : Era). start_in era.starts v) (find (λ era. eqb era.first t) eras) ≡
    start_in (get_or (map (λ (era : Era). era.starts) eras) i []) v
found before t [] v i rises lt is = absurd (omega arith)
found before t (era ∷ eras) v zero rises lt is = rw (eq-eqb era.first t is) refl
found before t (era ∷ eras) v (suc i) rises lt is =
    let later : era.first < get_or (map (λ (era : Era). era.first) eras) i 0 = above_first era.first
    (map (λ (era : Era). era.first) eras) i
    (tail_rises before (era.first ∷ map (λ (era : Era). era.first) eras) rises)
    (omega (arith, length-map eras (λ (era : Era). era.first))) in
    let other : eqb era.first t ≡ false =
    ne_eqb era.first t (λ same. absurd (omega (arith, later, is, same))) in
    rw other (found era.first t eras v i
    (tail_rises before (era.first ∷ map (λ (era : Era). era.first) eras) rises) (omega arith)
    is)

pub hit_is : (s : Script) (t v j : ℕ) → IsStrictlyIncreasing (firsts s) → 1 ≤ j → j ≤ length s.eras
    → first_of_era s j ≡ t → hit_at s t v ≡ start_in (starts_of_era s j) v
hit_is s t v zero rises further within is = absurd (omega arith)
hit_is s t v (suc i) rises further within is = found 0 t s.eras v i rises (omega arith) is
