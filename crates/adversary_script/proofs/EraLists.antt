-- The first configurations of eras, with one more era or one more start in the last one.
use Rattle.std.proofs.Common.{◌≡◌, ℕ, zero, suc, ◌+◌, ◌-◌, ◌<◌, ◌≤◌, List, [], ◌∷◌, ◌++◌, length}
use Rattle.std.proofs.Common.{map, get_or, set, Some, refl, sym, ap, subst, ◌∙◌, ◌||◌, cond, arith}
use Rattle.std.specs.Prelude.{All, nat_le, unwrap_or, slice_get}
use Rattle.std.specs.Option.{option_map}
use Rattle.std.specs.List.{count_by, list_any}
use Rattle.std.specs.List.Sorted.{IsStrictlyIncreasing}
use Rattle.std.proofs.lemmas.List.{map-append, length-map, get_or_default, get_or-map}
use Rattle.std.proofs.lemmas.Option.{slice_get-map, unwrap_or-slice_get, get_or_from_slice_get}
use Rattle.std.proofs.lemmas.List.Kept.{AllPairs-from_increasing}
use Rattle.std.proofs.lemmas.List.Sums.{sum_by-cons}
use Rattle.std.proofs.Math.Seq.{map-set_same}
use Rattle.sync_types.specs.FaultSets.{FaultIds, is_in}
use Rattle.sync_types.proofs.RisingIds.{rising_push}
use Rattle.state_codec.specs.Shapes.{Shape}
use Rattle.adversary_script.specs.Scripts.{Era, AreInRange}
use Rattle.adversary_script.specs.FaultySteps.{last_era}
use Rattle.adversary_script.specs.declared.parts.Era as kept
use Rattle.adversary_script.specs.Seen.{era_seen}

-- where the last era begins, or a if there is none
pub last_is : (a : ℕ) (eras : List Era)
    → unwrap_or (option_map (λ (era : Era). era.first) (last_era eras)) a ≡ get_or
    (a ∷ map (λ (era : Era). era.first) eras) (length eras) 0
last_is a [] = refl
last_is a (era ∷ eras) =
    let fs : List ℕ = map (λ (era : Era). era.first) (era ∷ eras) in
    let size = length-map eras (λ (era : Era). era.first) in
    let less : length (era ∷ eras) - 1 ≡ length eras = omega arith in
    let at : option_map (λ (era : Era). era.first) (last_era (era ∷ eras)) ≡ slice_get fs
    (length eras) = ap (λ i. option_map (λ (era : Era). era.first) (slice_get (era ∷ eras) i))
    less ∙ sym (slice_get-map (λ (era : Era). era.first) (era ∷ eras) (length eras)) in
    ap (λ o. unwrap_or o a) at ∙ unwrap_or-slice_get fs (length eras) a
    ∙ get_or_default fs (length eras) a 0 (omega (arith, size))

pub tail_rises : (a : ℕ) (xs : List ℕ) → IsStrictlyIncreasing (a ∷ xs) → IsStrictlyIncreasing xs
tail_rises a xs rises k lt =
    let next : suc k + 1 ≡ suc (k + 1) = omega arith in
    subst (λ m. get_or (a ∷ xs) (suc k) 0 < get_or (a ∷ xs) m 0) next (rises (suc k) (omega arith))

-- numbers that rise are at most the last
pub most_last : (a : ℕ) (xs : List ℕ) → IsStrictlyIncreasing (a ∷ xs) → (k d : ℕ)
    → k < length (a ∷ xs) → get_or (a ∷ xs) k d ≤ get_or (a ∷ xs) (length xs) 0
most_last a [] rises zero d lt = omega arith
most_last a [] rises (suc k) d lt = absurd (omega arith)
most_last a (b ∷ xs) rises zero d lt =
    let next : a < b = rises 0 (omega arith) in
    let rest = most_last b xs (tail_rises a (b ∷ xs) rises) 0 0 (omega arith) in
    omega arith
most_last a (b ∷ xs) rises (suc k) d lt =
    most_last b xs (tail_rises a (b ∷ xs) rises) k d (omega arith)

-- and above the first
pub above_first : (a : ℕ) (xs : List ℕ) (k : ℕ) → IsStrictlyIncreasing (a ∷ xs) → k < length xs
    → a < get_or xs k 0
above_first a xs k rises lt =
    AllPairs-from_increasing (a ∷ xs) rises 0 (suc k) 0 (omega arith) (omega arith)

-- the first configurations of eras, and that of one more
pub firsts_pushed : (eras : List Era) (era : Era)
    → IsStrictlyIncreasing (0 ∷ map (λ (era : Era). era.first) eras)
    → unwrap_or (option_map (λ (era : Era). era.first) (last_era eras)) 0 < era.first
    → IsStrictlyIncreasing (0 ∷ map (λ (era : Era). era.first) (eras ++ era ∷ []))
firsts_pushed eras era rises above =
    let size = length-map eras (λ (era : Era). era.first) in
    let firsts : List ℕ = 0 ∷ map (λ (era : Era). era.first) eras in
    let place : length firsts - 1 ≡ length eras = omega (arith, size) in
    rw (map-append (λ (era : Era). era.first) eras (era ∷ []))
    (rising_push firsts era.first rises (λ some. rw (place, ← last_is 0 eras) above))

-- one more start in the last era changes nothing else
pub same_with_start : {Y : Type 0} (f : Era → Y) (eras : List Era) (era new : Era)
    → last_era eras ≡ Some era → f new ≡ f era → map f (set eras (length eras - 1) new) ≡ map f eras
same_with_start f eras era new last same =
    map-set_same f eras (length eras - 1) new era
    (same ∙ ap f (sym (get_or_from_slice_get eras (length eras - 1) era era last)))

-- what stands for era j of the code's eras, after what stands for era 0
pub era_at : {Y : Type 0} (f : Era → Y) (zeroth d : Y) (eras : List kept.Era) (j : ℕ)
    (era : kept.Era) → 1 ≤ j → j ≤ length eras → era ≡ get_or eras (j - 1) era
    → f (era_seen era) ≡ get_or (zeroth ∷ map f (map era_seen eras)) j d
era_at f zeroth d eras zero era further within is = absurd (omega arith)
era_at f zeroth d eras (suc i) era further within is =
    let less : suc i - 1 ≡ i = omega arith in
    let size = length-map eras era_seen in
    let here : era ≡ get_or eras i era = rw less at is in
    ap (λ e. f (era_seen e)) here
    ∙ ap f (sym (get_or-map era_seen eras i era (era_seen era) (omega arith)))
    ∙ sym (get_or-map f (map era_seen eras) i (era_seen era) d (omega (arith, size)))

-- how many of the code's eras have begun
pub begun_seen : (t : ℕ) (eras : List kept.Era) → count_by (λ first. nat_le first t)
    (map (λ (era : Era). era.first) (map era_seen eras)) ≡ count_by (λ era. nat_le era.first t) eras
begun_seen t [] = refl
begun_seen t (era ∷ eras) =
    sum_by-cons (λ first. cond (nat_le first t) 1 0) era.first
    (map (λ (era : Era). era.first) (map era_seen eras))
    ∙ ap (λ n. cond (nat_le era.first t) 1 0 + n) (begun_seen t eras)
    ∙ sym (sum_by-cons (λ (era : kept.Era). cond (nat_le era.first t) 1 0) era eras)

-- whether a node is faulty in one of the code's eras
pub any_seen : (id : ℕ) (eras : List kept.Era) → list_any (λ era. is_in era.faulty.ids id) eras ≡
    list_any (λ ids. is_in ids id) (map (λ (era : Era). era.faulty) (map era_seen eras))
any_seen id [] = refl
any_seen id (era ∷ eras) = ap (λ b. is_in era.faulty.ids id || b) (any_seen id eras)

-- the starts of each of the code's eras are in range
pub hits_at : (shape : Shape) (eras : List kept.Era) (i : ℕ) (era : kept.Era) → i < length eras
    → era ≡ get_or eras i era → All (λ (era : Era). AreInRange shape era.starts) (map era_seen eras)
    → AreInRange shape era.starts.items
hits_at shape eras i era lt is all =
    let size = length-map eras era_seen in
    let here : get_or (map era_seen eras) i (era_seen era) ≡ era_seen era =
    get_or-map era_seen eras i era (era_seen era) lt ∙ ap era_seen (sym is) in
    subst (λ (e : Era). AreInRange shape e.starts) here (all i (era_seen era) (omega (arith, size)))

-- a set of faulty nodes, by its parts
pub set_is : (set : FaultIds) (nodes : ℕ) (ids : List ℕ) → set.nodes ≡ nodes → set.ids ≡ ids
    → set ≡ record { nodes = nodes; ids = ids }
set_is set nodes ids n i = rw (← n, ← i) refl
