-- Ids that are read one after the other, each of which may follow those before it.
use Rattle.std.proofs.Common.{◌≡◌, ℕ, suc, ◌-◌, ◌<◌, inl, inr, Bool, true, false, cond, ◌&&◌, ◌||◌}
use Rattle.std.proofs.Common.{eqb, List, [], ◌∷◌, ◌++◌, length, get_or, nat_lt, nat_le, Option}
use Rattle.std.proofs.Common.{Some, None, refl, sym, ap, ◌∙◌, subst, append_assoc, arith}
use Rattle.std.proofs.Common.{length-append}
use Rattle.std.specs.Prelude.{slice_index}
use Rattle.std.proofs.lemmas.Bool.{cases_eq, eq-eqb, ne_eqb, and_parts, and_from, lt-ltb, ltb-true}
use Rattle.std.proofs.lemmas.Bool.{leb-true, le-leb, true≢false}
use Rattle.std.proofs.lemmas.List.Folds.{list_all-append}
use Rattle.std.proofs.Math.ListN.{get_or-append}
use Rattle.std.proofs.Math.Seq.{get_or-append_seam}
use Rattle.texts.specs.Numbers.{number_of}
use Rattle.texts.specs.Shapes.{onto_numbers}
use Rattle.texts.proofs.Shapes.{with_front}
use Rattle.adversary_script.specs.WordTests.{are_below, is_rising}
use Rattle.texts.specs.Shapes.{all_numbers}
use Rattle.adversary_script.proofs.RisingIds.{id_below, rises_at}
use Rattle.run_checker.specs.Sets.{is_borne_by, borne_ids, is_above, may_follow}

-- ---- what an id that may follow is

follower_below : (nodes faults : ℕ) (ids : List ℕ) (id : ℕ)
    → may_follow nodes faults ids id ≡ true → id < nodes
follower_below nodes faults ids id may =
    let parts = and_parts (nat_lt id nodes && nat_lt (length ids) faults) (is_above ids id) may in
    ltb-true id nodes (and_parts (nat_lt id nodes) (nat_lt (length ids) faults) parts.0).0

follower_few : (nodes faults : ℕ) (ids : List ℕ) (id : ℕ)
    → may_follow nodes faults ids id ≡ true → length ids < faults
follower_few nodes faults ids id may =
    let parts = and_parts (nat_lt id nodes && nat_lt (length ids) faults) (is_above ids id) may in
    ltb-true (length ids) faults
    (and_parts (nat_lt id nodes) (nat_lt (length ids) faults) parts.0).1

some_above : (n last id : ℕ) → (eqb n 0 || nat_lt last id) ≡ true → 0 < n → last < id
some_above n last id e some =
    let more : eqb n 0 ≡ false = ne_eqb n 0 (λ (none : n ≡ 0). omega (arith, some, none)) in
    ltb-true last id (sym (ap (λ (b : Bool). b || nat_lt last id) more) ∙ e)

follower_above : (nodes faults : ℕ) (ids : List ℕ) (id : ℕ)
    → may_follow nodes faults ids id ≡ true
    → 0 < length ids → slice_index ids (length ids - 1) < id
follower_above nodes faults ids id may some =
    let parts = and_parts (nat_lt id nodes && nat_lt (length ids) faults) (is_above ids id) may in
    some_above (length ids) (slice_index ids (length ids - 1)) id parts.1 some

-- ---- with it they are still those of a set

rising_more : (ids : List ℕ) (id : ℕ) → is_rising ids ≡ true
    → (0 < length ids → slice_index ids (length ids - 1) < id) → is_rising (ids ++ id ∷ []) ≡ true
rising_more [] id rises above = refl
rising_more (a ∷ []) id rises above = and_from _ _ (lt-ltb a id (above (omega arith))) refl
rising_more (a ∷ b ∷ ids) id rises above =
    let parts = and_parts (nat_lt a b) (is_rising (b ∷ ids)) rises in
    let last : length (a ∷ b ∷ ids) - 1 ≡ suc (length (b ∷ ids) - 1) = omega arith in
    and_from _ _ parts.0 (rising_more (b ∷ ids) id parts.1 (λ some.
    subst (λ (k : ℕ). slice_index (a ∷ b ∷ ids) k < id) last (above (omega arith))))

module _ (nodes faults : ℕ) where
  pub one_borne : (ids : List ℕ) (id : ℕ) → is_borne_by nodes faults ids ≡ true
      → may_follow nodes faults ids id ≡ true → is_borne_by nodes faults (ids ++ id ∷ []) ≡ true
  one_borne ids id borne may =
      let parts = and_parts (are_below nodes ids && is_rising ids) (nat_le (length ids) faults)
      borne in
      let both = and_parts (are_below nodes ids) (is_rising ids) parts.0 in
      let long = length-append ids (id ∷ []) in
      and_from _ _ (and_from _ _
      (list_all-append (λ i. nat_lt i nodes) ids (id ∷ [])
      ∙ and_from _ _ both.0
      (and_from _ _ (lt-ltb id nodes (follower_below nodes faults ids id may)) refl))
      (rising_more ids id both.1 (follower_above nodes faults ids id may)))
      (le-leb _ _ (omega (arith, long, follower_few nodes faults ids id may)))

  -- ---- and if an id may not follow they are not

  above_of : (n last id : ℕ) → (0 < n → last < id) → (eqb n 0 || nat_lt last id) ≡ true
  above_of n last id lt = elim (cases_eq n 0) [
    | inl none ↦ ap (λ (b : Bool). b || nat_lt last id) (eq-eqb n 0 none)
    | inr some ↦ ap (λ (b : Bool). b || nat_lt last id) (ne_eqb n 0 some)
        ∙ lt-ltb last id (lt (omega (arith, some)))
  ]

  follows : (ids : List ℕ) (id : ℕ) (rest : List ℕ)
      → is_borne_by nodes faults (ids ++ id ∷ rest) ≡ true → may_follow nodes faults ids id ≡ true
  follows ids id rest borne =
      let all = ids ++ id ∷ rest in
      let parts = and_parts (are_below nodes all && is_rising all) (nat_le (length all) faults)
      borne in
      let both = and_parts (are_below nodes all) (is_rising all) parts.0 in
      let long = length-append ids (id ∷ rest) in
      let few = leb-true (length all) faults parts.1 in
      let here = get_or-append_seam ids id rest 0 in
      let below = id_below nodes all (length ids) 0 both.0 (omega (arith, long)) in
      and_from _ _ (and_from _ _ (lt-ltb id nodes (omega (arith, here, below)))
      (lt-ltb (length ids) faults (omega (arith, long, few))))
      (above_of (length ids) (slice_index ids (length ids - 1)) id (λ some.
      let next : suc (length ids - 1) ≡ length ids = omega (arith, some) in
      let last = get_or-append ids (id ∷ rest) 0 (length ids - 1) (omega (arith, some)) in
      let rises = rises_at all (length ids - 1) 0 both.1 (omega (arith, long, some)) in
      let seen = ap (λ (k : ℕ). get_or all k 0) next in
      omega (arith, here, last, rises, seen)))

  not_borne : (b : Bool) (ids : List ℕ) → (b ≡ true → ⊥) → cond b (Some ids) None ≡ None
  not_borne true ids never = absurd (never refl)
  not_borne false ids never = refl

  -- ---- what words say, of which the ids before were read

  module _ (said : Option (List ℕ)) (ids : List ℕ) where
    pub word_read : (words rest : List (List ℕ)) (word : List ℕ) (id : ℕ)
        → said ≡ with_front ids (all_numbers words) → words ≡ word ∷ rest → number_of word ≡ Some id
        → said ≡ with_front ids (onto_numbers (Some id) (all_numbers rest))
    word_read words rest word id is more number =
        is ∙ ap (λ (ws : List (List ℕ)). with_front ids (all_numbers ws)) more
        ∙ ap (λ (o : Option ℕ). with_front ids (onto_numbers o (all_numbers rest))) number

    pub no_follower : (id : ℕ) (rest : Option (List ℕ))
        → said ≡ with_front ids (onto_numbers (Some id) rest)
        → may_follow nodes faults ids id ≡ false → borne_ids nodes faults said ≡ None
    no_follower id None is other = ap (borne_ids nodes faults) is
    no_follower id (Some ns) is other =
        ap (borne_ids nodes faults) is
        ∙ not_borne (is_borne_by nodes faults (ids ++ id ∷ ns)) (ids ++ id ∷ ns) (λ borne.
        true≢false (sym (follows ids id ns borne) ∙ other))

    pub one_read : (id : ℕ) (rest : Option (List ℕ))
        → said ≡ with_front ids (onto_numbers (Some id) rest)
        → said ≡ with_front (ids ++ id ∷ []) rest
    one_read id rest is = is ∙ moved id rest where
      moved : (id : ℕ) (rest : Option (List ℕ)) → with_front ids (onto_numbers (Some id) rest)
          ≡ with_front (ids ++ id ∷ []) rest
      moved id None = refl
      moved id (Some ns) = ap Some (sym (append_assoc ids (id ∷ []) ns))
