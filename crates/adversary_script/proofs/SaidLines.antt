-- A script that a text can say so far can still be said with what one more line says.
use Rattle.std.proofs.Common.{◌≡◌, ℕ, ◌-◌, ◌<◌, ◌≤◌, true, false, List}
use Rattle.std.proofs.Common.{[], ◌∷◌, ◌++◌, length, map, nat_lt, Option, Some}
use Rattle.std.proofs.Common.{None, refl, sym, ap, subst, ◌∙◌, arith, inl, inr}
use Rattle.std.specs.Prelude.{All, ◌==◌}
use Rattle.std.specs.Str.{bytes_eq}
use Rattle.std.specs.List.{list_any}
use Rattle.std.specs.List.Sorted.{IsStrictlyIncreasing}
use Rattle.std.proofs.lemmas.Bool.{ltb-true, eq-eqb, or_left, cases_lt, true≢false}
use Rattle.std.proofs.lemmas.List.{map-append, length_push, get_or_push, get_or-map}
use Rattle.std.proofs.lemmas.List.{get_or_append_left, length-map}
use Rattle.std.proofs.lemmas.List.Elements.{All-nil, All-push, All-replicate, All-set, All-weaker}
use Rattle.std.proofs.lemmas.List.Folds.{list_any-append}
use Rattle.std.proofs.lemmas.List.Sums.{AllPass-from_list_all, fails_before_first}
use Rattle.std.proofs.lemmas.Slice.Eq.{bytes_eq-Decides}
use Rattle.std.proofs.lemmas.Option.{get_or_from_slice_get, slice_get_within}
use Rattle.sync_types.specs.FaultSets.{is_in}
use Rattle.sync_types.proofs.RisingIds.{rising_push}
use Rattle.state_codec.specs.Shapes.{Shape}
use Rattle.adversary_script.specs.declared.lies.CommonStart.{CommonStart}
use Rattle.adversary_script.specs.declared.lies.Lie.{Lie}
use Rattle.adversary_script.specs.declared.lies.Start.{Start}
use Rattle.adversary_script.specs.declared.lies.Who.{Who}
use Rattle.adversary_script.specs.declared.lies.Who.TheVariants as who
use Rattle.adversary_script.specs.Scripts.{Group, Era, Script, empty_script, faulty_sets}
use Rattle.adversary_script.specs.FaultySteps.{last_era, with_era}
use Rattle.adversary_script.specs.StartSteps.{is_above, last_starts, started}
use Rattle.adversary_script.specs.LieSteps.{group_at}
use Rattle.adversary_script.specs.ScriptTexts.{group_in}
use Rattle.adversary_script.specs.Writable.{IsKey, AreStarts, IsGroup, AreGroups, IsHeard}
use Rattle.adversary_script.specs.Writable.{IsLie}
use Rattle.receiver_groups.proofs.Positions.{none_at}
use Rattle.adversary_script.proofs.EraLists.{same_with_start}

-- what a text says of a script, beside that it is well formed and for its counter
pub record IsSaid (s : Script) : Type 0 where
  pub oldest : 1 ≤ s.version
  pub newest : s.version ≤ 2
  pub eras : s.version ≡ 1 → s.eras ≡ []
  pub key : IsKey s.key
  pub starts : AreStarts s.nodes s.starts
  pub hits : All (λ era. AreStarts s.nodes era.starts) s.eras
  pub groups : AreGroups s.nodes s.groups
  pub many : length s.lies ≤ 256
  pub lies : All (IsLie s.nodes s.groups (faulty_sets s)) s.lies

no_starts : (n : ℕ) → AreStarts n []
no_starts n = record {
  rising = λ k lt. absurd (omega arith);
  below = All-nil (λ (start : Start). start.node < n);
}

pub empty_said : (nodes : ℕ) (shape : Shape) → IsSaid (empty_script nodes shape)
empty_said nodes shape = record {
  oldest = omega arith;
  newest = omega arith;
  eras = λ _. refl;
  key = record {
    size = refl;
    bytes = All-replicate (λ byte. byte < 256) 32 0 (omega arith);
  };
  starts = no_starts nodes;
  hits = All-nil (λ (era : Era). AreStarts nodes era.starts);
  groups = record {
    many = omega arith;
    each = All-nil (IsGroup nodes);
    apart = λ i j lt. absurd (omega arith);
  };
  many = omega arith;
  lies = All-nil (IsLie nodes [] ([] ∷ []));
}

-- ---- one more start

starts_rise : (starts : List Start) (x : Start) → is_above starts x.node ≡ true
    → IsStrictlyIncreasing (map (λ (start : Start). start.node) starts)
    → IsStrictlyIncreasing (map (λ (start : Start). start.node) (starts ++ x ∷ []))
starts_rise starts x above rises =
    let nodes = map (λ (start : Start). start.node) starts in
    let last = length nodes - 1 in
    let size = length-map starts (λ (start : Start). start.node) in
    subst IsStrictlyIncreasing (sym (map-append (λ (start : Start). start.node) starts (x ∷ [])))
    (rising_push nodes x.node rises (λ some.
    let inside : last < length starts = omega (arith, size, some) in
    let under = AllPass-from_list_all (λ (start : Start). nat_lt start.node x.node) starts above
    last x inside in
    let same = get_or-map (λ (start : Start). start.node) starts last x 0 inside in
    omega (arith, same, ltb-true _ x.node under)))

more_starts : (n : ℕ) (starts : List Start) (x : Start) → AreStarts n starts
    → is_above starts x.node ≡ true → x.node < n → AreStarts n (starts ++ x ∷ [])
more_starts n starts x are above lt = record {
  rising = starts_rise starts x above are.rising;
  below = All-push (λ (start : Start). start.node < n) starts x are.below lt;
}

-- ---- one more group

module _ (n : ℕ) (groups : List Group) (are : AreGroups n groups) (group : Group)
    (room : length groups < 256) (is : IsGroup n group)
    (new : group_at groups group.name ≡ None) where
  abbrev all : List Group
  all = groups ++ group ∷ []

  abbrev none : Group
  none = record { name = []; ids = [] }

  other_name : (k : ℕ) → k < length groups → group.name ≡ (group_in groups k).name → ⊥
  other_name k lt same =
      let past = none_at (λ (g : Group). bytes_eq group.name g.name) groups new in
      let fails = fails_before_first (λ (g : Group). bytes_eq group.name g.name) groups k none
      (omega (arith, past, lt)) in
      true≢false (sym ((bytes_eq-Decides group.name (group_in groups k).name).1 same) ∙ fails)

  at_old : (k : ℕ) → k < length groups → group_in all k ≡ group_in groups k
  at_old k lt = get_or_append_left groups (group ∷ []) none k lt

  at_new : (k : ℕ) → k < length all → length groups ≤ k → k ≡ length groups
  at_new k lt le = omega (arith, lt, le, length_push groups group)

  at_end : group_in all (length groups) ≡ group
  at_end = get_or_push groups group none (length groups) refl

  named : (i j : ℕ) → i < length groups → length groups ≡ j
      → (group_in all i).name ≡ (group_in all j).name → ⊥
  named i j lt is same =
      other_name i lt
      (ap (λ (g : Group). g.name) (sym at_end)
      ∙ ap (λ k. (group_in all k).name) is ∙ sym same
      ∙ ap (λ (g : Group). g.name) (at_old i lt))

  all_apart : (i j : ℕ) → i < length all → j < length all
      → (group_in all i).name ≡ (group_in all j).name → i ≡ j
  all_apart i j p q same = elim (cases_lt i (length groups)) [
    | inl lt ↦ elim (cases_lt j (length groups)) [
      | inl below ↦ are.apart i j lt below
          (ap (λ (g : Group). g.name) (sym (at_old i lt)) ∙ same
          ∙ ap (λ (g : Group). g.name) (at_old j below))
      | inr le ↦ absurd (named i j lt (sym (at_new j q le)) same)
    ]
    | inr le ↦ elim (cases_lt j (length groups)) [
      | inl below ↦ absurd (named j i below (sym (at_new i p le)) (sym same))
      | inr over ↦ at_new i p le ∙ sym (at_new j q over)
    ]
  ]

  more_groups : AreGroups n all
  more_groups = record {
    many = omega (arith, room, length_push groups group);
    each = All-push (IsGroup n) groups group are.each is;
    apart = all_apart;
  }

  more_heard : (who : Who) → IsHeard n groups who → IsHeard n all who
  more_heard who.All heard = tt
  more_heard (who.Ids p q) heard = heard
  more_heard (who.Group i) heard = omega (arith, heard, length_push groups group)

-- ---- scripts that say more

some_none : (era : Era) → Some era ≡ None → ⊥
some_none era same = absurd cc

module _ (s : Script) (h : IsSaid s) where
  -- with another version, key, common start or other rounds
  pub others_said : (version : ℕ) (key : List ℕ) (common : CommonStart) (rounds first last : ℕ)
      → 1 ≤ version → version ≤ 2 → (version ≡ 1 → s.eras ≡ []) → IsKey key
      → IsSaid (record s {
        version = version;
        key = key;
        common = common;
        rounds = rounds;
        first = first;
        last = last;
      })
  others_said version key common rounds first last some few eras is = record {
    oldest = some;
    newest = few;
    eras = eras;
    key = is;
    starts = h.starts;
    hits = h.hits;
    groups = h.groups;
    many = h.many;
    lies = h.lies;
  }

  -- with other faulty nodes at first, as long as there are no lies
  pub faulty_said : (ids : List ℕ) → s.lies ≡ [] → IsSaid (record s { faulty = ids })
  faulty_said ids none = record {
    oldest = h.oldest;
    newest = h.newest;
    eras = h.eras;
    key = h.key;
    starts = h.starts;
    hits = h.hits;
    groups = h.groups;
    many = h.many;
    lies =
        let t : Script = record s { faulty = ids } in
        subst (All (IsLie s.nodes s.groups (faulty_sets t))) (sym none)
        (All-nil (IsLie s.nodes s.groups (faulty_sets t)));
  }

  -- a lie of a node that is faulty in one of more sets
  more_sets : (sets : List (List ℕ)) → ((u : ℕ)
      → list_any (λ ids. is_in ids u) (faulty_sets s) ≡ true
      → list_any (λ ids. is_in ids u) sets ≡ true)
      → All (IsLie s.nodes s.groups sets) s.lies
  more_sets sets more =
      All-weaker (IsLie s.nodes s.groups (faulty_sets s)) (IsLie s.nodes s.groups sets)
      (λ lie is. record {
        faulty = more lie.sender is.faulty;
        order = is.order;
        last = is.last;
        who = is.who;
        what = is.what;
      }) s.lies h.lies

  -- with one more era, if the version has them
  pub era_said : (first : ℕ) (ids : List ℕ) → (s.version == 1) ≡ false
      → IsSaid (with_era s first ids)
  era_said first ids later =
      let era : Era = record { first = first; faulty = ids; starts = [] } in
      let sets : faulty_sets (with_era s first ids) ≡ faulty_sets s ++ ids ∷ [] =
      ap (λ xs. s.faulty ∷ xs) (map-append (λ (era : Era). era.faulty) s.eras (era ∷ [])) in
      record {
        oldest = h.oldest;
        newest = h.newest;
        eras = λ one. absurd (true≢false (sym (eq-eqb s.version 1 one) ∙ later));
        key = h.key;
        starts = h.starts;
        hits = All-push (λ (era : Era). AreStarts s.nodes era.starts) s.eras era h.hits
            (no_starts s.nodes);
        groups = h.groups;
        many = h.many;
        lies = more_sets (faulty_sets (with_era s first ids)) (λ u faulty.
            ap (list_any (λ ids. is_in ids u)) sets
            ∙ list_any-append (λ ids. is_in ids u) (faulty_sets s) (ids ∷ [])
            ∙ or_left _ _ faulty);
      }

  -- with one more start
  pub start_said : (found : Option Era) (start : Start) → last_era s.eras ≡ found
      → is_above (last_starts s) start.node ≡ true → start.node < s.nodes
      → IsSaid (started s found start)
  start_said None start last above lt =
      let over : is_above s.starts start.node ≡ true = rw last at above in
      record {
        oldest = h.oldest;
        newest = h.newest;
        eras = h.eras;
        key = h.key;
        starts = more_starts s.nodes s.starts start h.starts over lt;
        hits = h.hits;
        groups = h.groups;
        many = h.many;
        lies = h.lies;
      }
  start_said (Some era) start last above lt =
      let new : Era = record era { starts = era.starts ++ start ∷ [] } in
      let place = length s.eras - 1 in
      let over : is_above era.starts start.node ≡ true = rw last at above in
      let old : AreStarts s.nodes era.starts =
      subst (λ (e : Era). AreStarts s.nodes e.starts)
      (get_or_from_slice_get s.eras place era era last)
      (h.hits place era (slice_get_within s.eras place era last)) in
      let same = same_with_start (λ (era : Era). era.faulty) s.eras era new last refl in
      record {
        oldest = h.oldest;
        newest = h.newest;
        eras = λ one. absurd (some_none era (sym last ∙ ap last_era (h.eras one)));
        key = h.key;
        starts = h.starts;
        hits = All-set (λ (era : Era). AreStarts s.nodes era.starts) s.eras place new
            (more_starts s.nodes era.starts start old over lt) h.hits;
        groups = h.groups;
        many = h.many;
        lies = more_sets (faulty_sets (started s (Some era) start)) (λ u faulty.
            ap (λ xs. list_any (λ ids. is_in ids u) (s.faulty ∷ xs)) same ∙ faulty);
      }

  -- with one more group
  pub group_said : (group : Group) → length s.groups < 256 → IsGroup s.nodes group
      → group_at s.groups group.name ≡ None
      → IsSaid (record s { groups = s.groups ++ group ∷ [] })
  group_said group room is new = record {
    oldest = h.oldest;
    newest = h.newest;
    eras = h.eras;
    key = h.key;
    starts = h.starts;
    hits = h.hits;
    groups = more_groups s.nodes s.groups h.groups group room is new;
    many = h.many;
    lies = All-weaker (IsLie s.nodes s.groups (faulty_sets s))
        (IsLie s.nodes (s.groups ++ group ∷ []) (faulty_sets s))
        (λ lie told. record {
          faulty = told.faulty;
          order = told.order;
          last = told.last;
          who = more_heard s.nodes s.groups h.groups group room is new lie.who told.who;
          what = told.what;
        }) s.lies h.lies;
  }

  -- with one more lie
  pub lie_said : (lie : Lie) → length s.lies < 256
      → IsLie s.nodes s.groups (faulty_sets s) lie
      → IsSaid (record s { lies = s.lies ++ lie ∷ [] })
  lie_said lie room is = record {
    oldest = h.oldest;
    newest = h.newest;
    eras = h.eras;
    key = h.key;
    starts = h.starts;
    hits = h.hits;
    groups = h.groups;
    many = omega (arith, room, length_push s.lies lie);
    lies = All-push (IsLie s.nodes s.groups (faulty_sets s)) s.lies lie h.lies is;
  }
