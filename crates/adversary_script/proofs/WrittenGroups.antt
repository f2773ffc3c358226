-- The lines of groups in a script's text are read, and groups are found by their names.
use Rattle.std.proofs.Common.{◌≡◌, ℕ, ◌<◌, ◌≤◌, true, false, List, []}
use Rattle.std.proofs.Common.{◌∷◌, ◌++◌, length, map, Option, Some, None, Ok, refl}
use Rattle.std.proofs.Common.{sym, ap, subst, ◌∙◌, append_assoc, arith, nat_le}
use Rattle.std.specs.Prelude.{decimal, codes}
use Rattle.std.specs.List.{position_or_len}
use Rattle.std.specs.Str.{bytes_eq}
use Rattle.std.proofs.lemmas.Bool.{lt-leb, lt-ltb, le-ltb, false_from_ne_true}
use Rattle.std.proofs.lemmas.Slice.Eq.{bytes_eq-Decides}
use Rattle.std.proofs.lemmas.List.{append-nil, length-append, get_or_at, get_or_append_left}
use Rattle.std.proofs.lemmas.List.Sums.{position_or_len_is}
use Rattle.texts.proofs.NumberLines.{numbers_plain, all_read}
use Rattle.sync_types.proofs.RisingIds.{count_below}
use Rattle.adversary_script.specs.declared.kinds.Kind.{Kind}
use Rattle.adversary_script.specs.declared.kinds.Kind.TheVariants as kind
use Rattle.adversary_script.specs.Kinds.{may_follow}
use Rattle.adversary_script.specs.WordTests.{is_name, are_below, is_rising}
use Rattle.adversary_script.specs.Scripts.{Group, Script}
use Rattle.adversary_script.specs.LieSteps.{group_at}
use Rattle.adversary_script.specs.Steps.{group_tested}
use Rattle.adversary_script.specs.ScriptTexts.{group_line, group_in}
use Rattle.adversary_script.specs.Writable.{IsGroup, AreGroups}
use Rattle.adversary_script.proofs.WrittenWords.{ids_small, ids_short, ids_below, ids_rise}
use Rattle.adversary_script.proofs.WrittenWords.{name_plain, name_short}
use Rattle.adversary_script.proofs.ReadOn.{IsLineOf, line_counts, lead_none, lead_line, at, GoesTo}
use Rattle.adversary_script.proofs.ReadOn.{goes_then}
use Rattle.adversary_script.proofs.WrittenStarts.{at_middle}

-- after starts, eras and groups there may be groups, lies, and the rounds
pub record IsGrouped (last : Option Kind) : Type 0 where
  pub group : may_follow last kind.Group ≡ true
  pub lie : may_follow last kind.Lie ≡ true
  pub rounds : may_follow last kind.Rounds ≡ true

-- ---- the group of a name

module _ (nodes : ℕ) (groups : List Group) (are : AreGroups nodes groups) (i : ℕ)
    (lt : i < length groups) where
  abbrev name : List ℕ
  name = (group_in groups i).name

  other_name : (k : ℕ) → k < i → bytes_eq name (group_in groups k).name ≡ false
  other_name k before =
      false_from_ne_true (bytes_eq name (group_in groups k).name) (λ same.
      let one = are.apart i k lt (omega arith)
      ((bytes_eq-Decides name (group_in groups k).name).0 same) in
      absurd (omega (arith, one, before)))

  place_is : position_or_len (λ (group : Group). bytes_eq name group.name) groups ≡ i
  place_is = position_or_len_is (λ (group : Group). bytes_eq name group.name) groups i
      (record { name = []; ids = [] }) (omega (arith, lt)) other_name
      (λ inside. (bytes_eq-Decides name name).1 refl)

  -- each group is found by its name
  pub group_found : group_at groups name ≡ Some i
  group_found = rw (place_is, lt-ltb i (length groups) lt) refl

-- if none has the name, none is found
none_found : (groups : List Group) (name : List ℕ)
    → ((k : ℕ) → k < length groups → bytes_eq name (group_in groups k).name ≡ false)
    → group_at groups name ≡ None
none_found groups name others =
    let past : position_or_len (λ (group : Group). bytes_eq name group.name) groups
    ≡ length groups =
    position_or_len_is (λ (group : Group). bytes_eq name group.name) groups (length groups)
    (record { name = []; ids = [] }) (omega arith) others (λ lt. absurd (omega arith)) in
    rw (past, le-ltb (length groups) (length groups) (omega arith)) refl

-- a group passes its tests
group_passes : (s : Script) (name ids : List ℕ) → 1 ≤ length ids → nat_le 256 (length s.groups)
    ≡ false
    → are_below s.nodes ids ≡ true → is_rising ids ≡ true → is_name name ≡ true
    → bytes_eq name (codes "all") ≡ false → group_at s.groups name ≡ None
    → group_tested s name (Some ids)
    ≡ Ok (record s { groups = s.groups ++ record { name = name; ids = ids } ∷ [] })
group_passes s name [] some room below rising named other new = absurd (omega arith)
group_passes s name (id ∷ ids) some room below rising named other new =
    rw (room, below, rising, named, other, new) refl

module _ (f : ℕ) (s : Script) (few : s.nodes ≤ 256) where
  abbrev with_groups : List Group → Script
  with_groups groups = record s { groups = groups }

  module _ (group : Group) (is : IsGroup s.nodes group) where
    abbrev behind : List (List ℕ)
    behind = group.name ∷ map decimal group.ids

    line_is : IsLineOf kind.Group (group_line group) behind
    line_is =
        let many = count_below s.nodes group.ids is.rising is.below in
        let short = ids_short s.nodes few group.ids is.below in
        let name = name_short group.name is.named in
        record {
          plain = (
            record { some = omega arith; above = refl },
            (
              name_plain group.name is.named,
              numbers_plain group.ids (ids_small s.nodes few group.ids is.below),
            ),
          );
          short = omega (arith, few, many, short, name);
          counted = line_counts 103 (codes "roup") behind refl;
          kind = refl;
        }

    pub group_leads : (last : Option Kind) → IsGrouped last → (done : List Group)
        → length done < 256 → group_at done group.name ≡ None
        → GoesTo f IsGrouped (at f last (with_groups done)) (group_line group ∷ [])
        (with_groups (done ++ group ∷ []))
    group_leads last may done room new = record {
      last = Some kind.Group;
      so = record { group = refl; lie = refl; rounds = refl };
      lead = lead_line f last (with_groups done) (with_groups (done ++ group ∷ [])) kind.Group
          (group_line group) behind line_is may.group
          (ap (group_tested (with_groups done) group.name)
          (all_read group.ids (ids_small s.nodes few group.ids is.below))
          ∙ group_passes (with_groups done) group.name group.ids is.some
          (lt-leb 256 (length done) room) (ids_below s.nodes group.ids is.below)
          (ids_rise group.ids is.rising) is.named is.other new) refl;
    }

  -- an earlier group has another name
  new_name : (done more : List Group) (group : Group) → AreGroups s.nodes (done ++ group ∷ more)
      → group_at done group.name ≡ None
  new_name done more group are =
      let none : Group = record { name = []; ids = [] } in
      let long = length-append done (group ∷ more) in
      let here : group_in (done ++ group ∷ more) (length done) ≡ group =
      get_or_at done group more none (length done) refl in
      none_found done group.name (λ k lt.
      let there : group_in (done ++ group ∷ more) k ≡ group_in done k =
      get_or_append_left done (group ∷ more) none k lt in
      false_from_ne_true (bytes_eq group.name (group_in done k).name) (λ same.
      let one = are.apart (length done) k (omega (arith, long)) (omega (arith, long, lt))
      (ap (λ (g : Group). g.name) here
      ∙ (bytes_eq-Decides group.name (group_in done k).name).0 same
      ∙ ap (λ (g : Group). g.name) (sym there)) in
      absurd (omega (arith, one, lt))))

  pub groups_lead : (last : Option Kind) → IsGrouped last → (done more : List Group)
      → AreGroups s.nodes (done ++ more)
      → GoesTo f IsGrouped (at f last (with_groups done)) (map group_line more)
      (with_groups (done ++ more))
  groups_lead last may done [] are = record {
    last = last;
    so = may;
    lead = rw (append-nil done) (lead_none (at f last (with_groups done)));
  }
  groups_lead last may done (group ∷ more) are =
      let next : (done ++ group ∷ []) ++ more ≡ done ++ group ∷ more =
      append_assoc done (group ∷ []) more in
      let long = length-append done (group ∷ more) in
      let many = are.many in
      rw (← next) (goes_then f IsGrouped IsGrouped (at f last (with_groups done))
      (with_groups (done ++ group ∷ [])) (with_groups ((done ++ group ∷ []) ++ more))
      (group_line group ∷ []) (map group_line more)
      (group_leads group (at_middle (IsGroup s.nodes) done more group are.each) last may done
      (omega (arith, many, long)) (new_name done more group are))
      (λ onward so. groups_lead onward so (done ++ group ∷ []) more
      (subst (AreGroups s.nodes) (sym next) are)))
