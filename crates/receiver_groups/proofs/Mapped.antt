-- The code's map of groups, as the list of groups that it stands for.
use Rattle.std.proofs.Common.{◌≡◌, ℕ, ◌+◌, ◌≤◌, true, false, Vec, arith, List, [], ◌∷◌, ◌++◌}
use Rattle.std.proofs.Common.{length, map, Bool, None, refl, sym, ap, ◌∙◌}
use Rattle.std.proofs.lemmas.List.{map-append}
use Rattle.std.specs.List.{position_or_len, position}
use Rattle.std.specs.Str.{bytes_eq}
use Rattle.std.specs.Global.{Global}
use Rattle.indexmap.specs.IndexMap.{insert_entry}
use Rattle.sync_types.specs.FaultSets.{FaultIds}
use Rattle.receiver_groups.specs.Groups.{Group}
use Rattle.receiver_groups.specs.Seen.{group_seen}
use Rattle.receiver_groups.proofs.Positions.{position-map, none_at}

-- a key that no entry has goes last
last_entry : (k : Vec ℕ Global) (v : FaultIds) (es : List (Vec ℕ Global × FaultIds))
    → length es ≤ position_or_len (λ e. bytes_eq k.items e.0.items) es
    → insert_entry (λ x y. bytes_eq x.items y.items) es k v ≡ es ++ (k, v) ∷ []
last_entry k v [] far = refl
last_entry k v (e ∷ es) far = by (bytes_eq k.items e.0.items) refl (λ near. last_entry k v es near)
  where
    by : (b : Bool) → bytes_eq k.items e.0.items ≡ b
        → (length es ≤ position_or_len (λ e. bytes_eq k.items e.0.items) es
        → insert_entry (λ x y. bytes_eq x.items y.items) es k v ≡ es ++ (k, v) ∷ [])
        → insert_entry (λ x y. bytes_eq x.items y.items) (e ∷ es) k v ≡ (e ∷ es) ++ (k, v) ∷ []
    by true same rest =
        let none : position_or_len (λ e. bytes_eq k.items e.0.items) (e ∷ es) ≡ 0 = rw same refl in
        absurd (omega (arith, far, none))
    by false same rest =
        let more : position_or_len (λ e. bytes_eq k.items e.0.items) (e ∷ es) ≡ 1 + position_or_len
        (λ e. bytes_eq k.items e.0.items) es = rw same refl in
        rw same (ap (λ l. e ∷ l) (rest (omega (arith, far, more))))

-- the groups after one of a new name
pub group_added : (k : Vec ℕ Global) (v : FaultIds) (es new : List (Vec ℕ Global × FaultIds))
    → position (λ (g : Group). bytes_eq k.items g.name) (map group_seen es) ≡ None
    → new ≡ insert_entry (λ x y. bytes_eq x.items y.items) es k v
    → map group_seen new ≡ map group_seen es ++ record { name = k.items; ids = v.ids } ∷ []
group_added k v es new none is =
    let here : position (λ e. bytes_eq k.items e.0.items) es ≡ None =
    sym (position-map group_seen (λ g. bytes_eq k.items g.name) es) ∙ none in
    ap (map group_seen) (is ∙ last_entry k v es (none_at _ es here))
    ∙ map-append group_seen es ((k, v) ∷ [])
