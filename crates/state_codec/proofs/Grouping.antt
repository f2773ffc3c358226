-- Fields by node, grouped by kind.
use Rattle.std.proofs.Common.{◌≡◌, ℕ, ◌+◌, ◌<◌, ◌≤◌, ◌⊎◌, inl, inr, List, [], ◌∷◌, ◌++◌, length}
use Rattle.std.proofs.Common.{take, map, get_or, refl, sym, ap, ap₂, subst, ◌∙◌, arith}
use Rattle.std.proofs.Common.{length-append}
use Rattle.std.specs.Prelude.{All, slice_index_or}
use Rattle.std.proofs.lemmas.List.{map_push, take_more, get_or_append_left}
use Rattle.std.proofs.lemmas.List.Elements.{All-head, All-tail, All-push, All-weaker}
use Rattle.state_codec.specs.Shapes.{Fields, no_fields}
use Rattle.state_codec.specs.ShapesKept.{fields_by}

-- functions that agree on a list's items map it alike
map_same : {X Y : Type 0} (P : X → Type 0) (f g : X → Y) (same : (x : X) → P x → f x ≡ g x)
    (xs : List X) → All P xs → map f xs ≡ map g xs
map_same P f g same [] all = refl
map_same P f g same (x ∷ xs) all = ap₂ (λ y ys. y ∷ ys) (same x (All-head P x xs all))
    (map_same P f g same xs (All-tail P x xs all))

-- the nodes below v have their fields by these kinds
pub record IsGrouped (depth : ℕ) (nodes kinds : List Fields) (which : List ℕ) (v : ℕ) : Type 0 where
  pub fields : fields_by kinds which ≡ take v nodes
  pub deep : All (λ fields. length fields.moduli ≡ depth) kinds
  pub among : All (λ kind. kind < length kinds) which

-- the kinds are as they were, or there is one more
abbrev pub IsGrown : (old new : List Fields) → Fields → Type 0
IsGrown old new fields = (new ≡ old) ⊎ (new ≡ old ++ fields ∷ [])

module _ (old new : List Fields) (fields : Fields) where
  as_many : IsGrown old new fields → length old ≤ length new
  as_many (inl same) = omega (arith, ap length same)
  as_many (inr more) = omega (arith, ap length more, length-append old (fields ∷ []))

  stays : IsGrown old new fields → (kind : ℕ) → kind < length old
      → get_or new kind no_fields ≡ get_or old kind no_fields
  stays (inl same) kind lt = ap (λ ks. get_or ks kind no_fields) same
  stays (inr more) kind lt = ap (λ ks. get_or ks kind no_fields) more
      ∙ get_or_append_left old (fields ∷ []) no_fields kind lt

  still_deep : (depth : ℕ) → IsGrown old new fields → length fields.moduli ≡ depth
      → All (λ fields. length fields.moduli ≡ depth) old
      → All (λ fields. length fields.moduli ≡ depth) new
  still_deep depth (inl same) deep all =
      subst (λ ks. All (λ (f : Fields). length f.moduli ≡ depth) ks) (sym same) all
  still_deep depth (inr more) deep all =
      subst (λ ks. All (λ (f : Fields). length f.moduli ≡ depth) ks) (sym more)
      (All-push (λ f. length f.moduli ≡ depth) old fields all deep)

module _ (depth : ℕ) (nodes : List Fields) (deep : All (λ f. length f.moduli ≡ depth) nodes) where
  -- one more node
  pub grouped_more : (old new : List Fields) (which : List ℕ) (v kind : ℕ) (fields : Fields)
      → IsGrouped depth nodes old which v → IsGrown old new fields → kind < length new
      → get_or new kind no_fields ≡ fields → v < length nodes → fields ≡ get_or nodes v fields
      → IsGrouped depth nodes new (which ++ kind ∷ []) (v + 1)
  grouped_more old new which v kind fields so grown within here lt is =
      let more = as_many old new fields grown in
      let same : fields_by new which ≡ fields_by old which =
      map_same (λ k. k < length old) (λ k. slice_index_or new k no_fields)
      (λ k. slice_index_or old k no_fields) (stays old new fields grown) which so.among in
      record {
        fields =
            map_push (λ k. slice_index_or new k no_fields) which kind
            ∙ (ap₂ (λ (fs : List Fields) (f : Fields). fs ++ f ∷ []) (same ∙ so.fields) (here ∙ is)
            ∙ sym (take_more nodes v fields lt));
        deep = still_deep old new fields depth grown
            (subst (λ (f : Fields). length f.moduli ≡ depth) (sym is) (deep v fields lt)) so.deep;
        among = All-push (λ k. k < length new) which kind
            (All-weaker (λ k. k < length old) (λ k. k < length new) (λ k below. omega arith) which
            so.among) within;
      }
