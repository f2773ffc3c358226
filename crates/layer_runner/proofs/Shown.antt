-- The rows that a script shows, one after the other.
use Rattle.std.proofs.Common.{◌≡◌, ℕ, ◌+◌, ◌-◌, ◌<◌, ◌≤◌, inl, inr, Bool, true, false, cond, ◌&&◌}
use Rattle.std.proofs.Common.{List, [], ◌∷◌, ◌++◌, length, take, get_or, refl, sym, ap, ◌∙◌}
use Rattle.std.proofs.Common.{arith}
use Rattle.std.specs.Prelude.{nat_le}
use Rattle.std.specs.List.{flat_map, range_with_len}
use Rattle.std.proofs.lemmas.Bool.{cases_lt, le-leb, lt-leb}
use Rattle.std.proofs.lemmas.List.{append-nil, take_all, take_more}
use Rattle.std.proofs.lemmas.List.Concat.{flat_map-append}
use Rattle.std.proofs.lemmas.List.FromFn.{get_or-range_with_len, length-range_with_len}

module _ (row : ℕ → List ℕ) (first last : ℕ) where
  -- the numbers of the rows
  abbrev rows : List ℕ
  rows = range_with_len first (last + 1 - first)

  -- the rows before row t
  abbrev pub rows_before : ℕ → List ℕ
  rows_before t = flat_map row (take (t - first) (range_with_len first (last + 1 - first)))

  -- row t, if it is one of them
  abbrev pub row_if_shown : ℕ → List ℕ
  row_if_shown t = cond (nat_le first t && nat_le t last) (row t) []

  nothing_more : (t : ℕ) → nat_le first t && nat_le t last ≡ false
      → rows_before (t + 1) ≡ rows_before t → rows_before (t + 1) ≡ rows_before t ++ row_if_shown t
  nothing_more t hidden same =
      same
      ∙ (sym (append-nil (rows_before t))
      ∙ ap (λ (b : Bool). rows_before t ++ cond b (row t) []) (sym hidden))

  one_more : (t : ℕ) → first ≤ t → t ≤ last → rows_before (t + 1) ≡ rows_before t ++ row t
  one_more t le ge =
      let size = length-range_with_len first (last + 1 - first) in
      let within : t - first < length rows = omega (arith, size) in
      let next : t + 1 - first ≡ t - first + 1 = omega arith in
      let here : get_or rows (t - first) 0
      ≡ t = omega
      (arith, get_or-range_with_len first (last + 1 - first) (t - first) 0 (omega arith)) in
      ap (λ (n : ℕ). flat_map row (take n rows)) next
      ∙ (ap (flat_map row) (take_more rows (t - first) 0 within)
      ∙ (flat_map-append row (take (t - first) rows) (get_or rows (t - first) 0 ∷ [])
      ∙ ap (λ (r : List ℕ). rows_before t ++ r)
      (append-nil (row (get_or rows (t - first) 0)) ∙ ap row here)))

  -- with row t the rows are those before row t + 1
  pub rows_more : (t : ℕ) → rows_before (t + 1) ≡ rows_before t ++ row_if_shown t
  rows_more t = elim (cases_lt t first) [
    | inl early ↦ nothing_more t (ap (λ (b : Bool). b && nat_le t last) (lt-leb first t early))
        (let none : t + 1 - first ≡ t - first = omega (arith, early) in
        ap (λ (n : ℕ). flat_map row (take n rows)) none)
    | inr from ↦ elim (cases_lt last t) [
      | inl late ↦ nothing_more t
          (ap (λ (b : Bool). nat_le first t && b) (lt-leb t last late) ∙ no_and (nat_le first t))
          (let size = length-range_with_len first (last + 1 - first) in
          ap (flat_map row)
          (take_all (t + 1 - first) rows (omega (arith, size, late))
          ∙ sym (take_all (t - first) rows (omega (arith, size, late)))))
      | inr within ↦ one_more t from within
          ∙ ap (λ (b : Bool). rows_before t ++ cond b (row t) []) (sym (both t from within))
    ]
  ] where
    no_and : (b : Bool) → b && false ≡ false
    no_and true = refl
    no_and false = refl

    both : (t : ℕ) → first ≤ t → t ≤ last → nat_le first t && nat_le t last ≡ true
    both t le ge = ap (λ (b : Bool). b && nat_le t last) (le-leb first t le) ∙ le-leb t last ge

  -- before the first row there is none, and after the last there are all
  pub none_before : rows_before 0 ≡ []
  none_before =
      let none : 0 - first ≡ 0 = omega arith in ap (λ (n : ℕ). flat_map row (take n rows)) none

  pub all_before : (t : ℕ) → last < t → rows_before t ≡ flat_map row rows
  all_before t lt =
      let size = length-range_with_len first (last + 1 - first) in
      ap (flat_map row) (take_all (t - first) rows (omega (arith, size)))
