-- Lines of a trace that are gone through, from the first one on or from the last one.
use Rattle.std.proofs.Common.{◌≡◌, ℕ, ◌+◌, ◌-◌, ◌<◌, ◌≤◌, inl, inr, false, length, drop, get_or}
use Rattle.std.proofs.Common.{List, Option, refl, sym, ap, subst, ◌∙◌, arith}
use Rattle.std.proofs.lemmas.Bool.{cases_lt, ne_eqb}
use Rattle.std.proofs.lemmas.List.{get_or_default, drop_more}
use Rattle.trace_pictures.specs.declared.traces.Note.{Note}
use Rattle.trace_pictures.specs.declared.traces.KingPhase.{KingPhase}
use Rattle.trace_pictures.specs.TraceSaid.{ColumnsRise, IsBefore, IsHeardByAll, KnowsValue, hears}
use Rattle.trace_pictures.specs.TraceSaid.{is_lost_before, is_other, top_value, value_before}

-- ---- from the last line on

module _ (notes : List Note) (i k : ℕ) (lt : i < length notes) (place : k ≡ length notes - 1 - i)
    (note : Note) (is : note ≡ get_or notes k note) (later : Option (Option ℕ))
    (before : later ≡ top_value (drop (length notes - i) notes)) where
  behind : later ≡ top_value (drop (k + 1) notes)
  behind =
      let next : length notes - i ≡ k + 1 = omega (arith, lt, place) in
      before ∙ ap (λ m. top_value (drop m notes)) next

  pub later_more : value_before note.seen later ≡ top_value (drop (length notes - (i + 1)) notes)
  later_more =
      let here : k ≡ length notes - (i + 1) = omega (arith, lt, place) in
      let within : k < length notes = omega (arith, lt, place) in
      subst (λ m. value_before note.seen later ≡ top_value (drop m notes)) here
      (ap (value_before note.seen) behind
      ∙ (ap (λ x. value_before x.seen (top_value (drop (k + 1) notes))) is
      ∙ sym (ap top_value (drop_more notes k note within))))

  at_any : (d : Note) → note ≡ get_or notes k d
  at_any d = is ∙ get_or_default notes k note d (omega (arith, lt, place))

  pub known_more : note.is_lost ≡ is_lost_before note.seen later
      → ((j : ℕ) (d : Note) → length notes ≤ j + i → j < length notes
      → KnowsValue notes j (get_or notes j d))
      → (j : ℕ) (d : Note) → length notes ≤ j + (i + 1) → j < length notes
      → KnowsValue notes j (get_or notes j d)
  known_more knows known j d from within = elim (cases_lt k j) [
    | inl late ↦ known j d (omega (arith, late, place, lt)) within
    | inr early ↦
        let same : k ≡ j = omega (arith, early, from, place, lt) in
        subst (λ m. KnowsValue notes m (get_or notes m d)) same
        (subst (KnowsValue notes k) (at_any d)
        (knows ∙ ap (is_lost_before note.seen) behind))
  ]

-- ---- from the first line on

module _ (notes : List Note) (k : ℕ) (lt : k < length notes) (note : Note)
    (is : note ≡ get_or notes k note) (last : ℕ) (up : last ≤ note.column)
    (most : (i : ℕ) (d : Note) → i < k → (get_or notes i d).column ≤ last) where
  same_column : (d : Note) → note.column ≡ (get_or notes k d).column
  same_column d = ap (λ n. n.column) (is ∙ get_or_default notes k note d lt)

  pub most_more : (i : ℕ) (d : Note) → i < k + 1 → (get_or notes i d).column ≤ note.column
  most_more i d within = elim (cases_lt i k) [
    | inl earlier ↦ omega (arith, most i d earlier, up)
    | inr late ↦
        let same : k ≡ i = omega (arith, late, within) in
        subst (λ m. (get_or notes m d).column ≤ note.column) same (omega (arith, same_column d))
  ]

  pub rise_more : ((i j : ℕ) (d : Note) → i ≤ j → j < k
      → (get_or notes i d).column ≤ (get_or notes j d).column)
      → (i j : ℕ) (d : Note) → i ≤ j → j < k + 1
      → (get_or notes i d).column ≤ (get_or notes j d).column
  rise_more rise i j d order within = elim (cases_lt j k) [
    | inl earlier ↦ rise i j d order earlier
    | inr late ↦
        let same : k ≡ j = omega (arith, late, within) in
        subst (λ m. (get_or notes i d).column ≤ (get_or notes m d).column) same
        (omega (arith, most_more i d (omega (arith, order, within)), same_column d))
  ]

-- ---- phases

-- in another column nothing is heard of a phase
pub deaf : (reign : KingPhase) (note : Note) → (note.column ≡ reign.column → ⊥)
    → is_other (hears reign note) ≡ false
deaf reign note apart = rw (ne_eqb note.column reign.column apart) refl

-- if one line before a place stands before a column, all lines before the place do
pub starts_before : (notes : List Note) (from column : ℕ) (d : Note) → ColumnsRise notes
    → from - 1 < length notes → (get_or notes (from - 1) d).column < column
    → IsBefore column from notes
starts_before notes from column d rise inside before k e within less =
    let same : get_or notes (from - 1) d ≡ get_or notes (from - 1) e =
    get_or_default notes (from - 1) d e inside in
    omega (
      arith,
      before,
      ap (λ n. n.column) same,
      rise k (from - 1) e (omega (arith, less)) inside,
    )

module _ (reign : KingPhase) (notes : List Note) (rise : ColumnsRise notes) where
  -- lines from a place on stand in later columns
  pub heard_so_far : (k : ℕ) (note : Note) → k < length notes → note ≡ get_or notes k note
      → reign.column < note.column
      → ((j : ℕ) (d : Note) → j < length notes → j < k
      → is_other (hears reign (get_or notes j d)) ≡ false)
      → IsHeardByAll reign notes
  heard_so_far k note lt is late so_far j d within = elim (cases_lt j k) [
    | inl earlier ↦ so_far j d within earlier
    | inr later ↦
        let here : note.column ≡ (get_or notes k d).column =
        ap (λ n. n.column) (is ∙ get_or_default notes k note d lt) in
        deaf reign (get_or notes j d)
        (λ same. omega (arith, rise k j d later within, here, late, same))
  ]

  -- one line more, on which no other phase is heard
  pub heard_more : (k : ℕ) (note : Note) → k < length notes → note ≡ get_or notes k note
      → is_other (hears reign note) ≡ false
      → ((j : ℕ) (d : Note) → j < length notes → j < k
      → is_other (hears reign (get_or notes j d)) ≡ false)
      → (j : ℕ) (d : Note) → j < length notes → j < k + 1
      → is_other (hears reign (get_or notes j d)) ≡ false
  heard_more k note lt is agrees so_far j d within less = elim (cases_lt j k) [
    | inl earlier ↦ so_far j d within earlier
    | inr late ↦
        let same : k ≡ j = omega (arith, late, less) in
        subst (λ m. is_other (hears reign (get_or notes m d)) ≡ false) same
        (subst (λ n. is_other (hears reign n) ≡ false)
        (is ∙ get_or_default notes k note d lt) agrees)
  ]
