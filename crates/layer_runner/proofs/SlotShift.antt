-- Lines that are written where slots end are those of the slots, in the order in which they begin.
use Rattle.std.proofs.Common.{◌≡◌, ℕ, zero, suc, ◌+◌, ◌-◌, ◌%◌, ◌<◌, ◌≤◌, inl, inr, Bool, true}
use Rattle.std.proofs.Common.{false, cond, ◌&&◌, List, [], ◌∷◌, ◌++◌, take, get_or, refl, sym, ap}
use Rattle.std.proofs.Common.{ap₂, ◌∙◌, append-nil, add-zero, arith}
use Rattle.std.proofs.Math.Path.{fun_ext}
use Rattle.std.specs.Prelude.{nat_le, nat_lt, ◌==◌}
use Rattle.std.specs.List.{flat_map, range_with_len}
use Rattle.std.proofs.lemmas.Bool.{cases_lt, le-leb, lt-leb}
use Rattle.std.proofs.lemmas.List.{take_all, take_more}
use Rattle.std.proofs.lemmas.List.Concat.{flat_map-append}
use Rattle.std.proofs.lemmas.List.FromFn.{get_or-range_with_len, length-range_with_len}
use Rattle.sync_types.specs.States.{State}
use Rattle.counter_core.specs.Meanings.{Meaning}
use Rattle.adversary_script.specs.Scripts.{Script}
use Rattle.adversary_script.specs.Eras.{era_of, first_of_era}
use Rattle.layer_runner.specs.SlotTexts.{counts_at, lead_output, begins_at, ends_at, slot_lines}
use Rattle.layer_runner.proofs.Shown.{rows_before, row_if_shown, rows_more, none_before, all_before}

-- the tests of a number that is put off by q
put_off : (q first last t : ℕ)
    → (nat_le (first + q) (t + q) && nat_le (t + q) (last + q)) ≡ (nat_le first t && nat_le t last)
put_off q first last t = ap₂ (λ (a b : Bool). a && b) (same first t) (same t last) where
  same : (a b : ℕ) → nat_le (a + q) (b + q) ≡ nat_le a b
  same a b = elim (cases_lt b a) [
    | inl lt ↦ lt-leb (a + q) (b + q) (omega arith) ∙ sym (lt-leb a b lt)
    | inr le ↦ le-leb (a + q) (b + q) (omega arith) ∙ sym (le-leb a b le)
  ]

module _ (f : ℕ → List ℕ) (q first last end : ℕ) (beyond : (t : ℕ) → end < t + q → f t ≡ []) where
  -- what is written at c of the number q before
  abbrev later : ℕ → List ℕ
  later c = cond (nat_le (first + q) c && nat_le c (last + q)) (f (c - q)) []

  abbrev before : ℕ → List ℕ
  before t = rows_before f first last t

  early : (c : ℕ) → c < q → later c ≡ []
  early c lt =
      ap (λ (b : Bool). cond (b && nat_le c (last + q)) (f (c - q)) [])
      (lt-leb (first + q) c (omega arith))

  late : (t : ℕ) → later (t + q) ≡ row_if_shown f first last t
  late t =
      let back : t + q - q ≡ t = omega arith in
      ap₂ (λ (b : Bool) (i : ℕ). cond b (f i) []) (put_off q first last t) back

  one_more : (n c : ℕ) → c < n
      → flat_map later (take (c + 1) (range_with_len 0 n))
      ≡ flat_map later (take c (range_with_len 0 n)) ++ later c
  one_more n c lt =
      let numbers : List ℕ = range_with_len 0 n in
      let size = length-range_with_len 0 n in
      let here : get_or numbers c 0 ≡ c = omega (arith, get_or-range_with_len 0 n c 0 lt) in
      ap (flat_map later) (take_more numbers c 0 (omega (arith, lt, size)))
      ∙ (flat_map-append later (take c numbers) (get_or numbers c 0 ∷ [])
      ∙ ap (λ (r : List ℕ). flat_map later (take c numbers) ++ r)
      (append-nil (later (get_or numbers c 0)) ∙ ap later here))

  -- what is written before c is what there is of the numbers that are q before
  so_far : (n c : ℕ) → c ≤ n → flat_map later (take c (range_with_len 0 n)) ≡ before (c - q)
  so_far n zero le =
      let none : 0 - q ≡ 0 = omega arith in sym (ap before none ∙ none_before f first last)
  so_far n (suc c) le =
      let step : suc c ≡ c + 1 = omega arith in
      ap (λ (i : ℕ). flat_map later (take i (range_with_len 0 n))) step
      ∙ (one_more n c (omega (arith, le))
      ∙ (ap (λ (r : List ℕ). r ++ later c) (so_far n c (omega (arith, le)))
      ∙ elim (cases_lt c q) [
        | inl lt ↦ (let none : suc c - q ≡ c - q = omega (arith, lt) in
            ap (λ (r : List ℕ). before (c - q) ++ r) (early c lt)
            ∙ (append-nil (before (c - q)) ∙ ap before (sym none)))
        | inr from ↦ (let t : ℕ = c - q in
            let here : c ≡ t + q = omega (arith, from) in
            let next : t + 1 ≡ suc c - q = omega (arith, from) in
            ap (λ (r : List ℕ). before t ++ r) (ap later here ∙ late t)
            ∙ (sym (rows_more f first last t) ∙ ap before next))
      ]))

  -- what is after the end is empty
  hidden : (t : ℕ) (b : Bool) → f t ≡ [] → cond b (f t) [] ≡ []
  hidden t true e = e
  hidden t false e = refl

  nothing_behind : (m t : ℕ) → end < t + q → before (t + m) ≡ before t
  nothing_behind zero t lt = ap before (add-zero t)
  nothing_behind (suc m) t lt =
      let step : t + suc m ≡ t + m + 1 = omega arith in
      ap before step
      ∙ (rows_more f first last (t + m)
      ∙
      (ap (λ (r : List ℕ). before (t + m) ++ r)
      (hidden (t + m) (nat_le first (t + m) && nat_le (t + m) last)
      (beyond (t + m) (omega (arith, lt))))
      ∙ (append-nil (before (t + m)) ∙ nothing_behind m t lt)))

  pub shifted : flat_map later (range_with_len 0 (end + 1))
      ≡ flat_map f (range_with_len first (last + 1 - first))
  shifted =
      let n : ℕ = end + 1 in
      let size = length-range_with_len 0 n in
      let t : ℕ = n - q in
      ap (flat_map later) (sym (take_all n (range_with_len 0 n) (omega (arith, size))))
      ∙ (so_far n n (omega arith)
      ∙ (sym (nothing_behind (last + 1) t (omega arith))
      ∙ all_before f first last (t + (last + 1)) (omega arith)))

-- ---- the lines of slots

module _ (counter : Meaning) (script : Script) (q : ℕ) (config_at : ℕ → List State)
    (line : ℕ → List ℕ)
    (same : (t : ℕ) → counts_at counter.bound script q t ≡ true
    → (lead_output counter script (t + q) (config_at (t + q)) % q == 0)
    ≡ (lead_output counter script t (config_at t) % q == 0))
  where
    abbrev counts : ℕ → Bool
    counts t = counts_at counter.bound script q t

    abbrev of_slot : ℕ → List ℕ
    of_slot t = cond (begins_at counter script q t (config_at t)) (line t) []

    abbrev at_end : ℕ → List ℕ
    at_end c = cond (ends_at counter script q c (config_at c)) (line (c - q)) []

    -- a slot that ends after the rounds does not count
    no_slot : (low era within : Bool) (x : Bool) (text : List ℕ) → within ≡ false
        → cond ((low && era && within) && x) text [] ≡ []
    no_slot true true within x text out = ap (λ (b : Bool). cond (b && x) text []) out
    no_slot true false within x text out = refl
    no_slot false era within x text out = refl

    beyond : (t : ℕ) → script.rounds < t + q → of_slot t ≡ []
    beyond t lt =
        no_slot (nat_lt (first_of_era script (era_of script t) + counter.bound) t)
        (era_of script (t + q) == era_of script t) (nat_le (t + q) script.rounds)
        (lead_output counter script t (config_at t) % q == 0) (line t)
        (lt-leb (t + q) script.rounds lt)

    -- a slot that ends here is one that began so long before
    both_ends : (low high k x y : Bool) (text : List ℕ) → (k ≡ true → x ≡ y)
        → cond ((low && high && k) && x) text [] ≡ cond (low && high) (cond (k && y) text []) []
    both_ends true true true x y text e = ap (λ (z : Bool). cond z text []) (e refl)
    both_ends true true false x y text e = refl
    both_ends true false k x y text e = refl
    both_ends false high k x y text e = refl

    end_of_slot : (c : ℕ)
        → at_end c ≡ later of_slot q script.first script.last script.rounds beyond c
    end_of_slot c = elim (cases_lt c q) [
      | inl lt ↦ ap
          (λ (b : Bool). cond
          ((b && nat_le c (script.last + q) && counts (c - q))
          && lead_output counter script c (config_at c) % q == 0)
          (line (c - q)) [])
          (lt-leb (script.first + q) c (omega (arith, lt)))
          ∙ sym (early of_slot q script.first script.last script.rounds beyond c lt)
      | inr from ↦ (let t : ℕ = c - q in
          let here : c ≡ t + q = omega (arith, from) in
          let ends : ℕ → ℕ
          → List ℕ = λ c i. cond
          ((nat_le (script.first + q) c && nat_le c (script.last + q) && counts i)
          && lead_output counter script c (config_at c) % q == 0)
          (line i) [] in
          let begins : ℕ → ℕ
          → List ℕ = λ c i. cond (nat_le (script.first + q) c && nat_le c (script.last + q))
          (of_slot i) [] in
          ap (λ (c : ℕ). ends c t) here
          ∙
          (both_ends (nat_le (script.first + q) (t + q)) (nat_le (t + q) (script.last + q))
          (counts t) (lead_output counter script (t + q) (config_at (t + q)) % q == 0)
          (lead_output counter script t (config_at t) % q == 0) (line t) (same t)
          ∙ ap (λ (c : ℕ). begins c t) (sym here)))
    ]

    -- what is written at the ends of slots, up to the last round
    pub lines_of_slots : flat_map at_end (range_with_len 0 (script.rounds + 1))
        ≡ slot_lines counter script q config_at line
    lines_of_slots =
        ap (λ (g : ℕ → List ℕ). flat_map g (range_with_len 0 (script.rounds + 1)))
        (fun_ext end_of_slot)
        ∙ shifted of_slot q script.first script.last script.rounds beyond

-- rows that are shown, each written at its own configuration
module _ (f : ℕ → List ℕ) (first last end : ℕ) (within : last ≤ end) where
  abbrev row_at : ℕ → List ℕ
  row_at c = row_if_shown f first last c

  rows_so_far : (n c : ℕ) → c ≤ n
      → flat_map row_at (take c (range_with_len 0 n)) ≡ rows_before f first last c
  rows_so_far n zero le = sym (none_before f first last)
  rows_so_far n (suc c) le =
      let numbers : List ℕ = range_with_len 0 n in
      let size = length-range_with_len 0 n in
      let step : suc c ≡ c + 1 = omega arith in
      let here : get_or numbers c 0
      ≡ c = omega (arith, get_or-range_with_len 0 n c 0 (omega (arith, le))) in
      ap (λ (i : ℕ). flat_map row_at (take i numbers)) step
      ∙ (ap (flat_map row_at) (take_more numbers c 0 (omega (arith, le, size)))
      ∙ (flat_map-append row_at (take c numbers) (get_or numbers c 0 ∷ [])
      ∙
      (ap (λ (r : List ℕ). flat_map row_at (take c numbers) ++ r)
      (append-nil (row_at (get_or numbers c 0)) ∙ ap row_at here)
      ∙ (ap (λ (r : List ℕ). r ++ row_at c) (rows_so_far n c (omega (arith, le)))
      ∙ (sym (rows_more f first last c) ∙ ap (λ (i : ℕ). rows_before f first last i) (sym step))))))

  pub rows_in_place : flat_map row_at (range_with_len 0 (end + 1))
      ≡ flat_map f (range_with_len first (last + 1 - first))
  rows_in_place =
      let size = length-range_with_len 0 (end + 1) in
      ap (flat_map row_at)
      (sym (take_all (end + 1) (range_with_len 0 (end + 1)) (omega (arith, size))))
      ∙
      (rows_so_far (end + 1) (end + 1) (omega arith)
      ∙ all_before f first last (end + 1) (omega (arith, within)))
