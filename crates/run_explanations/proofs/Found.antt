-- What is found is the first that explains, by what each configuration shows.
use Rattle.std.proofs.Common.{◌≡◌, ℕ, zero, suc, ◌+◌, ◌-◌, ◌*◌, ◌/◌, ◌%◌, ◌<◌, ◌≤◌, Bool, true}
use Rattle.std.proofs.Common.{false, not, ◌&&◌, Option, Some, None, if◌then◌else◌, refl, sym, ap}
use Rattle.std.proofs.Common.{ap₂, ◌∙◌, subst, inl, inr, add-zero, arith}
use Rattle.std.specs.Prelude.{nat_eq, nat_le}
use Rattle.std.specs.Option.{option_map}
use Rattle.std.proofs.Math.Nat.{mod-add-mod, mod-eq_of_lt, mod-lt, add-mod_right}
use Rattle.std.proofs.lemmas.Bool.{false≢true, and_parts, and_from, eqb-true, eq-eqb, leb-true}
use Rattle.std.proofs.lemmas.Bool.{le-leb, not-true, not_from_false, cases_lt}
use Rattle.std.proofs.lemmas.Option.{none-some, same_Some}
use Rattle.run_explanations.specs.declared.explanations.Explanation.{Explanation}
use Rattle.run_explanations.specs.declared.seeing.Observation.{Observation}
use Rattle.run_explanations.specs.Searching.{stretch_before, begins_phase, first_below}
use Rattle.run_explanations.specs.Searching.{explained_by, explained_in, explained_from}
use Rattle.run_explanations.specs.Searching.{explained_at, found_before}
use Rattle.run_explanations.proofs.Firsts.{IsFirst, first_is, first_known, IsFirstKnown, known_more}
use Rattle.run_explanations.proofs.Windows.{IsWindow, Ends, Stands, stands, IsLong, window_long}

module _ (beat : ℕ) (faulty : ℕ → Bool) (last from : ℕ) (seen_at : ℕ → Option Observation) where
  -- a window of leader b from configuration t on, and in it the phase of king k from s on
  pub record Explained (t b s k : ℕ) : Type 0 where
    pub since : from ≤ t
    pub p : ℕ
    pub small_p : p < beat
    pub window : IsWindow beat seen_at t beat b p
    pub within : t + beat ≤ last + 1
    pub begins : t ≤ s
    pub ends : s + 3 ≤ t + beat
    pub by_last : s + 3 ≤ last
    pub phase : (p + (s - t)) % beat ≡ 3 * k
    pub king : faulty k ≡ false

module _ (beat : ℕ) (six : 6 ≤ beat) (faulty : ℕ → Bool) (last from : ℕ)
    (seen_at : ℕ → Option Observation)
    (small : (c : ℕ) (seen : Observation) → seen_at c ≡ Some seen → seen.part < beat) where
  -- these explain
  abbrev Why : (t b s k : ℕ) → Type 0
  Why = Explained beat faulty last from seen_at

  pub third : (q k : ℕ) → q ≡ 3 * k → (q % 3 ≡ 0) × (q / 3 ≡ k)
  third q k e = (omega (arith, e), omega (arith, e))

  -- what passes for a phase is one
  pub passes : (t p x k : ℕ) → (p + x) % beat ≡ 3 * k → faulty k ≡ false → t + x + 3 ≤ last
      → begins_phase beat faulty last t p x ≡ true
  passes t p x k part king room =
      let q = third ((p + x) % beat) k part in
      and_from (nat_eq ((p + x) % beat % 3) 0 && not (faulty ((p + x) % beat / 3)))
      (nat_le (t + x + 3) last)
      (and_from (nat_eq ((p + x) % beat % 3) 0) (not (faulty ((p + x) % beat / 3))) (eq-eqb _ _ q.0)
      (not_from_false _ (ap faulty q.1 ∙ king))) (le-leb _ _ room)

  pub passed : (t p x : ℕ) → begins_phase beat faulty last t p x ≡ true
      → ((p + x) % beat ≡ 3 * ((p + x) % beat / 3)) × (faulty ((p + x) % beat / 3) ≡ false)
      × (t + x + 3 ≤ last)
  passed t p x e =
      let u = and_parts (nat_eq ((p + x) % beat % 3) 0 && not (faulty ((p + x) % beat / 3)))
      (nat_le (t + x + 3) last) e in
      let v = and_parts (nat_eq ((p + x) % beat % 3) 0) (not (faulty ((p + x) % beat / 3))) u.0 in
      let zero_rest = eqb-true _ _ v.0 in
      (omega (arith, zero_rest), not-true _ v.1, leb-true _ _ u.1)

  -- the window that ends with a stretch
  pub last_window : (c count : ℕ) (seen : Observation) → Ends beat seen_at from (suc c) count seen
      → beat ≤ count
      → IsWindow beat seen_at (c + 1 - beat) beat seen.leader ((seen.part + 1) % beat)
  last_window c count seen ends long = record {
    each = λ y lt.
        let at = ends.at in
        let here : c + 1 - beat + y ≡ ends.t + (count - beat + y) = omega (arith, at, long) in
        let on : ends.p + (count - beat + y) + beat ≡ ends.p + count + y = omega (arith, long) in
        ap seen_at here
        ∙ (ends.window.each (count - beat + y) (omega (arith, lt, long))
        ∙ ap (λ (q : ℕ). Some (record { leader = seen.leader; part = q }))
        (sym (add-mod_right (ends.p + (count - beat + y)) beat)
        ∙ (ap (λ (q : ℕ). q % beat) on
        ∙ (sym (mod-add-mod (ends.p + count) beat y)
        ∙ ap (λ (q : ℕ). (q + y) % beat) (sym ends.next)))));
  }

  last_begins : (c count : ℕ) (seen : Observation) → Ends beat seen_at from (suc c) count seen
      → beat ≤ count
      → (from ≤ c + 1 - beat) × (c + 1 - beat + beat ≡ c + 1)
  last_begins c count seen ends long =
      let at = ends.at in
      let begins = ends.begins in
      (omega (arith, at, begins, long), omega (arith, at, long))

  -- two explanations of one window have one leader and one part
  same_window : (t b p b' p' : ℕ) → IsWindow beat seen_at t beat b p
      → IsWindow beat seen_at t beat b' p'
      → p < beat → p' < beat → (b' ≡ b) × (p' ≡ p)
  same_window t b p b' p' w w' lt lt' =
      let e : Some (record { leader = b'; part = (p' + 0) % beat })
      ≡ Some (record { leader = b; part = (p + 0) % beat }) =
      sym (w'.each 0 (omega (arith, six))) ∙ w.each 0 (omega (arith, six)) in
      let s : ◌≡◌ {A = Observation} (record { leader = b'; part = (p' + 0) % beat })
      (record { leader = b; part = (p + 0) % beat }) =
      same_Some _ _ e in
      let rest : (q : ℕ) → q < beat → (q + 0) % beat ≡ q = λ q small.
      ap (λ (y : ℕ). y % beat) (add-zero q) ∙ mod-eq_of_lt small in (
        ap (λ (s : Observation). s.leader) s,
        sym (rest p' lt')
            ∙ (ap (λ (s : Observation). s.part) s ∙ rest p lt),
      )

  -- what is found in a window: it explains, and no phase of this window is earlier
  pub record IsFoundIn (t : ℕ) (e : Explanation) : Type 0 where
    pub window : e.window ≡ t
    pub explained : Why e.window e.leader e.phase e.king
    pub first : (b s k : ℕ) → Why t b s k → e.phase ≤ s

  found_phase : (t b p : ℕ) (x : Option ℕ) (e : Explanation) → from ≤ t → t + beat ≤ last + 1
      → p < beat
      → IsWindow beat seen_at t beat b p → IsFirst (begins_phase beat faulty last t p) (beat - 2) x
      → option_map (explained_by beat faulty last t b p) x ≡ Some e → IsFoundIn t e
  found_phase t b p None e le room small_p w h is = absurd (none-some e is)
  found_phase t b p (Some x) e le room small_p w h is =
      let lt = h.0 in
      let ok = passed t p x h.1 in
      let by_last = ok.2 in
      let back : t + x - t ≡ x = omega arith in
      subst (IsFoundIn t) (same_Some (explained_by beat faulty last t b p x) e is) (record {
        window = refl;
        explained = record {
          since = le;
          p = p;
          small_p = small_p;
          window = w;
          within = room;
          begins = omega arith;
          ends = omega (arith, lt);
          by_last = by_last;
          phase = ap (λ (y : ℕ). (p + y) % beat) back ∙ ok.0;
          king = ok.1;
        };
        first = λ b' s k other.
            let same = same_window t b p b' other.p w other.window small_p other.small_p in
            let begins = other.begins in
            let by = other.by_last in
            let on : (p + (s - t)) % beat ≡ 3 * k =
            ap (λ (q : ℕ). (q + (s - t)) % beat) (sym same.1) ∙ other.phase in
            elim (cases_lt (s - t) x) [
              | inl before ↦ absurd (false≢true (sym (h.2 (s - t) before)
                  ∙ passes t p (s - t) k on other.king (omega (arith, begins, by))))
              | inr from_x ↦ omega (arith, from_x, begins)
            ];
      })

  found_gate : (c count : ℕ) (seen : Observation) (b : Bool) (e : Explanation)
      → nat_le beat count ≡ b
      → c ≤ last → Ends beat seen_at from (suc c) count seen
      → (if b then explained_in beat faulty last (c + 1 - beat) seen.leader ((seen.part + 1) % beat)
      else None)
      ≡ Some e
      → IsFoundIn (c + 1 - beat) e
  found_gate c count seen false e g le ends is = absurd (none-some e is)
  found_gate c count seen true e g le ends is =
      let long = leb-true beat count g in
      let at = last_begins c count seen ends long in
      let whole = at.1 in
      found_phase (c + 1 - beat) seen.leader ((seen.part + 1) % beat)
      (first_below (begins_phase beat faulty last (c + 1 - beat) ((seen.part + 1) % beat))
      (beat - 2))
      e
      at.0 (omega (arith, whole, le)) (mod-lt (seen.part + 1) (omega (arith, six)))
      (last_window c count seen ends long)
      (first_is (begins_phase beat faulty last (c + 1 - beat) ((seen.part + 1) % beat)) (beat - 2))
      is

  found_from : (c count : ℕ) (seen : Option Observation) (e : Explanation) → c ≤ last
      → Stands beat seen_at from (suc c) count seen
      → explained_from beat faulty last c count seen ≡ Some e → IsFoundIn (c + 1 - beat) e
  found_from c count None e le h is = absurd (none-some e is)
  found_from c count (Some seen) e le h is =
      found_gate c count seen (nat_le beat count) e refl le h is

  found_at : (c : ℕ) (e : Explanation) → c ≤ last
      → explained_at beat faulty last from seen_at c ≡ Some e → IsFoundIn (c + 1 - beat) e
  found_at c e le is = found_from c _ _ e le (stands beat seen_at from small (suc c)) is

  -- ---- each window that has an explanation is found

  known_in : (t b p : ℕ) (x : Option ℕ) → ((y : ℕ) × (x ≡ Some y))
      → (e : Explanation) × (option_map (explained_by beat faulty last t b p) x ≡ Some e)
  known_in t b p x (y, is) = (
    explained_by beat faulty last t b p y,
    ap (option_map (explained_by beat faulty last t b p)) is,
  )

  pub known_at : (t b s k : ℕ) → Why t b s k → (c : ℕ) → t + beat ≡ c + 1
      → (e : Explanation) × (explained_at beat faulty last from seen_at c ≡ Some e)
  known_at t b s k why c end =
      let begins = why.begins in
      let ends = why.ends in
      let by = why.by_last in
      let beat_is : suc (beat - 1) ≡ beat = omega (arith, six) in
      let at : suc (t + (beat - 1)) ≡ suc c = omega (arith, six, end) in
      let window : c + 1 - beat ≡ t = omega (arith, end) in
      let long : IsLong beat seen_at from (beat - 1) b ((why.p + (beat - 1)) % beat)
      (stretch_before beat from seen_at (suc c)) =
      subst (λ (c : ℕ). IsLong beat seen_at from (beat - 1) b ((why.p + (beat - 1)) % beat)
      (stretch_before beat from seen_at c)) at
      (window_long beat seen_at from t b why.p why.since (beat - 1)
      (subst (λ (m : ℕ). IsWindow beat seen_at t m b why.p) (sym beat_is) why.window)) in
      let more = long.long in
      let on : why.p + (beat - 1) + 1 ≡ why.p + beat = omega (arith, six) in
      let start : ((why.p + (beat - 1)) % beat + 1) % beat ≡ why.p =
      mod-add-mod (why.p + (beat - 1)) beat 1
      ∙ (ap (λ (q : ℕ). q % beat) on ∙ (add-mod_right why.p beat ∙ mod-eq_of_lt why.small_p)) in
      let x = first_known (begins_phase beat faulty last t why.p) (beat - 2) (s - t)
      (omega (arith, begins, ends, six))
      (passes t why.p (s - t) k why.phase why.king (omega (arith, begins, by))) in
      let known = known_in t b why.p
      (first_below (begins_phase beat faulty last t why.p) (beat - 2)) (x.0, x.1) in (
        known.0,
        ap (explained_from beat faulty last c (stretch_before beat from seen_at (suc c)).count)
            long.seen
            ∙
            (ap
            (λ (g : Bool). if g
            then explained_in beat faulty last (c + 1 - beat) b
            (((why.p + (beat - 1)) % beat + 1) % beat)
            else None)
            (le-leb beat (stretch_before beat from seen_at (suc c)).count
            (omega (arith, more, six)))
            ∙ (ap₂ (λ (t p : ℕ). explained_in beat faulty last t b p) window start ∙ known.1)),
      )

  -- ---- the first that is found

  firsts : (c : ℕ) → IsFirstKnown (explained_at beat faulty last from seen_at) c
      (found_before beat faulty last from seen_at c)
  firsts zero = λ d lt. absurd (omega (arith, lt))
  firsts (suc c) = known_more (explained_at beat faulty last from seen_at) c
      (found_before beat faulty last from seen_at c)
      (explained_at beat faulty last from seen_at c) refl (firsts c)

  -- it explains, and no other is of an earlier window or of an earlier phase of its window
  abbrev pub IsFirstFound : Option Explanation → Type 0
  IsFirstFound (Some e) = Why e.window e.leader e.phase e.king
      × ((t b s k : ℕ) → Why t b s k → (e.window ≤ t) × (t ≡ e.window → e.phase ≤ s))
  IsFirstFound None = (t b s k : ℕ) → Why t b s k → ⊥

  from_first : (found : Option Explanation)
      → IsFirstKnown (explained_at beat faulty last from seen_at) (last + 1) found
      → IsFirstFound found
  from_first None h = λ t b s k why.
      let within = why.within in
      let e = known_at t b s k why (t + beat - 1) (omega (arith, six)) in
      none-some e.0 (sym (h (t + beat - 1) (omega (arith, within, six))) ∙ e.1)
  from_first (Some e) h =
      let lt = h.1 in
      let found = found_at h.0 e (omega (arith, lt)) h.2 in
      let at = found.window in (
        found.explained,
        λ t b s k why.
            let other = known_at t b s k why (t + beat - 1) (omega (arith, six)) in (
              elim (cases_lt (t + beat - 1) h.0) [
                | inl before ↦ absurd
                    (none-some other.0 (sym (h.3 (t + beat - 1) before) ∙ other.1))
                | inr from_c ↦ omega (arith, from_c, at, six)
              ],
              λ same. found.first b s k (subst (λ (t : ℕ). Why t b s k) (same ∙ at) why),
            ),
      )

  pub first_found : IsFirstFound (found_before beat faulty last from seen_at (last + 1))
  first_found =
      from_first (found_before beat faulty last from seen_at (last + 1)) (firsts (last + 1))
