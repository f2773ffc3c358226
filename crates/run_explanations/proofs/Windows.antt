-- Stretches and windows: what is seen for a beat, with a part that grows by one.
use Rattle.std.proofs.Common.{◌≡◌, ℕ, zero, suc, ◌+◌, ◌%◌, ◌<◌, ◌≤◌, Bool, true, false, Option}
use Rattle.std.proofs.Common.{Some, None, if◌then◌else◌, refl, sym, ap, ◌∙◌, subst, inl, inr}
use Rattle.std.proofs.Common.{add-zero, arith}
use Rattle.std.specs.Prelude.{nat_eq, nat_le}
use Rattle.std.proofs.Math.Nat.{mod-add-mod, mod-eq_of_lt}
use Rattle.std.proofs.lemmas.Bool.{and_parts, and_from, eqb-true, eq-eqb, leb-true, leb-false}
use Rattle.std.proofs.lemmas.Bool.{le-leb, lt-leb, cases_lt}
use Rattle.run_explanations.specs.declared.seeing.Observation.{Observation}
use Rattle.run_explanations.specs.declared.searching.LeaderStreak.{LeaderStreak}
use Rattle.run_explanations.specs.Searching.{goes_on, no_stretch, stretched, stretch_before}

module _ (beat : ℕ) (seen_at : ℕ → Option Observation) where
  -- From configuration t on, m configurations show leader b, and a part that is p and grows by one.
  pub record IsWindow (t m b p : ℕ) : Type 0 where
    pub each : (x : ℕ) → x < m
        → seen_at (t + x) ≡ Some (record { leader = b; part = (p + x) % beat })

  module _ (from : ℕ) where
    -- the stretch that ends before configuration c
    pub record Ends (c count : ℕ) (seen : Observation) : Type 0 where
      pub t : ℕ
      pub p : ℕ
      pub at : t + count ≡ c
      pub begins : from ≤ t
      pub some : 0 < count
      pub window : IsWindow t count seen.leader p
      pub next : (seen.part + 1) % beat ≡ (p + count) % beat

    abbrev pub Stands : (c count : ℕ) → Option Observation → Type 0
    Stands c count None = count ≡ 0
    Stands c count (Some seen) = Ends c count seen

    pub none_before : (c : ℕ) → c ≤ from → stretch_before beat from seen_at c ≡ no_stretch
    none_before zero h = refl
    none_before (suc c) h =
        ap
        (λ (b : Bool). if b then stretched beat (stretch_before beat from seen_at c) (seen_at c)
        else stretch_before beat from seen_at c)
        (lt-leb from c (omega (arith, h)))
        ∙ none_before c (omega (arith, h))

    pub begun : (c : ℕ) → from ≤ c → stretch_before beat from seen_at (suc c)
        ≡ stretched beat (stretch_before beat from seen_at c) (seen_at c)
    begun c h =
        ap
        (λ (b : Bool). if b then stretched beat (stretch_before beat from seen_at c) (seen_at c)
        else stretch_before beat from seen_at c)
        (le-leb from c h)

    module _ (small : (c : ℕ) (seen : Observation) → seen_at c ≡ Some seen → seen.part < beat) where
      -- one configuration is a stretch
      single : (c : ℕ) (now : Observation) → from ≤ c → seen_at c ≡ Some now → Ends (suc c) 1 now
      single c now le is = record {
        t = c;
        p = now.part;
        at = omega arith;
        begins = le;
        some = omega arith;
        window = record {
          each = λ x lt.
              let none : 0 ≡ x = omega (arith, lt) in
              let same : now.part ≡ (now.part + x) % beat =
              subst (λ (x : ℕ). now.part ≡ (now.part + x) % beat) none
              (sym
              (ap (λ (p : ℕ). p % beat) (add-zero now.part) ∙ mod-eq_of_lt (small c now is))) in
              let here : c + x ≡ c = omega (arith, none) in
              ap seen_at here
              ∙ (is ∙ ap (λ (p : ℕ). Some (record { leader = now.leader; part = p })) same);
        };
        next = refl;
      }

      -- a stretch that goes on is longer by one
      longer : (c count : ℕ) (before now : Observation) → Ends c count before → seen_at c ≡ Some now
          → before.leader ≡ now.leader → now.part ≡ (before.part + 1) % beat
          → Ends (suc c) (count + 1) now
      longer c count before now ends is leader part =
          let at = ends.at in
          let part_is : now.part ≡ (ends.p + count) % beat = part ∙ ends.next in
          let one_more : ends.p + count + 1 ≡ ends.p + (count + 1) = omega arith in
          record {
            t = ends.t;
            p = ends.p;
            at = omega (arith, at);
            begins = ends.begins;
            some = omega arith;
            window = record {
              each = λ x lt. elim (cases_lt x count) [
                | inl before_it ↦ ends.window.each x before_it
                    ∙ ap (λ (b : ℕ). Some (record { leader = b; part = (ends.p + x) % beat }))
                    leader
                | inr from_it ↦
                    let here : count ≡ x = omega (arith, lt, from_it) in
                    subst (λ (x : ℕ). seen_at (ends.t + x)
                    ≡ Some (record { leader = now.leader; part = (ends.p + x) % beat })) here
                    (ap seen_at at
                    ∙
                    (is
                    ∙ ap (λ (p : ℕ). Some (record { leader = now.leader; part = p }))
                    part_is))
              ];
            };
            next =
                ap (λ (p : ℕ). (p + 1) % beat) part_is
                ∙ (mod-add-mod (ends.p + count) beat 1 ∙ ap (λ (p : ℕ). p % beat) one_more);
          }

      goes : (c count : ℕ) (before now : Observation) (b : Bool) → from ≤ c → Ends c count before
          → seen_at c ≡ Some now → goes_on beat (Some before) now ≡ b
          → Ends (suc c) (if b then count + 1 else 1) now
      goes c count before now true le ends is e =
          let p = and_parts (nat_eq before.leader now.leader)
          (nat_eq now.part ((before.part + 1) % beat)) e in
          longer c count before now ends is (eqb-true _ _ p.0) (eqb-true _ _ p.1)
      goes c count before now false le ends is e = single c now le is

      take_one : (c count : ℕ) (before now : Option Observation) → from ≤ c → Stands c count before
          → seen_at c ≡ now
          → Stands (suc c) (stretched beat (record { seen = before; count = count }) now).count
          (stretched beat (record { seen = before; count = count }) now).seen
      take_one c count before None le h is = refl
      take_one c count None (Some now) le h is = single c now le is
      take_one c count (Some before) (Some now) le h is =
          goes c count before now (goes_on beat (Some before) now) le h is refl

      stands_more : (c : ℕ) (b : Bool) → nat_le from c ≡ b
          → Stands c (stretch_before beat from seen_at c).count
          (stretch_before beat from seen_at c).seen
          → Stands (suc c) (stretch_before beat from seen_at (suc c)).count
          (stretch_before beat from seen_at (suc c)).seen
      stands_more c true e h =
          let le = leb-true from c e in
          subst (λ (s : LeaderStreak). Stands (suc c) s.count s.seen) (sym (begun c le))
          (take_one c (stretch_before beat from seen_at c).count
          (stretch_before beat from seen_at c).seen (seen_at c) le h refl)
      stands_more c false e h =
          subst (λ (s : LeaderStreak). Stands (suc c) s.count s.seen)
          (sym (none_before (suc c) (let lt = leb-false from c e in omega (arith, lt)))) refl

      -- each stretch is one
      pub stands : (c : ℕ) → Stands c (stretch_before beat from seen_at c).count
          (stretch_before beat from seen_at c).seen
      stands zero = refl
      stands (suc c) = stands_more c (nat_le from c) refl (stands c)

      count_of : (c count : ℕ) (seen : Option Observation) → Stands c count seen → count ≤ c
      count_of c count None h = omega (arith, h)
      count_of c count (Some seen) h = let at = h.at in omega (arith, at)

      -- and is no longer than the configurations before it
      pub count_most : (c : ℕ) → (stretch_before beat from seen_at c).count ≤ c
      count_most c = count_of c _ _ (stands c)

    -- ---- each window is in a stretch

    -- a stretch of more than m configurations, which ends with leader b and part q
    pub record IsLong (m b q : ℕ) (s : LeaderStreak) : Type 0 where
      pub long : m < s.count
      pub seen : s.seen ≡ Some (record { leader = b; part = q })

    begins_long : (s : LeaderStreak) (b q : ℕ) (g : Bool) → 0 < (if g then s.count + 1 else 1)
    begins_long s b q true = omega arith
    begins_long s b q false = omega arith

    first_long : (s : LeaderStreak) (now : Option Observation) (b q : ℕ)
        → now ≡ Some (record { leader = b; part = q }) → IsLong 0 b q (stretched beat s now)
    first_long s now b q e =
        subst (λ (now : Option Observation). IsLong 0 b q (stretched beat s now)) (sym e) (record {
          long = begins_long s b q (goes_on beat s.seen (record { leader = b; part = q }));
          seen = refl;
        })

    more_long : (s : LeaderStreak) (now : Option Observation) (m b q r : ℕ) → IsLong m b q s
        → now ≡ Some (record { leader = b; part = r }) → r ≡ (q + 1) % beat
        → IsLong (suc m) b r (stretched beat s now)
    more_long s now m b q r is e next =
        let on : goes_on beat s.seen (record { leader = b; part = r }) ≡ true =
        ap (λ (o : Option Observation). goes_on beat o (record { leader = b; part = r })) is.seen
        ∙ and_from (nat_eq b b) (nat_eq r ((q + 1) % beat)) (eq-eqb b b refl) (eq-eqb _ _ next) in
        let count :
        (if goes_on beat s.seen (record { leader = b; part = r }) then s.count + 1 else 1)
        ≡ s.count + 1 =
        ap (λ (g : Bool). if g then s.count + 1 else 1) on in
        let long = is.long in
        subst (λ (now : Option Observation). IsLong (suc m) b r (stretched beat s now)) (sym e)
        (record {
          long = omega (arith, count, long);
          seen = refl;
        })

    module _ (t b p : ℕ) (le : from ≤ t) where
      pub window_long : (m : ℕ) → IsWindow t (suc m) b p
          → IsLong m b ((p + m) % beat) (stretch_before beat from seen_at (suc (t + m)))
      window_long zero w =
          subst (IsLong 0 b ((p + 0) % beat)) (sym (begun (t + 0) (omega (arith, le))))
          (first_long (stretch_before beat from seen_at (t + 0)) (seen_at (t + 0)) b
          ((p + 0) % beat)
          (w.each 0 (omega arith)))
      window_long (suc m) w =
          let before = window_long m (record { each = λ x lt. w.each x (omega (arith, lt)) }) in
          let next : t + suc m ≡ suc (t + m) = omega arith in
          let more : p + m + 1 ≡ p + suc m = omega arith in
          subst
          (λ (c : ℕ). IsLong (suc m) b ((p + suc m) % beat)
          (stretch_before beat from seen_at (suc c)))
          (sym next)
          (subst (IsLong (suc m) b ((p + suc m) % beat))
          (sym (begun (suc (t + m)) (omega (arith, le))))
          (more_long (stretch_before beat from seen_at (suc (t + m))) (seen_at (suc (t + m))) m b
          ((p + m) % beat) ((p + suc m) % beat) before
          (ap seen_at (sym next) ∙ w.each (suc m) (omega arith))
          (ap (λ (y : ℕ). y % beat) (sym more) ∙ sym (mod-add-mod (p + m) beat 1))))
