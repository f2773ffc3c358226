-- What one round, and one phase, does to the registers of a group of n > 3f nodes of which at most
-- f are faulty.
use Rattle.std.proofs.Common.{◌≡◌, ℕ, zero, suc, ◌-◌, ◌*◌, ◌<◌, ◌≤◌, Bool, true, false, not, ◌&&◌}
use Rattle.std.proofs.Common.{cond, List, get_or, Option, Some, None, is_some, option_map}
use Rattle.std.proofs.Common.{unwrap_or, leb, refl, sym, ap, ◌∙◌, subst, ⊎_elim, arith}
use Rattle.std.proofs.lemmas.Bool.{cases_eq, true≢false, false≢true, leb-true, le-leb, and_parts}
use Rattle.std.proofs.lemmas.Bool.{not-true, and_cases}
use Rattle.counting.specs.Places.{places}
use Rattle.counting.specs.Values.{count_of, least_above}
use Rattle.counting.proofs.Places.{some_place}
use Rattle.counting.proofs.Counts.{two_values}
use Rattle.counting.proofs.Least.{least_has, least_is}
use Rattle.sync_types.specs.declared.states.Reg.{Reg}
use Rattle.construction.specs.PhaseKing.{own_or_kings, incremented, instructed, locked_at}
use Rattle.phase_king.specs.Hearing.{Hears, Obeys, EachObeys, AllObey, AllHave, AllLocked}
use Rattle.phase_king.proofs.LockedRegisters.{finite}
use Rattle.phase_king.proofs.Heard.{most_hold, two_lists, carried, correct_source}

-- ---- values and marks

mapped_some : (next : ℕ → ℕ) (o : Option ℕ) (x : ℕ) → option_map next o ≡ Some x
    → (y : ℕ) × (o ≡ Some y) × (next y ≡ x)
mapped_some next None x e = absurd (cc)
mapped_some next (Some y) x e = (y, refl, cc)

kept_some : (next : ℕ → ℕ) (b : Bool) (o : Option ℕ) (x : ℕ)
    → option_map next (cond b o None) ≡ Some x → (y : ℕ) × (b ≡ true) × (o ≡ Some y) × (next y ≡ x)
kept_some next true o x e = let m = mapped_some next o x e in (m.0, refl, m.1, m.2)
kept_some next false o x e = absurd (cc)

-- a value that is infinite or not marked gives way to the king's
unmarked : (a : Option ℕ) (d : Bool) (king : Option ℕ) → (is_some a && d) ≡ false
    → own_or_kings a d king ≡ unwrap_or king 0
unmarked None d king h = refl
unmarked (Some a) false king h = refl
unmarked (Some a) true king h = absurd (true≢false h)

-- if own and king's are one value, keeping and taking are the same
either_way : (a : Option ℕ) (d : Bool) (king : Option ℕ) (y : ℕ) → a ≡ Some y → unwrap_or king 0 ≡ y
    → own_or_kings a d king ≡ y
either_way None d king y e g = absurd (cc)
either_way (Some a) false king y e g = g
either_way (Some a) true king y e g = cc

module _ (n f : ℕ) (next : ℕ → ℕ) (faulty : ℕ → Bool) (quorum : 3 * f < n)
    (few : places faulty n ≤ f) where
  -- ---- one value that all correct nodes have

  -- it is in all but f places of each list heard
  enough : (old : ℕ → Reg) (z : ℕ) (heard : List (Option ℕ)) → Hears n faulty old heard
      → AllHave n faulty old z → leb (n - f) (count_of heard (Some z)) ≡ true
  enough old z heard h all =
      le-leb (n - f) (count_of heard (Some z))
      (omega (arith, most_hold n f faulty few old heard (Some z) h all))

  -- and the only finite one in more than f places
  least_one : (old : ℕ → Reg) (z : ℕ) (heard : List (Option ℕ)) → Hears n faulty old heard
      → AllHave n faulty old z → least_above f heard ≡ Some z
  least_one old z heard h all =
      let l = least_is f heard z
      (omega (arith, most_hold n f faulty few old heard (Some z) h all)) in
      let w = correct_source n f faulty few old heard (Some l.0) h (least_has f heard l.0 l.1) in
      l.1 ∙ (sym w.3 ∙ all w.0 w.1 w.2)

  -- kind 0 keeps it
  pub kept : (old : ℕ → Reg) (z king v : ℕ) (new : Reg) → AllHave n faulty old z → v < n
      → faulty v ≡ false → Obeys n f next faulty old 0 king (old v) new → new.a ≡ Some (next z)
  kept old z king v new all lt ok o =
      ap (λ r. r.a) o.step
      ∙ (ap (λ y. option_map next (cond (leb (n - f) (count_of o.heard y)) y None))
      (all v lt ok)
      ∙ ap (λ b. option_map next (cond b (Some z) None)) (enough old z o.heard o.hears all))

  -- kind 1 locks it
  pub marked : (old : ℕ → Reg) (z king v : ℕ) (new : Reg) → AllHave n faulty old z → v < n
      → faulty v ≡ false → Obeys n f next faulty old 1 king (old v) new → new ≡ locked_at (next z)
  marked old z king v new all lt ok o =
      o.step
      ∙ (ap
      (λ y. incremented next
      (record { a = least_above f o.heard; d = leb (n - f) (count_of o.heard y) }))
      (all v lt ok)
      ∙
      (ap (λ b. incremented next (record { a = least_above f o.heard; d = b }))
      (enough old z o.heard o.hears all)
      ∙ ap (λ y. incremented next (record { a = y; d = true }))
      (least_one old z o.heard o.hears all)))

  -- if it is locked, each kind keeps it so
  pub locked_on : (old : ℕ → Reg) (z : ℕ) → AllLocked n faulty old z
      → (kind king : ℕ) (heard : List (Option ℕ)) → Hears n faulty old heard
      → instructed n f next kind (locked_at z) heard king ≡ locked_at (next z)
  locked_on old z all zero king heard h =
      ap (λ b. incremented next (record { a = cond b (Some z) None; d = true }))
      (enough old z heard h (λ u lt ok. ap (λ r. r.a) (all u lt ok)))
  locked_on old z all (suc zero) king heard h =
      ap (λ b. incremented next (record { a = least_above f heard; d = b }))
      (enough old z heard h (λ u lt ok. ap (λ r. r.a) (all u lt ok)))
      ∙ ap (λ o. incremented next (record { a = o; d = true }))
      (least_one old z heard h (λ u lt ok. ap (λ r. r.a) (all u lt ok)))
  locked_on old z all (suc (suc _)) king heard h = refl

  -- persistence, for one node
  pub persists : (old : ℕ → Reg) (z kind king v : ℕ) (new : Reg) → AllLocked n faulty old z → v < n
      → faulty v ≡ false → Obeys n f next faulty old kind king (old v) new
      → new ≡ locked_at (next z)
  persists old z kind king v new all lt ok o =
      o.step ∙ ap (λ r. instructed n f next kind r o.heard king) (all v lt ok)
      ∙ locked_on old z all kind king o.heard o.hears

  pub persistence : (old new : ℕ → Reg) (z : ℕ) (kinds kings : ℕ → ℕ) → AllLocked n faulty old z
      → EachObeys n f next faulty kinds kings old new → AllLocked n faulty new (next z)
  persistence old new z kinds kings locked obey =
      λ v lt ok. persists old z (kinds v) (kings v) v (new v) locked lt ok (obey v lt ok)

  pub unanimity : (start middle end : ℕ → Reg) (z : ℕ) (kings later_kings : ℕ → ℕ)
      → AllHave n faulty start z → EachObeys n f next faulty (λ v. 0) kings start middle
      → EachObeys n f next faulty (λ v. 1) later_kings middle end
      → AllLocked n faulty end (next (next z))
  unanimity start middle end z kings later_kings has zeroth first =
      λ v lt ok. marked middle (next z) (later_kings v) v (end v)
      (λ u u_lt u_ok. kept start z (kings u) u (middle u) has u_lt u_ok (zeroth u u_lt u_ok)) lt
      ok (first v lt ok)

  -- ---- the phase under a common king

  -- any two finite values of correct nodes are one
  pub OneValue : (ℕ → Reg) → Type 0
  OneValue registers =
      (u v x y : ℕ) → u < n → faulty u ≡ false → v < n → faulty v ≡ false → (registers u).a ≡ Some x
      → (registers v).a ≡ Some y → x ≡ y

  -- after kind 0: two values in all but f places of two lists heard are one
  pub first_round : (king : ℕ) (old new : ℕ → Reg) → AllObey n f next faulty 0 king old new
      → OneValue new
  unfolding OneValue
  first_round king old new all u v x y u_lt u_ok v_lt v_ok u_has v_has =
      let p = all u u_lt u_ok in
      let q = all v v_lt v_ok in
      let s = kept_some next (leb (n - f) (count_of p.heard (old u).a)) (old u).a x
      (sym (ap (λ r. r.a) p.step) ∙ u_has) in
      let t = kept_some next (leb (n - f) (count_of q.heard (old v).a)) (old v).a y
      (sym (ap (λ r. r.a) q.step) ∙ v_has) in
      ⊎_elim (λ e. sym s.3 ∙ (ap next e ∙ t.3))
      (λ ne. absurd (omega (
        arith,
        leb-true _ _ s.1,
        leb-true _ _ t.1,
        two_lists n f faulty few old p.heard q.heard (old u).a (old v).a p.hears q.hears
            (λ e. ne (let g : Some s.0 ≡ Some t.0 = sym s.2 ∙ e ∙ t.2 in cc)),
      )))
      (cases_eq s.0 t.0)

  -- if all but f places hold the own value and more than f hold j, the own value is j
  own_is : (old : ℕ → Reg) (u : ℕ) (heard : List (Option ℕ)) (j : ℕ) → Hears n faulty old heard
      → n - f ≤ count_of heard (old u).a → f < count_of heard (Some j)
      → ((x : ℕ) → (old u).a ≡ Some x → x ≡ j) → (o : Option ℕ) → (old u).a ≡ o → (old u).a ≡ Some j
  own_is old u heard j h most more only (Some x) e = e ∙ ap Some (only x e)
  own_is old u heard j h most more only None e =
      let most_none : n - f ≤ count_of heard None = subst (λ o. n - f ≤ count_of heard o) e most in
      absurd (omega (arith, two_values heard None (Some j) (λ e. cc), h.size))

  -- if all but f places of one list heard hold z, each list heard has a least value
  carried_least : (old : ℕ → Reg) (some other : List (Option ℕ)) (z : ℕ) → Hears n faulty old some
      → Hears n faulty old other → n - f ≤ count_of some (Some z)
      → (j : ℕ) × (least_above f other ≡ Some j) × (j ≤ z)
  carried_least old some other z h k most =
      least_is f other z (omega (arith, carried n f faulty few old some other (Some z) h k))

  -- the least values of two lists heard are one
  one_least : (old : ℕ → Reg) (some other : List (Option ℕ)) (x y : ℕ) → OneValue old
      → Hears n faulty old some → Hears n faulty old other → least_above f some ≡ Some x
      → least_above f other ≡ Some y → x ≡ y
  unfolding OneValue
  one_least old some other x y one h k e g =
      let u = correct_source n f faulty few old some (Some x) h (least_has f some x e) in
      let v = correct_source n f faulty few old other (Some y) k (least_has f other y g) in
      one u.0 v.0 x y u.1 u.2 v.1 v.2 u.3 v.3

  -- kind 1 takes the least value
  takes_least : (old : ℕ → Reg) (king : ℕ) (own new : Reg)
      (o : Obeys n f next faulty old 1 king own new) (j y : ℕ)
      → least_above f o.heard ≡ Some j → next j ≡ y → new.a ≡ Some y
  takes_least old king own new o j y least e =
      ap (λ r. r.a) o.step ∙ (ap (option_map next) least ∙ ap Some e)

  -- after kind 1: if one correct node is locked, each correct node has its value
  pub second_round : (king : ℕ) (old new : ℕ → Reg) → OneValue old
      → AllObey n f next faulty 1 king old new → (u y : ℕ) → u < n → faulty u ≡ false
      → (new u).a ≡ Some y → (new u).d ≡ true → AllHave n faulty new y
  unfolding OneValue
  second_round king old new one all u y u_lt u_ok u_has u_marked v v_lt v_ok =
      let p = all u u_lt u_ok in
      let q = all v v_lt v_ok in
      let s = mapped_some next (least_above f p.heard) y (sym (ap (λ r. r.a) p.step) ∙ u_has) in
      let more = least_has f p.heard s.0 s.1 in
      let w = correct_source n f faulty few old p.heard (Some s.0) p.hears more in
      let most_own : n - f
      ≤ count_of p.heard (old u).a = leb-true _ _ (sym (ap (λ r. r.d) p.step) ∙ u_marked) in
      let own = own_is old u p.heard s.0 p.hears most_own more
      (λ x e. one u w.0 x s.0 u_lt u_ok w.1 w.2 e w.3) (old u).a refl in
      let most : n - f
      ≤ count_of p.heard (Some s.0) = subst (λ o. n - f ≤ count_of p.heard o) own most_own in
      let l = carried_least old p.heard q.heard s.0 p.hears q.hears most in
      takes_least old king (old v) (new v) q l.0 y l.1
      (ap next (one_least old q.heard p.heard l.0 s.0 one q.hears p.hears l.1 s.1) ∙ s.2)

  -- kind 2, if all correct nodes have one value
  third_from_one : (king : ℕ) (old new : ℕ → Reg) (y : ℕ) → king < n → faulty king ≡ false
      → AllHave n faulty old y → AllObey n f next faulty 2 king old new
      → AllLocked n faulty new (next y)
  third_from_one king old new y king_lt king_ok has all v lt ok =
      let q = all v lt ok in
      q.step
      ∙ ap (λ x. record { a = Some (next x); d = true })
      (either_way (old v).a (old v).d (get_or q.heard king None) y (has v lt ok)
      (ap (λ o. unwrap_or o 0) (q.hears.honest king king_lt king_ok ∙ has king king_lt king_ok)))

  -- kind 2, if no correct node is locked
  third_from_none : (king : ℕ) (old new : ℕ → Reg) → king < n → faulty king ≡ false
      → ((v : ℕ) → v < n → faulty v ≡ false → (is_some (old v).a && (old v).d) ≡ false)
      → AllObey n f next faulty 2 king old new
      → AllLocked n faulty new (next (unwrap_or (old king).a 0))
  third_from_none king old new king_lt king_ok none all v lt ok =
      let q = all v lt ok in
      q.step
      ∙ ap (λ x. record { a = Some (next x); d = true })
      (unmarked (old v).a (old v).d (get_or q.heard king None) (none v lt ok)
      ∙ ap (λ o. unwrap_or o 0) (q.hears.honest king king_lt king_ok))

  -- after kind 2, if all have the value of each that is locked
  pub third_round : (king : ℕ) (old new : ℕ → Reg) → king < n → faulty king ≡ false
      → ((u y : ℕ) → u < n → faulty u ≡ false → (old u).a ≡ Some y → (old u).d ≡ true
      → AllHave n faulty old y)
      → AllObey n f next faulty 2 king old new → (z : ℕ) × AllLocked n faulty new z
  third_round king old new king_lt king_ok same all = ⊎_elim
      (λ s. let e = and_parts (not (faulty s.0)) (is_some (old s.0).a && (old s.0).d) s.2 in
      let g = and_parts (is_some (old s.0).a) (old s.0).d e.1 in
      let y = finite (old s.0).a g.0 in (
        next y.0,
        third_from_one king old new y.0 king_lt king_ok
            (same s.0 y.0 s.1 (not-true (faulty s.0) e.0) y.1 g.1) all,
      ))
      (λ s. (
        next (unwrap_or (old king).a 0),
        third_from_none king old new king_lt king_ok
            (λ v lt ok. ⊎_elim (λ e. absurd (true≢false (sym (ap not ok) ∙ e))) (λ e. e)
            (and_cases (not (faulty v)) (is_some (old v).a && (old v).d) (s v lt)))
            all,
      ))
      (some_place (λ i. not (faulty i) && (is_some (old i).a && (old i).d)) n)

  pub convergence : (king : ℕ) (start after_zero after_one end : ℕ → Reg) → king < n
      → faulty king ≡ false → AllObey n f next faulty 0 king start after_zero
      → AllObey n f next faulty 1 king after_zero after_one
      → AllObey n f next faulty 2 king after_one end → (z : ℕ) × AllLocked n faulty end z
  convergence king start after_zero after_one end king_lt king_ok zeroth first second =
      third_round king after_one end king_lt king_ok
      (second_round king after_zero after_one (first_round king start after_zero zeroth) first)
      second
