-- A configuration is seen to show what it shows.
use Rattle.std.proofs.Common.{◌≡◌, ℕ, zero, suc, ◌+◌, ◌*◌, ◌/◌, ◌<◌, Bool, true, false, Some, None}
use Rattle.std.proofs.Common.{if◌then◌else◌, refl, ap, ◌∙◌, subst, inl, inr, arith}
use Rattle.std.proofs.Math.Nat.{mod-lt}
use Rattle.std.proofs.lemmas.Bool.{false≢true, leb-true, le-leb, not_from_false, not-true, cases_lt}
use Rattle.std.proofs.lemmas.Option.{none-some, same_Some}
use Rattle.counting.proofs.Places.{one_fails}
use Rattle.construction.specs.Plans.{interval_of}
use Rattle.run_explanations.specs.declared.seeing.Shared.{Shared}
use Rattle.run_explanations.specs.declared.seeing.Shared.TheVariants.{Nothing, One, Several}
use Rattle.run_explanations.specs.declared.seeing.Observation.{Observation}
use Rattle.run_explanations.specs.declared.tops.Top.{Top}
use Rattle.run_explanations.specs.Seeing.{shared_by, is_sound, is_correct, pointer_at, part_at}
use Rattle.run_explanations.specs.Seeing.{pointed, parted, seen_parts, seen_leader, seen_in, Sees}
use Rattle.run_explanations.specs.Tops.{IsTop}
use Rattle.run_explanations.proofs.Sharing.{AllShow, Started, Holds, one_is, one_fits, gate_fits}
use Rattle.run_explanations.proofs.Sharing.{gate_started, gate_here, gate_holds, shared_fits}
use Rattle.run_explanations.proofs.Sharing.{shared_splits, shared_goes_on, shared_started}
use Rattle.run_explanations.proofs.Sharing.{shared_holds}

-- a shut gate leaves what was
gate_splits : (old new : Shared) (x : ℕ) (b : Bool) → (AllShow new x → AllShow old x)
    → AllShow (if b then new else old) x → (AllShow old x) × (b ≡ true → AllShow new x)
gate_splits old new x true back h = (back h, λ e. h)
gate_splits old new x false back h = (h, λ e. absurd (false≢true e))

module _ (top : Top) (faulty : ℕ → Bool) (outputs : ℕ → ℕ) where
  -- what block i adds
  abbrev with_block : (i : ℕ) → Shared
  with_block i = shared_by (pointed top faulty outputs i) (is_correct top faulty i)
      (pointer_at top outputs i) top.nodes

  -- all correct nodes of the sound ones of m blocks point to x
  abbrev AllPoint : (x m : ℕ) → Type 0
  AllPoint x m = (i j : ℕ) → i < m → is_sound top faulty i ≡ true → j < top.nodes
      → is_correct top faulty i j ≡ true → pointer_at top outputs i j ≡ x

  pointed_fits : (x m : ℕ) → AllPoint x m → AllShow (pointed top faulty outputs m) x
  pointed_fits x zero h = tt
  pointed_fits x (suc i) h =
      let before = pointed_fits x i (λ k j lt. h k j (omega (arith, lt))) in
      gate_fits (pointed top faulty outputs i) (with_block i) x (is_sound top faulty i) before
      (λ ok. shared_fits (pointed top faulty outputs i) (is_correct top faulty i)
      (pointer_at top outputs i) x top.nodes before (λ j lt e. h i j (omega arith) ok lt e))

  pointed_splits : (x m : ℕ) → AllShow (pointed top faulty outputs m) x → AllPoint x m
  pointed_splits x zero h i j lt ok jlt e = absurd (omega (arith, lt))
  pointed_splits x (suc m) h i j lt ok jlt e =
      let splits = shared_splits (pointed top faulty outputs m) (is_correct top faulty m)
      (pointer_at top outputs m) x top.nodes in
      let p = gate_splits (pointed top faulty outputs m) (with_block m) x (is_sound top faulty m)
      (λ g. (splits g).0) h in
      elim (cases_lt i m) [
        | inl before ↦ pointed_splits x m p.0 i j before ok jlt e
        | inr from ↦ let here : m ≡ i = omega (arith, lt, from) in
            subst (λ (i : ℕ). is_sound top faulty i ≡ true → is_correct top faulty i j ≡ true
            → pointer_at top outputs i j ≡ x) here (λ ok e. (splits (p.1 ok)).1 j jlt e) ok e
      ]

  pointed_started : (i j m : ℕ) → i < m → is_sound top faulty i ≡ true → j < top.nodes
      → is_correct top faulty i j ≡ true → Started (pointed top faulty outputs m)
  pointed_started i j zero lt ok jlt e = absurd (omega (arith, lt))
  pointed_started i j (suc m) lt ok jlt e = elim (cases_lt i m) [
    | inl before ↦
        let some = pointed_started i j m before ok jlt e in
        gate_started (pointed top faulty outputs m) (with_block m) (is_sound top faulty m) some
        (λ ok. shared_goes_on (pointed top faulty outputs m) (is_correct top faulty m)
        (pointer_at top outputs m) top.nodes some)
    | inr from ↦ let here : i ≡ m = omega (arith, lt, from) in
        gate_here (pointed top faulty outputs m) (with_block m) (is_sound top faulty m)
        (subst (λ (i : ℕ). is_sound top faulty i ≡ true) here ok)
        (shared_started (pointed top faulty outputs m) (is_correct top faulty m)
        (pointer_at top outputs m) j top.nodes jlt
        (subst (λ (i : ℕ). is_correct top faulty i j ≡ true) here e))
  ]

  pointed_holds : (m : ℕ) → 0 < top.leaders
      → Holds (λ b. b < top.leaders) (pointed top faulty outputs m)
  pointed_holds zero some = tt
  pointed_holds (suc m) some =
      let before = pointed_holds m some in
      gate_holds (λ b. b < top.leaders) (pointed top faulty outputs m) (with_block m)
      (is_sound top faulty m) before
      (shared_holds (pointed top faulty outputs m) (is_correct top faulty m)
      (pointer_at top outputs m) (λ b. b < top.leaders) top.nodes before
      (λ j. mod-lt (outputs (m * top.nodes + j) / interval_of top.beat top.leaders m) some))

  -- the leader is below the leaders
  pub leader_below : (b m : ℕ) → 0 < top.leaders → pointed top faulty outputs m ≡ One b
      → b < top.leaders
  leader_below b m some e = subst (Holds (λ b. b < top.leaders)) e (pointed_holds m some)

  -- and the part below the beat
  part_holds : (b : ℕ) → 0 < top.beat → Holds (λ p. p < top.beat) (parted top faulty outputs b)
  part_holds b some =
      shared_holds Nothing (is_correct top faulty b) (part_at top outputs b) (λ p. p < top.beat)
      top.nodes tt (λ j. mod-lt (outputs (b * top.nodes + j)) some)

  part_below : (b p : ℕ) → 0 < top.beat → parted top faulty outputs b ≡ One p → p < top.beat
  part_below b p some e = subst (Holds (λ p. p < top.beat)) e (part_holds b some)

  -- ---- what is seen is shown

  -- that this is shown, and the part is one of the beat
  pub record Shows (seen : Observation) : Type 0 where
    pub sees : Sees top faulty outputs seen.leader seen.part
    pub below : seen.part < top.beat

  module _ (is : IsTop top) where
    sees_parts : (b : ℕ) (parts : Shared) (seen : Observation)
        → pointed top faulty outputs top.blocks ≡ One b
        → is_sound top faulty b ≡ true → parted top faulty outputs b ≡ parts
        → seen_parts top faulty outputs b parts ≡ Some seen → Shows seen
    sees_parts b Nothing seen points ok parts e = absurd (none-some seen e)
    sees_parts b Several seen points ok parts e = absurd (none-some seen e)
    sees_parts b (One p) seen points ok parts e =
        let leaders = is.leaders in
        let beat = is.beat in
        let here : Observation = record { leader = b; part = p } in
        subst Shows (same_Some here seen e) (record {
          sees = record {
            leader = leader_below b top.blocks (omega (arith, leaders)) points;
            sound = leb-true _ _ ok;
            points = λ i j lt sound jlt correct.
                pointed_splits b top.blocks (one_fits _ b points) i j lt (le-leb _ _ sound) jlt
                (not_from_false _ correct);
            parts = λ j jlt correct.
                (shared_splits Nothing (is_correct top faulty b) (part_at top outputs b) p top.nodes
                (one_fits _ p parts)).1 j jlt (not_from_false _ correct);
          };
          below = part_below b p (omega (arith, beat)) parts;
        })

    sees_sound : (b : ℕ) (ok : Bool) (seen : Observation)
        → pointed top faulty outputs top.blocks ≡ One b
        → is_sound top faulty b ≡ ok
        → (if ok then seen_parts top faulty outputs b (parted top faulty outputs b) else None)
        ≡ Some seen
        → Shows seen
    sees_sound b true seen points ok e =
        sees_parts b (parted top faulty outputs b) seen points ok refl e
    sees_sound b false seen points ok e = absurd (none-some seen e)

    sees_leader : (s : Shared) (seen : Observation) → pointed top faulty outputs top.blocks ≡ s
        → seen_leader top faulty outputs s ≡ Some seen → Shows seen
    sees_leader Nothing seen points e = absurd (none-some seen e)
    sees_leader Several seen points e = absurd (none-some seen e)
    sees_leader (One b) seen points e = sees_sound b (is_sound top faulty b) seen points refl e

    pub seen_shows : (seen : Observation) → seen_in top faulty outputs ≡ Some seen → Shows seen
    seen_shows seen e = sees_leader (pointed top faulty outputs top.blocks) seen refl e

    -- ---- what is shown is seen

    pub shown_is_seen : (b p : ℕ) → Sees top faulty outputs b p
        → seen_in top faulty outputs ≡ Some (record { leader = b; part = p })
    shown_is_seen b p sees =
        let quorum = is.quorum in
        let few = is.few_leaders in
        let sound = sees.sound in
        let leader = sees.leader in
        let v = one_fails (λ j. faulty (b * top.nodes + j)) top.nodes
        (omega (arith, quorum, sound)) in
        let ok : is_sound top faulty b ≡ true = le-leb _ _ sees.sound in
        let correct : is_correct top faulty b v.0 ≡ true = not_from_false _ v.2 in
        let points : pointed top faulty outputs top.blocks ≡ One b =
        one_is (pointed top faulty outputs top.blocks) b
        (pointed_started b v.0 top.blocks (omega (arith, leader, few)) ok v.1 correct)
        (pointed_fits b top.blocks (λ i j lt sound jlt correct.
        sees.points i j lt (leb-true _ _ sound) jlt (not-true _ correct))) in
        let parts : parted top faulty outputs b ≡ One p =
        one_is (parted top faulty outputs b) p
        (shared_started Nothing (is_correct top faulty b) (part_at top outputs b) v.0 top.nodes v.1
        correct)
        (shared_fits Nothing (is_correct top faulty b) (part_at top outputs b) p top.nodes tt
        (λ j jlt correct. sees.parts j jlt (not-true _ correct))) in
        ap (seen_leader top faulty outputs) points
        ∙
        (ap
        (λ (ok : Bool). if ok
        then seen_parts top faulty outputs b (parted top faulty outputs b) else None)
        ok
        ∙ ap (seen_parts top faulty outputs b) parts)
