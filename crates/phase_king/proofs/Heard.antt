-- What counts over the lists heard say, if at most f of n > 3f nodes are faulty.
use Rattle.std.proofs.Common.{◌≡◌, ◌≢◌, ℕ, ◌+◌, ◌<◌, ◌≤◌, Bool, false, not, ◌&&◌, List, Option, sym}
use Rattle.std.proofs.Common.{ap, ◌∙◌, inl, inr, ⊎_elim, arith}
use Rattle.std.proofs.lemmas.Bool.{cases_Bool, false≢true, and_parts, and_from, not-true}
use Rattle.std.proofs.lemmas.Bool.{true_from_ne_false}
use Rattle.counting.specs.Places.{places}
use Rattle.counting.specs.Values.{count_of}
use Rattle.counting.proofs.Places.{overlap, cover, cover_all, fewer, some_place}
use Rattle.counting.proofs.Counts.{holds_at, holds_is, holds_from, count_of-places_at}
use Rattle.sync_types.specs.declared.states.Reg.{Reg}
use Rattle.phase_king.specs.Hearing.{Hears}

module _ (n f : ℕ) (faulty : ℕ → Bool) (few : places faulty n ≤ f) (old : ℕ → Reg) where
  -- how many places of a list heard hold z
  in_places : (heard : List (Option ℕ)) (z : Option ℕ) → Hears n faulty old heard
      → count_of heard z ≡ places (holds_at heard z) n
  in_places heard z h = count_of-places_at heard z n h.size

  -- what all correct nodes have, all but f places hold
  pub most_hold : (heard : List (Option ℕ)) (z : Option ℕ) → Hears n faulty old heard
      → ((u : ℕ) → u < n → faulty u ≡ false → (old u).a ≡ z) → n ≤ f + count_of heard z
  most_hold heard z h all = omega (
    arith,
    in_places heard z h,
    cover_all faulty (holds_at heard z) n
        (λ i lt. ⊎_elim inl (λ ok. inr (holds_from heard z i (h.honest i lt ok ∙ all i lt ok)))
        (cases_Bool (faulty i))),
  )

  -- different values in the lists of two nodes share only faulty places
  pub two_lists : (one other : List (Option ℕ)) (y z : Option ℕ) → Hears n faulty old one
      → Hears n faulty old other → y ≢ z → count_of one y + count_of other z ≤ n + f
  two_lists one other y z h k ne = omega (
    arith,
    in_places one y h,
    in_places other z k,
    overlap (holds_at one y) (holds_at other z) faulty n
        (λ i lt p q. true_from_ne_false (faulty i)
        (λ ok. ne
        (sym (holds_is one y i p)
        ∙ (h.honest i lt ok ∙ (sym (k.honest i lt ok) ∙ holds_is other z i q))))),
  )

  -- what one node hears, each node hears, but for faulty places
  pub carried : (one other : List (Option ℕ)) (z : Option ℕ) → Hears n faulty old one
      → Hears n faulty old other → count_of one z ≤ f + count_of other z
  carried one other z h k = omega (
    arith,
    in_places one z h,
    in_places other z k,
    cover (holds_at one z) faulty (holds_at other z) n
        (λ i lt p. ⊎_elim inl
        (λ ok. inr
        (holds_from other z i
        (k.honest i lt ok ∙ (sym (h.honest i lt ok) ∙ holds_is one z i p))))
        (cases_Bool (faulty i))),
  )

  -- what more than f places hold, some correct node has
  pub correct_source : (heard : List (Option ℕ)) (z : Option ℕ) → Hears n faulty old heard
      → f < count_of heard z → (w : ℕ) × (w < n) × (faulty w ≡ false) × ((old w).a ≡ z)
  correct_source heard z h more = ⊎_elim
      (λ s. let e = and_parts (not (faulty s.0)) (holds_at heard z s.0) s.2 in
      let ok = not-true (faulty s.0) e.0 in
      (s.0, s.1, ok, sym (h.honest s.0 s.1 ok) ∙ holds_is heard z s.0 e.1))
      (λ s. absurd (omega (
        arith,
        in_places heard z h,
        fewer (holds_at heard z) faulty n
            (λ i lt p. true_from_ne_false (faulty i)
            (λ ok. false≢true
            (sym (s i lt) ∙ and_from (not (faulty i)) (holds_at heard z i) (ap not ok) p))),
      )))
      (some_place (λ i. not (faulty i) && holds_at heard z i) n)
