-- The word of a correct node's mark says whether the registers of all correct nodes are locked.
use Rattle.std.proofs.Common.{◌≡◌, ℕ, zero, suc, ◌+◌, ◌<◌, ◌≤◌, Bool, true, false, ◌&&◌, ◌||◌, List}
use Rattle.std.proofs.Common.{Option, Some, None, refl, sym, ap, ap₂, ◌∙◌, arith}
use Rattle.std.specs.Prelude.{nat_eq}
use Rattle.std.specs.List.{list_all, range_with_len}
use Rattle.std.specs.Option.{option_eq}
use Rattle.std.proofs.lemmas.Bool.{eqb-true, eq-eqb, true≢false, and_parts, or_left, or_right}
use Rattle.std.proofs.lemmas.Bool.{false_from_ne_true}
use Rattle.sync_types.specs.FaultSets.{is_in}
use Rattle.sync_types.specs.States.{State, register_at}
use Rattle.sync_types.specs.declared.states.Reg.{Reg}
use Rattle.construction.specs.PhaseKing.{locked_at}
use Rattle.construction.specs.Runs.{AllLocked}
use Rattle.construction.specs.Steps.{state_of}
use Rattle.machine_runner.specs.Locks.{is_locked_at, are_locked, correct_registers}
use Rattle.machine_runner.proofs.Locked.{locked_all, all_locked}
use Rattle.trace.specs.Laws.{told_mark}
use Rattle.trace.specs.Words.{all_have, mark_word}
use Rattle.trace.proofs.GroupRegisters.{one_fails}

is_true : (b : Bool) → (b ≡ false → ⊥) → b ≡ true
is_true true other = refl
is_true false other = absurd (other refl)

-- ---- a test of so many numbers

all_pass : (p : ℕ → Bool) (n first : ℕ)
    → ((u : ℕ) → first ≤ u → u < first + n → p u ≡ true)
    → list_all p (range_with_len first n) ≡ true
all_pass p zero first each = refl
all_pass p (suc n) first each =
    let here : p first ≡ true = each first (omega arith) (omega arith) in
    let rest : list_all p (range_with_len (first + 1) n) ≡ true =
    all_pass p n (first + 1) (λ u low high. each u (omega (arith, low)) (omega (arith, high))) in
    ap₂ (λ (a b : Bool). a && b) here rest

one_passes : (p : ℕ → Bool) (n u : ℕ) → u < n → list_all p (range_with_len 0 n) ≡ true
    → p u ≡ true
one_passes p n u lt all =
    is_true (p u)
    (λ fails. true≢false (sym all ∙ one_fails p 0 n u (omega arith) (omega (arith, lt)) fails))

-- ---- a register

locked_is : (value : ℕ) (a : Option ℕ) (d : Bool) → option_eq nat_eq a (Some value) && d ≡ true
    → record { a = a; d = d } ≡ locked_at value
locked_is value None d is = absurd (true≢false (sym is))
locked_is value (Some b) d is =
    let parts = and_parts (nat_eq b value) d is in
    let same : b ≡ value = eqb-true b value parts.0 in
    rw (same, parts.1) refl

locked_passes : (value : ℕ) → is_locked_at value (locked_at value) ≡ true
locked_passes value = rw (eq-eqb value value refl) refl

-- ---- the word

word_by : (marked all locked : Bool) → (locked ≡ true → (marked ≡ true) × (all ≡ true))
    → (locked ≡ false → all ≡ false)
    → mark_word marked all ≡ told_mark marked locked
word_by true true true is other = refl
word_by true true false is other = absurd (true≢false (other refl))
word_by true false true is other = absurd (true≢false (sym (is refl).1))
word_by true false false is other = refl
word_by false all true is other = absurd (true≢false (sym (is refl).0))
word_by false all false is other = refl

-- of the first n nodes, one register; node v is a correct one of them
module _ (l n : ℕ) (faulty : List ℕ) (config : List State) (v : ℕ) (node : v < n)
    (correct : is_in faulty v ≡ false) where
  abbrev register : ℕ → Reg
  register u = register_at l (state_of config u)

  abbrev locked : Bool
  locked = are_locked (correct_registers l n faulty config)

  abbrev all : Option ℕ → Bool
  all a = all_have l 0 n faulty config a

  abbrev has : (a u : ℕ) → Bool
  has a u = is_in faulty u || is_locked_at a (register u)

  each_has : (h : AllLocked l n faulty config) (u : ℕ) → u < n → has h.value u ≡ true
  each_has h u lt =
      let by : (b : Bool) → is_in faulty u ≡ b → has h.value u ≡ true =
      λ b. elim b as (λ b. is_in faulty u ≡ b → has h.value u ≡ true) [
        | true ↦ λ is. or_left (is_in faulty u) (is_locked_at h.value (register u)) is
        | false ↦ λ is. or_right (is_in faulty u) (is_locked_at h.value (register u))
            (ap (is_locked_at h.value) (h.each u lt is) ∙ locked_passes h.value)
      ] in
      by (is_in faulty u) refl

  if_locked : locked ≡ true → ((register v).d ≡ true) × (all (register v).a ≡ true)
  if_locked is =
      let h : AllLocked l n faulty config = locked_all l n faulty config is in
      let own : register v ≡ locked_at h.value = h.each v node correct in (
        ap (λ (r : Reg). r.d) own,
        ap (λ (r : Reg). all r.a) own
            ∙ all_pass (has h.value) n 0 (λ u low high. each_has h u (omega (arith, high))),
      )

  locked_if : (a : Option ℕ) → all a ≡ true → AllLocked l n faulty config
  locked_if None is = absurd (true≢false (sym is))
  locked_if (Some a) is = record {
    value = a;
    each = λ u lt ok.
        let both : has a u ≡ true = one_passes (has a) n u lt is in
        let passes : is_locked_at a (register u) ≡ true =
        sym (ap (λ (b : Bool). b || is_locked_at a (register u)) ok) ∙ both in
        locked_is a (register u).a (register u).d passes;
  }

  pub word_is : mark_word (register v).d (all (register v).a) ≡ told_mark (register v).d locked
  word_is =
      word_by (register v).d (all (register v).a) locked if_locked
      (λ no. false_from_ne_true (all (register v).a)
      (λ yes. true≢false (sym (all_locked l n faulty config (locked_if (register v).a yes)) ∙ no)))
