-- A plain machine's step of a node from what is laid.
use Rattle.std.proofs.Common.{◌≡◌, ℕ, zero, suc, ◌<◌, ◌≤◌, inl, inr, true, false, ◌||◌, List}
use Rattle.std.proofs.Common.{[], ◌∷◌, length, All, refl, sym, ap, ◌∙◌, subst, arith}
use Rattle.std.specs.Prelude.{◌==◌, slice_index}
use Rattle.std.proofs.lemmas.Bool.{eq-eqb, true≢false}
use Rattle.std.proofs.Math.Bool.{or-true}
use Rattle.sync_types.specs.FaultSets.{is_in}
use Rattle.sync_types.specs.States.{State}
use Rattle.construction.specs.Steps.{state_of}
use Rattle.counter_core.specs.declared.work.Work.{Work}
use Rattle.counter_core.specs.Working.{IsWorkFor, IsAsRoomy}
use Rattle.shared_board.specs.Sharing.{heard_with}
use Rattle.machines.specs.Machines.{Machine, IsFront, AreFronts}
use Rattle.rounds.specs.declared.plain.Laid.{Laid}
use Rattle.rounds.specs.Rounds.{Sent, AreLies}
use Rattle.rounds.specs.Laying.{IsSameOrTold}
use Rattle.rounds.specs.Plain.{IsLaid}
use Rattle.rounds.proofs.Hearing.{laid_is, each_with, with_long}

-- the id at a place is among the ids
pub is_among : (ids : List ℕ) (j : ℕ) → j < length ids → is_in ids (slice_index ids j) ≡ true
is_among [] j lt = absurd (omega arith)
is_among (id ∷ ids) zero lt = ap (λ b. b || is_in ids id) (eq-eqb id id refl)
is_among (id ∷ ids) (suc j) lt =
    ap (λ b. (slice_index ids j == id) || b) (is_among ids j (omega arith))
    ∙ or-true (slice_index ids j == id)

-- what is laid in a stretch leaves the states of the correct nodes
pub same_honest : (ids : List ℕ) (from to : ℕ) (lies : List State) (before : State) (u : ℕ)
    (state : State) → to ≤ length ids → is_in ids u ≡ false
    → IsSameOrTold ids from to lies before u state → state ≡ before
same_honest ids from to lies before u state within ok (inl same) = same
same_honest ids from to lies before u state within ok (inr told) =
    let high = told.high in
    absurd (true≢false (sym (subst (λ (w : ℕ). is_in ids w ≡ true) told.id
    (is_among ids told.place (omega (arith, high, within)))) ∙ ok))

-- a workspace that is as roomy is made for as many nodes
pub as_roomy : (n : ℕ) (old new : Work) → IsAsRoomy old new → IsWorkFor n old → IsWorkFor n new
as_roomy n old new same is = record {
  outputs = let size = same.outputs in (let le = is.outputs in omega (arith, size, le));
  values = let size = same.values in (let le = is.values in omega (arith, size, le));
  votes = let size = same.votes in (let le = is.votes in omega (arith, size, le));
}

module _ (machine : Machine) (sent : Sent) (v : ℕ) (lies : List State) (laid : Laid)
    (is : IsLaid machine sent laid) (told : AreLies machine sent v lies) (before heard : List State)
    (same : before ≡ laid.heard.items) (long : length heard ≡ length before) (to : ℕ)
    (all : to ≡ length sent.faulty)
    (each : (u : ℕ) → IsSameOrTold sent.faulty 0 to lies (state_of before u) u (state_of heard u))
    (placed : (j : ℕ) → 0 ≤ j → j < to
    → state_of heard (slice_index sent.faulty j) ≡ state_of lies j) where
  nodes : length heard ≡ machine.nodes
  nodes = long ∙ ap (λ (xs : List State). length xs) same ∙ is.room.size

  honest : (u : ℕ) → u < machine.nodes → is_in sent.faulty u ≡ false
      → state_of heard u ≡ state_of sent.config u
  honest u lt ok =
      same_honest sent.faulty 0 to lies (state_of before u) u (state_of heard u)
      (omega (arith, all)) ok (each u)
      ∙ ap (λ (xs : List State). state_of xs u) same ∙ is.honest u lt ok

  pub heard_is : heard ≡ heard_with sent.faulty lies sent.config
  heard_is = laid_is sent.faulty is.rising lies sent.config heard (nodes ∙ sym is.fronts.size)
      (λ u lt ok. honest u (let size = is.fronts.size in omega (arith, lt, size)) ok)
      (λ j lt. placed j (omega arith) (omega (arith, lt, all)))

  pub fronts_are : AreFronts machine (heard_with sent.faulty lies sent.config)
  fronts_are =
      let size = with_long sent.faulty is.rising lies sent.config in
      record {
        size = size ∙ is.fronts.size;
        fronts = λ u lt. each_with sent.faulty is.rising lies sent.config (IsFront machine)
            (λ w wlt ok. is.fronts.fronts w (let size = is.fronts.size in omega (arith, wlt, size)))
            told.fronts u (let size = is.fronts.size in omega (arith, lt, size));
      }

  pub still_laid : (after : Laid) → after.heard.items ≡ heard
      → All (λ s. length s.registers ≡ sent.depth) heard → IsAsRoomy laid.work after.work
      → IsLaid machine sent after
  still_laid after items deep roomy = record {
    room = record {
      size = ap (λ (xs : List State). length xs) items ∙ nodes;
      deep = subst (λ (xs : List State). All (λ s. length s.registers ≡ sent.depth) xs)
          (sym items) deep;
      work = as_roomy machine.nodes laid.work after.work roomy is.room.work;
    };
    fronts = is.fronts;
    rising = is.rising;
    ids = is.ids;
    honest = λ u lt ok. ap (λ (xs : List State). state_of xs u) items ∙ honest u lt ok;
  }
