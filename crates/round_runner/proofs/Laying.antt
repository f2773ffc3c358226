-- If the lies that a layer heeds are laid beside the true states, its step is that by all that the
-- node hears.
use Rattle.std.proofs.Common.{◌≡◌, ℕ, ◌<◌, ◌≤◌, inl, inr, true, false, List, length, refl, sym, ap}
use Rattle.std.proofs.Common.{◌∙◌, subst, arith}
use Rattle.std.specs.Prelude.{slice_index}
use Rattle.std.proofs.lemmas.Bool.{true≢false}
use Rattle.sync_types.specs.FaultSets.{is_in}
use Rattle.sync_types.specs.States.{State, zero_state}
use Rattle.construction.specs.Steps.{state_of}
use Rattle.plan_laws.specs.PlanMeaning.{plan_meaning}
use Rattle.state_codec.specs.Shapes.{IsShape}
use Rattle.counter_core.specs.Heeding.{HearsTruth, DependsOnlyOn}
use Rattle.counter_core.specs.Overlays.{Layer, after}
use Rattle.adversary_script.specs.Scripts.{Script}
use Rattle.adversary_script.specs.Eras.{faulty_at}
use Rattle.adversary_script.specs.Lies.{AreStates}
use Rattle.round_runner.specs.declared.turns.Round.{Round}
use Rattle.machine_runner.specs.Hearing.{heard_from}
use Rattle.round_runner.specs.Hearing.{IsOfSome}
use Rattle.round_runner.specs.Laying.{IsLaid, IsLaidFor, IsToldIn, IsSameOrTold, IsEnough}
use Rattle.round_runner.specs.Played.{heard_at}
use Rattle.round_runner.specs.Turns.{IsRound}
use Rattle.machine_runner.proofs.Heard.{is_among}
use Rattle.machine_runner.proofs.HeardAt.{heard_long, heard_range}
use Rattle.round_runner.proofs.HeardPlaces.{heard_place}
use Rattle.round_runner.proofs.Layering.{shown_itself}
use Rattle.machine_runner.proofs.Places.{all_places}

module _ (round : Round) (v : ℕ) (config : List State) (is : IsRound round)
    (node : v < round.script.now.nodes) where
  abbrev script : Script
  script = round.script.now

  abbrev bad : List ℕ
  bad = faulty_at round.script.now round.t

  abbrev all : List State
  all = heard_at round.script.now round.t config v

  -- of a correct node its state is heard, and of a faulty one what it tells
  honest_at : (u : ℕ) → u < script.nodes → is_in bad u ≡ false → state_of all u ≡ state_of config u
  honest_at u lt ok = sym (heard_place script round.t v config node u lt (state_of config u)
      (λ among. absurd (true≢false (sym among ∙ ok))) (λ same. refl))

  lie_at : (u : ℕ) → u < script.nodes → is_in bad u ≡ true
      → state_of all u ≡ heard_from script round.t v config u
  lie_at u lt among = sym (heard_place script round.t v config node u lt
      (heard_from script round.t v config u) (λ same. refl)
      (λ ok. absurd (true≢false (sym among ∙ ok))))

  id_below : (j : ℕ) → j < length bad → slice_index bad j < script.nodes
  id_below j lt =
      let below = is.borne.ids j 0 lt in
      let same = is.nodes in
      omega (arith, below, same)

  id_at : (j : ℕ) → j < length bad
      → state_of all (slice_index bad j) ≡ heard_from script round.t v config (slice_index bad j)
  id_at j lt = lie_at (slice_index bad j) (id_below j lt) (is_among bad j lt)

  module _ (before heard lies : List State) (from to : ℕ) (laid : IsLaidFor round v config before)
      (long : length before ≡ script.nodes) (size : length heard ≡ script.nodes)
      (within : to ≤ length bad)
      (told : (j : ℕ) → from ≤ j → j < to
      → state_of lies j ≡ heard_from script round.t v config (slice_index bad j))
      (placed : (j : ℕ) → from ≤ j → j < to
      → state_of heard (slice_index bad j) ≡ state_of lies j)
      (each : (u : ℕ) → IsSameOrTold bad from to lies (state_of before u) u (state_of heard u))
    where
      told_at : (u : ℕ) (state : State) → IsToldIn bad from to lies u state
          → state ≡ state_of all u
      told_at u state at =
          let high = at.high in
          at.told ∙ (told at.place at.low at.high
          ∙ (sym (id_at at.place (omega (arith, high, within))) ∙ ap (state_of all) at.id))

      -- the lists are both the true states, and what the liars tell
      laid_truth : HearsTruth bad v before heard
      laid_truth = record {
        size = size ∙ sym long;
        honest = λ u lt ok. elim (each u) [
          | inl same ↦ same
          | inr at ↦
              let inside : u < script.nodes = omega (arith, lt, long) in
              told_at u (state_of heard u) at
              ∙ (honest_at u inside ok ∙ sym (laid.laid.honest u inside ok))
        ];
        own = elim (each v) [
          | inl same ↦ same
          | inr at ↦ told_at v (state_of heard v) at
              ∙ (shown_itself script round.t v config node ∙ sym laid.own)
        ];
      }

      all_truth : HearsTruth bad v before all
      all_truth = record {
        size = heard_long script round.t config v ∙ sym long;
        honest = λ u lt ok.
            let inside : u < script.nodes = omega (arith, lt, long) in
            honest_at u inside ok ∙ sym (laid.laid.honest u inside ok);
        own = shown_itself script round.t v config node ∙ sym laid.own;
      }

      -- each of what is laid is a state of some node
      some_at : (sound : IsShape script.shape) → AreStates script.nodes script.shape config
          → (u : ℕ) → u < length heard → IsOfSome script (state_of heard u)
      some_at sound range u lt =
          let inside : u < script.nodes = omega (arith, lt, size) in
          elim (each u) [
            | inl same ↦ subst (IsOfSome script) (sym same)
                (laid.laid.some u (zero_state 0) (omega (arith, inside, long)))
            | inr at ↦ subst (IsOfSome script) (sym (told_at u (state_of heard u) at)) (record {
              node = u;
              inside = inside;
              range = heard_range script round.t config v node range is.script sound u inside;
            })
          ]

      -- the states of the correct nodes stand where they stood
      pub still_laid : IsShape script.shape → AreStates script.nodes script.shape config
          → IsLaid script round.t config heard
      still_laid sound range = record {
        honest = λ u lt ok. elim (each u) [
          | inl same ↦ same ∙ laid.laid.honest u lt ok
          | inr at ↦ told_at u (state_of heard u) at ∙ honest_at u lt ok
        ];
        some = all_places (IsOfSome script) heard (some_at sound range);
      }

      pub enough : {Kept : Type 0} (layer : Layer Kept) (kept : List Kept)
          → IsShape script.shape → AreStates script.nodes script.shape config
          → DependsOnlyOn (after layer kept v
          ((plan_meaning round.tower.now).shows v (state_of config v))) bad v before from to
          → IsEnough round layer kept v config heard
      enough layer kept sound range heeds = record {
        some = all_places (IsOfSome script) heard (some_at sound range);
        step = heeds heard all laid_truth all_truth (λ j low high.
            placed j low high ∙ (told j low high
            ∙ sym (id_at j (omega (arith, high, within)))));
      }
