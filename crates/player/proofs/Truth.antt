-- What a node hears in a round of a script, and the lists of which it takes the same step.
use Rattle.std.proofs.Common.{◌≡◌, ℕ, ◌<◌, ◌≤◌, Bool, true, false, cond, List, length}
use Rattle.std.proofs.Common.{All, refl, sym, ap, ◌∙◌, arith}
use Rattle.std.specs.Prelude.{◌==◌, slice_index}
use Rattle.std.specs.List.Sorted.{IsStrictlyIncreasing}
use Rattle.std.proofs.lemmas.Bool.{eq-eqb, true≢false}
use Rattle.std.proofs.lemmas.List.FromFn.{get_or-map-range_with_len}
use Rattle.sync_types.specs.FaultSets.{is_in}
use Rattle.sync_types.specs.States.{State, zero_state}
use Rattle.construction.specs.Steps.{state_of}
use Rattle.construction.specs.Runs.{heard_of}
use Rattle.counter_core.specs.Heeding.{HearsTruth, DependsOnlyOn}
use Rattle.shared_board.specs.Sharing.{heard_with, place_among}
use Rattle.shared_board.proofs.Ids.{place_of_id}
use Rattle.adversary_script.specs.Scripts.{Script}
use Rattle.adversary_script.specs.Eras.{faulty_at}
use Rattle.adversary_script.specs.Lies.{lie_of}
use Rattle.adversary_script.specs.Rounds.{lies_at, heard_at}
use Rattle.machine_runner.specs.Hearing.{heard_from, AreHonest}
use Rattle.machine_runner.proofs.Heard.{one_at, is_among}
use Rattle.machine_runner.proofs.HeardAt.{heard_long}
use Rattle.rounds.proofs.Hearing.{stands_at, with_long, honest_at, liar_at}
use Rattle.player.specs.Rooms.{TellsItself}

module _ (script : Script) (t v : ℕ) (config : List State) (node : v < script.nodes)
    (size : length config ≡ script.nodes) where
  abbrev bad : List ℕ
  bad = faulty_at script t

  abbrev all : List State
  all = heard_at script t config v

  module _ (u : ℕ) (lt : u < script.nodes) (told : State) where
    heard_place : (is_in bad u ≡ true
        → told ≡ cond (u == v) (state_of config u) (lie_of script t u v config))
        → (is_in bad u ≡ false → told ≡ state_of config u)
        → told ≡ state_of (heard_at script t config v) u
    heard_place lies honest =
        one_at script.nodes bad config (λ u w. lie_of script t u w config) v (is_in bad u) u told
        refl lt node lies honest
        ∙ sym (get_or-map-range_with_len (heard_of bad config (lies_at script t config) v) 0
        script.nodes u u (zero_state 0) lt (omega arith))

  pub all_honest : (u : ℕ) → u < script.nodes → is_in bad u ≡ false
      → state_of all u ≡ state_of config u
  all_honest u lt ok = sym (heard_place u lt (state_of config u)
      (λ among. absurd (true≢false (sym among ∙ ok))) (λ same. refl))

  pub all_told : (u : ℕ) → u < script.nodes → is_in bad u ≡ true
      → state_of all u ≡ heard_from script t v config u
  all_told u lt among = sym (heard_place u lt (heard_from script t v config u)
      (λ same. refl) (λ ok. absurd (true≢false (sym among ∙ ok))))

  own_by : (b : Bool) → is_in bad v ≡ b → state_of all v ≡ state_of config v
  own_by true among = all_told v node among
      ∙ ap (λ (b : Bool). cond b (state_of config v) (lie_of script t v v config))
      (eq-eqb v v refl)
  own_by false ok = all_honest v node ok

  pub all_own : state_of all v ≡ state_of config v
  all_own = own_by (is_in bad v) refl

  -- from any list in which the true states stand, and the node's own
  module _ (base : List State) (long : length base ≡ script.nodes)
      (honest : AreHonest script t config base) (itself : state_of base v ≡ state_of config v) where
    pub all_truth : HearsTruth bad v base all
    all_truth = record {
      size = heard_long script t config v ∙ sym long;
      honest = λ u lt ok.
          let inside : u < script.nodes = omega (arith, lt, long) in
          all_honest u inside ok ∙ sym (honest u inside ok);
      own = all_own ∙ sym itself;
    }

    -- what is found of it hangs on the lies of a stretch alone: if these are told, it is found
    pub found_is : {Found : Type 0} (find : List State → Found) (from to : ℕ)
        → DependsOnlyOn find bad v base from to → to ≤ length bad
        → All (λ id. id < script.nodes) bad → (heard : List State) → HearsTruth bad v base heard
        → ((j : ℕ) → from ≤ j → j < to
        → state_of heard (slice_index bad j) ≡ heard_from script t v config (slice_index bad j))
        → find heard ≡ find all
    found_is find from to hangs within below heard truth told =
        hangs heard all truth all_truth (λ j low high.
        let lt : j < length bad = omega (arith, high, within) in
        told j low high ∙ sym (all_told (slice_index bad j) (below j 0 lt) (is_among bad j lt)))

  -- the lies beside the true states
  module _ (rising : IsStrictlyIncreasing bad) (below : All (λ id. id < script.nodes) bad)
      (lies : List State) (itself : TellsItself bad v config lies) where
    abbrev said : List State
    said = heard_with bad lies config

    pub said_at : (j : ℕ) → j < length bad → state_of said (slice_index bad j) ≡ state_of lies j
    said_at j lt =
        liar_at bad rising lies config (slice_index bad j)
        (let b = below j 0 lt in omega (arith, b, size)) (is_among bad j lt)
        ∙ ap (state_of lies) (place_of_id bad rising j lt)

    said_own : (b : Bool) → is_in bad v ≡ b → state_of said v ≡ state_of config v
    said_own true among =
        let stands = stands_at bad v rising among in
        liar_at bad rising lies config v (omega (arith, node, size)) among
        ∙ itself (place_among bad v) stands.lt stands.is
    said_own false ok = honest_at bad rising lies config v (omega (arith, node, size)) ok

    pub said_truth : HearsTruth bad v config said
    said_truth = record {
      size = with_long bad rising lies config;
      honest = λ u lt ok. honest_at bad rising lies config u lt ok;
      own = said_own (is_in bad v) refl;
    }

    -- a machine's step by the lies of a stretch is that by all that is heard
    pub step_is : {Found : Type 0} (find : List State → Found) (from to : ℕ)
        → DependsOnlyOn find bad v config from to → to ≤ length bad
        → ((j : ℕ) → from ≤ j → j < to
        → state_of lies j ≡ heard_from script t v config (slice_index bad j))
        → find said ≡ find all
    step_is find from to hangs within told =
        found_is config size (λ u lt ok. refl) refl find from to hangs within below said said_truth
        (λ j low high. said_at j (omega (arith, high, within)) ∙ told j low high)
