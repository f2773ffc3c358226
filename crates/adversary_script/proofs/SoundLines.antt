-- A script that is well formed and for its counter stays so with what one more line says.
use Rattle.std.proofs.Common.{◌≡◌, ℕ, add-one, suc, ◌<◌, ◌≤◌, List, [], ◌∷◌, ◌++◌, length, Bool}
use Rattle.std.proofs.Common.{true, false, ◌&&◌, nat_lt, if◌then◌else◌, Option, Some, None, refl}
use Rattle.std.proofs.Common.{sym, arith}
use Rattle.std.specs.Prelude.{All, IfSome}
use Rattle.std.specs.Option.{option_map}
use Rattle.std.specs.List.{list_any}
use Rattle.std.specs.List.Sorted.{IsStrictlyIncreasing}
use Rattle.std.proofs.lemmas.Bool.{ltb-true, and_parts}
use Rattle.std.proofs.lemmas.List.Elements.{All-cons, All-push}
use Rattle.sync_types.specs.FaultSets.{is_in}
use Rattle.sync_types.specs.States.{State}
use Rattle.state_codec.specs.Shapes.{Fields, Shape, IsFields, IsShape, fields_at}
use Rattle.state_codec.specs.Ranges.{InRange}
use Rattle.state_codec.specs.Texts.{is_state_text, read_text, decoded}
use Rattle.state_codec.proofs.Ranged.{read_is_in_range}
use Rattle.state_codec.proofs.Lows.{fields_limited}
use Rattle.adversary_script.specs.declared.lies.CommonStart.{CommonStart}
use Rattle.adversary_script.specs.declared.lies.Lie.{Lie}
use Rattle.adversary_script.specs.declared.lies.Start.{Start}
use Rattle.adversary_script.specs.declared.lies.What.TheVariants as what
use Rattle.adversary_script.specs.LieWords.{WhatSaid, noise, copy, digits, shift, LieSaid}
use Rattle.adversary_script.specs.WordTests.{are_below, is_rising, who_below, what_below, are_ids}
use Rattle.adversary_script.specs.Scripts.{Group, Era, Script, IsLying, IsFormed, most_rounds}
use Rattle.adversary_script.specs.FaultySteps.{last_era, last_first, with_era}
use Rattle.adversary_script.specs.StartSteps.{started}
use Rattle.adversary_script.specs.LieSteps.{state_of_digits, what_of}
use Rattle.adversary_script.specs.ScriptPart.{IsTolerated, IsScriptFor}
use Rattle.adversary_script.proofs.RisingIds.{id_below, rises_at}
use Rattle.adversary_script.proofs.FormedEras.{era_formed, sets_pushed, sets_started, start_formed}

-- the state of digits is in range
state_if : (P : State → Type 0) (b : Bool) (state : State) → P state
    → IfSome (if b then Some state else None) P
state_if P true state h = h
state_if P false state h = tt

pub digits_in_range : (fields : Fields) (word : List ℕ) → IsFields fields
    → IfSome (state_of_digits fields word) (InRange fields)
digits_in_range fields word limited =
    state_if (InRange fields) (is_state_text fields word) (read_text fields word)
    (read_is_in_range fields (decoded word) limited)

-- what a lie says is well formed
state_lies : (n : ℕ) (fields : Fields) (state : Option State) → IfSome state (InRange fields)
    → IfSome (option_map what.State state) (IsLying n fields)
state_lies n fields None range = tt
state_lies n fields (Some state) range = range

pub what_lies : (n : ℕ) (fields : Fields) (said : WhatSaid) → IsFields fields
    → what_below n said ≡ true → IfSome (what_of fields said) (IsLying n fields)
what_lies n fields noise limited below = tt
what_lies n fields (copy w) limited below = ltb-true w n below
what_lies n fields (digits h) limited below =
    state_lies n fields (state_of_digits fields h) (digits_in_range fields h limited)
what_lies n fields (shift d) limited below = tt

-- the tests of a lie's ids
module _ (n : ℕ) (sets : List (List ℕ)) (l : LieSaid) (ids : are_ids n sets l ≡ true) where
  pub sender_below : l.sender < n
  sender_below =
      let faulty = list_any (λ ids. is_in ids l.sender) sets in
      let front =
      (and_parts (nat_lt l.sender n && faulty && who_below n l.who) (what_below n l.what) ids).0
      in
      let ahead = (and_parts (nat_lt l.sender n && faulty) (who_below n l.who) front).0 in
      ltb-true l.sender n (and_parts (nat_lt l.sender n) faulty ahead).0

  pub copied_below : what_below n l.what ≡ true
  copied_below =
      (and_parts (nat_lt l.sender n && list_any (λ ids. is_in ids l.sender) sets && who_below n
      l.who) (what_below n l.what) ids).1

pub rises : (ids : List ℕ) → is_rising ids ≡ true → IsStrictlyIncreasing ids
rises ids rising k lt = rw add-one (rises_at ids k 0 rising (omega arith))

-- a script that is well formed and for so many nodes, so many of which may be faulty
pub record IsSound (nodes faults : ℕ) (shape : Shape) (s : Script) : Type 0 where
  pub formed : IsFormed s
  pub right : IsScriptFor nodes faults shape s

module _ (nodes faults : ℕ) (shape : Shape) (s : Script) (h : IsSound nodes faults shape s) where
  abbrev Sound : Script → Type 0
  Sound = IsSound nodes faults shape

  -- a faulty set that passes its tests
  pub set_borne : (ids : List ℕ) → are_below s.nodes ids ≡ true → is_rising ids ≡ true
      → length ids ≤ faults → IsTolerated nodes faults ids
  set_borne ids below rising few = record {
    rising = rises ids rising;
    ids = λ k d lt. rw h.right.nodes at (id_below s.nodes ids k d below lt);
    few = few;
  }

  -- the fields of a node are within the limits
  pub limited : IsShape shape → (v : ℕ) → IsFields (fields_at s.shape v)
  limited shaped v = fields_limited s.shape v (rw (sym h.right.states) at shaped)

  -- with another version, key, common start or other groups
  pub others_sound : (version : ℕ) (key : List ℕ) (common : CommonStart) (groups : List Group)
      → Sound
      (record s { version = version; key = key; common = common; groups = groups })
  others_sound version key common groups =
      let f = h.formed in
      record {
        formed =
            record {
              ids = f.ids;
              senders = f.senders;
              lies = f.lies;
              starts = f.starts;
              hits =
                  f.hits;
              many = f.many;
              rising = f.rising;
              few = f.few;
              order = f.order;
              shown =
                  f.shown;
            };
        right = record { nodes = h.right.nodes; states = h.right.states; borne = h.right.borne };
      }

  -- with other faulty nodes in era 0
  pub faulty_sound : (ids : List ℕ) → are_below s.nodes ids ≡ true
      → IsTolerated nodes faults ids → Sound (record s { faulty = ids })
  faulty_sound ids below borne =
      let f = h.formed in
      record {
        formed = record {
          ids =
              All-cons (All (λ id. id < s.nodes)) ids _
              (λ k d lt. id_below s.nodes ids k d below lt)
              (λ k d lt. f.ids (suc k) d (omega arith));
          senders = f.senders;
          lies = f.lies;
          starts = f.starts;
          hits = f.hits;
          many = f.many;
          rising = f.rising;
          few = f.few;
          order = f.order;
          shown = f.shown;
        };
        right =
            record {
              nodes = h.right.nodes;
              states = h.right.states;
              borne = All-cons (IsTolerated nodes faults)
                  ids _ borne (λ k d lt. h.right.borne (suc k) d (omega arith));
            };
      }

  -- with one more era
  pub era_sound : (first : ℕ) (ids : List ℕ) → length s.eras < 16 → last_first s < first
      → are_below s.nodes ids ≡ true → IsTolerated nodes faults ids → Sound (with_era s first ids)
  era_sound first ids room above below borne = record {
    formed =
        era_formed s h.formed first ids room above (λ k d lt. id_below s.nodes ids k d below lt);
    right =
        record {
          nodes = h.right.nodes;
          states = h.right.states;
          borne = sets_pushed s h.formed
              (IsTolerated nodes faults) (record { first = first; faulty = ids; starts = [] })
              h.right.borne borne;
        };
  }

  -- with one more start
  started_for : (found : Option Era) (start : Start) → last_era s.eras ≡ found
      → IsScriptFor nodes faults shape (started s found start)
  started_for None start last =
      record { nodes = h.right.nodes; states = h.right.states; borne = h.right.borne }
  started_for (Some era) start last =
      record {
        nodes = h.right.nodes;
        states = h.right.states;
        borne = sets_started s h.formed
            (IsTolerated nodes faults) era start last h.right.borne;
      }

  pub start_sound : (start : Start) → InRange (fields_at s.shape start.node) start.state
      → Sound (started s (last_era s.eras) start)
  start_sound start range = record {
    formed = start_formed s h.formed (last_era s.eras) start refl range;
    right = started_for (last_era s.eras) start refl;
  }

  -- with one more lie
  pub lie_sound : (lie : Lie) → lie.sender < s.nodes
      → IsLying s.nodes (fields_at s.shape lie.sender) lie.what
      → Sound (record s { lies = s.lies ++ lie ∷ [] })
  lie_sound lie sender lies =
      let f = h.formed in
      record {
        formed = record {
          ids = f.ids;
          senders = All-push (λ (lie : Lie). lie.sender < s.nodes) s.lies lie f.senders sender;
          lies =
              All-push (λ (lie : Lie). IsLying s.nodes (fields_at s.shape lie.sender) lie.what)
              s.lies lie f.lies lies;
          starts = f.starts;
          hits = f.hits;
          many = f.many;
          rising = f.rising;
          few = f.few;
          order = f.order;
          shown = f.shown;
        };
        right = record { nodes = h.right.nodes; states = h.right.states; borne = h.right.borne };
      }

  -- with numbers in their order
  pub numbers_sound : (rounds first last : ℕ) → rounds ≤ most_rounds → first ≤ last
      → last ≤ rounds → Sound (record s { rounds = rounds; first = first; last = last })
  numbers_sound rounds first last few order shown =
      let f = h.formed in
      record {
        formed =
            record {
              ids = f.ids;
              senders = f.senders;
              lies = f.lies;
              starts = f.starts;
              hits =
                  f.hits;
              many = f.many;
              rising = f.rising;
              few = few;
              order = order;
              shown = shown;
            };
        right = record { nodes = h.right.nodes; states = h.right.states; borne = h.right.borne };
      }
