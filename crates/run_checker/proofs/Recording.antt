-- What is written of a script while a runner plays it.
use Rattle.std.proofs.Common.{◌≡◌, ℕ, ◌+◌, ◌<◌, ◌≤◌, Bool, true, false, cond, List, []}
use Rattle.std.proofs.Common.{Result, Ok, Err, refl, sym, ap, ap₂, ◌∙◌, subst, arith}
use Rattle.std.specs.Prelude.{OnErr, OnOk}
use Rattle.std.specs.List.{flat_map, range_with_len}
use Rattle.sync_types.specs.FaultSets.{FaultIds}
use Rattle.adversary_script.specs.Eras.{faulty_at}
use Rattle.texts.specs.Growth.{SinkState}
use Rattle.edge_io.specs.declared.writer.Writer.{Writer}
use Rattle.edge_io.specs.Writing.{Proceeds, Writes, Finishes}
use Rattle.edge_io.proofs.Writing.{writes_none, writes_next, writes_stopped, writes_is}
use Rattle.construction.specs.Plans.{Plan, plan_nodes}
use Rattle.state_codec.specs.Shapes.{shape_of}
use Rattle.counter_core.specs.declared.overlays.NoOverlay.{NoOverlay}
use Rattle.adversary_script.specs.Scripts.{Script, IsScript}
use Rattle.round_runner.specs.Played.{played_at}
use Rattle.round_runner.specs.Runners.{Running}
use Rattle.round_runner.proofs.Playing.{bare_is_played}
use Rattle.run_checker.specs.RunLines.{turn_text, turns_text}
use Rattle.run_checker.specs.Playing.{IsToRecord, StillPlays, HasPlayedOne, HasPlayedAll}

-- a runner that has played one more round still plays a script that was read for its plan
pub still_records : (old new : Running NoOverlay) → IsToRecord old → HasPlayedOne old new
    → IsToRecord new
still_records old new h p = record {
  plays = p.plays;
  script = subst (λ (s : Script). IsScript s) (sym p.script) h.script;
  nodes = ap (λ (s : Script). s.nodes) p.script ∙ (h.nodes ∙ sym (ap plan_nodes p.plan));
  shape = ap (λ (s : Script). s.shape) p.script ∙ (h.shape ∙ sym (ap shape_of p.plan));
}

-- ---- where a runner stops

-- a writer that has not failed had not failed before
unfailed_by : (before now : Bool) (text : List ℕ) (s t : SinkState)
    → Proceeds before now text s t → now ≡ false → before ≡ false
unfailed_by false now text s t p e = refl
unfailed_by true true text s t p e = e
unfailed_by true false text s t p e = absurd p

pub unfailed_before : {K : Type 0} {told : K → SinkState} {text : List ℕ} {x y : Writer K}
    → Writes told text x y → y.failed ≡ false → x.failed ≡ false
unfailed_before {text = text} {x = x} {y = y} p e =
    unfailed_by x.failed y.failed text _ _ p.so e

pub on_err : {T E : Type 0} (P : Type 0) (r : Result T E) → P → OnErr r P
on_err P (Ok x) p = tt
on_err P (Err e) p = p

-- a run that ended without a fault was played
pub ended_well : {K T E : Type 0} {told : K → SinkState} {y z : Writer K} (r : Result T E)
    {P : Type 0} → Finishes told r y z → (y.failed ≡ false → P) → OnOk r P
ended_well (Ok x) ends well = well (unfailed_before ends.rest ends.answer)
ended_well (Err e) ends well = tt

-- a round was played, whatever was written after it
pub played_as : (old new now : Running NoOverlay) → now ≡ new → HasPlayedOne old new
    → HasPlayedOne old now
played_as old new now same one = subst (HasPlayedOne old) (sym same) one

-- one that is where another was stops where that does
pub stops_as : (old mid new : Running NoOverlay) → mid ≡ old → StillPlays mid new
    → StillPlays old new
stops_as old mid new same stops = subst (λ (r : Running NoOverlay). StillPlays r new) same stops

pub ends_as : (old mid new : Running NoOverlay) → mid ≡ old → HasPlayedAll mid new
    → HasPlayedAll old new
ends_as old mid new same ends = subst (λ (r : Running NoOverlay). HasPlayedAll r new) same ends

-- the rounds before this one are written, by a runner of this plan and script that is at it
pub record TurnsSoFar {K : Type 0} (told : K → SinkState) (plan : Plan) (script : Script) (t : ℕ)
    (r : Running NoOverlay) (old now : Writer K) : Type 0 where
  pub plan_is : r.plan ≡ plan
  pub script_is : r.script ≡ script
  pub at : r.at ≡ t
  pub within : t ≤ script.rounds
  pub records : IsToRecord r
  pub wrote : Writes told (flat_map (turn_text plan script) (range_with_len 0 t)) old now

pub turns_begin : {K : Type 0} {told : K → SinkState} {writer : Writer K} (r : Running NoOverlay)
    → r.at ≡ 0 → IsToRecord r → TurnsSoFar told r.plan r.script 0 r writer writer
turns_begin r at h =
    record {
      plan_is = refl;
      script_is = refl;
      at = at;
      within = omega arith;
      records = h;
      wrote = writes_none;
    }

module _ {K : Type 0} {told : K → SinkState} {plan : Plan} {script : Script} {t : ℕ}
    {r : Running NoOverlay} {old mid : Writer K}
    (so_far : TurnsSoFar told plan script t r old mid) where
  turn_is : turn_text r.plan r.script r.at ≡ turn_text plan script t
  turn_is =
      ap (λ (p : Plan). turn_text p r.script r.at) so_far.plan_is
      ∙ ap (λ (s : Script). turn_text plan s r.at) so_far.script_is
      ∙ ap (turn_text plan script) so_far.at

  pub turns_go_on : {new : Running NoOverlay} {now : Writer K} → t < script.rounds
      → Writes told (turn_text r.plan r.script r.at) mid now → HasPlayedOne r new
      → TurnsSoFar told plan script (t + 1) new old now
  turns_go_on {new = new} lt wrote played = record {
    plan_is = played.plan ∙ so_far.plan_is;
    script_is = played.script ∙ so_far.script_is;
    at = played.at ∙ ap (λ (i : ℕ). i + 1) so_far.at;
    within = omega (arith, lt);
    records = still_records r new so_far.records played;
    wrote = writes_next (turn_text plan script) 0 t t so_far.wrote (writes_is turn_is wrote)
        (omega arith);
  }

  -- after a write that failed
  pub turns_fail : mid.failed ≡ true → Writes told (turns_text plan script) old mid
  turns_fail failed =
      writes_stopped (turn_text plan script) 0 t script.rounds so_far.wrote failed so_far.within

  pub turns_end : script.rounds ≤ t → Writes told (turns_text plan script) old mid
  turns_end le =
      let last : t ≡ script.rounds = omega (arith, le, so_far.within) in
      writes_is (ap (λ (n : ℕ). flat_map (turn_text plan script) (range_with_len 0 n)) last)
      so_far.wrote

  -- a runner that began with this plan and script
  module _ (began : Running NoOverlay) (plan_is : began.plan ≡ plan)
      (script_is : began.script ≡ script) where
    pub turns_stopped : StillPlays began r
    turns_stopped =
        let rounds = ap (λ (s : Script). s.rounds) script_is in
        record {
          plan = so_far.plan_is ∙ sym plan_is;
          script = so_far.script_is ∙ sym script_is;
          within = omega (arith, so_far.at, so_far.within, rounds);
          plays = so_far.records.plays;
        }

    pub turns_played : script.rounds ≤ t → HasPlayedAll began r
    turns_played le =
        let rounds = ap (λ (s : Script). s.rounds) script_is in
        let last : r.at
        ≡ began.script.rounds = omega (arith, le, so_far.at, so_far.within, rounds) in
        record {
          still = turns_stopped;
          at = last;
          states = bare_is_played r so_far.records.plays
              ∙ ap (λ (p : Plan). played_at p r.script r.at) (so_far.plan_is ∙ sym plan_is)
              ∙ ap (λ (s : Script). played_at began.plan s r.at) (so_far.script_is ∙ sym script_is)
              ∙ ap (played_at began.plan began.script) last;
        }

-- the faulty nodes that a script lends for a configuration
pub faulty_ids : (lent : FaultIds) (read script : Script) (t at : ℕ)
    → lent ≡ record { nodes = read.nodes; ids = faulty_at read t } → read ≡ script → t ≡ at
    → lent.ids ≡ faulty_at script at
faulty_ids lent read script t at is same here =
    ap (λ (s : FaultIds). s.ids) is ∙ ap₂ (λ (s : Script) (t : ℕ). faulty_at s t) same here

-- ---- texts that are written or not

module _ {K : Type 0} {told : K → SinkState} {x : Writer K} {b : Bool} where
  pub left_out : (text : List ℕ) → b ≡ true → Writes told (cond b [] text) x x
  left_out text e = writes_is (sym (ap (λ (c : Bool). cond c [] text) e)) writes_none

  pub not_stated : (text : List ℕ) → b ≡ false → Writes told (cond b text []) x x
  not_stated text e = writes_is (sym (ap (λ (c : Bool). cond c text []) e)) writes_none

  module _ {text : List ℕ} {y : Writer K} where
    pub put_in : b ≡ false → Writes told text x y → Writes told (cond b [] text) x y
    put_in e p = writes_is (sym (ap (λ (c : Bool). cond c [] text) e)) p

    pub stated : b ≡ true → Writes told text x y → Writes told (cond b text []) x y
    stated e p = writes_is (sym (ap (λ (c : Bool). cond c text []) e)) p
