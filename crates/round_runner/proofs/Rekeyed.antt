-- With another key a script is a script for its plan, and what was made for it serves.
use Rattle.std.proofs.Common.{◌≡◌, ℕ, List, length, Option, refl, sym, ap, ap₂, ◌∙◌, subst, arith}
use Rattle.sync_types.specs.States.{State}
use Rattle.construction.specs.Plans.{Plan}
use Rattle.counter_core.specs.Overlays.{Layer}
use Rattle.adversary_script.specs.Scripts.{Script}
use Rattle.state_codec.specs.Packs.{Pack}
use Rattle.machine_runner.specs.FirstLocked.{begun_locks}
use Rattle.machine_runner.proofs.Firsts.{begun_era}
use Rattle.machine_runner.proofs.Rekeyed.{rekeyed, whole_still}
use Rattle.round_runner.specs.declared.stepping.RoundBuffers.{RoundBuffers}
use Rattle.round_runner.specs.Kept.{IsValidRunner}
use Rattle.round_runner.specs.Rooms.{IsReady}
use Rattle.round_runner.specs.Played.{starts}
use Rattle.round_runner.specs.Locks.{is_locked}
use Rattle.round_runner.specs.Runners.{IsPlayableOn, Running, begun}

-- a room with other noise and another state written
abbrev with_both : RoundBuffers → List ℕ → State → RoundBuffers
with_both room noise out = record room {
  noise = noise;
  step = record room.step { out = out };
}

module _ (script : Script) (key : List ℕ) where
  pub right_still : {Kept : Type 0} (plan : Plan) (layer : Layer Kept)
      → IsPlayableOn plan layer script
      → IsPlayableOn plan layer (rekeyed script key)
  right_still plan layer right = record {
    nodes = right.nodes;
    shape = right.shape;
    over = right.over;
    borne = right.borne;
  }

  pub ready_still : (plan : Plan) (room : RoundBuffers) (noise : List ℕ) (out : State)
      → IsReady plan script room → noise ≡ key
      → length out.registers ≡ script.shape.depth
      → IsReady plan (rekeyed script key) (with_both room noise out)
  ready_still plan room noise out ready is deep = record {
    noise = is;
    heard = record { size = ready.heard.size; deep = ready.heard.deep };
    work = ready.work;
    step = record { lies = ready.step.lies; shared = ready.step.shared; out = deep };
  }

  -- what a runner keeps, when it begins anew
  kept_at_first : {Kept : Type 0} (plan : Plan) (layer : Layer Kept) (room : RoundBuffers)
      (noise : List ℕ)
      (out : State) (states now : Pack) (locks begun : List (Option ℕ)) (at era : ℕ)
      → IsValidRunner plan script layer room states locks at era → noise ≡ key
      → length out.registers ≡ script.shape.depth → now.shape ≡ states.shape
      → length now.current ≡ script.nodes → length begun ≡ length locks
      → IsValidRunner plan (rekeyed script key) layer (with_both room noise out) now begun
      0 0
  kept_at_first plan layer room noise out states now locks begun at era kept is deep shape size
      long =
      record {
        accepted = kept.accepted;
        right = right_still plan layer kept.right;
        sound = kept.sound;
        whole = whole_still script key kept.whole;
        fits = kept.fits;
        ready = ready_still plan room noise out kept.ready is deep;
        shape = shape ∙ kept.shape;
        size = size;
        within = omega arith;
        here = sym (begun_era (rekeyed script key) kept.whole.formed.rising 0 0 (omega arith) refl);
        eras = long ∙ kept.eras;
      }

  pub kept_anew : {Kept : Type 0} (plan : Plan) (layer : Layer Kept) (room : RoundBuffers)
      (noise : List ℕ)
      (out : State) (states now : Pack) (locks begun : List (Option ℕ)) (at era : ℕ)
      (other : Script) → other ≡ rekeyed script key
      → IsValidRunner plan script layer room states locks at era → noise ≡ key
      → length out.registers ≡ script.shape.depth → now.shape ≡ states.shape
      → length now.current ≡ script.nodes → length begun ≡ length locks
      → IsValidRunner plan other layer (with_both room noise out) now begun 0 0
  kept_anew plan layer room noise out states now locks begun at era other same kept is deep shape
      size long =
      subst
      (λ (s : Script). IsValidRunner plan s layer (with_both room noise out) now begun
      0 0) (sym same)
      (kept_at_first plan layer room noise out states now locks begun at era kept is deep shape size
      long)

-- what a runner is, when it begins anew
module _ {O : Type 0} (plan : Plan) (overlay : O) where
  abbrev running : Script → (at : ℕ) → List State → List (Option ℕ) → Running O
  running script at states locks = record {
    plan = plan;
    script = script;
    overlay = overlay;
    at = at;
    states = states;
    locks = locks;
  }

  begun_here : (script : Script) (key : List ℕ) (other : Script) (states : List State)
      (locks : List (Option ℕ)) → other ≡ rekeyed script key → states ≡ starts other
      → locks ≡ begun_locks (is_locked plan) other states
      → running other 0 states locks ≡ begun plan (rekeyed script key) overlay
  begun_here script key other states locks same start known =
      let here = start ∙ ap starts same in
      ap (λ (s : Script). running s 0 states locks) same
      ∙ ap₂ (λ (config : List State) (l : List (Option ℕ)). running (rekeyed script key) 0 config l)
      here (known
      ∙ ap₂ (λ (s : Script) (config : List State). begun_locks (is_locked plan) s config) same here)

  pub begun_anew : (script : Script) (at : ℕ) (before : List State) (old : List (Option ℕ))
      (r : Running O) → running script at before old ≡ r → (key : List ℕ) (other : Script)
      (states : List State) (locks : List (Option ℕ)) → other ≡ rekeyed script key
      → states ≡ starts other → locks ≡ begun_locks (is_locked plan) other states
      → running other 0 states locks ≡ begun r.plan (rekeyed r.script key) r.overlay
  begun_anew script at before old r view key other states locks same start known =
      subst (λ (r : Running O). running other 0 states locks
      ≡ begun r.plan (rekeyed r.script key) r.overlay) view
      (begun_here script key other states locks same start known)
