-- With another key a script is a script for its machine, and what was made for it serves.
use Rattle.std.proofs.Common.{◌≡◌, ℕ, List, Vec, Global, length, Option, refl, sym, ap, ◌∙◌, subst, arith}
use Rattle.sync_types.specs.States.{State}
use Rattle.state_codec.specs.Packs.{Pack}
use Rattle.machines.specs.Machines.{Machine}
use Rattle.adversary_script.specs.Scripts.{Script, IsScript}
use Rattle.machine_runner.specs.Laws.{IsReadFor}
use Rattle.machine_runner.specs.Played.{starts}
use Rattle.machine_runner.proofs.Firsts.{begun_era}
use Rattle.machine_runner.specs.declared.stepping.RoundBuffers.{RoundBuffers}
use Rattle.machine_runner.specs.Kept.{IsValidRunner, locks_at}
use Rattle.machine_runner.specs.Hearing.{HasRoom}
use Rattle.machine_runner.specs.Rooms.{IsReady}
use Rattle.machine_runner.specs.Runners.{Running, begun}
use Rattle.machine_runner.proofs.Keeping.{locks_long}

-- the script with another key
abbrev pub rekeyed : Script → List ℕ → Script
rekeyed script key = record script { key = key }

module _ (script : Script) (key : List ℕ) where
  pub whole_still : IsScript script → IsScript (rekeyed script key)
  whole_still whole =
      let formed = whole.formed in
      record {
        formed = record {
          ids = formed.ids;
          senders = formed.senders;
          lies = formed.lies;
          starts = formed.starts;
          hits = formed.hits;
          many = formed.many;
          rising = formed.rising;
          few = formed.few;
          order = formed.order;
          shown = formed.shown;
        };
        within = whole.within;
      }

  pub read_still : (machine : Machine) → IsReadFor machine script
      → IsReadFor machine (rekeyed script key)
  read_still machine read = record {
    shape = read.shape;
    right = record {
      nodes = read.right.nodes;
      states = read.right.states;
      borne = read.right.borne;
    };
    whole = whole_still read.whole;
  }

  pub ready_still : (room : RoundBuffers) (noise : List ℕ) (heard : Vec State Global) (out : State)
      → IsReady script room → noise ≡ key → HasRoom script heard.items
      → length out.registers ≡ script.shape.depth
      → IsReady (rekeyed script key) (record room { noise = noise; heard = heard; out = out })
  ready_still room noise heard out ready is has_room deep = record {
    noise = is;
    heard = record { size = has_room.size; deep = has_room.deep };
    work = ready.work;
    out = deep;
  }

  -- what a runner keeps, when it begins anew
  kept_at_first : (machine : Machine) (room : RoundBuffers) (noise : List ℕ)
      (heard : Vec State Global) (out : State)
      (states now : Pack) (locks begun : List (Option ℕ)) (at era : ℕ)
      → IsValidRunner machine script room states locks at era → noise ≡ key
      → HasRoom script heard.items → heard.items ≡ now.current
      → length out.registers ≡ script.shape.depth → now.shape ≡ states.shape
      → length now.current ≡ script.nodes → now.current ≡ starts (rekeyed script key)
      → begun ≡ locks_at machine (rekeyed script key) 0
      → IsValidRunner machine (rekeyed script key)
      (record room { noise = noise; heard = heard; out = out }) now begun 0 0
  kept_at_first machine room noise heard out states now locks begun at era kept is has_room laid
      deep shape size start known = record {
        sound = kept.sound;
        read = read_still machine kept.read;
        ready = ready_still room noise heard out kept.ready is has_room deep;
        shape = shape ∙ kept.shape;
        size = size;
        laid = laid;
        played = start;
        within = omega arith;
        here = sym (begun_era (rekeyed script key) kept.read.whole.formed.rising 0 0
            (omega arith) refl);
        eras = ap (λ (xs : List (Option ℕ)). length xs) known
            ∙ locks_long machine (rekeyed script key) 0;
        known = known;
      }

  pub kept_anew : (machine : Machine) (room : RoundBuffers) (noise : List ℕ)
      (heard : Vec State Global) (out : State)
      (states now : Pack) (locks begun : List (Option ℕ)) (at era : ℕ)
      (other : Script) → other ≡ rekeyed script key
      → IsValidRunner machine script room states locks at era → noise ≡ key
      → HasRoom script heard.items → heard.items ≡ now.current
      → length out.registers ≡ script.shape.depth → now.shape ≡ states.shape
      → length now.current ≡ script.nodes → now.current ≡ starts other
      → begun ≡ locks_at machine other 0
      → IsValidRunner machine other (record room { noise = noise; heard = heard; out = out }) now begun 0 0
  kept_anew machine room noise heard out states now locks begun at era other same kept is has_room
      laid deep shape size start known =
      subst
      (λ (s : Script). IsValidRunner machine s
      (record room { noise = noise; heard = heard; out = out }) now begun 0 0)
      (sym same)
      (kept_at_first machine room noise heard out states now locks begun at era kept is has_room
      laid deep shape size (start ∙ ap starts same) (known ∙ ap (λ (s : Script). locks_at machine s 0) same))

-- what a runner is, when it begins anew
pub begun_anew : {M : Type 0} (machine : M) (script : Script) (at : ℕ) (r : Running M) → (let s :
    Running M = record { machine = machine; script = script; at = at } in s) ≡ r
    → (key : List ℕ) (other : Script) → other ≡ rekeyed script key
    → begun machine other ≡ begun r.machine (rekeyed r.script key)
begun_anew machine script at r view key other same =
    subst (λ (r : Running _). begun machine other ≡ begun r.machine (rekeyed r.script key)) view
    (ap (begun machine) same)
