-- One packet after another is heard and answered.
use Rattle.std.proofs.Common.{◌≡◌, ℕ, suc, ◌+◌, ◌-◌, ◌<◌, ◌⊎◌, inl, inr, List, [], ◌∷◌, ◌++◌}
use Rattle.std.proofs.Common.{Option, Result, Ok, Err, refl, sym, ap, ◌∙◌, append_assoc, append-nil, subst}
use Rattle.std.proofs.Common.{arith}
use Rattle.std.specs.Io.KnownBytes.{Consumes, Keeps, IsAtEnd}
use Rattle.std.proofs.KnownBytes.{Consumes-nil, Consumes-trans, Consumes-kept}
use Rattle.std.specs.List.{flat_map}
use Rattle.texts.specs.Growth.{SinkState, Wrote, Cut, Puts}
use Rattle.edge_io.specs.Writing.{Finishes}
use Rattle.edge_io.specs.declared.writer.Writer.{Writer}
use Rattle.texts.proofs.Growth.{cut_more}
use Rattle.sync_types.specs.States.{State}
use Rattle.machines.specs.Machines.{Machine}
use Rattle.node_stepper.specs.declared.faults.Amount.{Amount}
use Rattle.node_stepper.specs.declared.faults.NodeFault.{NodeFault}
use Rattle.node_stepper.specs.declared.faults.NodeFault.TheVariants as fault
use Rattle.node_stepper.specs.Packets.{cells_of, Ending, whole, cut, beyond, Packets, packets_of}
use Rattle.node_stepper.specs.Packets.{most_packets}
use Rattle.node_stepper.specs.Nodes.{Standing, own, nobody, state_cell, state_after, state_behind}
use Rattle.node_stepper.specs.Nodes.{stepped, forgetting}
use Rattle.node_stepper.specs.Hearing.{IsSame, PacketFed, PacketCut}
use Rattle.node_stepper.specs.Serving.{StandsBehind, served, answer, Served, ServedCut, Serves}
use Rattle.node_stepper.specs.Serving.{PassesOn}
use Rattle.node_stepper.proofs.NodeTexts.{state_push, replies, text_push, text_more, text_none}
use Rattle.node_stepper.proofs.Packets.{after, after_one_more, packets_next, packets_cut, within_if}
use Rattle.node_stepper.proofs.PacketByPacket.{own_stepped}

-- which machine each counter is
module _ {M : Type 0} (machine : M → Machine) where
  -- the engine has forgotten who was heard, before the first packet
  pub forgotten : (before after : Standing M) → after ≡ forgetting machine before
      → StandsBehind machine before after []
  forgotten before after is =
      subst (λ e. StandsBehind machine before e []) (sym is)
      (record { counter = refl; id = refl; state = refl; none = refl })

  -- ---- the loop

  module _ (before : Standing M) where
    abbrev size : ℕ
    size = (machine before.counter).nodes

    abbrev behind : List (List (List ℕ)) → State
    behind packets = state_behind (machine before.counter) before.id (own before) packets

    abbrev cell : State → List ℕ
    cell s = state_cell (machine before.counter) before.id s

    -- so many packets were read and heard; `Takes text` says that this text was written
    pub record ServedSoFar (Takes : List ℕ → Type 0) (now : Standing M) (s t : Option (List ℕ))
        (count : ℕ) : Type 0 where
      pub bytes : List ℕ
      pub packets : List (List (List ℕ))
      pub read : Consumes s t bytes
      pub are : (rest : List ℕ)
          → packets_of size most_packets 0 (bytes ++ rest)
          ≡ after packets (packets_of size (most_packets - count) count rest)
      pub stands : StandsBehind machine before now packets
      pub wrote : Takes (answer machine before packets)

    -- an engine's own cell after packets
    cell_is : (now : Standing M) (packets : List (List (List ℕ)))
        → StandsBehind machine before now packets
        → state_cell (machine now.counter) now.id (own now) ≡ cell (behind packets)
    cell_is now packets stands =
        ap (state_cell (machine now.counter) now.id) stands.state
        ∙ ap (λ c. state_cell (machine c) now.id (behind packets)) stands.counter
        ∙ ap (λ i. state_cell (machine before.counter) i (behind packets)) stands.id

    pub served_none : (Takes : List ℕ → Type 0) (now : Standing M) (s : Option (List ℕ))
        → StandsBehind machine before now []
        → Takes (state_cell (machine now.counter) now.id (own now)) → ServedSoFar Takes now s s 0
    served_none Takes now s stands wrote = record {
      bytes = [];
      packets = [];
      read = Consumes-nil s;
      are = λ rest. refl;
      stands = stands;
      wrote = rw (
        text_none (machine before.counter) before.id (own before),
        ← cell_is now []
            stands,
      ) wrote;
    }

    module _ (Takes : List ℕ → Type 0) (now : Standing M) (s t u : Option (List ℕ)) (count : ℕ)
        (h : ServedSoFar Takes now s t count) where
      all_of : (rest : List ℕ) (ending : Ending)
          → packets_of size (most_packets - count) count rest
          ≡ record { cells = []; ending = ending }
          → packets_of size most_packets 0 (h.bytes ++ rest)
          ≡ record { cells = h.packets; ending = ending }
      all_of rest ending is =
          h.are rest ∙ ap (after h.packets) is
          ∙ ap (λ (l : List (List (List ℕ))). let p : Packets =
          record { cells = l; ending = ending } in p) (append-nil h.packets)

      -- all packets of what was read, if no further one is whole
      module _ (new : Standing M) (stands : StandsBehind machine before new h.packets)
          (rest : List ℕ)
          (ending : Ending) (read : Consumes t u rest)
          (is : packets_of size (most_packets - count) count rest
          ≡ record { cells = []; ending = ending })
          (w x : SinkState) (wrote : Wrote (answer machine before h.packets) w x) where
        all : packets_of size most_packets 0 (h.bytes ++ rest)
            ≡ record { cells = h.packets; ending = ending }
        all = all_of rest ending is

        pub stops : Served machine before new s u w x
        stops = record {
          bytes = h.bytes ++ rest;
          read = Consumes-trans s t u h.bytes rest h.read read;
          wrote = rw all wrote;
          stands = rw all stands;
        }

        pub stops_so : (served machine before (h.bytes ++ rest)).ending ≡ ending
        stops_so = ap (λ (p : Packets). p.ending) all

      left_some : count < most_packets → most_packets - count ≡ suc (most_packets - (count + 1))
      left_some lt = omega arith

      inside : (sender : ℕ) → count < most_packets
          → (p : PacketCut ((machine now.counter).nodes) sender t u)
          → packets_of size (most_packets - count) count p.bytes
          ≡ record { cells = []; ending = cut count sender }
      inside sender lt p =
          let same : (machine now.counter).nodes ≡ size =
          ap (λ c. (machine c).nodes) h.stands.counter in
          ap (λ n. packets_of size n count p.bytes) (left_some lt)
          ∙ packets_cut size (most_packets - (count + 1)) count sender p.bytes p.some
          (ap (λ n. cells_of n 0 p.bytes) (sym same) ∙ p.cut)

      -- what was read so far ends with its packets
      so_far : (served machine before h.bytes).ending ≡ whole count
      so_far =
          ap (λ (l : List ℕ). (served machine before l).ending) (sym (append-nil h.bytes))
          ∙ ap (λ (p : Packets). p.ending) (all_of [] (whole count) refl)

      past : (b : ℕ) (rest : List ℕ) → count ≡ most_packets
          → packets_of size (most_packets - count) count (b ∷ rest)
          ≡ record { cells = []; ending = beyond }
      past b rest e = let none : most_packets - count ≡ 0 = omega (arith, e) in rw none refl

      -- the engine as it stood, once it forgets who was heard of a packet that was not whole
      pub again : (mid new : Standing M) → IsSame now mid → new ≡ forgetting machine mid
          → StandsBehind machine before new h.packets
      again mid new same is =
          let stands = h.stands in
          subst (λ e. StandsBehind machine before e h.packets) (sym is) (record {
            counter = same.counter ∙ stands.counter;
            id = same.id ∙ stands.id;
            state = same.own ∙ stands.state;
            none = ap (λ c. nobody (machine c)) (same.counter ∙ stands.counter);
          })

      pub unmoved : (new : Standing M) → new ≡ now → StandsBehind machine before new h.packets
      unmoved new is = subst (λ e. StandsBehind machine before e h.packets) (sym is) h.stands

      -- one more packet
      module _ (mid new : Standing M) (node : now.id < (machine now.counter).nodes)
          (lt : count < most_packets)
          (fed : PacketFed machine now mid t u) (is_new : new ≡ stepped machine mid) where
        same_nodes : (machine now.counter).nodes ≡ size
        same_nodes = ap (λ c. (machine c).nodes) h.stands.counter

        whole_here : (rest : List ℕ) → cells_of size 0 (fed.bytes ++ rest) ≡ Ok (fed.packet, rest)
        whole_here rest = ap (λ n. cells_of n 0 (fed.bytes ++ rest)) (sym same_nodes)
            ∙ fed.whole rest

        are_more : (rest : List ℕ) → packets_of size most_packets 0 ((h.bytes ++ fed.bytes) ++ rest)
            ≡ after (h.packets ++ fed.packet ∷ [])
            (packets_of size (most_packets - (count + 1)) (count + 1) rest)
        are_more rest =
            ap (packets_of size most_packets 0) (append_assoc h.bytes fed.bytes rest)
            ∙ h.are (fed.bytes ++ rest)
            ∙ ap (after h.packets) (ap (λ n. packets_of size n count (fed.bytes ++ rest))
            (left_some lt)
            ∙ packets_next size (most_packets - (count + 1)) count fed.bytes rest fed.packet
            fed.some
            (whole_here rest))
            ∙ after_one_more h.packets fed.packet
            (packets_of size (most_packets - (count + 1)) (count + 1)
            rest)

        stands_more : StandsBehind machine before new (h.packets ++ fed.packet ∷ [])
        stands_more =
            let stands = h.stands in
            let same = fed.heard.same in
            subst (λ e. StandsBehind machine before e (h.packets ++ fed.packet ∷ [])) (sym is_new)
            (record {
              counter = same.counter ∙ stands.counter;
              id = same.id ∙ stands.id;
              state =
                  own_stepped machine now mid fed.packet fed.heard fed.size node
                  ∙ ap (λ s. state_after (machine now.counter) now.id s fed.packet) stands.state
                  ∙ ap (λ c. state_after (machine c) now.id (behind h.packets) fed.packet)
                  stands.counter
                  ∙ ap (λ i. state_after (machine before.counter) i (behind h.packets) fed.packet)
                  stands.id
                  ∙ sym (state_push (machine before.counter) before.id (own before) h.packets
                  fed.packet);
              none = ap (λ c. nobody (machine c)) (same.counter ∙ stands.counter);
            })

        new_cell : state_cell (machine new.counter) new.id (own new)
            ≡ cell (state_after (machine before.counter) before.id (behind h.packets) fed.packet)
        new_cell =
            cell_is new (h.packets ++ fed.packet ∷ []) stands_more
            ∙ ap cell (state_push (machine before.counter) before.id (own before) h.packets
            fed.packet)

        pub served_more : (Then : List ℕ → Type 0)
            → ((text : List ℕ) → Takes text
            → Then (text ++ state_cell (machine new.counter) new.id (own new)))
            → ServedSoFar Then new s u (count + 1)
        served_more Then one_more = record {
          bytes = h.bytes ++ fed.bytes;
          packets = h.packets ++ fed.packet ∷ [];
          read = Consumes-trans s t u h.bytes fed.bytes h.read fed.read;
          are = are_more;
          stands = stands_more;
          wrote = rw (
            text_push (machine before.counter) before.id (own before) h.packets
                fed.packet,
            ← new_cell,
          )
              (one_more (answer machine before h.packets) h.wrote);
        }

      -- a write failed: what was read and heard of a packet that was not whole is left out
      stops_cut : (new : Standing M) → StandsBehind machine before new h.packets
          → (rest : List ℕ) (ending : Ending) → Consumes t u rest
          → packets_of size (most_packets - count) count rest
          ≡ record { cells = []; ending = ending }
          → (w x : SinkState) → Cut (answer machine before h.packets) w x
          → ServedCut machine before new s u w x
      stops_cut new stands rest ending read is w x was_cut = record {
        bytes = h.bytes ++ rest;
        read = Consumes-trans s t u h.bytes rest h.read read;
        cut = λ later.
            let all = packets_of size (most_packets - count) count (rest ++ later) in
            rw (
              append_assoc h.bytes rest later,
              h.are (rest ++ later),
              text_more (machine before.counter) before.id (own before) h.packets all.cells,
            )
            (cut_more w x (answer machine before h.packets)
            (flat_map cell (replies (machine before.counter) before.id (behind h.packets)
            all.cells)) was_cut);
        stands = rw (all_of rest ending is) stands;
      }

      -- the end, a packet that is cut, a read that failed, and a byte too many
      pub served_end : (new : Standing M) → new ≡ now → Consumes t u [] → IsAtEnd u
          → (w x : SinkState) → Wrote (answer machine before h.packets) w x
          → Serves machine before new s u w x (Ok count)
      unfolding stops
      served_end new is read end w x wrote =
          let stands = unmoved new is in (
            stops new stands [] (whole count) read refl w x wrote,
            stops_so new stands [] (whole count) read refl w x wrote,
            end,
          )

      pub served_inside : (sender : ℕ) (mid new : Standing M) → count < most_packets
          → PacketCut ((machine now.counter).nodes) sender t u → IsAtEnd u
          → IsSame now mid → new ≡ forgetting machine mid
          → (w x : SinkState) → Wrote (answer machine before h.packets) w x
          → Serves machine before new s u w x (Err (fault.Cut count sender))
      unfolding stops
      served_inside sender mid new lt p end same is w x wrote =
          let stands = again mid new same is in
          let ends = inside sender lt p in (
            stops new stands p.bytes (cut count sender) p.read ends w x wrote,
            stops_so new stands p.bytes (cut count sender) p.read ends w x wrote,
            end,
          )

      pub served_fault : (mid new : Standing M) → count < most_packets
          → Consumes t u [] ⊎ ((sender : ℕ) × PacketCut ((machine now.counter).nodes) sender t u)
          → IsSame now mid → new ≡ forgetting machine mid
          → (w x : SinkState) → Wrote (answer machine before h.packets) w x
          → Serves machine before new s u w x (Err fault.ReadFault)
      unfolding stops
      served_fault mid new lt (inl read) same is w x wrote =
          let stands = again mid new same is in (
            stops new stands [] (whole count) read refl w x wrote,
            within_if (stops_so new stands [] (whole count) read refl w x wrote) tt,
          )
      served_fault mid new lt (inr (sender, p)) same is w x wrote =
          let stands = again mid new same is in
          let ends = inside sender lt p in (
            stops new stands p.bytes (cut count sender) p.read ends w x wrote,
            within_if (stops_so new stands p.bytes (cut count sender) p.read ends w x wrote) tt,
          )

      pub served_cut : (mid new : Standing M) → count < most_packets
          → Consumes t u [] ⊎ ((sender : ℕ) × PacketCut ((machine now.counter).nodes) sender t u)
          → IsSame now mid → new ≡ forgetting machine mid
          → (w x : SinkState) → Cut (answer machine before h.packets) w x
          → ServedCut machine before new s u w x
      served_cut mid new lt (inl read) same is =
          stops_cut new (again mid new same is) [] (whole count) read refl
      served_cut mid new lt (inr (sender, p)) same is =
          stops_cut new (again mid new same is) p.bytes (cut count sender) p.read
          (inside sender lt p)

      -- a read or a write failed in a packet
      pub served_stop : {K : Type 0} (told : K → SinkState) (Still : Type 0) (e : NodeFault)
          (old end : Writer K) (w x : SinkState) (mid new : Standing M)
          → PassesOn told Still (let r : Result Amount NodeFault = Err e in r) old end
          → ((r : Result ℕ NodeFault) → Finishes told r old end
          → Puts r (answer machine before h.packets) w x)
          → count < most_packets
          → Consumes t u [] ⊎ ((sender : ℕ) × PacketCut ((machine now.counter).nodes) sender t u)
          → IsSame now mid → new ≡ forgetting machine mid
          → Serves machine before new s u w x (Err e)
      served_stop told Still fault.ReadFault old end w x mid new passes puts lt p same is =
          served_fault mid new lt p same is w x (puts (Ok 0) passes)
      served_stop told Still fault.WriteFault old end w x mid new passes puts lt p same is =
          served_cut mid new lt p same is w x (puts (Err fault.WriteFault) passes.0)
      served_stop told Still (fault.Cut a b) old end w x mid new passes puts lt p same is =
          absurd passes
      served_stop told Still fault.TooLong old end w x mid new passes puts lt p same is =
          absurd passes

      -- a write failed after the last packet that is answered
      pub served_cut_last : Consumes t u [] → (w x : SinkState)
          → Cut (answer machine before h.packets) w x
          → ServedCut machine before now s u w x
      served_cut_last read = stops_cut now h.stands [] (whole count) read refl

      pub served_beyond : (b : ℕ) → count ≡ most_packets → Consumes t u (b ∷ [])
          → (w x : SinkState) → Wrote (answer machine before h.packets) w x
          → Serves machine before now s u w x (Err fault.TooLong)
      unfolding stops
      served_beyond b e read w x wrote = (
        stops now h.stands (b ∷ []) beyond read (past b [] e) w x wrote,
        λ rest.
            ap (packets_of size most_packets 0) (append_assoc h.bytes (b ∷ []) rest)
            ∙ all_of (b ∷ rest) beyond (past b rest e)
            ∙ ap (λ (l : List (List (List ℕ))). let p : Packets =
            record { cells = l; ending = beyond } in p)
            (sym (ap (λ (p : Packets). p.cells) (all_of (b ∷ []) beyond (past b [] e)))),
        record { front = h.bytes; last = b; parts = refl; pending = within_if so_far tt },
      )

      -- the end after the last packet
      last : count ≡ most_packets → packets_of size (most_packets - count) count []
          ≡ record { cells = []; ending = whole most_packets }
      last e = ap (λ n. let p : Packets = record { cells = []; ending = whole n } in p) e

      pub served_full : count ≡ most_packets → Keeps t u → IsAtEnd u
          → (w x : SinkState) → Wrote (answer machine before h.packets) w x
          → Serves machine before now s u w x (Ok most_packets)
      unfolding stops
      served_full e keeps end w x wrote =
          let read = Consumes-kept t t u [] (Consumes-nil t) keeps in (
            stops now h.stands [] (whole most_packets) read (last e) w x wrote,
            stops_so now h.stands [] (whole most_packets) read (last e) w x wrote,
            end,
          )

      pub served_lost : Keeps t u → (w x : SinkState)
          → Wrote (answer machine before h.packets) w x
          → Serves machine before now s u w x (Err fault.ReadFault)
      unfolding stops
      served_lost keeps w x wrote =
          let read = Consumes-kept t t u [] (Consumes-nil t) keeps in (
            stops now h.stands [] (whole count) read refl w x wrote,
            within_if (stops_so now h.stands [] (whole count) read refl w x wrote) tt,
          )
