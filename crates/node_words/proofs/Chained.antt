-- One part of a header after another.
use Rattle.std.proofs.Common.{◌≡◌, ℕ, ◌+◌, ◌-◌, Bool, true, false, List, [], ◌++◌, Option}
use Rattle.std.proofs.Common.{Some, None, Result, Ok, Err, refl, sym, ap, ◌∙◌, append_assoc}
use Rattle.std.proofs.Common.{length-append, subst, arith}
use Rattle.std.proofs.KnownBytes.{Consumes-trans}
use Rattle.texts.specs.Lines.{lines_of, whole_lines}
use Rattle.texts.specs.Limits.{by, room_of, behind_lines, longest_input}
use Rattle.texts.specs.Words.{open_rest}
use Rattle.texts.proofs.LineByLine.{behind_both}
use Rattle.edge_io.proofs.Chains.{open_second}
use Rattle.edge_io.specs.declared.fed_parts.FedPart.{FedPart}
use Rattle.edge_io.specs.declared.fed_parts.FedError.{FedError}
use Rattle.edge_io.specs.declared.fed_parts.FedError.TheVariants as fed
use Rattle.edge_io.specs.FedParts.{MayFollow, limited_part, Decided, Undecided, WholePart, LostPart}
use Rattle.edge_io.specs.FedParts.{HaltedPart, PartFed}
use Rattle.sync_types.specs.declared.answers.Rule.{Rule}
use Rattle.sync_types.specs.declared.answers.Rule.TheVariants as rule
use Rattle.node_words.specs.declared.header_lines.NodeHeader.{NodeHeader}
use Rattle.node_words.specs.declared.headers.HeaderRefusal.{HeaderRefusal}
use Rattle.node_words.specs.declared.headers.HeaderRefusal.TheVariants as refusal
use Rattle.node_words.specs.NodePart.{HeaderSoFar, nothing_read}
use Rattle.state_codec.specs.Shapes.{Shape, IsShape}
use Rattle.node_words.specs.HeaderParts.{PlanPart, HeaderOf, header_in, behind_plan}
use Rattle.node_words.specs.HeaderParts.{behind_node}
use Rattle.node_words.specs.FedHeaders.{HeaderPending, HeaderDecided, HeaderWhole, HeaderTooLong}
use Rattle.node_words.specs.FedHeaders.{HeaderLost, HeaderHalted, HeaderFed, plan_failed}
use Rattle.node_words.specs.FedHeaders.{node_failed}
use Rattle.node_words.specs.Fits.{IsFit}
use Rattle.node_words.proofs.HeaderFits.{header_fits}
use Rattle.node_words.proofs.PendingHeaders.{plan_line, node_line, PlanPending, NodePending}
use Rattle.node_words.proofs.PendingHeaders.{all_but_last, at_once, pending_first, pending_second}

module _ {Reader Plan Premise : Type 0} (plans : PlanPart Reader Plan Premise) where
  -- the header of a text of which so many bytes may be read
  abbrev header_by : (longer : Bool) → List ℕ
      → Result (HeaderOf Plan) (Option (HeaderRefusal Premise))
  header_by longer bytes = header_in plans (room_of longer longest_input) (lines_of bytes)

  -- ---- the first part is not read

  module _ (s t : Option (List ℕ)) (after : ℕ) where
    lost_first : LostPart (plan_line plans) plans.form plans.unread 1 longest_input 0 s t
        → HeaderLost plans s t
    lost_first h =
        record { bytes = h.bytes; read = h.read; lost = pending_first plans h.bytes h.lost }

    long_first : Undecided (plan_line plans) plans.form plans.unread 1 longest_input 0 s t
        → HeaderTooLong plans s t
    long_first h = record {
      bytes = h.bytes;
      read = h.read;
      past = omega (arith, h.past);
      at_once = all_but_last (PlanPending plans) (HeaderPending plans) [] (pending_first plans)
          h.bytes h.at_once;
      decides = λ rest. ap (behind_plan plans) (h.decides rest);
    }

    refused_first : (line : ℕ) (p : Premise)
        → Decided (plan_line plans) plans.form plans.unread 1 longest_input 0 after s t
        (λ room rest. Err (record { line = line; rule = by p }))
        → HeaderDecided plans s t (Err (Some (refusal.Plan line p)))
    refused_first line p d = record {
      bytes = d.bytes;
      ended = d.ended;
      read = d.read;
      at_end = d.at_end;
      within = omega (arith, d.count, d.within);
      at_once = at_once (PlanPending plans) (HeaderPending plans) [] (pending_first plans)
          (λ bs. refl) d.ended d.bytes d.at_once;
      decides = λ longer rest follows. ap (behind_plan plans) (d.decides longer rest follows);
    }

    halted_first : HaltedPart (plan_line plans) plans.form plans.unread 1 longest_input 0 s t
        → HeaderHalted plans s t
    halted_first h = record {
      bytes = h.bytes;
      ended = h.ended;
      read = h.read;
      at_end = h.at_end;
      at_once = at_once (PlanPending plans) (HeaderPending plans) [] (pending_first plans)
          (λ bs. refl) h.ended h.bytes h.at_once;
    }

    failed_first : (e : FedError Premise)
        → PartFed (plan_line plans) plans.form plans.unread 1 longest_input 0 after s t (Err e)
        → HeaderFed plans s t (Err (plan_failed e))
    failed_first fed.ReadFault h = lost_first h
    failed_first fed.TooLong h = long_first h
    failed_first (fed.Refused at) d = refused_first at.line at.rule d
    failed_first fed.NoMemory h = halted_first h

    -- what reading a plan did, with a reader of which nothing was read
    abbrev PlanFed : (reader : Reader) (before : ℕ) → Result (FedPart Plan) (FedError Premise)
        → Type 0
    PlanFed reader before result =
        PartFed (plan_line plans) plans.form reader 1 longest_input before after s t result

    module _ (reader : Reader) (before : ℕ) (unread : reader ≡ plans.unread) (none : before ≡ 0)
      where
        plan_unread : (result : Result (FedPart Plan) (FedError Premise))
            → PlanFed reader before result → PlanFed plans.unread 0 result
        plan_unread result h =
            subst (λ (n : ℕ). PlanFed plans.unread n result) none
            (subst (λ (r : Reader). PlanFed r before result) unread h)

        pub first_failed : (e : FedError Premise) → PlanFed reader before (Err e)
            → HeaderFed plans s t (Err (plan_failed e))
        first_failed e h = failed_first e (plan_unread (Err e) h)

        pub plan_whole : (x : FedPart Plan) → PlanFed reader before (Ok x)
            → PlanFed plans.unread 0 (Ok x)
        plan_whole x h = plan_unread (Ok x) h

  -- what reading a node part did, with a reader of which nothing was read
  module _ (first before last : ℕ) (t u : Option (List ℕ)) where
    abbrev NodeFed : (reader : HeaderSoFar) → Result (FedPart NodeHeader) (FedError Rule) → Type 0
    NodeFed reader result =
        PartFed node_line rule.Form reader first longest_input before last t u result

    module _ (plan : Plan) (shape : Shape) (reader : HeaderSoFar)
        (shaped : shape ≡ plans.shape plan)
        (unread : reader ≡ nothing_read shape) where
      at_plan : reader ≡ nothing_read (plans.shape plan)
      at_plan = unread ∙ ap nothing_read shaped

      pub node_unread : (e : FedError Rule) → NodeFed reader (Err e)
          → NodeFed (nothing_read (plans.shape plan)) (Err e)
      node_unread e h = subst (λ (r : HeaderSoFar). NodeFed r (Err e)) at_plan h

      pub node_whole : (y : FedPart NodeHeader) → NodeFed reader (Ok y)
          → NodeFed (nothing_read (plans.shape plan)) (Ok y)
      node_whole y h = subst (λ (r : HeaderSoFar). NodeFed r (Ok y)) at_plan h

      pub node_fits : IsShape shape → (y : FedPart NodeHeader) → NodeFed reader (Ok y)
          → IsFit shape y.value
      node_fits sound y h =
          header_fits shape sound first longest_input before last t u y
          (subst (λ (r : HeaderSoFar). NodeFed r (Ok y)) unread h)

  -- ---- the first part is read

  module _ (s t : Option (List ℕ)) (after : ℕ) (x : FedPart Plan)
      (w : WholePart (plan_line plans) plans.form plans.unread 1 longest_input 0 after s t x) where
    -- its last line is that of the input
    pub ends_first : w.decided.ended ≡ true
        → HeaderDecided plans s t (Err (Some (refusal.Node (1 + x.lines) rule.Form)))
    ends_first ends =
        let d = w.decided in
        record {
          bytes = d.bytes;
          ended = d.ended;
          read = d.read;
          at_end = d.at_end;
          within = omega (arith, d.count, d.within);
          at_once = at_once (PlanPending plans) (HeaderPending plans) [] (pending_first plans)
              (λ bs. refl) d.ended d.bytes d.at_once;
          decides = λ longer rest follows.
              let none : rest ≡ [] = (subst (λ (e : Bool). MayFollow e longer rest) ends follows).0
              in
              ap (behind_plan plans) (d.decides longer rest follows)
              ∙ ap (λ (l : List ℕ). behind_node x.value x.lines
              (limited_part node_line rule.Form (nothing_read (plans.shape x.value)) 0 (1 + x.lines)
              (room_of longer (longest_input - after)) (lines_of l))) none;
        }

    -- memory runs out after it
    pub halts_between : HeaderHalted plans s t
    halts_between =
        let d = w.decided in
        record {
          bytes = d.bytes;
          ended = d.ended;
          read = d.read;
          at_end = d.at_end;
          at_once = at_once (PlanPending plans) (HeaderPending plans) [] (pending_first plans)
              (λ bs. refl) d.ended d.bytes d.at_once;
        }

    module _ (u : Option (List ℕ)) (last : ℕ) (goes_on : w.decided.ended ≡ false) where
      anything : (longer : Bool) (rest : List ℕ) → MayFollow w.decided.ended longer rest
      anything longer rest = subst (λ (e : Bool). MayFollow e longer rest) (sym goes_on) tt

      abbrev start : HeaderSoFar
      start = nothing_read (plans.shape x.value)

      abbrev Pending : List ℕ → Type 0
      Pending bytes = NodePending plans s t after x w goes_on bytes

      pending : (bytes : List ℕ) → Pending bytes → HeaderPending plans (w.decided.bytes ++ bytes)
      pending bytes p = pending_second plans s t after x w goes_on bytes p

      abbrev front : List ℕ
      front = w.decided.bytes

      opens : (bytes : List ℕ) → open_rest (front ++ bytes) ≡ open_rest bytes
      opens = open_second (plan_line plans) plans.form plans.unread 1 longest_input 0 after s t x w
          goes_on

      -- the first part, and then the second from some bytes
      chained : (longer : Bool) (bytes rest : List ℕ) → header_by longer ((front ++ bytes) ++ rest)
          ≡ behind_node x.value x.lines (limited_part node_line rule.Form start 0 (1 + x.lines)
          (room_of longer (longest_input - after)) (lines_of (bytes ++ rest)))
      chained longer bytes rest =
          ap (header_by longer) (append_assoc front bytes rest)
          ∙ ap (behind_plan plans)
          (w.decided.decides longer (bytes ++ rest) (anything longer (bytes ++ rest)))

      lost_second : LostPart node_line rule.Form start (1 + x.lines) longest_input after t u
          → HeaderLost plans s u
      lost_second h = record {
        bytes = front ++ h.bytes;
        read = Consumes-trans s t u front h.bytes w.decided.read h.read;
        lost = pending h.bytes h.lost;
      }

      long_second : Undecided node_line rule.Form start (1 + x.lines) longest_input after t u
          → HeaderTooLong plans s u
      long_second h = record {
        bytes = front ++ h.bytes;
        read = Consumes-trans s t u front h.bytes w.decided.read h.read;
        past = omega (arith, length-append front h.bytes, h.past, w.decided.count);
        at_once = all_but_last Pending (HeaderPending plans) front pending h.bytes h.at_once;
        decides = λ rest. chained true h.bytes rest
            ∙ ap (behind_node x.value x.lines) (h.decides rest);
      }

      refused_second : (line : ℕ) (r : Rule)
          → Decided node_line rule.Form start (1 + x.lines) longest_input after last t u
          (λ room rest. Err (record { line = line; rule = by r }))
          → HeaderDecided plans s u (Err (Some (refusal.Node line r)))
      refused_second line r d = record {
        bytes = front ++ d.bytes;
        ended = d.ended;
        read = Consumes-trans s t u front d.bytes w.decided.read d.read;
        at_end = d.at_end;
        within = omega (arith, length-append front d.bytes, w.decided.count, d.count, d.within);
        at_once = at_once Pending (HeaderPending plans) front pending opens d.ended d.bytes
            d.at_once;
        decides = λ longer rest follows.
            chained longer d.bytes rest
            ∙ ap (behind_node x.value x.lines) (d.decides longer rest follows);
      }

      halted_second : HaltedPart node_line rule.Form start (1 + x.lines) longest_input after t u
          → HeaderHalted plans s u
      halted_second h = record {
        bytes = front ++ h.bytes;
        ended = h.ended;
        read = Consumes-trans s t u front h.bytes w.decided.read h.read;
        at_end = h.at_end;
        at_once = at_once Pending (HeaderPending plans) front pending opens h.ended h.bytes
            h.at_once;
      }

      pub second_failed : (e : FedError Rule)
          → PartFed node_line rule.Form start (1 + x.lines) longest_input after last t u (Err e)
          → HeaderFed plans s u (Err (node_failed e))
      second_failed fed.ReadFault h = lost_second h
      second_failed fed.TooLong h = long_second h
      second_failed (fed.Refused at) d = refused_second at.line at.rule d
      second_failed fed.NoMemory h = halted_second h

      pub whole_second : (y : FedPart NodeHeader)
          → WholePart node_line rule.Form start (1 + x.lines) longest_input after last t u y
          → (shape : Shape)
          → HeaderWhole plans s u (record {
            plan = x.value;
            shape = shape;
            header = y.value;
            ended = y.ended;
          })
      whole_second y d shape = record {
        header = record { plan = x.value; node = y.value; lines = x.lines + y.lines };
        plan = refl;
        node = refl;
        decided = record {
          bytes = front ++ d.decided.bytes;
          ended = d.decided.ended;
          read = Consumes-trans s t u front d.decided.bytes w.decided.read d.decided.read;
          at_end = d.decided.at_end;
          within = omega (
            arith,
            length-append front d.decided.bytes,
            w.decided.count,
            d.decided.count,
            d.decided.within,
          );
          at_once = at_once Pending (HeaderPending plans) front pending opens d.decided.ended
              d.decided.bytes
              d.decided.at_once;
          decides = λ longer rest follows.
              chained longer d.decided.bytes rest
              ∙ ap (behind_node x.value x.lines) (d.decided.decides longer rest follows);
        };
        ends = d.ends;
        behind = λ longer rest follows.
            behind_both x.lines y.lines ((front ++ d.decided.bytes) ++ rest)
            ∙ ap (behind_lines y.lines)
            (ap (behind_lines x.lines) (append_assoc front d.decided.bytes rest)
            ∙ w.behind longer (d.decided.bytes ++ rest)
            (anything longer (d.decided.bytes ++ rest)))
            ∙ d.behind longer rest follows;
        whole = λ open_end rest.
            ap (λ (l : List ℕ). header_in plans None (whole_lines l))
            (append_assoc front d.decided.bytes rest)
            ∙ ap (behind_plan plans) (w.whole goes_on (d.decided.bytes ++ rest))
            ∙ ap (behind_node x.value x.lines) (d.whole open_end rest);
      }
