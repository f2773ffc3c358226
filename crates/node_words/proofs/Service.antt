-- What a call did whose header was whole.
use Rattle.std.proofs.Common.{◌≡◌, ℕ, Bool, true, false, ltb, List, [], ◌++◌, length, Option}
use Rattle.std.proofs.Common.{Some, None, Result, Ok, Err, refl, sym, ap, ◌∙◌, subst, append_assoc}
use Rattle.std.proofs.Common.{append-nil, length-append, arith}
use Rattle.std.specs.Io.KnownBytes.{prepend_known, Consumes, Keeps, IsAtEnd}
use Rattle.std.proofs.KnownBytes.{Consumes-trans}
use Rattle.std.proofs.lemmas.Bool.{le-ltb}
use Rattle.texts.specs.Causes.{Counted}
use Rattle.texts.proofs.Causes.{never_counted}
use Rattle.texts.specs.Limits.{behind_lines, longest_input}
use Rattle.texts.specs.Growth.{SinkState, Wrote, Cut}
use Rattle.edge_io.specs.FedParts.{MayFollow}
use Rattle.machines.specs.Machines.{Machine}
use Rattle.node_words.specs.declared.headers.HeaderRead.{HeaderRead}
use Rattle.node_words.specs.FedHeaders.{HeaderWhole}
use Rattle.node_stepper.specs.declared.faults.NodeFault.{NodeFault}
use Rattle.node_stepper.specs.declared.faults.NodeFault.TheVariants as fault
use Rattle.node_stepper.specs.Packets.{Packets, IsWithin, whole, cut, beyond}
use Rattle.node_stepper.specs.Nodes.{Standing}
use Rattle.node_stepper.specs.Serving.{served, answer, ServicePending, Serves, HasServeCause}
use Rattle.node_words.specs.Constructions.{Words}
use Rattle.node_words.specs.NodeAnswers.{Outcome, IsNodePending, pending_behind, ending_of}
use Rattle.node_words.specs.NodeAnswers.{ended_by}
use Rattle.node_words.specs.NodeAnswers.{packets_for, served_outcome, behind_header, node_outcome}
use Rattle.node_words.specs.NodeAnswers.{cells_so_far, node_so_far}
use Rattle.node_words.specs.Conduct.{ReadsFront, ReadsAll, NodeDoes, LeavesUnmet, LeavesUntouched}
use Rattle.node_words.proofs.Returns.{left_of, read_dry, reads_front, reads_all, all_front}
use Rattle.node_words.proofs.Returns.{nothing_left}
use Rattle.node_words.proofs.Engines.{IsNodeOf}

module _ {Reader Plan Premise M : Type 0} (words : Words Reader Plan Premise)
    (machine : M → Machine) (s f m l : Option (List ℕ)) (held : List ℕ) (before now : ℕ)
    (keeps : Keeps s f) (t u : SinkState) (x : HeaderRead Plan) (w : HeaderWhole words.part f m x)
    (e after : Standing M) (node : IsNodeOf words machine w.header e)
    (goes_on : x.ended ≡ false) where
  open_end : w.decided.ended ≡ false
  open_end = w.ends ∙ goes_on

  anything : (longer : Bool) (rest : List ℕ) → MayFollow w.decided.ended longer rest
  anything longer rest = subst (λ (b : Bool). MayFollow b longer rest) (sym open_end) tt

  node_is : (rest : List ℕ) → node_outcome words (w.decided.bytes ++ rest)
      ≡ served_outcome words w.header (packets_for words w.header rest)
  node_is rest =
      let input = w.decided.bytes ++ rest in
      let longer = ltb longest_input (length input) in
      ap (behind_header words input) (w.decided.decides longer rest (anything longer rest))
      ∙ ap (λ (b : List ℕ). served_outcome words w.header (packets_for words w.header b))
      (w.behind longer rest (anything longer rest))

  text_is : (rest : List ℕ) → (node_outcome words (w.decided.bytes ++ rest)).text
      ≡ answer machine e (served machine e rest).cells
  text_is rest =
      ap (λ (o : Outcome Premise). o.text) (node_is rest)
      ∙ (node.writes (packets_for words w.header rest).cells
      ∙ ap (λ (p : Packets). answer machine e p.cells) (node.hears rest))

  result_is : (rest : List ℕ) → (node_outcome words (w.decided.bytes ++ rest)).ended
      ≡ ending_of (served machine e rest).ending
  result_is rest = ap (λ (o : Outcome Premise). o.ended) (node_is rest)
      ∙ ap (λ (p : Packets). ending_of p.ending) (node.hears rest)

  so_far_is : (rest : List ℕ) → node_so_far words (w.decided.bytes ++ rest)
      ≡ answer machine e (served machine e rest).cells
  so_far_is rest =
      ap (cells_so_far words (w.decided.bytes ++ rest)) (w.whole open_end rest)
      ∙ (ap (λ (b : List ℕ). (served_outcome words w.header (packets_for words w.header b)).text)
      (w.behind false rest (anything false rest))
      ∙ (node.writes (packets_for words w.header rest).cells
      ∙ ap (λ (p : Packets). answer machine e p.cells) (node.hears rest)))

  pending_is : (rest : List ℕ) → ServicePending machine e rest
      → IsNodePending words (w.decided.bytes ++ rest)
  pending_is rest pending =
      let seen = w.decided.bytes ++ rest in
      let behind : behind_lines w.header.lines seen ≡ rest =
      w.behind false rest (anything false rest) in
      let within = w.decided.within in
      subst (pending_behind words seen) (sym (w.whole open_end rest)) (record {
        header = omega (arith, within, ap length behind, length-append w.decided.bytes rest);
        packets = subst (λ (p : Packets). IsWithin p.ending)
            (sym (ap (packets_for words w.header) behind ∙ node.hears rest)) pending;
      })

  all_of : (bytes : List ℕ) → Consumes m (prepend_known held l) bytes
      → IsAtEnd (prepend_known held l) → ReadsAll s l (w.decided.bytes ++ bytes)
  all_of bytes read end = reads_all s f l held (w.decided.bytes ++ bytes) keeps
      (Consumes-trans f m (prepend_known held l) w.decided.bytes bytes w.decided.read read) end

  abbrev more : List ℕ
  more = held ++ left_of l

  front_of : (bytes : List ℕ) → Consumes m (prepend_known held l) bytes
      → ReadsFront s l (w.decided.bytes ++ (bytes ++ more))
  front_of bytes read = subst (ReadsFront s l) (append_assoc w.decided.bytes bytes more)
      (reads_front s f l held (w.decided.bytes ++ bytes) keeps
      (Consumes-trans f m (prepend_known held l) w.decided.bytes bytes w.decided.read read))

  pub serves : (r : Result ℕ NodeFault)
      → Serves machine e after m (prepend_known held l) t u r
      → HasServeCause before now (held ≡ []) r
      → NodeDoes words (ended_by r) s l before now t u
  serves (Ok n) (d, ending, end) still = record {
    input = w.decided.bytes ++ d.bytes;
    read = all_of d.bytes d.read end;
    still = still;
    is = ap ending_of (sym ending) ∙ sym (result_is d.bytes);
    wrote = subst (λ (text : List ℕ). Wrote text t u) (sym (text_is d.bytes)) d.wrote;
  }
  serves (Err (fault.Cut p v)) (d, ending, end) still = record {
    input = w.decided.bytes ++ d.bytes;
    read = all_of d.bytes d.read end;
    still = still;
    is = ap ending_of (sym ending) ∙ sym (result_is d.bytes);
    wrote = subst (λ (text : List ℕ). Wrote text t u) (sym (text_is d.bytes)) d.wrote;
  }
  serves (Err fault.TooLong) (d, past, at_once) still = record {
    input = w.decided.bytes ++ (d.bytes ++ more);
    read = front_of d.bytes d.read;
    still = still;
    is = ap (λ (p : Packets). ending_of p.ending) (sym (past more))
        ∙ sym (result_is (d.bytes ++ more));
    wrote = subst (λ (text : List ℕ). Wrote text t u)
        (sym (text_is (d.bytes ++ more)
        ∙ ap (λ (p : Packets). answer machine e p.cells) (past more))) d.wrote;
  }
  serves (Err fault.ReadFault) (d, pending) (cause, dry) = record {
    seen = w.decided.bytes ++ d.bytes;
    pending = pending_is d.bytes pending;
    read = read_dry s f l held (w.decided.bytes ++ d.bytes) keeps
        (Consumes-trans f m (prepend_known held l) w.decided.bytes d.bytes w.decided.read d.read)
        dry;
    cause = cause;
    wrote = subst (λ (text : List ℕ). Wrote text t u) (sym (so_far_is d.bytes)) d.wrote;
  }
  serves (Err fault.WriteFault) d still = record {
    input = w.decided.bytes ++ (d.bytes ++ more);
    read = front_of d.bytes d.read;
    still = still;
    cut = subst (λ (text : List ℕ). Cut text t u) (sym (text_is (d.bytes ++ more))) (d.cut more);
  }

-- the cause of a service after a header
pub cause_of : (r : Result ℕ NodeFault) (before mid now : ℕ) (Dry : Type 0) (held : List ℕ)
    → (Dry → held ≡ []) → mid ≡ before → HasServeCause mid now Dry r
    → HasServeCause before now (held ≡ []) r
cause_of (Ok n) before mid now Dry held none same h = h ∙ same
cause_of (Err (fault.Cut p v)) before mid now Dry held none same h = h ∙ same
cause_of (Err fault.TooLong) before mid now Dry held none same h = h ∙ same
cause_of (Err fault.WriteFault) before mid now Dry held none same h = h ∙ same
cause_of (Err fault.ReadFault) before mid now Dry held none same h =
    (subst (λ n. Counted n now) same (h.0), none (h.1))

-- ---- the service after a header with which the input ended

no_bytes : (n m : Option (List ℕ)) (bytes : List ℕ) → Keeps (Some []) n → Consumes n m bytes
    → bytes ≡ []
no_bytes None m bytes keeps read = absurd keeps
no_bytes (Some ys) None bytes keeps read = absurd read
no_bytes (Some ys) (Some zs) bytes keeps read = (nothing_left bytes zs (sym read ∙ keeps)).0

module _ {Reader Plan Premise M : Type 0} (words : Words Reader Plan Premise)
    (machine : M → Machine) (s f l : Option (List ℕ)) (held : List ℕ) (before now : ℕ)
    (keeps : Keeps s f) (t u : SinkState) (x : HeaderRead Plan)
    (w : HeaderWhole words.part f (prepend_known held l) x) (e after : Standing M)
    (node : IsNodeOf words machine w.header e) (over : x.ended ≡ true) (still : now ≡ before)
  where
    ended_is : w.decided.ended ≡ true
    ended_is = w.ends ∙ over

    last_follows : MayFollow w.decided.ended (ltb longest_input (length (w.decided.bytes ++ []))) []
    last_follows = subst (λ (b : Bool).
        MayFollow b (ltb longest_input (length (w.decided.bytes ++ []))) []) (sym ended_is) (
          refl,
          le-ltb longest_input (length (w.decided.bytes ++ []))
              (omega (arith, length-append w.decided.bytes [], w.decided.within)),
        )

    node_end : node_outcome words (w.decided.bytes ++ [])
        ≡ served_outcome words w.header (packets_for words w.header [])
    node_end =
        let input = w.decided.bytes ++ [] in
        let above = ltb longest_input (length input) in
        ap (behind_header words input) (w.decided.decides above [] last_follows)
        ∙ ap (λ (b : List ℕ). served_outcome words w.header (packets_for words w.header b))
        (w.behind above [] last_follows)

    text_end : (node_outcome words (w.decided.bytes ++ [])).text
        ≡ answer machine e (served machine e []).cells
    text_end = ap (λ (o : Outcome Premise). o.text) node_end
        ∙ (node.writes (packets_for words w.header []).cells
        ∙ ap (λ (p : Packets). answer machine e p.cells) (node.hears []))

    all_read : ReadsAll s l (w.decided.bytes ++ [])
    all_read = subst (ReadsAll s l) (sym (append-nil w.decided.bytes))
        (reads_all s f l held w.decided.bytes keeps w.decided.read (w.decided.at_end ended_is))

    pub serves_last : (n m : Option (List ℕ)) (Dry : Type 0) (r : Result ℕ NodeFault)
        → Keeps (Some []) n → Serves machine e after n m t u r → HasServeCause 0 0 Dry r
        → NodeDoes words (ended_by r) s l before now t u
    serves_last n m Dry (Ok k) none (d, ending, end) cause = record {
      input = w.decided.bytes ++ [];
      read = all_read;
      still = still;
      is =
          let h : whole 0 ≡ whole k = subst
          (λ (b : List ℕ). (served machine e b).ending ≡ whole k)
          (no_bytes n m d.bytes none d.read) ending in
          ap ending_of (sym h) ∙ sym (ap (λ (o : Outcome Premise). o.ended) node_end);
      wrote = subst (λ (text : List ℕ). Wrote text t u) (sym text_end)
          (subst (λ (b : List ℕ). Wrote (answer machine e (served machine e b).cells)
          t u) (no_bytes n m d.bytes none d.read) d.wrote);
    }
    serves_last n m Dry (Err (fault.Cut p v)) none (d, ending, end) cause =
        let h : whole 0 ≡ cut p v = subst
        (λ (b : List ℕ). (served machine e b).ending ≡ cut p v)
        (no_bytes n m d.bytes none d.read) ending in absurd cc
    serves_last n m Dry (Err fault.TooLong) none (d, past, at_once) cause =
        let h : whole 0 ≡ beyond =
        subst (λ (b : List ℕ). (served machine e (b ++ [])).ending ≡ beyond)
        (no_bytes n m d.bytes none d.read) (ap (λ (p : Packets). p.ending) (past [])) in absurd cc
    serves_last n m Dry (Err fault.ReadFault) none d cause = absurd (never_counted (cause.0))
    serves_last n m Dry (Err fault.WriteFault) none d cause = record {
      input = w.decided.bytes ++ [];
      read = all_front s l (w.decided.bytes ++ []) all_read;
      still = still;
      cut = subst (λ (text : List ℕ). Cut text t u) (sym text_end)
          (subst (λ (b : List ℕ). Cut (answer machine e
          (served machine e (b ++ [])).cells) t u) (no_bytes n m d.bytes none d.read)
          (d.cut []));
    }

-- a service writes at its start, whatever becomes of it
pub service_touches : {K : Type 0} (Premise : Type 0) (r : Result ℕ NodeFault) (old new : K)
    → LeavesUntouched {K = K} {Premise = Premise} (ended_by r) old new
service_touches Premise (Ok count) old new = tt
service_touches Premise (Err fault.ReadFault) old new = tt
service_touches Premise (Err fault.WriteFault) old new = tt
service_touches Premise (Err (fault.Cut packet sender)) old new = tt
service_touches Premise (Err fault.TooLong) old new = tt

-- if a read of it failed, the end was not met
pub service_unmet : (Premise : Type 0) (r : Result ℕ NodeFault) (count counted : ℕ) (Dry : Type 0)
    (before now : Bool)
    → HasServeCause count counted Dry r → (Dry → now ≡ before)
    → LeavesUnmet {Premise = Premise} (ended_by r) before now
service_unmet Premise (Ok n) count counted Dry before now h kept = tt
service_unmet Premise (Err fault.ReadFault) count counted Dry before now h kept = kept h.1
service_unmet Premise (Err fault.WriteFault) count counted Dry before now h kept = tt
service_unmet Premise (Err (fault.Cut packet sender)) count counted Dry before now h kept = tt
service_unmet Premise (Err fault.TooLong) count counted Dry before now h kept = tt

-- no read fails of a source that counts no fault
pub never_unmet : (Premise : Type 0) (r : Result ℕ NodeFault) (Dry : Type 0) (before now : Bool)
    → HasServeCause 0 0 Dry r → LeavesUnmet {Premise = Premise} (ended_by r) before now
never_unmet Premise (Ok n) Dry before now h = tt
never_unmet Premise (Err fault.ReadFault) Dry before now h = absurd (never_counted h.0)
never_unmet Premise (Err fault.WriteFault) Dry before now h = tt
never_unmet Premise (Err (fault.Cut packet sender)) Dry before now h = tt
never_unmet Premise (Err fault.TooLong) Dry before now h = tt
