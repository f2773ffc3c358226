-- What a call did whose header was not whole.
use Rattle.std.proofs.Common.{◌≡◌, ℕ, Bool, true, ltb, List, [], ◌++◌, length, Option, Some}
use Rattle.std.proofs.Common.{Err, sym, ap, ◌∙◌, subst, length-append, arith}
use Rattle.std.specs.Io.KnownBytes.{prepend_known, Keeps}
use Rattle.std.proofs.lemmas.Bool.{lt-ltb}
use Rattle.texts.specs.Causes.{Counted}
use Rattle.texts.specs.Growth.{SinkState, Wrote, Cut}
use Rattle.texts.proofs.Growth.{wrote_none}
use Rattle.texts.specs.Lines.{lines_of}
use Rattle.texts.specs.Limits.{room_of, longest_input}
use Rattle.node_words.specs.declared.headers.HeaderRefusal.{HeaderRefusal}
use Rattle.node_words.specs.HeaderParts.{header_in}
use Rattle.node_words.specs.FedHeaders.{HeaderDecided, HeaderTooLong, HeaderLost}
use Rattle.node_words.specs.declared.errors.NodeError.TheVariants as error
use Rattle.node_words.specs.Constructions.{Words}
use Rattle.node_words.specs.Rules.{header_line}
use Rattle.node_words.specs.NodeAnswers.{Outcome, too_long, refused_header, pending_behind}
use Rattle.node_words.specs.NodeAnswers.{behind_header, node_outcome, cells_so_far, node_so_far}
use Rattle.node_words.specs.Conduct.{NodeDoes}
use Rattle.node_words.proofs.Returns.{left_of, read_dry, reads_front, Input, input_of}

module _ {Reader Plan Premise : Type 0} (words : Words Reader Plan Premise)
    (s f l : Option (List ℕ)) (held : List ℕ) (before now : ℕ) (keeps : Keeps s f) where
  -- a read failed in the header
  pub header_lost : (t : SinkState) → HeaderLost words.part f (prepend_known held l) → held ≡ []
      → Counted before now → NodeDoes words (Err error.ReadFault) s l before now t t
  header_lost t h dry cause = record {
    seen = h.bytes;
    read = read_dry s f l held h.bytes keeps h.read dry;
    pending = subst (pending_behind words h.bytes) (sym h.lost.lines) h.lost;
    cause = cause;
    wrote =
        let none : node_so_far words h.bytes ≡ [] =
        ap (cells_so_far words h.bytes) h.lost.lines in
        rw none (wrote_none t);
  }

  -- it is too long
  pub header_long : (t : SinkState) → HeaderTooLong words.part f (prepend_known held l)
      → now ≡ before
      → NodeDoes words (Err error.TooLong) s l before now t t
  header_long t h still =
      let input = h.bytes ++ (held ++ left_of l) in
      let above : ltb longest_input (length input)
      ≡ true = lt-ltb longest_input (length input)
      (omega (arith, length-append h.bytes (held ++ left_of l), h.past)) in
      let is : node_outcome words input
      ≡ too_long = ap
      (λ (b : Bool). behind_header words input
      (header_in words.part (room_of b longest_input) (lines_of input)))
      above
      ∙ ap (behind_header words input) (h.decides (held ++ left_of l)) in
      record {
        input = input;
        read = reads_front s f l held h.bytes keeps h.read;
        still = still;
        is = ap (λ (o : Outcome Premise). o.ended) (sym is);
        wrote = rw is (wrote_none t);
      }

  -- it is refused
  module _ (r : HeaderRefusal Premise)
      (d : HeaderDecided words.part f (prepend_known held l) (Err (Some r)))
      (still : now ≡ before) where
    whole_input : Input s l d.bytes d.ended
    whole_input = input_of d.ended s f l held d.bytes d.within keeps d.read d.at_end

    refused_is : node_outcome words (d.bytes ++ whole_input.rest) ≡ refused_header words (Some r)
    refused_is =
        ap (behind_header words (d.bytes ++ whole_input.rest))
        (d.decides (ltb longest_input (length (d.bytes ++ whole_input.rest))) whole_input.rest
        whole_input.follows)

    pub header_cut : (t u : SinkState) → Cut (header_line words r) t u
        → NodeDoes words (Err error.WriteFault) s l before now t u
    header_cut t u is =
        record {
          input = d.bytes ++ whole_input.rest;
          read = whole_input.read;
          still = still;
          cut = rw refused_is is;
        }

    pub header_refused : (t u : SinkState) → Wrote (header_line words r) t u
        → NodeDoes words (Err (error.Refused r)) s l before now t u
    header_refused t u is =
        record {
          input = d.bytes ++ whole_input.rest;
          read = whole_input.read;
          still = still;
          is = ap (λ (o : Outcome Premise). o.ended) (sym refused_is);
          wrote = rw refused_is is;
        }
