-- The lines that are written while a script is played.
use Rattle.std.proofs.Common.{◌≡◌, ℕ, ◌+◌, ◌<◌, ◌≤◌, List, Bool, true, false, None, sym, ap, ap₂}
use Rattle.std.proofs.Common.{◌∙◌}
use Rattle.std.proofs.Common.{arith}
use Rattle.std.specs.Prelude.{slice_index_or}
use Rattle.std.specs.List.{flat_map, range_with_len}
use Rattle.sync_types.specs.FaultSets.{FaultIds}
use Rattle.texts.specs.Growth.{SinkState}
use Rattle.edge_io.specs.Writing.{Writes}
use Rattle.edge_io.specs.declared.writer.Writer.{Writer}
use Rattle.edge_io.proofs.Writing.{writes_none, writes_next, writes_stopped, writes_is}
use Rattle.adversary_script.specs.Scripts.{Script, IsScript}
use Rattle.adversary_script.specs.Eras.{faulty_at}
use Rattle.machine_runner.specs.RunTexts as texts
use Rattle.layer_laws.specs.Positions.{Position, IsBegun, advanced, played_to, configuration_in}
use Rattle.layer_laws.proofs.Playing.{begins, plays_on}
use Rattle.layer_runner.specs.LockTexts.{lock_lines}
use Rattle.layer_runner.specs.PlayedTexts.{Wording, line_in, line_of, line_at}
use Rattle.layer_runner.proofs.LockLines.{locks_listed}

-- the faulty nodes that a script lends for a configuration
pub faulty_ids : (lent : FaultIds) (read script : Script) (t at : ℕ)
    → lent ≡ record { nodes = read.nodes; ids = faulty_at read t } → read ≡ script → t ≡ at
    → lent.ids ≡ faulty_at script at
faulty_ids lent read script t at is same here =
    ap (λ (s : FaultIds). s.ids) is ∙ ap₂ (λ (s : Script) (t : ℕ). faulty_at s t) same here

-- a line that is shown is the line that there is
pub shown_line : {K Kept : Type 0} {told : K → SinkState} {old now : Writer K}
    (wording : Wording Kept) (p : Position Kept) (shows : Bool)
    → shows ≡ wording.shows p.counter p.script p.at p.scene → shows ≡ true
    → Writes told (line_of wording p.counter p.script p.at p.scene) old now
    → Writes told (line_at wording p) old now
shown_line wording p shows is shown wrote = rw (sym is ∙ shown) wrote

-- a line that is not shown is not written
pub hidden_line : {K Kept : Type 0} {told : K → SinkState} {now : Writer K}
    (wording : Wording Kept) (p : Position Kept) (shows : Bool)
    → shows ≡ wording.shows p.counter p.script p.at p.scene → shows ≡ false
    → Writes told (line_at wording p) now now
hidden_line wording p shows is hidden = rw (sym is ∙ hidden) writes_none

module _ {K Kept : Type 0} (told : K → SinkState) (wording : Wording Kept) (start : Position Kept)
  where
    -- the line of configuration c
    abbrev line : ℕ → List ℕ
    line c = line_in start.counter start.script start.layer start.scene.kept wording c

    abbrev count : ℕ
    count = start.script.rounds + 1

    -- the lines of so many configurations
    abbrev lines : ℕ → List ℕ
    lines n = flat_map line (range_with_len 0 n)

    -- The lines before configuration c are written, by the play that is at it.
    pub record LinesSoFar (c : ℕ) (p : Position Kept) (old now : Writer K) : Type 0 where
      pub position : p ≡ played_to start.scene.kept start c
      pub wrote : Writes told (flat_map
          (line_in start.counter start.script start.layer start.scene.kept wording)
          (range_with_len 0 c)) old now

    pub lines_begin : (now : Writer K) → IsScript start.script → IsBegun start
        → LinesSoFar 0 start now now
    lines_begin now whole begun = record {
      position = begun ∙ begins start.counter start.locked start.script start.layer
          start.scene.kept whole;
      wrote = writes_none;
    }

    module _ (c : ℕ) (p : Position Kept) (old mid : Writer K) (so_far : LinesSoFar c p old mid)
      where
        -- its line is that of the configuration
        line_is : line_at wording p ≡ line c
        line_is = ap (line_at wording) so_far.position

        pub at_is : p.at ≡ c
        at_is = ap (λ (q : Position Kept). q.at) so_far.position

        -- there is a round to play before the last configuration
        pub has_round : (n : ℕ) → n ≡ start.script.rounds → c < n → p.at < p.script.rounds
        has_round n is lt =
            let rounds = ap (λ (q : Position Kept). q.script.rounds) so_far.position in
            omega (arith, is, lt, at_is, rounds)

        one_more : (now : Writer K) → Writes told (line_at wording p) mid now
            → Writes told (flat_map line (range_with_len 0 (c + 1))) old now
        one_more now one =
            writes_next line 0 c c so_far.wrote (writes_is line_is one) (omega arith)

        pub lines_go_on : (new : Position Kept) (now : Writer K)
            → Writes told (line_at wording p) mid now → new ≡ advanced p
            → LinesSoFar (c + 1) new old now
        lines_go_on new now one step = record {
          position = step ∙ ap advanced so_far.position ∙ plays_on start.scene.kept start c;
          wrote = one_more now one;
        }

        -- at the last configuration all is played
        pub at_last : c ≡ start.script.rounds
            → p ≡ played_to start.scene.kept start start.script.rounds
        at_last last = so_far.position ∙ ap (played_to start.scene.kept start) last

        -- if a write failed, it is as if all were written
        pub lines_stop : c ≤ count → mid.failed ≡ true
            → Writes told (flat_map line (range_with_len 0 count)) old mid
        lines_stop within failed = writes_stopped line 0 c count so_far.wrote failed within

        -- the line of the last configuration is the last one
        pub lines_end : (now : Writer K) → c ≡ start.script.rounds
            → Writes told (line_at wording p) mid now
            → Writes told (flat_map line (range_with_len 0 count)) old now
        lines_end now last one =
            writes_is (ap (λ (n : ℕ). lines (n + 1)) last) (one_more now one)

-- what is known at the end is written of what is played
pub locks_after : {Kept : Type 0} (start p : Position Kept)
    → p ≡ played_to start.scene.kept start start.script.rounds
    → texts.lock_lines p.script (λ j. slice_index_or p.locks j None)
    ≡ lock_lines start.locked start.script (configuration_in start.scene.kept start)
locks_after start p is =
    ap (λ (q : Position _). texts.lock_lines q.script (λ j. slice_index_or q.locks j None)) is
    ∙ locks_listed start.locked start.script (configuration_in start.scene.kept start)
