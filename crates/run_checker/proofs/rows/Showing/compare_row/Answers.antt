use Rattle.std.proofs.Common.{Bool, ◌+◌, ◌-◌, ◌<◌, ap, sym, ◌∙◌, arith}
use Rattle.run_checker.specs.Rows.{words_compared}
use Rattle.run_checker.proofs.RowWords.{no_place, no_value, no_match, goes_on, ends_early}
use Rattle.run_checker.proofs.RowWords.{ends_whole}
use Rattle.run_checker.proofs.rows.Showing.compare_row.Goals as goal

pub returns-then-v-nodes : goal.returns-then-v-nodes
returns-then-v-nodes c =
    no_place c.args.self.now.depth c.args.self.now.faulty.now.ids c.args.self.now.config.now.current
    c.args.self.now.faulty.now.nodes c.args.words c.loop-word.word-iterator
    c.loop-word.v c.loop-word.same c.loop-word.invariant.read _ _ c.in-Some.ensures.steps
    (omega (arith, c.if-v-nodes.true, c.nodes.ensures))

pub returns-in_err-said : goal.returns-in_err-said
returns-in_err-said c =
    c.from_residual.ensures
    ∙ no_value c.args.self.now.depth c.args.self.now.faulty.now.ids
    c.args.self.now.config.now.current c.args.self.now.faulty.now.nodes c.args.words
    c.loop-word.word-iterator
    c.loop-word.v c.loop-word.same c.loop-word.invariant.read _ _ c.in-Some.ensures.steps
    (omega (arith, c.if-v-nodes.false, c.nodes.ensures))
    (sym c.read_value.ensures ∙ c.in_err-said.was)

pub returns-in_err-matches : goal.returns-in_err-matches
returns-in_err-matches c =
    c.from_residual-in_err-matches.ensures
    ∙ no_match c.args.self.now.depth c.args.self.now.faulty.now.ids
    c.args.self.now.config.now.current c.args.self.now.faulty.now.nodes c.args.words
    c.loop-word.word-iterator
    c.loop-word.v c.loop-word.same c.loop-word.invariant.read _ _ c.in_ok-said.said
    c.in-Some.ensures.steps
    (omega (arith, c.if-v-nodes.false, c.nodes.ensures))
    (sym c.read_value.ensures ∙ c.in_ok-said.was)
    (rw (← (c.at.ensures (omega (arith, c.if-v-nodes.false, c.nodes.ensures))))
    (sym c.compare_value.ensures ∙ c.in_err-matches.was))

pub loop-word-preserved : goal.loop-word-preserved
loop-word-preserved c =
    let lt : c.loop-word.v
    < c.args.self.now.faulty.now.nodes = omega (arith, c.if-v-nodes.false, c.nodes.ensures) in
    record {
      within = omega (arith, lt);
      read =
          goes_on c.args.self.now.depth c.args.self.now.faulty.now.ids
          c.args.self.now.config.now.current c.args.self.now.faulty.now.nodes c.args.words
          c.loop-word.word-iterator
          c.loop-word.v c.loop-word.same c.loop-word.invariant.read _ c.next.new.self
          c.in_ok-said.said c.in_ok-matches.matches c.in-Some.ensures.steps
          lt (sym c.read_value.ensures ∙ c.in_ok-said.was)
          (rw (← (c.at.ensures (omega (arith, c.if-v-nodes.false, c.nodes.ensures))))
          (sym c.compare_value.ensures ∙ c.in_ok-matches.was))
          ∙ ap
          (λ (b : Bool). words_compared c.args.self.now.depth c.args.self.now.faulty.now.ids
          c.args.self.now.config.now.current (c.loop-word.v + 1)
          (c.args.self.now.faulty.now.nodes - (c.loop-word.v + 1)) b c.next.new.self)
          (sym c.both-same.ensures);
    }

pub returns-then-v-nodes-2 : goal.returns-then-v-nodes-2
returns-then-v-nodes-2 c =
    ends_early c.args.self.now.depth c.args.self.now.faulty.now.ids
    c.args.self.now.config.now.current c.args.self.now.faulty.now.nodes c.args.words
    c.loop-word.word-iterator
    c.loop-word.v c.loop-word.same c.loop-word.invariant.read c.in-None.ensures.steps.0
    (omega (arith, c.if-v-nodes-2.true, c.nodes-2.ensures))

pub returns : goal.returns
returns c =
    ends_whole c.args.self.now.depth c.args.self.now.faulty.now.ids
    c.args.self.now.config.now.current c.args.self.now.faulty.now.nodes c.args.words
    c.loop-word.word-iterator
    c.loop-word.v c.loop-word.same c.loop-word.invariant.read c.in-None.ensures.steps.0
    (omega (arith, c.if-v-nodes-2.false, c.nodes-2.ensures))
