use Rattle.std.proofs.Common.{◌≡◌, ℕ, ap, arith}
use Rattle.adversary_script.specs.Eras.{faulty_at}
use Rattle.edge_io.proofs.Writing.{writes_none, writes_next, writes_is}
use Rattle.machine_runner.specs.RunTexts.{word_or_star, words_of}
use Rattle.machine_runner.specs.ShownTexts.{word_at}
use Rattle.machine_runner.proofs.words.Shown.put_words.Goals as goal

pub loop-v-init : goal.loop-v-init
loop-v-init g c = writes_none

pub loop-v-preserved : goal.loop-v-preserved
loop-v-preserved g c =
    let r = c.args.self.now.runner.now in
    let t : ℕ = c.args.self.now.t in
    writes_next (word_or_star
    (word_at (g.L.ShownLines.front c.args.lines.now) (g.L.ShownLines.word c.args.lines.now)
    (g.M.Machine.machine r.machine) r.script t) (faulty_at r.script t)) 0
    c.loop-v.v c.loop-v.v c.loop-v.invariant c.put_word.ensures (omega arith)

pub returns : goal.returns
returns g c =
    let r = c.args.self.now.runner.now in
    let t : ℕ = c.args.self.now.t in
    let end : c.loop-v.v ≡ (g.M.Machine.machine r.machine).nodes =
    omega (arith, c.loop-v.auto.v-end, c.loop-v-test.false, c.nodes-v-end.ensures.value) in
    writes_is (ap (λ (n : ℕ). words_of n
    (word_at (g.L.ShownLines.front c.args.lines.now) (g.L.ShownLines.word c.args.lines.now)
    (g.M.Machine.machine r.machine) r.script t) (faulty_at r.script t)) end)
    c.loop-v.invariant
