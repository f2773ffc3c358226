use Rattle.std.proofs.Common.{◌≡◌, ℕ, Bool, cond, List, sym, ap, ◌∙◌, arith}
use Rattle.std.specs.Prelude.{codes}
use Rattle.edge_io.specs.Writing.{Writes}
use Rattle.edge_io.proofs.Writing.{writes_none, writes_next, writes_is}
use Rattle.machine_runner.specs.RunTexts.{word_or_star, words_of}
use Rattle.layer_runner.proofs.words.put_words.Goals as goal
use Rattle.layer_runner.proofs.words.put_words.Goals.{then-contains, else-contains}

pub loop-v-init : goal.loop-v-init
loop-v-init g c = writes_none

pub loop-v-preserved : goal.loop-v-preserved
loop-v-preserved g c =
    let p = g.P.Play.position c.args.play.now in
    let word : ℕ → List ℕ = (g.L.Lines.wording c.args.lines.now).word p.counter p.scene in
    let one : ℕ → List ℕ = word_or_star word c.args.faulty.now.ids in
    let text : Bool → List ℕ = λ b. cond b (codes " *") (word c.loop-v.v) in
    let wrote = elim c.if-contains.branch as
    (λ _. Writes g.K.Sink.told (one c.loop-v.v) c.loop-v.writer c.if-contains.writer) [
      | then-contains w ↦ rw w.writer-is
          (writes_is (ap text (sym w.if-contains.true ∙ c.contains.ensures)) w.text.ensures)
      | else-contains w ↦ rw w.writer-is
          (writes_is (ap text (sym w.if-contains.false ∙ c.contains.ensures)) w.put_word.ensures)
    ] in
    writes_next one 0 c.loop-v.v c.loop-v.v c.loop-v.invariant wrote (omega arith)

pub returns : goal.returns
returns g c =
    let p = g.P.Play.position c.args.play.now in
    let end : c.loop-v.v ≡ p.counter.nodes =
    omega (arith, c.loop-v.auto.v-end, c.loop-v-test.false, c.nodes-v-end.ensures) in
    writes_is (ap (λ (n : ℕ). words_of n ((g.L.Lines.wording c.args.lines.now).word p.counter
    p.scene) c.args.faulty.now.ids) end) c.loop-v.invariant
